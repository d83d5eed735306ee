-- The library's `<` of slices is the model's order of bytes.
use Rattle.std.proofs.Common.{◌∙◌}
use Rattle.memory.proofs.Laws.Order.{less_bytes}
use Rattle.memory.proofs.order.less.Goals as goal

pub returns : goal.returns
returns c = c.lt.ensures ∙ less_bytes c.args.a.now c.args.b.now
