-- The library's order of slices is the model's order of bytes.
use Rattle.std.proofs.Common.{◌∙◌}
use Rattle.memory.proofs.Laws.Order.{order_is}
use Rattle.memory.proofs.order.compare.Goals as goal

pub returns : goal.returns
returns c = c.cmp.ensures ∙ order_is c.args.a.now c.args.b.now
