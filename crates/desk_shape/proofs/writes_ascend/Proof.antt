-- The keys of a desk's rows are those of its writes, and of its writes in bytes only the keys are left to test.
use mathlib.Core.Path.{ap, ◌∙◌}
use mathlib.Core.List.{[]}
use native.Mathlib.Omega.{arith}
use borrow.Author.Rules.{rules}
use Rattle.memory.proofs.Laws.Numbers.{are_bytes_of}
use Rattle.cells.specs.Keys.{all_follow}
use Rattle.desk_writes.proofs.Laws.Writes.{keyed, keys_told}
use Rattle.desk_shape.proofs.Laws.{own_follow}
use Rattle.desk_shape.proofs.writes_ascend.Statement.{statement}
use Rattle.desk_shape.proofs.writes_ascend.Tie as tie

all_follow_requires : tie.Need-all_follow-requires
all_follow_requires c κs =
    let pre = c.requires in
    rw c.writes_place.ensures (keyed _ pre.0 _ pre.1 c.write_count.ensures)

returns : tie.Need-returns
returns c =
    let pre = c.requires in
    let all = are_bytes_of c.args.m.now (λ i. omega (arith, c.shared_slice_known-1.given i)) in
    rw c.writes_place.ensures at c.all_follow.ensures
    ∙ ap (all_follow []) (keys_told _ pre.0 _ pre.1 c.write_count.ensures)
    ∙ own_follow _ pre.0 _ pre.1 all

pub writes_ascend_spec : {M : Type 1} → statement M
writes_ascend_spec = tie.close (tie.spec (λ c κs. search rules) (λ c κs. search rules) all_follow_requires returns)
