-- A free desk leaves `least` alone; of a taken one the cutoff takes the lesser of its start and `least`.
use native.Mathlib.Omega.{arith}
use borrow.Author.Rules.{rules}
use Rattle.model.specs.State.{cutoff}
use Rattle.desk.specs.Shape.{desk_in}
use Rattle.desk.proofs.Laws.Starts.{bit_free, bit_taken}
use Rattle.desk.proofs.desks.lesser.Statement.{statement}
use Rattle.desk.proofs.desks.lesser.Tie as tie

returns : tie.Need-returns-then-bits-eq0
unfolding cutoff
returns c =
    rw (bit_free (desk_in c.args.m.now c.args.d) c.requires.low c.if-bits-eq0.true)

returns_2 : tie.Need-returns-then-start-least
unfolding cutoff
returns_2 c =
    bit_taken (desk_in c.args.m.now c.args.d) c.requires.low c.if-bits-eq0.false
    (λ y p. rw p (omega (arith, rw p at c.start_at-start.ensures)))

returns_3 : tie.Need-returns
unfolding cutoff
returns_3 c =
    bit_taken (desk_in c.args.m.now c.args.d) c.requires.low c.if-bits-eq0.false
    (λ y p. rw p (omega (arith, rw p at c.start_at-start.ensures)))

pub lesser_spec : {M : Type 1} → statement M
lesser_spec = tie.close (tie.spec returns (λ c κs. search rules) returns_2 returns_3)
