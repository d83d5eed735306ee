-- The bit tells a free desk, which has no start, from a taken one, whose start `start_at` gives.
use borrow.Author.Rules.{rules}
use Rattle.desk.specs.Shape.{desk_in}
use Rattle.desk.proofs.Laws.Starts.{bit_free, bit_taken}
use Rattle.desk.proofs.desks.is_at.Statement.{statement}
use Rattle.desk.proofs.desks.is_at.Tie as tie

returns : tie.Need-returns-then-bits-eq0
returns c =
    rw (bit_free (desk_in c.args.m.now c.args.d) c.requires.low c.if-bits-eq0.true)

returns_2 : tie.Need-returns
returns_2 c =
    bit_taken (desk_in c.args.m.now c.args.d) c.requires.low c.if-bits-eq0.false
    (λ y p. rw (c.start_at.ensures, p))

pub is_at_spec : {M : Type 1} → statement M
is_at_spec = tie.close (tie.spec returns (λ c κs. search rules) returns_2)
