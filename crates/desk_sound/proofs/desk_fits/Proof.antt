-- The lowest bit is the desk's: a free desk passes, and of a taken one `open_fits` tells.
use borrow.Author.Rules.{rules}
use Rattle.desk.specs.Shape.{desk_in}
use Rattle.desk.proofs.Laws.Desks.{walk_asks}
use Rattle.desk.proofs.Laws.Starts.{bit_free, bit_taken}
use Rattle.desk_sound.specs.Tests.{desk_test}
use Rattle.desk_starts.proofs.Laws.{step_from}
use Rattle.desk_sound.proofs.desk_fits.Statement.{statement}
use Rattle.desk_sound.proofs.desk_fits.Tie as tie

returns : tie.Need-returns-then-bits-eq0
unfolding desk_test
returns c =
    let p = c.requires in
    let b = (walk_asks (step_from p.shaped p.bits) p.below).low in
    rw (bit_free (desk_in c.args.desk.now c.args.d) b c.if-bits-eq0.true)

returns_2 : tie.Need-returns
unfolding desk_test
returns_2 c =
    let p = c.requires in
    let b = (walk_asks (step_from p.shaped p.bits) p.below).low in
    bit_taken (desk_in c.args.desk.now c.args.d) b c.if-bits-eq0.false
    (λ y q. rw q (rw q at c.open_fits.ensures))

pub desk_fits_spec : {M : Type 1} → statement M
desk_fits_spec = tie.close (tie.spec returns (λ c κs. search rules) returns_2)
