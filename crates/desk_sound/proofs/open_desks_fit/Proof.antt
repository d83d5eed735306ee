-- Open desks are sound if each passes its test and no version's number is a start; where none is open both hold.
use mathlib.Core.Path.{sym, ◌∙◌}
use native.Mathlib.Omega.{arith}
use borrow.Author.Rules.{rules}
use Rattle.memory.proofs.Laws.Tests.{refused, passed}
use Rattle.model.specs.Sizes.{last_number}
use Rattle.desk_sound.proofs.Laws.{between, in_turn, all_free}
use Rattle.desk_sound.proofs.open_desks_fit.Statement.{statement}
use Rattle.desk_sound.proofs.open_desks_fit.Tie as tie

returns_2 : tie.Need-returns-then-not-desks_fit
returns_2 c =
    let p = c.requires in
    sym (rw (refused c.desks_fit.ensures (rw c.if-not-desks_fit.true)) at (in_turn _ _ p.0 p.1))

no_number_is_start_requires : tie.Need-no_number_is_start-requires
no_number_is_start_requires c κs =
    let p = c.requires in
    let f = passed c.desks_fit.ensures (rw c.if-not-desks_fit.false) in
    let l = c.least_start-least.ensures in
    record {
      hall = p.0;
      shaped = p.1;
      between = between _ last_number _ f (omega arith) l c.greatest_start-greatest.ensures;
    }

returns_3 : tie.Need-returns
returns_3 c =
    let p = c.requires in
    let f = passed c.desks_fit.ensures (rw c.if-not-desks_fit.false) in
    c.no_number_is_start.ensures ∙ sym (rw f at (in_turn _ _ p.0 p.1))

pub open_desks_fit_spec : {M : Type 1} → statement M
open_desks_fit_spec =
    tie.close
    (tie.spec
    (λ c κs. search rules)
    (λ c. sym (all_free _ _ (sym c.open_desks.ensures ∙ c.if-open_desks-eq0.true)))
    (λ c κs. search rules)
    returns_2
    (λ c κs. search rules)
    (λ c κs. search rules)
    no_number_is_start_requires
    returns_3)
