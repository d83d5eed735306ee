-- Four tests: a version row for each key, keys that ascend, each row in order, ends that use up the older versions.
use mathlib.Core.Path.{◌≡◌, sym, ap, ◌∙◌}
use mathlib.Core.List.{[]}
use borrow.Author.Rules.{rules}
use borrow.Author.Tests.{eq-eqb, ne_eqb, lt-leb, le-leb}
use Rattle.model.proofs.Cases.{all_every}
use Rattle.memory.proofs.Laws.Tests.{refused, passed, every_fails}
use Rattle.cells.specs.Keys.{all_follow}
use Rattle.hall.specs.Layout.{keys_in}
use Rattle.hall.specs.Tables.{row_keys}
use Rattle.hall.proofs.Laws.Rows.{keyed, keys_told}
use Rattle.hall_sound.proofs.Laws.Whole.{olders_left}
use Rattle.hall_sound.proofs.rows.are_ordered.Statement.{statement}
use Rattle.hall_sound.proofs.rows.are_ordered.Tie as tie

returns : tie.Need-returns-then-total-n
returns c =
    every_fails _ 0 (rw (← c.version_count-total.ensures, ← c.key_count-n.ensures)
    (lt-leb _ _ c.if-total-n.true))

all_follow_requires : tie.Need-all_follow-requires
all_follow_requires c κs =
    keyed _ c.requires c.key_count-n.ensures

follow : (c : tie.After-all_follow)
    → c.all_follow.result ≡ all_follow [] (row_keys (keys_in c.args.m.now))
follow c =
    c.all_follow.ensures
    ∙ ap (all_follow []) (keys_told _ c.requires c.key_count-n.ensures)

returns_2 : tie.Need-returns-then-not-all_follow
returns_2 c = every_fails _ 1 (refused (follow c.before) (rw c.if-not-all_follow.true))

returns_3 : tie.Need-returns-then-not-rows_fit
returns_3 c = every_fails _ 2 (refused c.rows_fit.ensures (rw c.if-not-rows_fit.true))

returns_4 : tie.Need-returns-then-end_before-total
returns_4 c =
    let count = c.key_count-n.ensures in
    let left = olders_left _ count c.version_count-total.ensures in
    every_fails _ 3 (rw (← left, ← count, ← c.end_before.ensures) (ne_eqb _ _ c.if-end_before-total.true))

returns_5 : tie.Need-returns
returns_5 c =
    let count = c.key_count-n.ensures in
    let total = c.version_count-total.ensures in
    sym (all_every _ (
      rw (← total, ← count) (le-leb _ _ c.if-total-n.false),
      (
        passed (follow c.before.before.before.before.before) (rw c.if-not-all_follow.false),
        (
          passed c.rows_fit.ensures (rw c.if-not-rows_fit.false),
          (rw (← olders_left _ count total, ← count, ← c.end_before.ensures) (eq-eqb _ _ c.if-end_before-total.false), tt),
        ),
      ),
    ))

pub are_ordered_spec : {M : Type 1} → statement M
are_ordered_spec =
    tie.close
    (tie.spec
    (λ c κs. search rules)
    (λ c κs. search rules)
    returns
    all_follow_requires
    returns_2
    (λ c κs. search rules)
    returns_3
    (λ c κs. search rules)
    returns_4
    returns_5)
