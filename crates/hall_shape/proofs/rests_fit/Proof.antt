-- What is unused lies behind the last row of each table, up to the table's end: one `zero_between` for each.
use mathlib.Core.Path.{◌≡◌, sym}
use mathlib.Core.Bool.{true}
use borrow.Author.Rules.{rules}
use lib.ListN.{get_or}
use Rattle.model.proofs.Cases.{all_every}
use Rattle.memory.proofs.Laws.Tests.{refused, passed, every_fails}
use Rattle.hall_shape.specs.Tests.{rest_tests}
use Rattle.hall_shape.proofs.rests_fit.Statement.{statement}
use Rattle.hall_shape.proofs.rests_fit.Tie as tie

-- each test's answer, with what its places were read from
keys_rest : (c : tie.After-zero_between)
    → c.zero_between.result ≡ get_or (rest_tests c.args.m.now) 0 true
keys_rest c =
    let e = c.read-h.ensures in
    rw (c.row_place.ensures, c.version_base.ensures, e.key_count, e.key_rooms)
    at c.zero_between.ensures

abbrev start : tie.After-zero_between-2 → tie.Start
start c = c.before.before.before.before.before.before.before.before.before

versions_rest : (c : tie.After-zero_between-2)
    → c.zero_between-2.result ≡ get_or (rest_tests (start c).args.m.now) 1 true
versions_rest c =
    let e = c.read-h.ensures in
    rw (c.version_place-used.ensures, c.version_place-end.ensures, e.version_count, e.version_rooms, e.key_rooms)
    at c.zero_between-2.ensures

returns_3 : tie.Need-returns
returns_3 c =
    let keys = passed (keys_rest c.before.before.before.before.before) (rw c.if-not-zero_between.false) in
    sym (all_every _ (keys, (passed (versions_rest c.before) (rw c.if-not-zero_between-2.false), tt)))

pub rests_fit_spec : {M : Type 1} → statement M
rests_fit_spec =
    tie.close
    (tie.spec
    (λ c κs. search rules)
    (λ c κs. search rules)
    (λ c κs. search rules)
    (λ c κs. search rules)
    (λ c. every_fails _ 0 (refused (keys_rest c.before) (rw c.if-not-zero_between.true)))
    (λ c κs. search rules)
    (λ c κs. search rules)
    (λ c κs. search rules)
    (λ c. every_fails _ 1 (refused (versions_rest c.before) (rw c.if-not-zero_between-2.true)))
    returns_3)
