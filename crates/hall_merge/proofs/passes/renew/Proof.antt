-- Two shifts and a put, each on the version table that the last one left; the key rows stay as they are.
use Prim.Native.Nat.{◌+◌, ◌-◌}
use native.Mathlib.Omega.{arith}
use borrow.Author.Rules.{rules}
use lib.ListN.{set}
use lib.Seq.{length-sets}
use Rattle.hall_rows.specs.Runs.{shifted, version_by}
use Rattle.hall_rows.proofs.Laws.Held.{holds_versions, holds_shaped}
use Rattle.hall_merge.proofs.Laws.Steps.{versions_then}
use Rattle.hall_merge.proofs.passes.renew.Statement.{statement}
use Rattle.hall_merge.proofs.passes.renew.Tie as tie

abbrev start : tie.After-shift → tie.Start
start c = c.before.before.before.before

shift_requires_2 : tie.Need-shift-requires-2
shift_requires_2 c κs =
    let pre = (start c.before.before.before).requires in
    record {
      shaped = holds_shaped _ pre.shaped c.shift.ensures;
      start = omega arith;
      rows = rw (holds_versions _ pre.shaped c.shift.ensures, length-sets) (omega (arith, pre));
    }

put_requires : tie.Need-put-requires
put_requires c κs =
    let pre = (start c.before.before.before.before.before.before.before).requires in
    let asked = shift_requires_2 c.before.before.before.before (κs.0, tt) in
    record {
      shaped = holds_shaped _ asked.shaped c.shift-2.ensures;
      below = rw (holds_versions _ asked.shaped c.shift-2.ensures, length-sets)
          (omega (arith, pre, asked.rows));
      cell = pre.cell;
    }

returns : tie.Need-returns
returns c =
    let begun = start c.before.before.before.before.before.before.before.before.before.before in
    let args = begun.args in
    let shaped = begun.requires.shaped in
    let moved = versions_then _ shaped c.shift.ensures
    (shifted args.p (args.p + 1) (args.end + (args.up - 1) - args.p)) c.shift-2.ensures in
    versions_then _ shaped moved (λ vs. set vs args.p (version_by args.number args.cell.now))
    c.put.ensures

pub renew_spec : {M : Type 1} → statement M
renew_spec =
    tie.close
    (tie.spec
    (λ c κs. search rules)
    (λ c. search rules)
    (λ c. search rules)
    (λ c. search rules)
    (λ c. search rules)
    shift_requires_2
    put_requires
    (λ c. search rules)
    returns)
