-- In each table rows go up and the gap takes the new row: four steps, each on the tables that the last one left.
use Prim.Native.Nat.{◌+◌, ◌-◌}
use native.Mathlib.Omega.{arith}
use mathlib.Core.List.{List}
use borrow.Author.Rules.{rules}
use lib.ListN.{set}
use lib.Seq.{length-sets}
use Rattle.hall.specs.Layout.{Row}
use Rattle.hall_rows.specs.Runs.{shifted, version_by}
use Rattle.hall_rows.proofs.Laws.Held.{holds_keys, holds_versions, holds_shaped}
use Rattle.hall_merge.proofs.Laws.Steps.{keys_then, versions_then, end_low}
use Rattle.hall_merge.proofs.passes.enter.Statement.{statement}
use Rattle.hall_merge.proofs.passes.enter.Tie as tie

abbrev start : tie.After-shift → tie.Start
start c = c.before.before.before.before.before.before

abbrev shifting : tie.After-put → tie.After-shift
shifting c = c.before.before.before.before

put_requires : tie.Need-put-requires
put_requires c κs =
    let pre = (start c.before.before.before).requires in
    record {
      shaped = holds_shaped _ pre.shaped c.shift.ensures;
      below = rw (holds_keys _ pre.shaped c.shift.ensures, length-sets) (omega (arith, pre));
      short = pre.key;
      low = end_low _ pre.shaped _ (omega (arith, pre)) c.end_before-end.ensures;
    }

shift_requires_2 : tie.Need-shift-requires-2
shift_requires_2 c κs =
    let at-shift = shifting c.before.before.before in
    let pre = (start at-shift).requires in
    let shaped = holds_shaped _ pre.shaped at-shift.shift.ensures in
    record {
      shaped = holds_shaped _ shaped c.put.ensures;
      start = pre.within;
      rows = rw (
        holds_versions _ shaped c.put.ensures,
        holds_versions _ pre.shaped at-shift.shift.ensures,
      ) pre.rows;
    }

put_requires_2 : tie.Need-put-requires-2
put_requires_2 c κs =
    let pre = (start (shifting c.before.before.before.before.before.before.before)).requires in
    let asked = shift_requires_2 c.before.before.before.before (κs.0, tt) in
    record {
      shaped = holds_shaped _ asked.shaped c.shift-2.ensures;
      below = rw (holds_versions _ asked.shaped c.shift-2.ensures, length-sets)
          (omega (arith, pre, asked.rows));
      cell = pre.cell;
    }

returns : tie.Need-returns
returns c =
    let at-shift = shifting c.before.before.before.before.before.before.before.before.before.before in
    let args = (start at-shift).args in
    let shaped = (start at-shift).requires.shaped in
    let keyed = keys_then _ shaped at-shift.shift.ensures
    (λ (rs : List Row). set rs (args.p + (args.up - 1))
    (record { key = args.key.now; end = at-shift.end_before-end.result })) c.put.ensures in
    let raised = versions_then _ shaped keyed (shifted args.p args.top args.up) c.shift-2.ensures in
    rw (← at-shift.end_before-end.ensures)
    (versions_then _ shaped raised
    (λ vs. set vs (args.p + (args.up - 1)) (version_by args.number args.cell.now))
    c.put-2.ensures)

pub enter_spec : {M : Type 1} → statement M
enter_spec =
    tie.close
    (tie.spec
    (λ c κs. search rules)
    (λ c κs. search rules)
    (λ c. search rules)
    (λ c. search rules)
    put_requires
    shift_requires_2
    (λ c. search rules)
    (λ c. search rules)
    put_requires_2
    (λ c. search rules)
    returns)
