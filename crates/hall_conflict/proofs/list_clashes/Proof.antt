-- The clashes of the writes before i are in the output; a key's newest version either clashes or is seen, so no older one
-- is looked at.
use mathlib.Core.Path.{◌≡◌, refl, sym, ◌∙◌}
use Prim.Native.Nat.{◌+◌, ◌-◌, ◌≤◌, ◌<◌}
use native.Mathlib.Omega.{arith}
use borrow.Author.Rules.{rules}
use lib.ListN.{length}
use Rattle.model.specs.Bytes.{Bytes}
use Rattle.model.specs.State.{Writes}
use Rattle.cells.specs.Rows.{place_of}
use Rattle.cells.specs.declared.rows.Place.{Place}
use Rattle.hall.specs.Layout.{keys_in, versions_in, hall_in, Sound}
use Rattle.hall.specs.Tables.{row_keys, version_at}
use Rattle.hall.proofs.Laws.Sound.{sound_shaped}
use Rattle.hall.proofs.Laws.Chains.{row_range, at_in}
use Rattle.desk_writes.specs.Writes.{write_at}
use Rattle.hall_sought.specs.Sought.{writes_in}
use Rattle.hall_conflict.specs.Clashes.{Deep}
use Rattle.hall_conflict.proofs.Laws.Walks.{Upto, none_yet, all_seen_lem, passes, finds}
use Rattle.hall_conflict.proofs.Laws.Records.{gathered_long}
use Rattle.hall_conflict.proofs.Laws.Above.{newest_number, above_or_seen, down_in, above_none, key_at, key_short, not_above, one_above}
use Rattle.hall_conflict.proofs.list_clashes.Statement.{statement}
use Rattle.hall_conflict.proofs.list_clashes.Tie as tie

abbrev invariant_versions : tie.invariant-versions
invariant_versions hall desk d start at out₀ n count₀ i₀ row older k₀ out count i k =
    (out ≡ out₀) × (count ≡ count₀) × (i ≡ i₀) × (k ≡ 0)

abbrev decreases_versions : tie.decreases-versions
decreases_versions hall desk d start at out₀ n count₀ i₀ row older k₀ out count i k = older + 1 - k

abbrev invariant_writes : tie.invariant-writes
invariant_writes hall desk d start at out₀ n count₀ i₀ out count i =
    (i ≤ n) × (count ≤ i) × Upto start.0 (writes_in desk d) (hall_in hall) out₀ out i count

abbrev decreases_writes : tie.decreases-writes
decreases_writes hall desk d start at out₀ n count₀ i₀ out count i = n - i

-- ---- a turn of the writes

abbrev start : tie.At-writes invariant_versions decreases_versions invariant_writes decreases_writes
    → tie.Start invariant_versions decreases_versions invariant_writes decreases_writes
start c = c.before.before.before.before.before.before

abbrev writes : tie.At-writes invariant_versions decreases_versions invariant_writes decreases_writes → Writes
writes c = writes_in (start c).args.desk.now (start c).args.d

abbrev turn : tie.After-place_at invariant_versions decreases_versions invariant_writes decreases_writes
    → tie.At-writes invariant_versions decreases_versions invariant_writes decreases_writes
turn c = c.before.before

in_writes : (c : tie.After-place_at invariant_versions decreases_versions invariant_writes decreases_writes)
    → (turn c).writes.i < length (writes (turn c))
in_writes c = omega (arith, (turn c).write_count-n.ensures)

-- the key of the turn's write stands where `place_at` says
stands : (c : tie.After-place_at invariant_versions decreases_versions invariant_writes decreases_writes) {p : Place} → c.place_at.result ≡ p
    → place_of (write_at (writes (turn c)) (turn c).writes.i).key 0
    (row_keys (keys_in (start (turn c)).args.hall.now)) ≡ p
stands c e = sym ((start (turn c)).requires.1.each _ (in_writes c)) ∙ sym c.place_at.ensures ∙ e

-- ---- a turn that found the key's row

abbrev placed : tie.In-At invariant_versions decreases_versions invariant_writes decreases_writes
    → tie.After-place_at invariant_versions decreases_versions invariant_writes decreases_writes
placed c = c.before

abbrev hall : tie.In-At invariant_versions decreases_versions invariant_writes decreases_writes → Bytes
hall c = (start (turn (placed c))).args.hall.now

sound : (c : tie.In-At invariant_versions decreases_versions invariant_writes decreases_writes) → Sound (hall c)
sound c = (start (turn (placed c))).requires.0.hall

row_in : (c : tie.In-At invariant_versions decreases_versions invariant_writes decreases_writes)
    → c.in-At.row < length (keys_in (hall c))
row_in c = at_in _ (sound c) _ _ (stands (placed c) c.in-At.is)

abbrev found : tie.At-versions invariant_versions decreases_versions invariant_writes decreases_writes
    → tie.In-At invariant_versions decreases_versions invariant_writes decreases_writes
found c = c.before.before.before

deep : (c : tie.In-versions invariant_versions decreases_versions invariant_writes decreases_writes)
    → Deep (hall (found c.before)) (found c.before).in-At.row c.versions.k
deep c =
    record {
      hall = sound (found c.before);
      row = row_in (found c.before);
      deep = omega (arith, c.end_before.ensures, c.end_at.ensures);
    }

abbrev looked : tie.After-number_at-number invariant_versions decreases_versions invariant_writes decreases_writes
    → tie.At-versions invariant_versions decreases_versions invariant_writes decreases_writes
looked c = c.before.before.before

-- the number read is that of the key's newest version
newest : (c : tie.After-number_at-number invariant_versions decreases_versions invariant_writes decreases_writes)
    → c.number_at-number.result
    ≡ (version_at (found (looked c)).in-At.row (versions_in (hall (found (looked c))))).number
newest c =
    newest_number _ (keys_in (hall (found (looked c)))) (versions_in (hall (found (looked c))))
    (looked c).versions.invariant.3 c.version_down.ensures c.number_at-number.ensures

-- ---- the needs

place_at_requires : tie.Need-place_at-requires invariant_versions decreases_versions invariant_writes decreases_writes
place_at_requires c κs = omega (arith, c.write_count-n.ensures, (start c.before).requires.1.enough)

writes_again : tie.Need-writes-preserved-in_default invariant_versions decreases_versions invariant_writes decreases_writes
writes_again c =
    let at-writes = turn c.before in
    let none = above_none _ (start at-writes).requires.0.hall (start at-writes).args.start.0 _ _
    (stands c.before c.in_default.is) in
    let inv = at-writes.writes.invariant in (
      omega arith,
      omega (arith, inv.1),
      passes inv.2 (in_writes c.before) none,
    )

sub_older : tie.Need-overflow_sub-older invariant_versions decreases_versions invariant_writes decreases_writes
sub_older c =
    let met = c.before.before in
    let range = row_range _ (sound met) _ (row_in met) in
    omega (arith, c.end_before.ensures, c.end_at.ensures)

abbrev written : tie.After-slice_known-then-clashes-1 invariant_versions decreases_versions invariant_writes decreases_writes
    → tie.At-versions invariant_versions decreases_versions invariant_writes decreases_writes
written c = c.before.before.before.before.before.before.before.before.before

add_count : tie.Need-overflow_add-count invariant_versions decreases_versions invariant_writes decreases_writes
add_count c =
    let at-versions = written c in
    let at-writes = turn (placed (found at-versions)) in
    omega (arith, at-versions.versions.invariant.1, at-writes.writes.invariant.1)

writes_again_2 : tie.Need-writes-preserved-then-clashes invariant_versions decreases_versions invariant_writes decreases_writes
writes_again_2 c =
    let at-versions = written c in
    let at_row = found at-versions in
    let at-writes = turn (placed at_row) in
    let t = (start at-writes).args.start.0 in
    let stood = stands (placed at_row) at_row.in-At.is in
    let one = one_above _ (sound at_row) t _ _ stood (newest c.before.before.before.before.before.before) c.clashes.ensures
    c.if-clashes.true in
    let inv = at-versions.versions.invariant in (
      omega (arith, inv.2),
      omega (arith, inv.1, inv.2, at-writes.writes.invariant.1),
      finds at-writes.writes.invariant.2 (in_writes (placed at_row)) _ inv.0 inv.1 inv.2
          (key_at _ (sound at_row) t _ _ stood) (key_short _ (sound at_row) t _ _ stood) one
          c.write_clash.ensures,
    )

writes_again_3 : tie.Need-writes-preserved-then-sees invariant_versions decreases_versions invariant_writes decreases_writes
writes_again_3 c =
    let at_row = found c.before.before.before.before.before.before.before in
    let at-writes = turn (placed at_row) in
    let none = not_above _ (sound at_row) (start at-writes).args.start.0 _ _
    (stands (placed at_row) at_row.in-At.is) (newest c.before.before.before.before)
    c.clashes.ensures c.if-clashes.false in
    let inv = c.versions.invariant in (
      omega (arith, inv.2),
      omega (arith, inv.1, inv.2, at-writes.writes.invariant.1),
      rw (inv.0, inv.1, inv.2)
          (passes at-writes.writes.invariant.2 (in_writes (placed at_row)) none),
    )

versions_again : tie.Need-versions-preserved invariant_versions decreases_versions invariant_writes decreases_writes
versions_again c =
    let at-writes = turn (placed (found (looked c.before.before.before.before))) in
    absurd (above_or_seen (start at-writes).args.start.0 c.number_at-number.result
    c.clashes.ensures c.if-clashes.false
    c.sees.ensures c.if-sees.false)

returns : tie.Need-returns invariant_versions decreases_versions invariant_writes decreases_writes
returns c =
    all_seen_lem c.writes.invariant.2 (omega (arith, c.write_count-n.ensures))

pub list_clashes_spec : {M : Type 1} → statement M
list_clashes_spec =
    tie.close
    (tie.spec
    invariant_versions
    decreases_versions
    invariant_writes
    decreases_writes
    (λ c κs. let ready = c.requires.0 in (ready.desks, ready.below))
    (λ c. (omega arith, omega arith, none_yet))
    place_at_requires
    (λ c. search rules)
    (λ c. search rules)
    (λ c. omega arith)
    (λ c. omega arith)
    writes_again
    (λ c κs. (sound_shaped _ (sound c), row_in c))
    (λ c κs. (sound_shaped _ (sound c.before), omega (arith, row_in c.before)))
    sub_older
    (λ c. (refl, refl, refl, refl))
    (λ c κs. deep c)
    (λ c κs. (sound_shaped _ (deep c.before).hall, down_in _ (deep c.before) c.version_down.ensures))
    (λ c κs. search rules)
    (λ c κs. let at_row = found c.before.before.before.before.before.before in (sound at_row, row_in at_row))
    add_count
    (λ c. omega (arith, (written c).versions.invariant.2))
    (λ c. omega (arith, (written c).versions.invariant.2))
    writes_again_2
    (λ c κs. search rules)
    (λ c. omega (arith, c.versions.invariant.2))
    (λ c. omega (arith, c.versions.invariant.2))
    writes_again_3
    (λ c. omega arith)
    (λ c. omega arith)
    versions_again
    (λ c. omega (arith, c.versions.invariant))
    (λ c. omega (arith, c.versions.invariant))
    (λ c. absurd (omega (arith, c.versions.invariant.3)))
    (λ c. gathered_long c.writes.invariant.2.gathered)
    returns)
