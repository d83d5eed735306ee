-- A dump that is accepted, filled into zeros, is the hall that was read from it.
use mathlib.Core.Path.{◌≡◌, refl, sym, subst, ◌∙◌}
use mathlib.Core.Bool.{true}
use mathlib.Core.List.{[]}
use Prim.Native.Nat.{ℕ, suc, ◌+◌, ◌-◌, ◌*◌, ◌≤◌}
use native.Mathlib.Nat.{zero-add}
use native.Mathlib.Omega.{arith}
use lib.ListN.{length, drop, length-append}
use lib.Seq.{sets}
use Rattle.model.specs.Sizes.{number_width, count_width}
use Rattle.model.specs.Bytes.{Bytes, are_bytes}
use Rattle.model.specs.State.{Hall, version_count}
use Rattle.model.specs.Sound.{sound_hall, sizes_fit}
use Rattle.model.specs.Dump.{magic, dump_hall}
use Rattle.model.specs.Load.{Parsed, got, read_hall}
use Rattle.model_laws.proofs.Round.{load_dump}
use Rattle.model_laws.proofs.Sizes.{Sized, sized_hall}
use Rattle.model_laws.proofs.Tested.{hall_parts}
use Rattle.memory.specs.Spans.{zeros, padded}
use Rattle.memory.proofs.Laws.Spans.{sets_zeros, padded_none}
use Rattle.hall.specs.Layout.{head_size, row_width, version_width, needed, newests_of, olders_of, tables_for, head_numbers, head_bytes, put_tables, put_hall}
use Rattle.hall.proofs.Laws.Tables.{regions}
use Rattle.hall.proofs.Laws.Halls.{rows_total, newests_total, versions_total, sound_entries_lem, sound_sizes}
use Rattle.hall_head.proofs.Laws.{head_over}
use Rattle.dump_fields.specs.Machine.{begun}
use Rattle.dump_fields.specs.declared.machine.Phase.TheVariants.{Magic, Next, Count}
use Rattle.dump_fields.proofs.Laws.Parser.{known}
use Rattle.hall_fill.specs.Filling.{filled}
use Rattle.hall_fill.proofs.Laws.Versions.{field_filled, number_filled}
use Rattle.hall_fill.proofs.Laws.Filled.{rows_both, holding_none, before, entries_filled}

-- ---- the dump of a hall

module _ (m : Bytes) (h : Hall) (s : sound_hall h ≡ true) (f : h.floor ≡ h.counter) (long : needed h.key_rooms h.version_rooms ≤ length m) where
  abbrev ks : ℕ
  ks = h.key_rooms

  abbrev vs : ℕ
  vs = h.version_rooms

  abbrev ds : ℕ
  ds = h.desk_count

  abbrev c : Bytes
  c = drop (needed ks vs) m

  abbrev n : ℕ
  n = length h.entries

  abbrev o : ℕ
  o = length (olders_of h.entries)

  -- each key's newest version, and the older ones
  both : n + o ≡ version_count h.entries
  both =
      rw (length-append, newests_total h.entries (hall_parts h s).non_empty) at (versions_total h.entries)

  head_numbers_lem : padded head_size (head_numbers ks vs (suc h.counter - 1) n (n + (0 + o)) (suc h.counter - 1) ds) ≡ head_bytes (tables_for h)
  unfolding head_bytes tables_for
  head_numbers_lem =
      let one : suc h.counter - 1 ≡ h.counter = omega arith in
      rw (one, f, zero-add o, both, rows_total 0 h.entries, versions_total h.entries)

  hall_filled : filled ks vs ds (sets m 0 (zeros (needed ks vs))) (dump_hall h) ≡ put_hall m h
  unfolding filled dump_hall put_hall put_tables magic tables_for
  hall_filled =
      let p = hall_parts h s in
      let z = sound_sizes h s in
      let next : ℕ = suc h.counter in
      let fits : n + o ≤ vs = rw both p.versions in
      rw (
        sets_zeros m head_size (row_width * ks) (version_width * vs) long,
        ← padded_none (row_width * ks),
        ← padded_none (version_width * vs),
        holding_none ks vs ds n c (omega arith),
      )
      (field_filled ks vs ds (before ks vs ds n c Magic (begun ks vs) 0 0 [] [] []) magic _ refl
      ∙ number_filled ks vs ds (before ks vs ds n c Next (begun ks vs) 0 0 [] [] []) number_width next _ refl
      (omega arith) (omega (arith, p.counter))
      ∙ number_filled ks vs ds (before ks vs ds n c Count (known next ks vs 0 0) 0 0 [] [] []) count_width n _ refl
      (omega arith) (omega (arith, p.keys))
      ∙ entries_filled ks vs ds n c h.counter next p.counter (omega arith) z.versions.1 z.keys.1
      vs 0 0 0 [] [] [] [] h.entries (sound_entries_lem h s)
      (omega arith) (omega arith) p.keys (omega arith) (omega arith) (omega arith)
      ∙ head_over ks vs (next - 1) n (n + (0 + o)) (next - 1) ds _
      ∙ rw (head_numbers_lem, ← rows_both (newests_of h.entries) (olders_of h.entries)) (sym (regions (tables_for h) c)))

-- ---- the dump of a load

-- m is cleared, then filled
pub load_filled : (ks vs ds : ℕ) (x m : Bytes) (h : Hall) (q : ℕ) (r : Bytes) {n : ℕ} {m₁ m₂ : Bytes} → are_bytes x ≡ true
    → sizes_fit ks vs ds ≡ true → read_hall ks vs ds 0 x ≡ got h q r → needed ks vs ≤ length m
    → n ≡ needed ks vs → m₁ ≡ sets m 0 (zeros n) → m₂ ≡ filled ks vs ds m₁ x → m₂ ≡ put_hall m h
load_filled ks vs ds x m h q r a z e l u v w =
    let d = load_dump ks vs ds x h q r a z e in
    let s = subst (λ (u : Parsed Hall). Sized ks vs ds u) e (sized_hall ks vs ds x) in
    w ∙ rw (v, u, ← s.0, ← s.1, ← s.2, ← d.0) (hall_filled m h d.1 d.2 (rw (s.0, s.1) l))
