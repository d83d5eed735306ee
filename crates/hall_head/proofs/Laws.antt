-- The header's numbers stored, over zeros too, and the bytes of a new hall.
-- Assumes nothing.
use mathlib.Core.Path.{◌≡◌, refl, sym, ap, ◌∙◌}
use mathlib.Core.List.{◌++◌, append_assoc}
use Prim.Native.Nat.{ℕ, ◌*◌, ◌≤◌}
use lib.ListN.{length, drop, length-append}
use lib.Seq.{sets}
use Rattle.model.specs.Sizes.{number_width, count_width}
use Rattle.model.specs.Bytes.{Bytes, bytes}
use Rattle.model.specs.State.{new_hall}
use Rattle.memory.specs.Spans.{zeros, padded}
use Rattle.memory.specs.Rows.{joined}
use Rattle.memory.proofs.Laws.Numbers.{length_bytes}
use Rattle.memory.proofs.Laws.Parts.{sets_append, sets_front}
use Rattle.memory.proofs.Laws.Spans.{sets_zeros, padded_none}
use Rattle.hall.specs.Layout.{head_size, row_width, version_width, key_rooms_place, version_rooms_place, counter_place, key_count_place, version_count_place, floor_place, desk_count_place, needed, rows_of, newests_of, olders_of, tables_for, head_numbers, head_bytes, put_tables, put_hall}
use Rattle.hall.proofs.Laws.Tables.{regions}

pub head_stored : (m : Bytes) (ks vs n k v f ds : ℕ) {y z a b c d e : Bytes}
    → y ≡ sets m floor_place (bytes number_width f)
    → z ≡ sets y desk_count_place (bytes count_width ds)
    → a ≡ sets z key_rooms_place (bytes count_width ks)
    → b ≡ sets a version_rooms_place (bytes count_width vs)
    → c ≡ sets b counter_place (bytes number_width n)
    → d ≡ sets c key_count_place (bytes count_width k)
    → e ≡ sets d version_count_place (bytes count_width v)
    → e ≡ sets m 0 (head_numbers ks vs n k v f ds)
head_stored m ks vs n k v f ds {y} {z} {a} {b} {c} {d} {e} py pz pa pb pc pd pe =
    let five : Bytes = bytes count_width ks ++ (bytes count_width vs ++ (bytes number_width n ++ (bytes count_width k ++ bytes count_width v))) in
    let l : length five ≡ floor_place = simp (length-append, length_bytes) in
    let s : e ≡ sets z 0 five = pe ∙ rw (pd, pc, pb, pa) (simp (sets_append, length_bytes)) in
    let two : Bytes = bytes number_width f ++ bytes count_width ds in
    let t : z ≡ sets m floor_place two = pz ∙ rw py (simp (sets_append, length_bytes)) in
    let all : sets z 0 five ≡ sets m 0 (five ++ two) = rw t (rw l at (sets_front m 0 five two)) in
    let g : five ++ two ≡ head_numbers ks vs n k v f ds = simp append_assoc in
    s ∙ all ∙ ap (λ (x : Bytes). sets m 0 x) g

pub head_over : (ks vs n k v f ds : ℕ) (x : Bytes)
    → sets (zeros head_size ++ x) 0 (head_numbers ks vs n k v f ds) ≡ padded head_size (head_numbers ks vs n k v f ds) ++ x
unfolding padded bytes
head_over ks vs n k v f ds x = refl

module _ (m : Bytes) (ks vs ds : ℕ) (l : needed ks vs ≤ length m) where
  abbrev rest : Bytes
  rest = zeros (row_width * ks) ++ (zeros (version_width * vs) ++ drop (needed ks vs) m)

  headed : head_bytes (tables_for (new_hall ks vs ds)) ++ rest ≡ put_hall m (new_hall ks vs ds)
  unfolding put_hall put_tables tables_for rows_of newests_of olders_of joined
  headed = rw (padded_none (row_width * ks), padded_none (version_width * vs)) at (sym (regions (tables_for (new_hall ks vs ds)) (drop (needed ks vs) m)))

  pub new_hall_lem : {n : ℕ} {m₁ m₂ : Bytes} → n ≡ needed ks vs → m₁ ≡ sets m 0 (zeros n) → m₂ ≡ sets m₁ 0 (head_numbers ks vs 0 0 0 0 ds)
      → m₂ ≡ put_hall m (new_hall ks vs ds)
  unfolding head_bytes tables_for rows_of newests_of olders_of
  new_hall_lem e p q = q ∙ rw (p, e, sets_zeros m head_size (row_width * ks) (version_width * vs) l) (head_over ks vs 0 0 0 0 ds rest ∙ headed)
