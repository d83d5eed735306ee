-- The filling pass as its loop takes it.
use mathlib.Core.Path.{◌≡◌, ◌∙◌}
use mathlib.Core.List.{[]}
use Prim.Native.Nat.{ℕ, ◌+◌, ◌-◌, ◌≤◌, ◌<◌}
use native.Mathlib.Omega.{arith}
use lib.ListN.{length, drop, length-drop}
use lib.Seq.{sets, drop-drop}
use Rattle.model.specs.Bytes.{Bytes, part}
use Rattle.hall.specs.Layout.{head_numbers}
use Rattle.dump_fields.specs.Drive.{drive}
use Rattle.dump_fields.specs.Machine.{said, width_of, known_after, phase_after}
use Rattle.dump_fields.specs.declared.machine.Phase.{Phase}
use Rattle.dump_fields.specs.declared.machine.Loader.{Loader}
use Rattle.dump_fields.proofs.Laws.Drive.{drive_short, drive_whole}
use Rattle.dump_fields.proofs.Laws.Machine.{wide}
use Rattle.hall_place.specs.declared.Rows.{Rows}
use Rattle.hall_place.specs.declared.Target.{Target}
use Rattle.hall_place.specs.Placing.{rows_by, end_of, target_of, stored}
use Rattle.hall_fill.specs.Filling.{Filling, filler}

-- ---- one field of the dump d

module _ (ks vs ds : ℕ) (d : Bytes) (x : Filling) (at w : ℕ) {r : Bytes} (e : w ≡ width_of x.phase) (i : r ≡ drive (filler ks vs ds) x [] (drop at d)) where
  pub turn_end : length d - at < w → r ≡ sets x.memory 0 (head_numbers ks vs (x.known.next - 1) x.rows.keys x.rows.versions (x.known.next - 1) ds)
  turn_end h = i ∙ drive_short (filler ks vs ds) x [] (drop at d) (simp length-drop (omega arith))

  pub turn_on_lem : {n o : ℕ} {f m : Bytes} {g : Rows} {t : Target} {s : Loader} {p : Phase} → w ≤ length d - at
      → f ≡ part d at w → n ≡ said f
      → g ≡ rows_by x.phase x.rows
      → s ≡ known_after x.phase x.known n
      → t ≡ target_of ks x.phase s g
      → o ≡ end_of g n
      → m ≡ stored t o x.memory f
      → p ≡ phase_after x.phase s n
      → r ≡ drive (filler ks vs ds) (record { phase = p; known = s; rows = g; memory = m }) [] (drop (at + w) d)
  unfolding part
  turn_on_lem k a b c s t o m p =
      i ∙ drive_whole (filler ks vs ds) x w (drop at d) e (omega (arith, wide x.phase)) (simp length-drop (omega arith))
      ∙ rw (drop-drop w at d, ← a, ← b, p, m, t, o, c, s)
