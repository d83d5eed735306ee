-- The sweeps: what they drop, their floor, and hall memory afterwards.
-- Assumes nothing.
use mathlib.Core.Path.{◌≡◌, refl, sym, ap, ◌∙◌, subst}
use mathlib.Core.Bool.{true}
use mathlib.Core.List.{List, []}
use Prim.Native.Nat.{ℕ, ◌-◌, ◌≤◌, min, max}
use native.Mathlib.Omega.{arith}
use lib.ListN.{length}
use Rattle.model.specs.Bytes.{Bytes}
use Rattle.model.specs.State.{Hall, version_count, open_starts, cutoff, with_floor}
use Rattle.model.specs.Sweeps.{goes, trim_all}
use Rattle.model.specs.Sound.{sound_hall}
use Rattle.model.specs.Calls.{sweep, thin, swept, thinned, trims, answering, drops, decide, sweep_at, thin_at, apply}
use Rattle.model_laws.proofs.Entries.{count_trim_all}
use Rattle.model_laws.proofs.Desks.{cutoff_le}
use Rattle.model_laws.proofs.Sound.{hall_floor}
use Rattle.model_laws.proofs.Tested.{hall_parts, hall_tests}
use Rattle.hall.specs.Layout as layout
use Rattle.hall.specs.Layout.{counter_in, versions_in, hall_in, put_hall}
use Rattle.hall.proofs.Laws.Sound.{hall_counter, hall_read, put_hall_put, put_sound, versions_counted}
use Rattle.hall_sweep.specs.Held.{Swept}
use Rattle.desk.specs.Layout.{desks_in}
use Rattle.desk.specs.Starts.{starts_up}
use Rattle.bridge.specs.Store.{store_in, Sound}
use Rattle.bridge.specs.Clauses.{HallCalled}
use Rattle.bridge.proofs.Laws.Memories.{by_hall, acts}
use Rattle.call_sweep.specs.Trims.{Trims}
use Rattle.call_sweep.proofs.Laws.Readers.{goes_same}

-- ---- the floor raised to c, then the versions swept

-- the hall with its floor at n at the least
abbrev raised : Bytes → ℕ → Hall
raised h n = with_floor (hall_in h) (max (hall_in h).floor n)

module _ {h : Bytes} {c : ℕ} {h₁ : Bytes} (s : layout.Sound h) (b : c ≤ (hall_in h).counter)
    (f : h₁ ≡ put_hall h (raised h c)) where
  sound_raised : sound_hall (raised h c) ≡ true
  sound_raised =
      let p = hall_parts (hall_in h) s.hall in
      hall_tests (raised h c) (hall_floor p _ (omega arith))

  hall_raised : hall_in h₁ ≡ raised h c
  hall_raised = ap hall_in f ∙ hall_read h (raised h c) sound_raised

  pub raised_sound : layout.Sound h₁
  raised_sound = subst (λ (m : Bytes). layout.Sound m) (sym f) (put_sound h (raised h c) sound_raised s.long)

  module _ {v : ℕ} (q : v ≡ length (versions_in h)) {ts : List ℕ} {r : ℕ} {h' : Bytes} (w : Swept h₁ c ts h' r) where
    left : r ≡ version_count (trim_all (goes c ts) (hall_in h).entries)
    left = rw (w.left, hall_raised)

    -- no more versions are left than there were
    pub left_few : r ≤ v
    left_few = omega (arith, left, versions_counted h s, count_trim_all (goes c ts) (hall_in h).entries)

    pub trims_done : Trims h c ts h' (v - r)
    unfolding drops
    trims_done =
        let n : v ≡ version_count (hall_in h).entries = q ∙ versions_counted h s in
        record {
          count = rw (n, left);
          hall = rw (w.hall, hall_raised, f) (put_hall_put h (raised h c) sound_raised _ refl refl);
        }

-- ---- the calls

-- the smaller of limit and counter
abbrev at : Bytes → (limit : ℕ) → ℕ
at h l = min l (hall_in h).counter

module _ (h : Bytes) (l : ℕ) {n m : ℕ} (p : n ≡ counter_in h) (q : m ≡ min l n) where
  pub limit_is : m ≡ at h l
  limit_is = q ∙ ap (λ (n : ℕ). min l n) (p ∙ sym (hall_counter h))

  pub limit_low : m ≤ (hall_in h).counter
  limit_low = omega (arith, limit_is)

  -- the cutoff of docs/RULES.md, 4.11
  module _ (d : Bytes) {c : ℕ} (r : c ≡ cutoff m (desks_in d)) where
    pub cutoff_is : c ≡ cutoff (at h l) (desks_in d)
    cutoff_is = r ∙ ap (λ (m : ℕ). cutoff m (desks_in d)) limit_is

    pub cutoff_low : c ≤ (hall_in h).counter
    cutoff_low = omega (arith, r, cutoff_le m (desks_in d), limit_low)

module _ (h d : Bytes) (l : ℕ) (s : Sound h d) {c r : ℕ} {h' : Bytes} where
  pub sweep_done : Trims h c [] h' r → c ≡ cutoff (at h l) (desks_in d) → HallCalled h d h' (sweep l) (swept c r)
  unfolding store_in decide sweep_at apply
  sweep_done t p =
      let o : decide (store_in h d) (sweep l) ≡ answering (swept c r) (trims c (goes c [])) = rw (t.count, p) in
      by_hall (acts h d s o t.hall s.desk.same)

  pub thin_done : {ts : List ℕ} → Trims h c ts h' r → c ≡ at h l → ts ≡ starts_up (desks_in d)
      → HallCalled h d h' (thin l) (thinned r)
  unfolding store_in decide thin_at apply
  thin_done {ts} t p q =
      let g : goes c ts ≡ goes c (open_starts (desks_in d)) = ap (goes c) q ∙ goes_same c (desks_in d) in
      let o : decide (store_in h d) (thin l) ≡ answering (thinned r) (trims c (goes c ts)) = rw (t.count, g, p) in
      by_hall (acts h d s o t.hall s.desk.same)
