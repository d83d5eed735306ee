-- The open starts in ascending order are the same readers.
-- Assumes nothing.
use mathlib.Core.Path.{◌≡◌, refl, sym, ◌∙◌}
use mathlib.Core.Bool.{Bool, ◌&&◌, ◌||◌, or-false, or_assoc, or_comm}
use mathlib.Core.List.{List, [], ◌∷◌}
use Prim.Native.Nat.{ℕ, ◌≤◌, min, max}
use native.Mathlib.Nat.{min-eq_left, min-eq_right, max-eq_left, max-eq_right}
use native.Mathlib.Omega.{arith}
use lib.Dec.{leb, ltb}
use borrow.Author.Tests.{leb-true, leb-false}
use Rattle.model.specs.State.{Version, Chain, Desk, free, taken, open_starts, cutoff}
use Rattle.model.specs.Sweeps.{is_read, is_clear, is_covered, goes}
use Rattle.model.proofs.Cases.{by_bool}
use Rattle.hall_rule.specs.Readers.{Upward, lowest, Readers}
use Rattle.desk.specs.Starts.{insert, merge, starts_up}

module _ (lo hi : ℕ) where
  read_insert : (t : ℕ) (us : List ℕ) → is_read lo hi (insert t us) ≡ is_read lo hi (t ∷ us)
  unfolding is_read insert
  read_insert t [] = refl
  read_insert t (u ∷ us) =
      by_bool (leb t u)
      (λ p. rw (min-eq_left (leb-true t u p), max-eq_right (leb-true t u p), read_insert u us))
      (λ p.
      let l : u ≤ t = omega (arith, leb-false t u p) in
      rw (min-eq_right l, max-eq_left l, read_insert t us)
      (or_swap (leb lo u && ltb u hi) (leb lo t && ltb t hi) (is_read lo hi us)))
    where
      or_swap : (a b c : Bool) → (a || (b || c)) ≡ (b || (a || c))
      or_swap a b c = rw (← or_assoc a b c, or_comm a b, or_assoc b a c)

  read_merge : (us ts : List ℕ) → is_read lo hi (merge us ts) ≡ (is_read lo hi us || is_read lo hi ts)
  unfolding is_read merge
  read_merge us [] = sym (or-false (is_read lo hi us))
  read_merge us (t ∷ ts) =
      read_merge (insert t us) ts
      ∙ rw (read_insert t us) (or_move (leb lo t && ltb t hi) (is_read lo hi us) (is_read lo hi ts))
    where
      or_move : (a b c : Bool) → ((a || b) || c) ≡ (b || (a || c))
      or_move a b c = rw (or_comm a b, or_assoc b a c)

upward_lower : (a b : ℕ) (us : List ℕ) → a ≤ b → Upward b us → Upward a us
upward_lower a b [] h g = tt
upward_lower a b (u ∷ us) h g = (omega arith, g.1)

upward_insert : (lo t : ℕ) (us : List ℕ) → lo ≤ t → Upward lo us → Upward lo (insert t us)
unfolding insert
upward_insert lo t [] h g = (h, tt)
upward_insert lo t (u ∷ us) h g = (
  omega arith,
  upward_insert (min t u) (max t u) us (omega arith) (upward_lower (min t u) u us (omega arith) g.1),
)

upward_merge : (us ts : List ℕ) → Upward 0 us → Upward 0 (merge us ts)
unfolding merge
upward_merge us [] g = g
upward_merge us (t ∷ ts) g = upward_merge (insert t us) ts (upward_insert 0 t us (omega arith) g)

lowest_insert : (c t : ℕ) (us : List ℕ) → lowest c (insert t us) ≡ min t (lowest c us)
unfolding lowest insert
lowest_insert c t [] = refl
lowest_insert c t (u ∷ us) = rw (lowest_insert c (max t u) us) (omega arith)

lowest_under : (c : ℕ) (ts : List ℕ) → lowest c ts ≡ min c (lowest c ts)
unfolding lowest
lowest_under c [] = omega arith
lowest_under c (t ∷ ts) = omega (arith, lowest_under c ts)

lowest_merge : (c : ℕ) (us ts : List ℕ) → lowest c (merge us ts) ≡ min (lowest c us) (lowest c ts)
unfolding lowest merge
lowest_merge c us [] = omega (arith, lowest_under c us)
lowest_merge c us (t ∷ ts) = omega (arith, lowest_merge c (insert t us) ts, lowest_insert c t us)

cutoff_lowest : (c : ℕ) (ds : List Desk) → cutoff c ds ≡ lowest c (open_starts ds)
unfolding cutoff lowest open_starts
cutoff_lowest c [] = refl
cutoff_lowest c (free ∷ ds) = cutoff_lowest c ds
cutoff_lowest c (taken x ∷ ds) = rw (cutoff_lowest c ds)

-- ---- as the sweeps are lent them

pub no_readers : (c : ℕ) → Readers c c []
unfolding lowest
no_readers c = record { upward = tt; clear = refl }

module _ (c : ℕ) (ds : List Desk) where
  pub open_readers : {k : ℕ} {ts : List ℕ} → k ≡ cutoff c ds → ts ≡ starts_up ds → Readers c k ts
  unfolding lowest
  open_readers e q =
      rw q (record {
        upward = upward_merge [] (open_starts ds) tt;
        clear = e ∙ cutoff_lowest c ds ∙ lowest_under c (open_starts ds) ∙ sym (lowest_merge c [] (open_starts ds));
      })

  goes_each : (v : Version) (vs : Chain) → goes c (starts_up ds) v vs ≡ goes c (open_starts ds) v vs
  unfolding goes is_covered is_clear is_read
  goes_each v [] = rw (read_merge 0 v.number [] (open_starts ds))
  goes_each v (w ∷ ws) = rw (read_merge v.number w.number [] (open_starts ds), read_merge 0 v.number [] (open_starts ds))

  pub goes_same : goes c (starts_up ds) ≡ goes c (open_starts ds)
  goes_same = λ i. λ v vs. goes_each v vs i
