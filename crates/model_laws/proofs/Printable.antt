-- Every byte of a good key is printable, and sound stores hold good keys.
use Prim.Native.Nat.{ℕ, ◌<◌}
use native.Mathlib.Omega.{arith}
use mathlib.Core.Path.{◌≡◌}
use mathlib.Core.Logic.{◌⊎◌, ⊎_elim}
use mathlib.Core.Bool.{true, false}
use mathlib.Core.List.Memᴰ
use mathlib.Core.List.{List, [], ◌∷◌, Memᴰ}
use Rattle.model.specs.Sizes.{first_printable, last_printable}
use Rattle.model.specs.Bytes.{Bytes}
use Rattle.model.specs.State.{Entry, Write, Writes, Store}
use Rattle.model.specs.Sound.{is_printable, are_printable, key_fits}
use Rattle.model.specs.Demands.{Printable, HoldsPrintable}
use Rattle.model.proofs.Cases.{by_bool, and_left, and_right, within_le, key_parts}
use Rattle.model_laws.proofs.Entries.{SoundWrites, keys_of}
use Rattle.model_laws.proofs.Keys.{Ascending}
use Rattle.model_laws.proofs.Sound.{Sound, tidy_of}

each_printable : (k : Bytes) → are_printable k ≡ true → Printable k
unfolding are_printable
each_printable [] e b m = absurd (Memᴰ.not-nil m)
each_printable (x ∷ k) e b m =
    ⊎_elim
    (λ q. rw q (within_le first_printable last_printable x (and_left (is_printable x) (are_printable k) e)))
    (each_printable k (and_right (is_printable x) (are_printable k) e) b)
    (Memᴰ.cases_cons m)

fits_printable : (k : Bytes) → key_fits k ≡ true → Printable k
fits_printable k e = each_printable k (key_parts k e).2

-- a key with another byte is no good key
pub stray_fits : (k : Bytes) (b : ℕ) → Memᴰ b k → (b < first_printable) ⊎ (last_printable < b) → key_fits k ≡ false
stray_fits k b m o =
    by_bool (key_fits k)
    (λ e. let p = fits_printable k e b m in absurd (⊎_elim (λ h. omega (arith, h, p.0)) (λ h. omega (arith, h, p.1)) o))
    (λ e. e)

printable_keys : (last : Bytes) (es : List Entry) → Ascending last (keys_of es) → (e : Entry) → Memᴰ e es → Printable e.key
unfolding keys_of
printable_keys last [] a e m = absurd (Memᴰ.not-nil m)
printable_keys last (x ∷ es) a e m =
    ⊎_elim (λ q. rw q (fits_printable x.key a.1)) (printable_keys x.key es a.2 e) (Memᴰ.cases_cons m)

printable_writes : (last : Bytes) (ws : Writes) → SoundWrites last ws → (w : Write) → Memᴰ w ws → Printable w.key
printable_writes last [] g w m = absurd (Memᴰ.not-nil m)
printable_writes last (x ∷ ws) g w m =
    ⊎_elim (λ q. rw q (fits_printable x.key g.1)) (printable_writes x.key ws g.3 w) (Memᴰ.cases_cons m)

pub holds_printable : (s : Store) → Sound s → HoldsPrintable s
holds_printable s d = record {
  hall = printable_keys [] _ d.hall.ascending;
  desks = λ t. printable_writes [] _ (tidy_of d.desks t).sound;
}
