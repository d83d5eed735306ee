-- What is driven byte by byte goes field by field.
use mathlib.Core.Path.{◌≡◌, refl, sym, ap, ◌∙◌}
use mathlib.Core.List.{[], ◌∷◌, ◌++◌, append_assoc}
use Prim.Native.Nat.{ℕ, suc, ◌+◌, ◌≤◌, ◌<◌}
use native.Mathlib.Omega.{arith}
use lib.ListN.{length, take, drop, length-append, take-append-drop}
use lib.Seq.{length-take-le}
use borrow.Author.Tests.{le-leb, lt-leb}
use Rattle.model.specs.Bytes.{Bytes}
use Rattle.dump_fields.specs.Drive.{onto, Taker, drive}

module _ {S A : Type 0} (t : Taker S A) where
  -- a field that is not whole
  pub drive_short : (s : S) (f x : Bytes) → length f + length x < t.width s → drive t s f x ≡ t.ends s
  unfolding drive
  drive_short s f [] h = refl
  drive_short s f (b ∷ x) h =
      let l : suc (length f) < t.width s = omega arith in
      rw (lt-leb (t.width s) (suc (length f)) l) (drive_short s (f ++ (b ∷ [])) x (simp length-append (omega arith)))

  -- the bytes e of the field f are there, and the others come
  drive_rest : (s : S) (f e : Bytes) (b : ℕ) (x rest : Bytes) → length e + suc (length x) ≡ t.width s → e ++ (b ∷ x) ≡ f
      → drive t s e (b ∷ (x ++ rest)) ≡ onto (t.takes s f) (λ u. drive t u [] rest)
  unfolding drive
  drive_rest s f e b [] rest l g = rw (le-leb (t.width s) (suc (length e)) (omega arith), g)
  drive_rest s f e b (c ∷ x) rest l g =
      let k : suc (length e) < t.width s = omega arith in
      rw (lt-leb (t.width s) (suc (length e)) k)
      (drive_rest s f (e ++ (b ∷ [])) c x rest (simp length-append (omega arith)) (append_assoc e (b ∷ []) (c ∷ x) ∙ g))

  -- the field f, and what comes after it
  pub drive_field : (s : S) (f rest : Bytes) → length f ≡ t.width s → 1 ≤ t.width s → drive t s [] (f ++ rest) ≡ onto (t.takes s f) (λ u. drive t u [] rest)
  drive_field s [] rest l h = absurd (omega arith)
  drive_field s (b ∷ x) rest l h = drive_rest s (b ∷ x) [] b x rest (omega arith) refl

  pub drive_whole : (s : S) (w : ℕ) (x : Bytes) → w ≡ t.width s → 1 ≤ w → w ≤ length x
      → drive t s [] x ≡ onto (t.takes s (take w x)) (λ u. drive t u [] (drop w x))
  drive_whole s w x e h k =
      ap (drive t s []) (sym (take-append-drop w x))
      ∙ drive_field s (take w x) (drop w x) (length-take-le w x k ∙ e) (omega arith)
