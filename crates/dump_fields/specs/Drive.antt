-- What takes a dump's fields one after the other, in whichever pieces its bytes come.
use Rattle.std.specs.Prelude.{ℕ, suc, cond, [], ◌∷◌, ◌++◌, leb, length, Result, Ok, Err}
use Rattle.model.specs.Bytes.{Bytes}

-- it goes on from a state, or has its answer
abbrev pub onto : {S A : Type 0} → Result S A → (S → A) → A
onto (Ok s) k = k s
onto (Err a) k = a

-- how many bytes the next field has, what the whole field does, and what the input's end in or before it gives
pub record Taker (S A : Type 0) : Type 0 where
  pub width : S → ℕ
  pub takes : S → Bytes → Result S A
  pub ends : S → A

-- f is what there is of the next field
unfoldable pub drive : {S A : Type 0} → Taker S A → S → (f rest : Bytes) → A
drive t s f [] = t.ends s
drive t s f (b ∷ x) =
    cond (leb (t.width s) (suc (length f)))
    (onto (t.takes s (f ++ (b ∷ []))) (λ u. drive t u [] x))
    (drive t s (f ++ (b ∷ [])) x)
