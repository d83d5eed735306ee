-- One record: its transaction resolved, and its key and value taken out of the batch.
use Prim.Native.Nat.{ℕ}
use mathlib.Core.Path.{◌≡◌, sym, subst}
use Rattle.model.specs.Bytes.{Bytes}
use Rattle.model.specs.Calls.{Act, on}
use Rattle.model_batch.specs.Items.{Who, started, acts}
use Rattle.batch_calls.specs.Done.{Doing, Did}
use Rattle.batch_calls.proofs.Laws.After.{doing_any, did_any}
use Rattle.batch.specs.Making.{start_in, call_in}

-- what the record of w asks for, with the act as its call is given it
pub asked : {h d o : Bytes} {i at : ℕ} {w : Who} {a b : Act} (t : ℕ) → a ≡ b → Doing h d o i at (acts w b) → Doing h d o i at (acts (started t) a)
asked {h} {d} {o} {i} {at} {w} t e g = subst (λ a. Doing h d o i at (acts (started t) a)) (sym e) (doing_any w (started t) g)

-- what the call under its start t leaves is what the record leaves
pub told : {h d h' d' o o' : Bytes} {i at : ℕ} {w : Who} {a b : Act} {t : ℕ} → t ≡ start_in o w → a ≡ b
    → Did h d h' d' o o' i at (acts (started t) a) (on t a) → Did h d h' d' o o' i at (acts w b) (call_in o (acts w b))
unfolding call_in
told {h} {d} {h'} {d'} {o} {o'} {i} {at} {w} {a} {b} {t} s e g =
    subst (λ b. Did h d h' d' o o' i at (acts w b) (on (start_in o w) b)) e
    (subst (λ t. Did h d h' d' o o' i at (acts w a) (on t a)) s (did_any a (started t) w g))
