-- What a record asks for, and what it leaves, by whoever's transaction it is.
-- Assumes nothing.
use Prim.Native.Nat.{ℕ}
use native.Mathlib.Omega.{arith}
use mathlib.Core.Path.{◌≡◌, refl, ap, ◌∙◌}
use lib.Seq.{sets}
use Rattle.model.specs.Bytes.{Bytes}
use Rattle.model.specs.Calls.{Act, read, put, delete, commit_to, abort, Call, Answer}
use Rattle.model_batch.specs.Items.{Who, Item, acts, item_kind}
use Rattle.model_batch.specs.Answers.{detail_of, detail}
use Rattle.bridge.specs.Store.{answer_on, bytes_on}
use Rattle.batch_heads.specs.Heads.{headed}
use Rattle.batch_calls.specs.Done.{Heading, Doing, Did}

pub heading : {h d out : Bytes} {i at : ℕ} {item : Item} → Doing h d out i at item → Heading h d out i
heading g = record { sound = g.sound; head = omega (arith, g.head, g.details) }

-- the details do not say whose they are
detail_any : (v w : Who) (a : Act) (r : Answer × Bytes) → detail (acts v a) r ≡ detail (acts w a) r
unfolding detail detail_of item_kind
detail_any v w (read k) r = refl
detail_any v w (put k x) r = refl
detail_any v w (delete k) r = refl
detail_any v w (commit_to j) r = refl
detail_any v w abort r = refl

pub doing_any : {h d out : Bytes} {i at : ℕ} {a : Act} (v w : Who) → Doing h d out i at (acts v a) → Doing h d out i at (acts w a)
unfolding item_kind
doing_any v w g = record { sound = g.sound; head = g.head; details = g.details }

pub did_any : {h d h' d' before after : Bytes} {i at : ℕ} {c : Call} (a : Act) (v w : Who) → Did h d h' d' before after i at (acts v a) c
    → Did h d h' d' before after i at (acts w a) c
did_any {h} {d} {before = before} {i = i} {at = at} {c = c} a v w k =
    record {
      hall = k.hall;
      desk = k.desk;
      output = k.output ∙ ap (sets (headed before i (answer_on h d c)) at) (detail_any v w a (answer_on h d c, bytes_on h d c));
    }
