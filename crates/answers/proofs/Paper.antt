-- Two answers with the same paper are the same answer.
use Prim.Native.Nat.{ℕ}
use mathlib.Core.Path.{◌≡◌, refl, sym, ap, ◌∙◌}
use mathlib.Core.Bool.{cond}
use lib.Dec.{eqb}
use lib.ListN.{length}
use Rattle.model.specs.Calls as calls
use Rattle.model.specs.Calls.{Clashes, Answer, refused, conflict, faulty, began, own_value, hall_value, nothing_there, closed}
use Rattle.answers.specs.declared.Refusal.{Refusal}
use Rattle.answers.specs.declared.Refusal.TheVariants.{Unsound, BadSizes, BadKey, LongValue, NotOpen, DesksTaken, TooManyWrites, Spent, NoKeyRoom, NoVersionRoom, ShortOutput, OutOfReach, DesksOpen}
use Rattle.answers.specs.declared.Done.{Done}
use Rattle.answers.specs.declared.Done.TheVariants as done
use Rattle.answers.specs.declared.Loaded.{Loaded}
use Rattle.answers.specs.declared.Loaded.TheVariants as loaded
use Rattle.answers.specs.declared.Begun.{Begun}
use Rattle.answers.specs.declared.Begun.TheVariants as begun
use Rattle.answers.specs.declared.Found.{Found}
use Rattle.answers.specs.declared.Found.TheVariants as found
use Rattle.answers.specs.declared.Swept.{Swept}
use Rattle.answers.specs.declared.Swept.TheVariants as swept
use Rattle.answers.specs.declared.Thinned.{Thinned}
use Rattle.answers.specs.declared.Thinned.TheVariants as thinned
use Rattle.answers.specs.declared.Counted.{Counted}
use Rattle.answers.specs.declared.Counted.TheVariants as counted
use Rattle.answers.specs.declared.Dumped.{Dumped}
use Rattle.answers.specs.declared.Dumped.TheVariants as dumped
use Rattle.answers.specs.declared.Replayed.{Replayed}
use Rattle.answers.specs.declared.Replayed.TheVariants as replayed
use Rattle.answers.specs.declared.Batched.{Batched}
use Rattle.answers.specs.declared.Batched.TheVariants as batched
use Rattle.answers.specs.declared.Committed.{Committed}
use Rattle.answers.specs.declared.Committed.TheVariants as committed
use Rattle.answers.specs.Paper.{number_of, paper_done, paper_loaded, paper_begun, paper_found, paper_swept, paper_thinned, paper_counted, paper_dumped, paper_replayed, paper_batched, paper_committed, Counts}

-- ---- refusals

refusal_of : ℕ → Refusal
refusal_of n =
    cond (eqb n 1) Unsound (cond (eqb n 2) BadSizes (cond (eqb n 3) BadKey (cond (eqb n 4) LongValue
    (cond (eqb n 5) NotOpen (cond (eqb n 6) DesksTaken (cond (eqb n 7) TooManyWrites (cond (eqb n 8) Spent
    (cond (eqb n 10) NoKeyRoom (cond (eqb n 11) NoVersionRoom (cond (eqb n 12) ShortOutput
    (cond (eqb n 16) OutOfReach DesksOpen)))))))))))

number_back : (r : Refusal) → refusal_of (number_of r) ≡ r
unfolding refusal_of
number_back Unsound = refl
number_back BadSizes = refl
number_back BadKey = refl
number_back LongValue = refl
number_back NotOpen = refl
number_back DesksTaken = refl
number_back TooManyWrites = refl
number_back Spent = refl
number_back NoKeyRoom = refl
number_back NoVersionRoom = refl
number_back ShortOutput = refl
number_back OutOfReach = refl
number_back DesksOpen = refl

-- ---- a left inverse

-- back from the model's answer: a refusal by its number, any other by its numbers
module _ {A : Type 0} (refusing : Refusal → A) (saying : (a b c : ℕ) → A) where
  abbrev back : Answer → A
  back (refused n) = refusing (refusal_of n)
  back (conflict cs) = saying 2 (length cs) 0
  back (faulty n at) = saying n at 0
  back (began t d) = saying t d 0
  back (calls.found own_value) = saying 0 0 0
  back (calls.found hall_value) = saying 1 0 0
  back (calls.found nothing_there) = saying 2 0 0
  back calls.done = saying 0 0 0
  back (calls.committed n) = saying 0 n 0
  back closed = saying 1 0 0
  back (calls.swept c d) = saying c d 0
  back (calls.thinned d) = saying d 0 0
  back (calls.counted k v d) = saying k v d
  back (calls.dumped n) = saying 0 n 0
  back (calls.replayed end) = saying 0 end 0

  inverse : (paper : A → Answer) → ((x : A) → back (paper x) ≡ x) → (x y : A) → paper x ≡ paper y → x ≡ y
  inverse paper l x y e = sym (l x) ∙ ap back e ∙ l y

-- ---- each answer

pub same_done : (a b : Done) → paper_done a ≡ paper_done b → a ≡ b
same_done =
    inverse done.Refused (λ _ _ _. done.Done) paper_done
    (λ x. elim x as (λ k. back done.Refused (λ _ _ _. done.Done) (paper_done k) ≡ k) [ done.Done ↦ refl | done.Refused r ↦ ap done.Refused (number_back r) ])

pub same_loaded : (a b : Loaded) → paper_loaded a ≡ paper_loaded b → a ≡ b
same_loaded =
    inverse loaded.Refused
    (λ n at _. cond (eqb n 13) (loaded.CutShort at) (cond (eqb n 14) (loaded.Malformed at)
    (cond (eqb n 15) (loaded.TooBig at) loaded.Done))) paper_loaded
    (λ x. elim x as (λ k. back loaded.Refused (λ n at _. cond (eqb n 13) (loaded.CutShort at) (cond (eqb n 14) (loaded.Malformed at) (cond (eqb n 15) (loaded.TooBig at) loaded.Done))) (paper_loaded k) ≡ k) [
      | loaded.Done ↦ refl
      | loaded.CutShort at ↦ refl
      | loaded.Malformed at ↦ refl
      | loaded.TooBig at ↦ refl
      | loaded.Refused r ↦ ap loaded.Refused (number_back r)
    ])

pub same_begun : (a b : Begun) → paper_begun a ≡ paper_begun b → a ≡ b
same_begun =
    inverse begun.Refused (λ t d _. begun.As (record { 0 = t }) d) paper_begun
    (λ x. elim x as (λ k. back begun.Refused (λ t d _. begun.As (record { 0 = t }) d) (paper_begun k) ≡ k) [ begun.As t d ↦ refl | begun.Refused r ↦ ap begun.Refused (number_back r) ])

pub same_found : (a b : Found) → paper_found a ≡ paper_found b → a ≡ b
same_found =
    inverse found.Refused
    (λ k _ _. cond (eqb k 0) found.OwnValue (cond (eqb k 1) found.HallValue found.NothingThere)) paper_found
    (λ x. elim x as (λ k. back found.Refused (λ k _ _. cond (eqb k 0) found.OwnValue (cond (eqb k 1) found.HallValue found.NothingThere)) (paper_found k) ≡ k) [
      | found.OwnValue ↦ refl
      | found.HallValue ↦ refl
      | found.NothingThere ↦ refl
      | found.Refused r ↦ ap found.Refused (number_back r)
    ])

pub same_swept : (a b : Swept) → paper_swept a ≡ paper_swept b → a ≡ b
same_swept =
    inverse swept.Refused (λ c d _. swept.At c d) paper_swept
    (λ x. elim x as (λ k. back swept.Refused (λ c d _. swept.At c d) (paper_swept k) ≡ k) [ swept.At c d ↦ refl | swept.Refused r ↦ ap swept.Refused (number_back r) ])

pub same_thinned : (a b : Thinned) → paper_thinned a ≡ paper_thinned b → a ≡ b
same_thinned =
    inverse thinned.Refused (λ d _ _. thinned.Dropped d) paper_thinned
    (λ x. elim x as (λ k. back thinned.Refused (λ d _ _. thinned.Dropped d) (paper_thinned k) ≡ k) [ thinned.Dropped d ↦ refl | thinned.Refused r ↦ ap thinned.Refused (number_back r) ])

pub same_counted : (a b : Counted) → paper_counted a ≡ paper_counted b → a ≡ b
same_counted =
    inverse counted.Refused counted.Held paper_counted
    (λ x. elim x as (λ k. back counted.Refused counted.Held (paper_counted k) ≡ k) [ counted.Held k v d ↦ refl | counted.Refused r ↦ ap counted.Refused (number_back r) ])

pub same_dumped : (a b : Dumped) → paper_dumped a ≡ paper_dumped b → a ≡ b
same_dumped =
    inverse dumped.Refused (λ _ n _. dumped.Bytes n) paper_dumped
    (λ x. elim x as (λ k. back dumped.Refused (λ _ n _. dumped.Bytes n) (paper_dumped k) ≡ k) [ dumped.Bytes n ↦ refl | dumped.Refused r ↦ ap dumped.Refused (number_back r) ])

pub same_replayed : (a b : Replayed) → paper_replayed a ≡ paper_replayed b → a ≡ b
same_replayed =
    inverse replayed.Refused
    (λ n at _. cond (eqb n 14) (replayed.Malformed at) (cond (eqb n 10) (replayed.NoKeyRoom at)
    (cond (eqb n 11) (replayed.NoVersionRoom at) (replayed.UpTo at)))) paper_replayed
    (λ x. elim x as (λ k. back replayed.Refused (λ n at _. cond (eqb n 14) (replayed.Malformed at) (cond (eqb n 10) (replayed.NoKeyRoom at) (cond (eqb n 11) (replayed.NoVersionRoom at) (replayed.UpTo at)))) (paper_replayed k) ≡ k) [
      | replayed.UpTo at ↦ refl
      | replayed.Malformed at ↦ refl
      | replayed.NoKeyRoom at ↦ refl
      | replayed.NoVersionRoom at ↦ refl
      | replayed.Refused r ↦ ap replayed.Refused (number_back r)
    ])

pub same_batched : (a b : Batched) → paper_batched a ≡ paper_batched b → a ≡ b
same_batched =
    inverse batched.Refused
    (λ n at _. cond (eqb n 18) (batched.Malformed at) (cond (eqb n 19) (batched.Reserved at) (batched.Answers at)))
    paper_batched
    (λ x. elim x as (λ k. back batched.Refused (λ n at _. cond (eqb n 18) (batched.Malformed at) (cond (eqb n 19) (batched.Reserved at) (batched.Answers at))) (paper_batched k) ≡ k) [
      | batched.Answers n ↦ refl
      | batched.Malformed at ↦ refl
      | batched.Reserved at ↦ refl
      | batched.Refused r ↦ ap batched.Refused (number_back r)
    ])

module _ (cs : Clashes) where
  abbrev committed_of : Answer → Committed
  committed_of =
      back committed.Refused (λ k n _. cond (eqb k 0) (committed.As (record { 0 = n }))
      (cond (eqb k 1) committed.Closed (committed.Conflict n)))

  committed_back : (x : Committed) → Counts cs x → committed_of (paper_committed cs x) ≡ x
  committed_back (committed.As n) c = refl
  committed_back committed.Closed c = refl
  committed_back (committed.Conflict n) c = ap committed.Conflict (sym c)
  committed_back (committed.Refused r) c = ap committed.Refused (number_back r)

  pub same_committed : (a b : Committed) → Counts cs a → Counts cs b → paper_committed cs a ≡ paper_committed cs b → a ≡ b
  same_committed a b h l e = sym (committed_back a h) ∙ ap committed_of e ∙ committed_back b l
