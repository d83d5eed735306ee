-- A worker's step on two memories is the model's.
use Prim.Native.Nat.{ℕ, ◌/◌, ◌%◌, ◌^◌}
use mathlib.Core.Path.{◌≡◌, refl, ap, ◌∙◌}
use mathlib.Core.Bool.{Bool, true, false}
use Rattle.std.specs.Prelude.{None}
use native.Mathlib.Omega.{arith}
use borrow.Author.Tests.{lt-ltb}
use lib.Dec.{ltb}
use Rattle.model.specs.Bytes.{Bytes, are_bytes}
use Rattle.model.specs.State.{Store}
use Rattle.model.specs.Calls.{commit, abort, Call, on, Clashes, Answer, Outcome, answer, next}
use Rattle.model.specs.History.{act_in_bytes, in_bytes, is_commit}
use Rattle.model.proofs.Cases.{by_bool, and_intro}
use Rattle.answers.specs.declared.Committed.{Committed}
use Rattle.answers.specs.Paper.{paper_committed}
use Rattle.bridge.specs.Store.{answer_on}
use Rattle.bridge.specs.Clauses.{DeskCalled, Committing}
use Rattle.workload_plan.specs.declared.choices.Choice.{Choice}
use Rattle.workload_plan.specs.Choices.{digit, key_of, payload_of}
use Rattle.workload_turns.specs.Turns.{drawn_call, lacks_room, finished}
use Rattle.workload_turns.specs.Holding.{Holding}
use Rattle.workload_turns.proofs.Laws.Holding.{outcome_is, holding_call, holding_desk}

-- ---- what a step answers

pub answer_is : {h₀ d₀ h d : Bytes} {s : Store} → Holding h₀ d₀ h d s → (c : Call) → answer_on h d c ≡ answer s c
answer_is k c = ap (λ (o : Outcome). o.answer) (outcome_is k c)

-- ---- the end of a transaction

module _ {h d h₁ d₁ out out₁ : Bytes} {t : ℕ} {r : Committed} {b : Bool} (m : Committing None h d h₁ d₁ out out₁ t r)
    (e : (cs : Clashes) → b ≡ lacks_room (paper_committed cs r))
    {h₀ d₀ : Bytes} {s : Store} (k : Holding h₀ d₀ h d s) where
  told : b ≡ lacks_room (answer s (on t commit))
  told = e _ ∙ ap lacks_room (m.called.answer ∙ answer_is k (on t commit))

  after_commit : Holding h₀ d₀ h₁ d₁ (next s (on t commit))
  unfolding in_bytes act_in_bytes
  after_commit = holding_call k (on t commit) refl m.called.hall m.called.desk

  pub finish_kept : b ≡ false → Holding h₀ d₀ h₁ d₁ (finished s t)
  unfolding finished
  finish_kept p = rw (← told, p) after_commit

  pub finish_aborted : {d₂ : Bytes} {a : Answer} → b ≡ true → DeskCalled h₁ d₁ d₂ (on t abort) a → Holding h₀ d₀ h₁ d₂ (finished s t)
  unfolding finished in_bytes act_in_bytes is_commit
  finish_aborted p q = rw (← told, p) (holding_desk after_commit t abort refl refl q.desk)

-- ---- the operation

digit_small : (n : ℕ) → ltb (digit n) 256 ≡ true
digit_small n = lt-ltb (digit n) 256 (omega arith)

byte_small : (n : ℕ) → ltb (n % 256) 256 ≡ true
byte_small n = lt-ltb (n % 256) 256 (omega arith)

pub key_in_bytes : (n : ℕ) → are_bytes (key_of n) ≡ true
unfolding key_of are_bytes
key_in_bytes n = and_intro (digit_small (n / 1000)) (and_intro (digit_small (n / 100)) (and_intro (digit_small (n / 10)) (and_intro (digit_small n) refl)))

pub payload_in_bytes : (n : ℕ) → are_bytes (payload_of n) ≡ true
unfolding payload_of are_bytes
payload_in_bytes n =
    and_intro (byte_small (n / 2 ^ 24)) (and_intro (byte_small (n / 2 ^ 16)) (and_intro (byte_small (n / 2 ^ 8)) (and_intro (byte_small n) refl)))

pub drawn_in_bytes : (writers : ℕ) (c : Choice) (t : ℕ) → in_bytes (drawn_call writers c t) ≡ true
unfolding drawn_call in_bytes act_in_bytes
drawn_in_bytes writers c t =
    by_bool (ltb c.worker writers)
    (λ e. rw e (and_intro (key_in_bytes c.key) (payload_in_bytes c.payload)))
    (λ e. rw e (key_in_bytes c.key))
