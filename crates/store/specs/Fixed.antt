-- A contract fixes everything: any two outcomes of one call on the same memories coincide.
use Rattle.std.specs.Prelude.{ℕ, ◌≡◌, Option}
use Rattle.model.specs.Bytes.{Bytes}
use Rattle.model.specs.Calls.{Call, Answer}
use Rattle.model.specs.Runs.{Creation}
use Rattle.answers.specs.declared.Committed.{Committed}
use Rattle.answers.specs.declared.Recorded.{Recorded}
use Rattle.bridge.specs.Clauses.{Called, DeskCalled, HallCalled, DumpCalled, Committing, Recording}
use Rattle.bridge.specs.Store.{answer_on}
use Rattle.bridge.specs.Creations.{CreatedAs}

-- an answer type whose paper tells its values apart
pub record Telling (A : Type 0) (paper : A → Answer) : Type 0 where
  pub apart : (a b : A) → paper a ≡ paper b → a ≡ b

-- calls that change nothing: read, newest, counts
abbrev pub FixedAnswer : (A : Type 0) → (A → Answer) → Type 0
FixedAnswer A paper = (h d : Bytes) (c : Call) (a b : A) → paper a ≡ answer_on h d c → paper b ≡ answer_on h d c → a ≡ b

-- calls on both memories
abbrev pub FixedCall : (A : Type 0) → (A → Answer) → Type 0
FixedCall A paper =
    (h d h₁ d₁ h₂ d₂ : Bytes) (c : Call) (a b : A) → Called h d h₁ d₁ c (paper a) → Called h d h₂ d₂ c (paper b)
    → (a ≡ b) × (h₁ ≡ h₂) × (d₁ ≡ d₂)

-- calls on desk memory
abbrev pub FixedDesk : (A : Type 0) → (A → Answer) → Type 0
FixedDesk A paper =
    (h d d₁ d₂ : Bytes) (c : Call) (a b : A) → DeskCalled h d d₁ c (paper a) → DeskCalled h d d₂ c (paper b)
    → (a ≡ b) × (d₁ ≡ d₂)

-- calls on hall memory
abbrev pub FixedHall : (A : Type 0) → (A → Answer) → Type 0
FixedHall A paper =
    (h d h₁ h₂ : Bytes) (c : Call) (a b : A) → HallCalled h d h₁ c (paper a) → HallCalled h d h₂ c (paper b)
    → (a ≡ b) × (h₁ ≡ h₂)

-- make and load
abbrev pub FixedCreation : (A : Type 0) → (A → Answer) → Type 0
FixedCreation A paper =
    (h d h₁ d₁ h₂ d₂ : Bytes) (o : Creation) (a b : A) → CreatedAs h d h₁ d₁ o (paper a)
    → CreatedAs h d h₂ d₂ o (paper b) → (a ≡ b) × (h₁ ≡ h₂) × (d₁ ≡ d₂)

-- dump
abbrev pub FixedOutput : (A : Type 0) → (A → Answer) → Type 0
FixedOutput A paper =
    (h before x y : Bytes) (a b : A) → DumpCalled h before x (paper a) → DumpCalled h before y (paper b)
    → (a ≡ b) × (x ≡ y)

-- commit, which lists clashes in an output
abbrev pub FixedCommit : Type 0
FixedCommit =
    (j : Option ℕ) (h d h₁ d₁ h₂ d₂ before x y : Bytes) (t : ℕ) (a b : Committed) → Committing j h d h₁ d₁ before x t a
    → Committing j h d h₂ d₂ before y t b → (a ≡ b) × (h₁ ≡ h₂) × (d₁ ≡ d₂) × (x ≡ y)

-- the same with a journal
abbrev pub FixedRecording : Type 0
FixedRecording =
    (j : Option ℕ) (h d h₁ d₁ h₂ d₂ before x y blank v w : Bytes) (t : ℕ) (a b : Recorded)
    → Recording j h d h₁ d₁ before x blank v t a → Recording j h d h₂ d₂ before y blank w t b
    → (a ≡ b) × (h₁ ≡ h₂) × (d₁ ≡ d₂) × (x ≡ y) × (v ≡ w)
