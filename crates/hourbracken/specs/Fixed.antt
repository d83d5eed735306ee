-- The contracts at the boundary fix everything but where a value's bytes stand: any two outcomes of one call on the
-- same memories coincide.
use Rattle.std.specs.Prelude.{ℕ, ◌≡◌, length, None, Some}
use Rattle.model.specs.Bytes.{Bytes}
use Rattle.model.specs.Calls.{Call, Answer}
use Rattle.model.specs.Runs.{Creation}
use Rattle.answers.specs.Paper.{paper_done, paper_loaded, paper_begun, paper_swept, paper_thinned, paper_counted, paper_dumped, paper_replayed, paper_batched}
use Rattle.bridge.specs.Store.{answer_on, Memories}
use Rattle.bridge.specs.Clauses.{Called, DeskCalled, HallCalled, DumpCalled, Committing, Recording}
use Rattle.bridge.specs.Creations.{CreatedAs}
use Rattle.batch.specs.Batches.{Batching}
use Rattle.boundary.specs.declared.HbBatched.{HbBatched}
use Rattle.boundary.specs.declared.HbCommitted.{HbCommitted}
use Rattle.boundary.specs.declared.HbRecorded.{HbRecorded}
use Rattle.boundary.specs.Boundary.{Crossed, Positive, as_done, as_loaded, as_begun, as_committed, as_recorded, as_swept, as_thinned, as_counted, as_dumped, as_replayed, as_batched}
use Rattle.boundary.specs.Found.{FixedFound}

abbrev pub FixedCreation : {A R : Type 0} → (A → Answer) → (A → R) → Type 0
FixedCreation {A} {R} paper form =
    (h d h₁ d₁ h₂ d₂ : Bytes) (o : Creation) (r s : R)
    → Crossed form (λ a. CreatedAs h d h₁ d₁ o (paper a)) r
    → Crossed form (λ a. CreatedAs h d h₂ d₂ o (paper a)) s → (r ≡ s) × (h₁ ≡ h₂) × (d₁ ≡ d₂)

abbrev pub FixedCall : {A R : Type 0} → (A → Answer) → (A → R) → Type 0
FixedCall {A} {R} paper form =
    (h d h₁ d₁ h₂ d₂ : Bytes) (c : Call) (r s : R)
    → Crossed form (λ a. Called h d h₁ d₁ c (paper a)) r
    → Crossed form (λ a. Called h d h₂ d₂ c (paper a)) s → (r ≡ s) × (h₁ ≡ h₂) × (d₁ ≡ d₂)

abbrev pub FixedDesk : {A R : Type 0} → (A → Answer) → (A → R) → Type 0
FixedDesk {A} {R} paper form =
    (h d d₁ d₂ : Bytes) (c : Call) (r s : R)
    → Crossed form (λ a. DeskCalled h d d₁ c (paper a)) r
    → Crossed form (λ a. DeskCalled h d d₂ c (paper a)) s → (r ≡ s) × (d₁ ≡ d₂)

abbrev pub FixedHall : {A R : Type 0} → (A → Answer) → (A → R) → Type 0
FixedHall {A} {R} paper form =
    (h d h₁ h₂ : Bytes) (c : Call) (r s : R)
    → Crossed form (λ a. HallCalled h d h₁ c (paper a)) r
    → Crossed form (λ a. HallCalled h d h₂ c (paper a)) s → (r ≡ s) × (h₁ ≡ h₂)

abbrev pub FixedAnswer : {A R : Type 0} → (A → Answer) → (A → R) → Type 0
FixedAnswer {A} {R} paper form =
    (h d : Bytes) (c : Call) (r s : R)
    → Crossed form (λ a. paper a ≡ answer_on h d c) r
    → Crossed form (λ a. paper a ≡ answer_on h d c) s → r ≡ s

abbrev pub FixedOutput : {A R : Type 0} → (A → Answer) → (A → R) → Type 0
FixedOutput {A} {R} paper form =
    (h before x y : Bytes) (r s : R)
    → Crossed form (λ a. DumpCalled h before x (paper a)) r
    → Crossed form (λ a. DumpCalled h before y (paper a)) s → (r ≡ s) × (x ≡ y)

abbrev pub FixedCommit : Type 0
FixedCommit =
    (h d h₁ d₁ h₂ d₂ before x y : Bytes) (t : ℕ) (r s : HbCommitted)
    → Crossed as_committed (λ a. Committing None h d h₁ d₁ before x t a × Positive a) r
    → Crossed as_committed (λ a. Committing None h d h₂ d₂ before y t a × Positive a) s
    → (r ≡ s) × (h₁ ≡ h₂) × (d₁ ≡ d₂) × (x ≡ y)

abbrev pub FixedRecording : Type 0
FixedRecording =
    (h d h₁ d₁ h₂ d₂ before x y blank v w : Bytes) (t : ℕ) (r s : HbRecorded)
    → Crossed as_recorded (λ a. Recording (Some (length blank)) h d h₁ d₁ before x blank v t a × Positive a.answer) r
    → Crossed as_recorded (λ a. Recording (Some (length blank)) h d h₂ d₂ before y blank w t a × Positive a.answer) s
    → (r ≡ s) × (h₁ ≡ h₂) × (d₁ ≡ d₂) × (x ≡ y) × (v ≡ w)

abbrev pub FixedBatch : Type 0
FixedBatch =
    (m m₁ m₂ : Memories) (x before y z : Bytes) (r s : HbBatched)
    → Crossed as_batched (λ a. Batching m m₁ x before y (paper_batched a)) r
    → Crossed as_batched (λ a. Batching m m₂ x before z (paper_batched a)) s → (r ≡ s) × (m₁ ≡ m₂) × (y ≡ z)

-- ---- each call

pub record Fixed : Type 0 where
  pub make : FixedCreation paper_done as_done
  pub load : FixedCreation paper_loaded as_loaded
  pub begin : FixedCall paper_begun as_begun
  pub read : FixedFound
  pub newest : FixedFound
  pub as_of : FixedFound
  pub put : FixedDesk paper_done as_done
  pub delete : FixedDesk paper_done as_done
  pub commit : FixedCommit
  pub commit_to : FixedRecording
  pub abort : FixedDesk paper_done as_done
  pub sweep : FixedHall paper_swept as_swept
  pub thin : FixedHall paper_thinned as_thinned
  pub replay : FixedCall paper_replayed as_replayed
  pub batch : FixedBatch
  pub counts : FixedAnswer paper_counted as_counted
  pub dump : FixedOutput paper_dumped as_dumped
