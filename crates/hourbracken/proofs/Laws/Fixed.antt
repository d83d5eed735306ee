-- The contracts at the boundary fix what the store's own contracts fix: an answer that is fixed has one form.
-- Assumes nothing.
use mathlib.Core.Path.{◌≡◌, sym, ap, ◌∙◌}
use Rattle.std.specs.Prelude.{None, Some}
use lib.ListN.{length}
use Rattle.model.specs.Calls.{Answer}
use Rattle.store.specs.Fixed.{Telling}
use Rattle.store.proofs.Laws.Fixed as store
use Rattle.store.proofs.Laws.Fixed.{done_told, loaded_told, begun_told, swept_told, thinned_told, counted_told, dumped_told, replayed_told}
use Rattle.batch.proofs.Statements as batch
use Rattle.boundary.specs.Boundary.{Crossed, as_committed}
use Rattle.boundary.proofs.Laws.Found.{fixed_found}
use Rattle.hourbracken.specs.Fixed.{FixedCreation, FixedCall, FixedDesk, FixedHall, FixedAnswer, FixedOutput, FixedCommit, FixedRecording, FixedBatch, Fixed}

-- two answers that are the same are told as the same
one_form : {A R : Type 0} {form : A → R} {P Q : A → Type 0} {r s : R} (t : Crossed form P r) (u : Crossed form Q s)
    → t.answer ≡ u.answer → r ≡ s
one_form {form = form} t u e = t.same ∙ ap form e ∙ sym u.same

module _ {A R : Type 0} {paper : A → Answer} {form : A → R} (tells : Telling A paper) where
  fixed_creation : FixedCreation paper form
  fixed_creation h d h₁ d₁ h₂ d₂ o r s t u =
      let f = store.fixed_creation tells h d h₁ d₁ h₂ d₂ o t.answer u.answer t.call u.call in
      (one_form t u f.0, f.1, f.2)

  fixed_call : FixedCall paper form
  fixed_call h d h₁ d₁ h₂ d₂ c r s t u =
      let f = store.fixed_call tells h d h₁ d₁ h₂ d₂ c t.answer u.answer t.call u.call in
      (one_form t u f.0, f.1, f.2)

  fixed_desk : FixedDesk paper form
  fixed_desk h d d₁ d₂ c r s t u =
      let f = store.fixed_desk tells h d d₁ d₂ c t.answer u.answer t.call u.call in
      (one_form t u f.0, f.1)

  fixed_hall : FixedHall paper form
  fixed_hall h d h₁ h₂ c r s t u =
      let f = store.fixed_hall tells h d h₁ h₂ c t.answer u.answer t.call u.call in
      (one_form t u f.0, f.1)

  fixed_answer : FixedAnswer paper form
  fixed_answer h d c r s t u = one_form t u (store.fixed_answer tells h d c t.answer u.answer t.call u.call)

  fixed_output : FixedOutput paper form
  fixed_output h before x y r s t u =
      let f = store.fixed_output tells h before x y t.answer u.answer t.call u.call in
      (one_form t u f.0, f.1)

fixed_commit : FixedCommit
fixed_commit h d h₁ d₁ h₂ d₂ before x y t r s p q =
    let f = store.fixed_commit None h d h₁ d₁ h₂ d₂ before x y t p.answer q.answer p.call.0 q.call.0 in
    let same : as_committed p.answer ≡ as_committed q.answer = rw f.0 in
    (p.same ∙ same ∙ sym q.same, f.1, f.2, f.3)

fixed_recording : FixedRecording
fixed_recording h d h₁ d₁ h₂ d₂ before x y blank v w t r s p q =
    let a = p.answer in
    let b = q.answer in
    let f = store.fixed_recording (Some (length blank)) h d h₁ d₁ h₂ d₂ before x y blank v w t a b p.call.0 q.call.0 in
    (one_form p q f.0, f.1, f.2, f.3, f.4)

fixed_batch : FixedBatch
fixed_batch m m₁ m₂ x before y z r s t u =
    let f = batch.fixed_batch m m₁ m₂ x before y z t.answer u.answer t.call u.call in
    (one_form t u f.0, f.1, f.2)

pub fixed : Fixed
fixed = record {
  make = fixed_creation done_told;
  load = fixed_creation loaded_told;
  begin = fixed_call begun_told;
  read = fixed_found;
  newest = fixed_found;
  as_of = fixed_found;
  put = fixed_desk done_told;
  delete = fixed_desk done_told;
  commit = fixed_commit;
  commit_to = fixed_recording;
  abort = fixed_desk done_told;
  sweep = fixed_hall swept_told;
  thin = fixed_hall thinned_told;
  replay = fixed_call replayed_told;
  batch = fixed_batch;
  counts = fixed_answer counted_told;
  dump = fixed_output dumped_told;
}
