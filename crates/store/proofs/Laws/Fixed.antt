-- The contracts fix everything: any two outcomes of one call on the same memories coincide.
use mathlib.Core.Path.{sym, ◌∙◌}
use Rattle.model.specs.Calls.{Answer}
use Rattle.answers.specs.declared.Done.{Done}
use Rattle.answers.specs.declared.Loaded.{Loaded}
use Rattle.answers.specs.declared.Begun.{Begun}
use Rattle.answers.specs.declared.Found.{Found}
use Rattle.answers.specs.declared.Swept.{Swept}
use Rattle.answers.specs.declared.Thinned.{Thinned}
use Rattle.answers.specs.declared.Counted.{Counted}
use Rattle.answers.specs.declared.Dumped.{Dumped}
use Rattle.answers.specs.declared.Replayed.{Replayed}
use Rattle.answers.specs.Paper.{paper_done, paper_loaded, paper_begun, paper_found, paper_swept, paper_thinned, paper_counted, paper_dumped, paper_replayed}
use Rattle.answers.proofs.Paper.{same_done, same_loaded, same_begun, same_found, same_swept, same_thinned, same_counted, same_dumped, same_replayed, same_committed}
use Rattle.bridge.specs.Clauses.{clashes_on}
use Rattle.store.specs.Fixed.{Telling, FixedAnswer, FixedCall, FixedDesk, FixedHall, FixedCreation, FixedOutput, FixedCommit, FixedRecording}

module _ {A : Type 0} {paper : A → Answer} (t : Telling A paper) where
  pub fixed_answer : FixedAnswer A paper
  fixed_answer h d c a b p q = t.apart a b (p ∙ sym q)

  pub fixed_call : FixedCall A paper
  fixed_call h d h₁ d₁ h₂ d₂ c a b p q = (t.apart a b (p.answer ∙ sym q.answer), p.hall ∙ sym q.hall, p.desk ∙ sym q.desk)

  pub fixed_desk : FixedDesk A paper
  fixed_desk h d d₁ d₂ c a b p q = (t.apart a b (p.answer ∙ sym q.answer), p.desk ∙ sym q.desk)

  pub fixed_hall : FixedHall A paper
  fixed_hall h d h₁ h₂ c a b p q = (t.apart a b (p.answer ∙ sym q.answer), p.hall ∙ sym q.hall)

  pub fixed_creation : FixedCreation A paper
  fixed_creation h d h₁ d₁ h₂ d₂ o a b p q = (t.apart a b (p.answer ∙ sym q.answer), p.hall ∙ sym q.hall, p.desk ∙ sym q.desk)

  pub fixed_output : FixedOutput A paper
  fixed_output h before x y a b p q = (t.apart a b (p.answer ∙ sym q.answer), p.output ∙ sym q.output)

-- ---- each kind of answer

pub done_told : Telling Done paper_done
done_told = record { apart = same_done }

pub loaded_told : Telling Loaded paper_loaded
loaded_told = record { apart = same_loaded }

pub begun_told : Telling Begun paper_begun
begun_told = record { apart = same_begun }

pub found_told : Telling Found paper_found
found_told = record { apart = same_found }

pub swept_told : Telling Swept paper_swept
swept_told = record { apart = same_swept }

pub thinned_told : Telling Thinned paper_thinned
thinned_told = record { apart = same_thinned }

pub counted_told : Telling Counted paper_counted
counted_told = record { apart = same_counted }

pub dumped_told : Telling Dumped paper_dumped
dumped_told = record { apart = same_dumped }

pub replayed_told : Telling Replayed paper_replayed
replayed_told = record { apart = same_replayed }

-- ---- commit: a conflict's count, the list and the record are fixed by the memories

pub fixed_commit : FixedCommit
fixed_commit j h d h₁ d₁ h₂ d₂ before x y t a b p q = (
  same_committed (clashes_on j h d t) a b p.count q.count (p.called.answer ∙ sym q.called.answer),
  p.called.hall ∙ sym q.called.hall,
  p.called.desk ∙ sym q.called.desk,
  p.output ∙ sym q.output,
)

pub fixed_recording : FixedRecording
fixed_recording j h d h₁ d₁ h₂ d₂ before x y blank v w t a b p q =
    let c = fixed_commit j h d h₁ d₁ h₂ d₂ before x y t a.answer b.answer p.commits q.commits in
    let l = p.size ∙ sym q.size in
    (λ i. record { answer = c.0 i; length = l i }, c.1, c.2, c.3, p.output ∙ sym q.output)
