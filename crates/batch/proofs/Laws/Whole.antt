-- The whole call: what refuses it, and what it leaves.
use Prim.Native.Nat.{ℕ, ◌≤◌, ◌<◌}
use mathlib.Core.Path.{◌≡◌, subst, ◌∙◌}
use mathlib.Core.Bool.{true, false}
use borrow.Author.Tests.{lt-ltb, le-ltb}
use lib.ListN.{length}
use Rattle.model.specs.Bytes.{Bytes, part}
use Rattle.model.specs.Load.{bad}
use Rattle.model.specs.Calls.{refused, faulty, dumped}
use Rattle.model_batch.specs.Decoder.{read_batch}
use Rattle.model_batch.specs.Answers.{answers_width}
use Rattle.memory.specs.Spans.{overlay}
use Rattle.bridge.specs.Store.{are_sound, memories_of}
use Rattle.bridge.proofs.Laws.Memories.{sound_of}
use Rattle.batch_items.specs.declared.Fault.{Fault}
use Rattle.batch_items.specs.declared.Checked.{Checked}
use Rattle.batch_items.specs.declared.Checked.TheVariants as checked
use Rattle.batch_items.specs.Papers.{paper_fault}
use Rattle.batch_items.specs.Clauses.{Accepted, Checks}
use Rattle.batch.specs.Batches.{batch_on, read_on, Batching}
use Rattle.batch.specs.Making.{items_in, Ready, AllMade}
use Rattle.batch.proofs.Laws.Loop.{all_written}

-- what was found, by the variant that was answered
module _ (x begins : Bytes) {r : Checked} (c : Checks x begins r) where
  pub found_wrong : {f : Fault} {at : ℕ} → r ≡ checked.Wrong f at → read_batch x ≡ bad (paper_fault f) at
  found_wrong e = subst (λ (r : Checked). Checks x begins r) e c

  pub found_items : {n w : ℕ} → r ≡ checked.Items n w → Accepted x begins n w
  found_items e = subst (λ (r : Checked). Checks x begins r) e c

items_in_lem : {x begins : Bytes} {n w : ℕ} (a : Accepted x begins n w) → items_in x ≡ a.items
unfolding items_in
items_in_lem a = rw a.is

module _ (h d x o : Bytes) where
  pub not_sound : are_sound h d ≡ false → Batching (memories_of h d) (memories_of h d) x o o (refused 1)
  unfolding batch_on overlay
  not_sound e = record { answer = rw e; memories = rw e; output = rw e }

  module _ (s : are_sound h d ≡ true) where
    pub wrong_there : {n at : ℕ} → read_batch x ≡ bad n at → Batching (memories_of h d) (memories_of h d) x o o (faulty n at)
    unfolding batch_on read_on overlay
    wrong_there e = record { answer = rw (s, e); memories = rw (s, e); output = rw (s, e) }

    module _ {begins : Bytes} {n w : ℕ} (a : Accepted x begins n w) where
      pub too_short : length o < w → Batching (memories_of h d) (memories_of h d) x o o (refused 12)
      unfolding batch_on read_on overlay
      too_short l =
          let e = lt-ltb (length o) (answers_width a.items) (rw a.width at l) in
          record { answer = rw (s, a.is, e); memories = rw (s, a.is, e); output = rw (s, a.is, e) }

      pub ready : {marks : Bytes} → marks ≡ part begins 0 n → w ≤ length o → Ready h d x marks o n
      ready m l = record {
        sound = sound_of h d s;
        whole = rw (items_in_lem a) a.is;
        count = rw (items_in_lem a) a.count;
        marks = rw (items_in_lem a) (m ∙ a.marked);
        room = rw (items_in_lem a, ← a.width) l;
      }

      pub all_done : {h₁ d₁ o₁ : Bytes} → w ≤ length o → AllMade (memories_of h d) (memories_of h₁ d₁) o o₁ (items_in x)
          → Batching (memories_of h d) (memories_of h₁ d₁) x o o₁ (dumped w)
      unfolding batch_on read_on
      all_done l made =
          let m : answers_width a.items ≤ length o = rw a.width at l in
          let e = le-ltb (length o) (answers_width a.items) m in
          let f = rw (items_in_lem a) at made in
          record {
            answer = rw (s, a.is, e, ← a.width);
            memories = rw (s, a.is, e) f.memories;
            output = rw (s, a.is, e) (f.output ∙ all_written (memories_of h d) o a.items m);
          }
