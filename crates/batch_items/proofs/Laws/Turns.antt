-- A turn of the check: the record that was read ends it, or is one item more.
-- Assumes nothing.
use mathlib.Core.Path.{◌≡◌, ◌∙◌}
use Prim.Native.Nat.{ℕ, ◌+◌, ◌≤◌, ◌<◌}
use native.Mathlib.Omega.{arith}
use lib.ListN.{length, drop, set}
use Rattle.model.specs.Bytes.{Bytes, part}
use Rattle.model.specs.Load.{bad}
use Rattle.model_batch.specs.Items.{max_items}
use Rattle.model_batch.specs.Decoder.{read_item, read_batch}
use Rattle.model_batch.specs.Answers.{head_width, detail_width}
use Rattle.batch_items.specs.declared.Item.{Item}
use Rattle.batch_items.specs.declared.Fault.{Fault}
use Rattle.batch_items.specs.declared.Decoded.{Decoded}
use Rattle.batch_items.specs.declared.Decoded.TheVariants as decoded
use Rattle.batch_items.specs.Papers.{paper_item, paper_fault, mark_of}
use Rattle.batch_items.specs.Clauses.{Decodes, DecodesAt}
use Rattle.batch_items.proofs.Laws.Results.{item_wrong, item_whole}
use Rattle.batch_items.proofs.Laws.Batch.{Halfway, halfway_length, halfway_marks, halfway_wrong, halfway_more}

-- the record d was read at `at`, where `marks` has the marks of those before it
pub record Turn (x before begins : Bytes) (at n w : ℕ) (d : Decoded) : Type 0 where
  pub halfway : Halfway x before begins at n w
  pub inside : at < length x
  pub room : n ≡ max_items → ⊥
  pub long : max_items ≤ length before
  pub marks : Bytes
  pub cut : marks ≡ part begins 0 n
  pub read : DecodesAt x at marks d

module _ {x before begins : Bytes} {at n w : ℕ} {d : Decoded} (t : Turn x before begins at n w d) where
  pub few_yet : n < max_items
  few_yet = omega (arith, t.halfway.few, t.room)

  pub mark_there : n < length begins
  mark_there = omega (arith, few_yet, halfway_length t.halfway, t.long)

  told : Decodes x (read_item t.halfway.items at (drop at x)) d
  told = t.read t.halfway.items (t.cut ∙ halfway_marks t.halfway t.long)

  pub wrong_there : {f : Fault} → d ≡ decoded.Wrong f → read_batch x ≡ bad (paper_fault f) at
  wrong_there e =
      halfway_wrong t.halfway t.inside t.room _
      (item_wrong x (read_item t.halfway.items at (drop at x)) told e)

  pub one_more : {i : Item} {end : ℕ} → d ≡ decoded.Item i end
      → Halfway x before (set begins n (mark_of (paper_item x i))) end (n + 1) (w + (head_width + detail_width (paper_item x i)))
  one_more e =
      halfway_more t.halfway t.inside t.room
      (item_whole x (read_item t.halfway.items at (drop at x)) told e).0
