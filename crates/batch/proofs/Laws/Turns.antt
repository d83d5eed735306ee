-- A turn of the loop: the record that was read is the next one, and there is no fault.
use Prim.Native.Nat.{ℕ, ◌+◌, ◌≤◌, ◌<◌}
use native.Mathlib.Omega.{arith}
use mathlib.Core.Path.{◌≡◌}
use mathlib.Core.List.{List, ◌∷◌}
use lib.ListN.{length, drop}
use Rattle.model.specs.Bytes.{Bytes}
use Rattle.model_batch.specs.Encoder.{dump_item}
use Rattle.model_batch.specs.Items.{Item}
use Rattle.model_batch.specs.Decoder.{read_item}
use Rattle.model_batch.specs.Answers.{detail_width}
use Rattle.batch_items.specs.declared.Item as declared
use Rattle.batch_items.specs.declared.Fault.{Fault}
use Rattle.batch_items.specs.declared.Decoded.{Decoded}
use Rattle.batch_items.specs.declared.Decoded.TheVariants as decoded
use Rattle.batch_items.specs.Papers.{paper_item, Spans, marks_of}
use Rattle.batch_items.specs.Clauses.{Ends, DecodesAt}
use Rattle.batch_items.proofs.Laws.Results.{item_wrong, item_whole}
use Rattle.bridge.specs.Store.{Memories}
use Rattle.batch.specs.Making.{Makes, Recorded}
use Rattle.batch.proofs.Laws.Loop.{Going, found, faultless, next_doing, next_resolved, next_going}

-- the record r of the batch x was read in turn i, before which the batch was `going`
pub record Turn (all : List Item) (x begins : Bytes) (m' : Memories) (o' h d o : Bytes) (at i n to : ℕ) (r : Decoded) : Type 0 where
  pub going : Going all x m' o' h d o at i to
  pub few : n ≡ length all
  pub more : i < n
  pub marks : begins ≡ marks_of all
  pub read : DecodesAt x at begins r

module _ {all : List Item} {x begins : Bytes} {m' : Memories} {o' h d o : Bytes} {at i n to : ℕ} {r : Decoded}
    (t : Turn all x begins m' o' h d o at i n to r) where
  there : i < length all
  there = omega (arith, t.few, t.more)

  pub not_wrong : {P : Type 0} {f : Fault} → r ≡ decoded.Wrong f → P
  not_wrong e = faultless t.going there (item_wrong x (read_item all at (drop at x)) (t.read all t.marks) e at)

  module _ {item : declared.Item} {end : ℕ} (e : r ≡ decoded.Item item end) where
    whole : Ends x (read_item all at (drop at x)) (paper_item x item) end × Spans x item
    whole = item_whole x (read_item all at (drop at x)) (t.read all t.marks) e

    pub ends_inside : end ≤ length x
    ends_inside = whole.0.inside

    next : (is : List Item) × (t.going.rest ≡ paper_item x item ∷ is) × (end ≡ at + length (dump_item (paper_item x item)))
    next = found t.going there whole.0.is

    pub asks : Makes h d x o i to item
    asks = record {
      doing = next_doing t.going next.1;
      spans = whole.1;
      resolved = next_resolved t.going next.1;
    }

    -- its details have room
    pub details_room : to + detail_width (paper_item x item) ≤ length o
    details_room = asks.doing.details

    pub goes : {h₁ d₁ o₁ : Bytes} {w : ℕ} → Recorded h d h₁ d₁ x o o₁ i to item → w ≡ detail_width (paper_item x item)
        → Going all x m' o' h₁ d₁ o₁ end (i + 1) (to + w)
    goes done w = next_going t.going next.1 done next.2 (omega arith) (omega (arith, w))
