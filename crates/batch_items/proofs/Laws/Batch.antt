-- A batch read up to a record: one item more, a fault there, or the end.
-- Assumes nothing.
use mathlib.Core.Path.{◌≡◌, refl, sym, ap, ◌∙◌}
use mathlib.Core.Bool.{cond}
use mathlib.Core.List.{List, [], ◌∷◌, ◌++◌, append_assoc, append-nil}
use Prim.Native.Nat.{ℕ, zero, suc, ◌+◌, ◌*◌, ◌-◌, ◌≤◌, ◌<◌}
use native.Mathlib.Omega.{arith}
use lib.Dec.{eqb}
use lib.ListN.{length, drop, set, length-drop, length-append}
use lib.Seq.{sets, drop-cons, length-sets}
use Rattle.model.specs.Sizes.{max_writes}
use Rattle.model.specs.Bytes.{Bytes, part}
use Rattle.model.specs.Load.{Parsed, got, bad, bind, give}
use Rattle.model.specs.Calls.{read, put, delete, commit_to, abort}
use Rattle.model.proofs.Cases.{by_bool}
use Rattle.memory.proofs.Laws.Parts.{sets_append, part_sets}
use Rattle.model_batch.specs.Items.{max_items, Item, begins, acts, sweeps, act_kind, item_kind, is_begin}
use Rattle.model_batch.specs.Decoder.{read_item, or_end, read_items, read_batch}
use Rattle.model_batch.specs.Answers.{head_width, clash_width, kind_width, detail_width, answers_width}
use Rattle.batch_items.specs.Papers.{mark_of, marks_of}
use Rattle.batch_items.specs.Clauses.{Ends, Told, Accepted}

-- ---- widths and marks of one item more

width_more : (is : List Item) (i : Item) → answers_width (is ++ i ∷ []) ≡ answers_width is + (head_width + detail_width i)
unfolding answers_width
width_more [] i = omega arith
width_more (j ∷ is) i = omega (arith, width_more is i)

pub kind_small : (n : ℕ) → kind_width n ≤ max_writes * clash_width
unfolding kind_width
kind_small n =
    by_bool (eqb n 17)
    (λ p. rw p (omega arith))
    (λ p. by_bool (eqb n 20) (λ q. rw (p, q) (omega arith)) (λ q. rw (p, q) (omega arith)))

pub mark_kind : (i : Item) → mark_of i ≡ cond (eqb (item_kind i) 16) 1 0
unfolding mark_of is_begin item_kind act_kind
mark_kind begins = refl
mark_kind (acts w (read k)) = refl
mark_kind (acts w (put k v)) = refl
mark_kind (acts w (delete k)) = refl
mark_kind (acts w (commit_to j)) = refl
mark_kind (acts w abort) = refl
mark_kind (sweeps l) = refl

width_small : (is : List Item) → answers_width is ≤ length is * (head_width + max_writes * clash_width)
unfolding answers_width
width_small [] = omega arith
width_small (i ∷ is) = omega (arith, width_small is, kind_small (item_kind i))

marks_more : (is : List Item) (i : Item) → marks_of (is ++ i ∷ []) ≡ marks_of is ++ mark_of i ∷ []
unfolding marks_of
marks_more [] i = refl
marks_more (j ∷ is) i = ap (λ (ms : Bytes). mark_of j ∷ ms) (marks_more is i)

length_marks : (is : List Item) → length (marks_of is) ≡ length is
unfolding marks_of
length_marks [] = refl
length_marks (i ∷ is) = ap suc (length_marks is)

-- ---- items read before

abbrev after : List Item → Parsed (List Item) → Parsed (List Item)
after items m = bind m (λ is. give (items ++ is))

after_none : (m : Parsed (List Item)) → after [] m ≡ m
unfolding bind
after_none (got is p y) = refl
after_none (bad n p) = refl

after_one : (items : List Item) (i : Item) (m : Parsed (List Item))
    → after items (bind m (λ is. give (i ∷ is))) ≡ after (items ++ i ∷ []) m
unfolding bind
after_one items i (got is p y) = rw (append_assoc items (i ∷ []) is)
after_one items i (bad n p) = refl

-- no bytes are left, whatever room there is
ended : (k : ℕ) (items : List Item) (at : ℕ) → read_items k items at [] ≡ got [] at []
unfolding read_items
ended zero items at = refl
ended (suc k) items at = refl

-- what the batch is up to `at`, where `begins` has the marks over the front of `before`
pub record Halfway (x before begins : Bytes) (at n w : ℕ) : Type 0 where
  pub items : List Item
  pub inside : at ≤ length x
  pub count : n ≡ length items
  pub few : n ≤ max_items
  pub width : w ≡ answers_width items
  pub marked : begins ≡ sets before 0 (marks_of items)
  pub rest : read_batch x ≡ after items (read_items (max_items - n) items at (drop at x))

pub halfway_none : (x before : Bytes) → Halfway x before before 0 0 0
unfolding read_batch answers_width marks_of
halfway_none x before = record {
  items = [];
  inside = omega arith;
  count = refl;
  few = omega arith;
  width = refl;
  marked = refl;
  rest = sym (after_none (read_items max_items [] 0 x));
}

module _ {x before begins : Bytes} {at n w : ℕ} (t : Halfway x before begins at n w) where
  pub halfway_length : length begins ≡ length before
  halfway_length = rw t.marked (length-sets before 0 (marks_of t.items))

  pub halfway_small : w ≤ max_items * (head_width + max_writes * clash_width)
  halfway_small = omega (arith, t.width, t.count, t.few, width_small t.items)

  pub halfway_marks : max_items ≤ length before → part begins 0 n ≡ marks_of t.items
  halfway_marks h =
      let l : length (marks_of t.items) ≡ n = length_marks t.items ∙ sym t.count in
      rw (t.marked, ← l) (part_sets before 0 (marks_of t.items) (omega (arith, t.few)))

  pub halfway_end : max_items ≤ length before → length x ≤ at → Accepted x begins n w
  unfolding bind
  halfway_end r h =
      let e : at ≡ length x = omega (arith, t.inside) in
      record {
        items = t.items;
        is = t.rest ∙ rw (none_left (drop at x) (omega (arith, length-drop at x)), ended (max_items - n) t.items at, append-nil, e);
        count = t.count;
        few = t.few;
        width = t.width;
        marked = halfway_marks r;
      }
    where
      none_left : (y : Bytes) → length y ≡ 0 → y ≡ []
      none_left [] z = refl
      none_left (b ∷ y) z = absurd (omega arith)

  module _ (l : at < length x) where
    more : (u : Parsed (List Item)) → or_end at (drop at x) u ≡ u
    more u = rw (drop-cons x at 0)

    pub halfway_full : n ≡ max_items → read_batch x ≡ bad 18 at
    unfolding read_items bind
    halfway_full e = t.rest ∙ rw (e, more (bad 18 at))

    module _ (m : n ≡ max_items → ⊥) where
      left : max_items - n ≡ suc (max_items - (n + 1))
      left = omega (arith, t.few)

      pub halfway_wrong : (k : ℕ) → Told k (read_item t.items at (drop at x)) → read_batch x ≡ bad k at
      unfolding read_items bind
      halfway_wrong k f = t.rest ∙ rw (left, more _, f at)

      pub halfway_more : {i : Item} {p : ℕ} → Ends x (read_item t.items at (drop at x)) i p
          → Halfway x before (set begins n (mark_of i)) p (n + 1) (w + (head_width + detail_width i))
      unfolding read_items bind
      halfway_more {i} {p} r = record {
        items = t.items ++ i ∷ [];
        inside = r.inside;
        count = omega (arith, t.count, length-append t.items (i ∷ []));
        few = omega (arith, t.few);
        width = sym (width_more t.items i ∙ rw (← t.width));
        marked =
            let l : n ≡ 0 + length (marks_of t.items) = omega (arith, t.count, length_marks t.items) in
            rw (marks_more t.items i, sets_append before 0 (marks_of t.items) (mark_of i ∷ []), ← l, ← t.marked);
        rest = t.rest ∙ rw (left, more _, r.is) (after_one t.items i (read_items (max_items - (n + 1)) (t.items ++ i ∷ []) p (drop p x)));
      }
