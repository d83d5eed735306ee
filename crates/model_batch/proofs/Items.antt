-- The items of a batch one by one: a front and its next item are a front, and each item stands behind a front.
use Prim.Native.Nat.{◌+◌}
use native.Mathlib.Omega.{arith}
use mathlib.Core.Path.{◌≡◌, refl, sym, ap, ◌∙◌}
use mathlib.Core.Bool.{true}
use mathlib.Core.List.{List, [], ◌∷◌, ◌++◌, append_assoc, append-nil}
use lib.ListN.{length-append}
use Rattle.model.proofs.Cases.{and_intro, and_left, and_right}
use Rattle.model_batch.specs.Encoder.{dump_item, dump_items, is_placed, all_placed, AllFit}
use Rattle.model_batch.specs.Items.{Item}
use Rattle.model_batch.specs.Answers.{head_width, detail_width, answers_width}
use Rattle.model_batch.specs.Statements as statements

placed_append : (earlier a b : List Item) → all_placed earlier a ≡ true → all_placed (earlier ++ a) b ≡ true → all_placed earlier (a ++ b) ≡ true
unfolding all_placed
placed_append earlier [] b p q = rw (append-nil earlier) at q
placed_append earlier (i ∷ a) b p q =
    and_intro (and_left (is_placed earlier i) (all_placed (earlier ++ i ∷ []) a) p)
    (placed_append (earlier ++ i ∷ []) a b (and_right (is_placed earlier i) (all_placed (earlier ++ i ∷ []) a) p) (rw (append_assoc earlier (i ∷ []) a) q))

placed_split : (earlier a b : List Item) → all_placed earlier (a ++ b) ≡ true → (all_placed earlier a ≡ true) × (all_placed (earlier ++ a) b ≡ true)
unfolding all_placed
placed_split earlier [] b p = (refl, rw (append-nil earlier) p)
placed_split earlier (i ∷ a) b p =
    let r = placed_split (earlier ++ i ∷ []) a b (and_right (is_placed earlier i) (all_placed (earlier ++ i ∷ []) (a ++ b)) p) in
    (and_intro (and_left (is_placed earlier i) (all_placed (earlier ++ i ∷ []) (a ++ b)) p) r.0, rw (append_assoc earlier (i ∷ []) a) at r.1)

fit_append : (a b : List Item) → AllFit a → AllFit b → AllFit (a ++ b)
fit_append [] b p q = q
fit_append (i ∷ a) b p q = (p.0, fit_append a b p.1 q)

fit_split : (a b : List Item) → AllFit (a ++ b) → AllFit a × AllFit b
fit_split [] b p = (tt, p)
fit_split (i ∷ a) b p = let r = fit_split a b p.1 in ((p.0, r.0), r.1)

dump_append : (a b : List Item) → dump_items (a ++ b) ≡ dump_items a ++ dump_items b
unfolding dump_items
dump_append [] b = refl
dump_append (i ∷ a) b = ap (λ x. dump_item i ++ x) (dump_append a b) ∙ sym (append_assoc (dump_item i) (dump_items a) (dump_items b))

width_more : (is : List Item) (i : Item) → answers_width (is ++ i ∷ []) ≡ answers_width is + (head_width + detail_width i)
unfolding answers_width
width_more [] i = omega arith
width_more (j ∷ is) i = omega (arith, width_more is i)

pub items_grow : statements.ItemsGrow
unfolding all_placed dump_items
items_grow is i p l q f = record {
  proper = record {
    places = placed_append [] is (i ∷ []) p.places (and_intro q refl);
    fit = fit_append is (i ∷ []) p.fit (f, tt);
    few = omega (arith, length-append is (i ∷ []));
  };
  bytes = dump_append is (i ∷ []) ∙ ap (λ x. dump_items is ++ x) (append-nil (dump_item i));
  width = width_more is i;
}

pub items_front : statements.ItemsFront
unfolding all_placed
items_front is i js p =
    let q = placed_split [] is (i ∷ js) p.places in
    let f = fit_split is (i ∷ js) p.fit in
    let l = length-append is (i ∷ js) in (
      record { places = q.0; fit = f.0; few = omega (arith, p.few) },
      omega (arith, p.few),
      and_left (is_placed is i) (all_placed (is ++ i ∷ []) js) q.1,
      f.1.0,
    )
