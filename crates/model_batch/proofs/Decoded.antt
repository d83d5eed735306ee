-- What the decoder accepts: items in their own bytes, places of earlier begins, numbers that fit, at most 4,096.
use Prim.Native.Nat.{ℕ, zero, suc, ◌/◌, ◌%◌, ◌^◌, ◌≤◌, ◌<◌}
use native.Mathlib.Omega.{arith}
use mathlib.Core.Path.{◌≡◌, refl, sym}
use mathlib.Core.Bool.{true}
use mathlib.Core.List.{List, [], ◌∷◌, ◌++◌}
use lib.ListN.{length}
use lib.Dec.{eqb}
use borrow.Author.Tests.{ltb-false, eqb-true, eqb-false, not-false}
use Rattle.model.specs.Sizes.{mark_width, number_width, tag_width}
use Rattle.model.specs.Bytes.{Bytes, are_bytes, bytes}
use Rattle.model.specs.Load.{Parsed, got, bad}
use Rattle.model.specs.Calls.{Act}
use Rattle.model.specs.History.{act_in_bytes}
use Rattle.model.proofs.Cases.{by_bool, and_intro, within_le}
use Rattle.model_laws.proofs.Round.{bind_got, took_then, Takes, got_what, got_rest, bad_got, after, takes_field, takes_number, fault_none}
use Rattle.model_batch.specs.Encoder.{dump_who, dump_text, dump_act, dump_operands, dump_item, dump_items, is_placed, all_placed, WhoFits, TextFits, ActFits, ItemFits, AllFit, item_in_bytes, items_in_bytes}
use Rattle.model_batch.specs.Items.{max_items, place_width, Item, acts, marker, act_kind, item_kind}
use Rattle.model_batch.specs.Decoder.{mark_fault, read_text, read_who, read_act, read_operands, read_item, malformed, read_items, read_batch}
use Rattle.model_batch.specs.Statements as statements
-- the whiteboard is checked first, so that a wrong definition is told by the case it breaks
use Rattle.model_batch.specs.Board

takes_text : Takes read_text dump_text (λ b. (are_bytes b ≡ true) × TextFits b)
unfolding read_text dump_text
takes_text at x b q r s e =
    after _ (takes_number _ _) s e (λ n _ _ t f e.
    let u = takes_field n (λ b. 0) _ _ b q r t.rest e in
    rw u.1.1 (took_then t u.0, (u.1.0, f.0)))

takes_who : (earlier : List Item) → Takes (read_who earlier) dump_who (λ w. ((a : Act) → is_placed earlier (acts w a) ≡ true) × WhoFits w)
unfolding read_who dump_who is_placed
takes_who earlier at x w q r s e =
    after _ (takes_number tag_width _) s e (λ b _ _ t f e.
    by_bool (eqb b 0)
    (λ z. after _ (takes_number number_width _) t.rest (rw z at e) (λ v _ _ u g e.
    rw (← got_what e, ← got_rest e) (took_then (rw (eqb-true b 0 z) at t) u, (λ a. refl, g.0))))
    (λ z. after _ (takes_number place_width _) t.rest (rw z at e) (λ p _ _ u g e.
    let one : b ≡ 1 = omega (arith, eqb-false b 0 z, ltb-false 1 b (fault_none _ _ _ f.1).0) in
    rw (← got_what e, ← got_rest e) (took_then (rw one at t) u, (λ a. not-false _ (fault_none _ _ _ g.1).0, g.0)))))

takes_act : (k : ℕ) → 17 ≤ k → k ≤ 21 → Takes (read_act k) dump_act (λ a. (act_kind a ≡ k) × (act_in_bytes a ≡ true) × ActFits a)
unfolding read_act dump_act act_kind act_in_bytes
takes_act k l h at x a q r s e =
    by_bool (eqb k 17)
    (λ z. after _ takes_text s (rw z at e) (λ b _ _ t f e. rw (← got_what e, ← got_rest e) (t, (sym (eqb-true k 17 z), f.0, f.1))))
    (λ z₁. by_bool (eqb k 18)
    (λ z. after _ takes_text s (rw (z₁, z) at e) (λ b _ _ t f e. after _ takes_text t.rest e (λ v _ _ u g e.
    rw (← got_what e, ← got_rest e) (took_then t u, (sym (eqb-true k 18 z), and_intro f.0 g.0, (f.1, g.1))))))
    (λ z₂. by_bool (eqb k 19)
    (λ z. after _ takes_text s (rw (z₁, z₂, z) at e) (λ b _ _ t f e. rw (← got_what e, ← got_rest e) (t, (sym (eqb-true k 19 z), f.0, f.1))))
    (λ z₃. by_bool (eqb k 20)
    (λ z. let g = rw (z₁, z₂, z₃, z) at e in rw (← got_what g, ← got_rest g) (record { whole = refl; rest = s }, (sym (eqb-true k 20 z), refl, refl)))
    (λ z₄.
    let g = rw (z₁, z₂, z₃, z₄) at e in
    let last : 21 ≡ k = omega (arith, eqb-false k 17 z₁, eqb-false k 18 z₂, eqb-false k 19 z₃, eqb-false k 20 z₄) in
    rw (← got_what g, ← got_rest g) (record { whole = refl; rest = s }, (last, refl, tt))))))

takes_operands : (earlier : List Item) (k : ℕ) → 16 ≤ k → k ≤ 22
    → Takes (read_operands earlier k) dump_operands (λ i. (item_kind i ≡ k) × (is_placed earlier i ≡ true) × (item_in_bytes i ≡ true) × ItemFits i)
unfolding read_operands dump_operands item_kind is_placed item_in_bytes
takes_operands earlier k l h at x i q r s e =
    by_bool (eqb k 16)
    (λ z. let g = rw z at e in rw (← got_what g, ← got_rest g) (record { whole = refl; rest = s }, (sym (eqb-true k 16 z), refl, refl, tt)))
    (λ z₁. by_bool (eqb k 22)
    (λ z. after _ (takes_number number_width _) s (rw (z₁, z) at e) (λ v _ _ t f e. rw (← got_what e, ← got_rest e) (t, (sym (eqb-true k 22 z), refl, refl, f.0))))
    (λ z₂. after _ (takes_who earlier) s (rw (z₁, z₂) at e) (λ w _ _ t f e.
    after _ (takes_act k (omega (arith, eqb-false k 16 z₁)) (omega (arith, eqb-false k 22 z₂))) t.rest e (λ a _ _ u g e.
    rw (← got_what e, ← got_rest e) (took_then t u, (g.0, f.0 a, g.1, (f.1, g.2)))))))

-- the two bytes of a mark
mark_parts : (n : ℕ) → n < 256 ^ mark_width → mark_fault n ≡ 0 → (bytes mark_width n ≡ marker ∷ (n / 256) ∷ []) × (16 ≤ n / 256) × (n / 256 ≤ 22)
unfolding mark_fault bytes
mark_parts n h z =
    let a = fault_none _ _ _ z in
    let b = fault_none _ _ _ a.1 in
    let c = fault_none _ _ _ b.1 in
    let w = within_le 16 22 (n / 256) (not-false _ c.0) in
    let m : n % 256 ≡ marker = eqb-true _ _ (not-false _ a.0) in
    let k : (n / 256) % 256 ≡ n / 256 = omega (arith, w.1) in
    (rw (m, k), w.0, w.1)

pub takes_item : (earlier : List Item) → Takes (read_item earlier) dump_item (λ i. (is_placed earlier i ≡ true) × (item_in_bytes i ≡ true) × ItemFits i)
unfolding read_item dump_item
takes_item earlier at x i q r s e =
    after _ (takes_number mark_width _) s e (λ n p y t f e.
    let k = mark_parts n f.0 f.1 in
    let u = takes_operands earlier (n / 256) k.1 k.2 p y i q r t.rest e in
    rw u.1.0 (rw k.0 at (took_then t u.0), (u.1.1, u.1.2, u.1.3)))

well_formed : {A : Type 0} {a : A} {q : ℕ} {r : Bytes} (at : ℕ) (w : Parsed A) → malformed at w ≡ got a q r → w ≡ got a q r
well_formed at (got a p r) e = e
well_formed at (bad n p) e = bad_got e

pub record Accepted (earlier : List Item) (left : ℕ) (x : Bytes) (is : List Item) : Type 0 where
  pub whole : dump_items is ≡ x
  pub places : all_placed earlier is ≡ true
  pub few : length is ≤ left
  pub bytes : items_in_bytes is ≡ true
  pub fit : AllFit is

accepts : (left : ℕ) (earlier : List Item) (at : ℕ) (x : Bytes) (is : List Item) (q : ℕ) (r : Bytes) → are_bytes x ≡ true
    → read_items left earlier at x ≡ got is q r → Accepted earlier left x is
unfolding read_items dump_items all_placed items_in_bytes
accepts zero earlier at [] is q r s e = rw (← got_what e) (record { whole = refl; places = refl; few = omega arith; bytes = refl; fit = tt })
accepts zero earlier at (b ∷ x) is q r s e = bad_got e
accepts (suc n) earlier at [] is q r s e = rw (← got_what e) (record { whole = refl; places = refl; few = omega arith; bytes = refl; fit = tt })
accepts (suc n) earlier at (b ∷ x) is q r s e =
    bind_got (malformed at (read_item earlier at (b ∷ x))) _ e (λ i p y g e. bind_got _ _ e (λ js p' z h e.
    let t = takes_item earlier at (b ∷ x) i p y s (well_formed at (read_item earlier at (b ∷ x)) g) in
    let u = accepts n (earlier ++ i ∷ []) p y js p' z t.0.rest h in
    rw (← got_what e) (record {
      whole = rw u.whole (sym t.0.whole);
      places = and_intro t.1.0 u.places;
      few = omega (arith, u.few);
      bytes = and_intro t.1.1 u.bytes;
      fit = (t.1.2, u.fit);
    })))

pub batch_exact : statements.BatchExact
unfolding read_batch
batch_exact x is q r s e =
    let a = accepts max_items [] 0 x is q r s e in
    (a.whole, record { places = a.places; fit = a.fit; few = a.few }, a.bytes)
