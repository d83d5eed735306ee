-- What the request calls malformed has no item in front: an item's bytes say its kind, its transaction and its length.
use Prim.Native.Nat.{ℕ, zero, suc, ◌^◌, ◌≤◌, ◌<◌}
use native.Mathlib.Omega.{arith}
use mathlib.Core.Path.{◌≡◌, refl, sym, ap, ◌∙◌}
use mathlib.Core.Logic.{⊎_elim}
use mathlib.Core.Bool.{true, false}
use mathlib.Core.List.{List, [], ◌∷◌, ◌++◌, append_assoc, append-nil}
use lib.ListN.{length, take, drop, get_or, length-append, length-drop, take-append-drop}
use lib.Seq.{take_at}
use lib.Dec.{lit<}
use borrow.Author.Tests.{lt-ltb}
use Rattle.model.specs.Sizes.{tag_width}
use Rattle.model.specs.Bytes.{Bytes, are_bytes, num, bytes}
use Rattle.model.proofs.Cases.{true_false, and_intro}
use Rattle.model.proofs.Bytes.{are_bytes_split, length_bytes, num_bytes}
use Rattle.model_laws.proofs.Round.{got_rest}
use Rattle.model_batch.specs.Encoder.{dump_who, dump_act, dump_operands, dump_item, is_placed, ItemFits}
use Rattle.model_batch.specs.Items.{max_items, place_width, started, placed, Item, begins, acts, sweeps, marker, item_kind, begins_at}
use Rattle.model_batch.specs.Decoder.{read_item}
use Rattle.model_batch.specs.Statements as statements
use Rattle.model_batch.specs.Statements.{Fronts, Reserves, Wrong, no_item}
use Rattle.model_batch.proofs.Encoded.{item_kind_lem, item_got}

-- ---- a record that is cut

-- no item is the front of another
front_whole : (earlier : List Item) (i j : Item) (r : Bytes) → is_placed earlier i ≡ true → ItemFits i → is_placed earlier j ≡ true → ItemFits j
    → dump_item i ≡ dump_item j ++ r → r ≡ []
front_whole earlier i j r p f q g e =
    let a = item_got earlier i 0 [] p f in
    let b = item_got earlier j 0 r q g in
    got_rest (sym b ∙ ap (read_item earlier 0) (sym e ∙ sym (append-nil (dump_item i))) ∙ a)

cut_fronts : (earlier : List Item) (i : Item) (n : ℕ) → is_placed earlier i ≡ true → ItemFits i → n < length (dump_item i)
    → Fronts earlier (take n (dump_item i)) → ⊥
cut_fronts earlier i n p f l v =
    let d = dump_item i in
    let e : d ≡ dump_item v.item ++ (v.rest ++ drop n d) =
    sym (take-append-drop n d) ∙ ap (λ y. y ++ drop n d) v.whole ∙ append_assoc (dump_item v.item) v.rest (drop n d) in
    let z = front_whole earlier i v.item (v.rest ++ drop n d) p f v.placed v.fits e in
    omega (arith, ap length z, length-append v.rest (drop n d), length-drop n d)

cut_reserves : (i : Item) (n : ℕ) → Reserves (take n (dump_item i)) → ⊥
unfolding dump_item
cut_reserves i zero v = omega (arith, ap length v.whole)
cut_reserves i (suc zero) v = omega (arith, ap length v.whole)
cut_reserves i (suc (suc n)) v = omega (arith, ap (λ x. get_or x 1 0) v.whole, v.from, (item_kind_lem i).1)

cut_wrong : (earlier : List Item) (x : Bytes) → length earlier < max_items → 1 ≤ length x → are_bytes x ≡ true → (Fronts earlier x → ⊥)
    → (Reserves x → ⊥) → Wrong earlier x 18
cut_wrong earlier [] l h s f g = absurd (omega arith)
cut_wrong earlier (b ∷ x) l h s f g = no_item l s f g

pub cut_malformed : statements.CutMalformed
cut_malformed earlier i n l p f s h m =
    let d = dump_item i in
    let a = are_bytes_split (take n d) (drop n d) (rw (take-append-drop n d) s) in
    let k = ap length (take-append-drop n d) in
    cut_wrong earlier (take n d) l (omega (arith, length-append (take n d) (drop n d), length-drop n d)) a.0 (cut_fronts earlier i n p f m) (cut_reserves i n)

-- ---- a kind, and what comes behind it

front_mark : {earlier : List Item} {b k : ℕ} {x : Bytes} (v : Fronts earlier (b ∷ k ∷ x))
    → (b ≡ marker) × (k ≡ item_kind v.item) × (x ≡ dump_operands v.item ++ v.rest)
unfolding dump_item
front_mark v = (ap (λ x. get_or x 0 0) v.whole, ap (λ x. get_or x 1 0) v.whole, ap (drop 2) v.whole)

reserves_mark : {b k : ℕ} {x : Bytes} → Reserves (b ∷ k ∷ x) → (b ≡ marker) × (23 ≤ k) × (k ≤ 31)
reserves_mark v =
    let k = ap (λ x. get_or x 1 0) v.whole in
    (ap (λ x. get_or x 0 0) v.whole, omega (arith, v.from), omega (arith, v.up_to))

pub kind_malformed : statements.KindMalformed
kind_malformed earlier b k x l s o =
    no_item l s
    (λ v.
    let m = front_mark v in
    let i = item_kind_lem v.item in
    ⊎_elim (λ n. n m.0) (λ o. ⊎_elim (λ h. omega (arith, m.1, i.0)) (λ h. omega (arith, m.1, i.1)) o) o)
    (λ v.
    let m = reserves_mark v in
    ⊎_elim (λ n. n m.0) (λ o. ⊎_elim (λ h. omega (arith, m.1)) (λ h. omega (arith, m.2)) o) o)

-- the first bytes of a transaction
who_byte : (i : Item) (b : ℕ) (x r : Bytes) → 17 ≤ item_kind i → item_kind i ≤ 21 → (b ∷ x) ≡ dump_operands i ++ r → b ≤ 1
unfolding item_kind dump_operands dump_who bytes
who_byte begins b x r l h e = absurd (omega arith)
who_byte (acts (started t) a) b x r l h e = omega (arith, ap (λ x. get_or x 0 0) e)
who_byte (acts (placed p) a) b x r l h e = omega (arith, ap (λ x. get_or x 0 0) e)
who_byte (sweeps n) b x r l h e = absurd (omega arith)

marked : (k : ℕ) (x : Bytes) → k ≤ 21 → are_bytes x ≡ true → are_bytes (marker ∷ k ∷ x) ≡ true
unfolding are_bytes
marked k x h s = and_intro (lt-ltb marker 256 (lit< tt)) (and_intro (lt-ltb k 256 (omega arith)) s)

pub byte_malformed : statements.ByteMalformed
byte_malformed earlier k b x l g h o s =
    no_item l (marked k (b ∷ x) h s)
    (λ v. let m = front_mark v in omega (arith, who_byte v.item b x v.rest (omega (arith, m.1)) (omega (arith, m.1)) m.2))
    (λ v. omega (arith, (reserves_mark v).1))

-- a place is said by its own bytes
place_bytes : (p q : ℕ) (x y : Bytes) → p < 256 ^ place_width → q < 256 ^ place_width → (bytes place_width p ++ x) ≡ bytes place_width q ++ y → p ≡ q
place_bytes p q x y h l e =
    let f = ap (take place_width) e in
    let g = rw (take_at (bytes place_width p) x place_width (length_bytes place_width p), take_at (bytes place_width q) y place_width (length_bytes place_width q)) at f in
    sym (num_bytes place_width p h) ∙ ap num g ∙ num_bytes place_width q l

tag_zero : bytes tag_width 0 ≡ 0 ∷ []
unfolding bytes
tag_zero = refl

tag_one : bytes tag_width 1 ≡ 1 ∷ []
unfolding bytes
tag_one = refl

who_place : (earlier : List Item) (i : Item) (p : ℕ) (x r : Bytes) → 17 ≤ item_kind i → item_kind i ≤ 21 → is_placed earlier i ≡ true → ItemFits i
    → p < 256 ^ place_width → (1 ∷ (bytes place_width p ++ x)) ≡ dump_operands i ++ r → begins_at earlier p ≡ true
unfolding item_kind dump_operands dump_who is_placed
who_place earlier begins p x r l h c f n e = absurd (omega arith)
who_place earlier (acts (started t) a) p x r l h c f n e = let g = rw tag_zero at e in absurd (omega (arith, ap (λ x. get_or x 0 0) g))
who_place earlier (acts (placed q) a) p x r l h c f n e =
    let g = ap (drop 1) (rw tag_one at e) in
    let k = g ∙ append_assoc (bytes place_width q) (dump_act a) r in
    rw (place_bytes p q x (dump_act a ++ r) n f.0 k) c
who_place earlier (sweeps m) p x r l h c f n e = absurd (omega arith)

place_fronts : (earlier : List Item) (k p : ℕ) (x : Bytes) → 17 ≤ k → k ≤ 21 → p < 256 ^ place_width → begins_at earlier p ≡ false
    → Fronts earlier (marker ∷ k ∷ 1 ∷ (bytes place_width p ++ x)) → ⊥
place_fronts earlier k p x g h n z v =
    let m = front_mark {k = k} v in
    true_false (sym (who_place earlier v.item p x v.rest (omega (arith, m.1)) (omega (arith, m.1)) v.placed v.fits n m.2) ∙ z)

place_reserves : (k : ℕ) (x : Bytes) → k ≤ 21 → Reserves (marker ∷ k ∷ x) → ⊥
place_reserves k x h v = omega (arith, (reserves_mark v).1)

pub place_malformed : statements.PlaceMalformed
unfolding are_bytes
place_malformed earlier k p x l g h n z s =
    no_item l (marked k (1 ∷ (bytes place_width p ++ x)) h (and_intro (lt-ltb 1 256 (lit< tt)) s))
    (place_fronts earlier k p x g h n z) (place_reserves k _ h)
