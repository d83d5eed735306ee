-- Where decoding stops: at what is wrong, with its refusal and its offset; and what it does not accept is wrong.
use Prim.Native.Nat.{ℕ, zero, suc, ◌+◌, ◌-◌, ◌*◌, ◌/◌, ◌%◌, ◌≤◌, ◌<◌}
use native.Mathlib.Omega.{arith}
use mathlib.Core.Path.{◌≡◌, refl, sym, ap, subst, ◌∙◌}
use mathlib.Core.Bool.{Bool, true, false, not, cond}
use mathlib.Core.List.{List, [], ◌∷◌, ◌++◌, append_assoc, append-nil}
use lib.ListN.{length, length-append}
use lib.Dec.{ltb, eqb}
use borrow.Author.Tests.{ltb-true, eqb-true, eqb-false}
use Rattle.model.specs.Sizes.{mark_width, number_width, count_width, tag_width}
use Rattle.model.specs.Bytes.{Bytes, are_bytes, num}
use Rattle.model.specs.Sound.{within}
use Rattle.model.specs.Load.{Parsed, got, bad, Parser, bind, give, fault, number_field}
use Rattle.model.specs.Calls.{read, put, delete, commit, abort}
use Rattle.model.proofs.Cases.{by_bool, and_intro, and_left, within_le, le_within}
use Rattle.model_laws.proofs.Round.{bad_got}
use Rattle.model_laws.proofs.Journal.{Comes, gets, fails, bad_number, comes_bind, comes_field, field_got, field_bad, field_cut}
use Rattle.model_batch.specs.Encoder.{dump_item, dump_items, is_placed, all_placed, ItemFits, AllFit, Proper}
use Rattle.model_batch.specs.Items.{max_items, place_width, started, placed, Item, begins, acts, sweeps, marker, begins_at}
use Rattle.model_batch.specs.Decoder.{mark_fault, read_text, read_who, read_act, read_operands, read_item, read_items, read_batch}
use Rattle.model_batch.specs.Statements as statements
use Rattle.model_batch.specs.Statements.{Fronts, Reserves, Wrong, too_many, reserved, no_item, Judged, whole, spoilt}
use Rattle.model_batch.proofs.Decoded.{takes_item}
use Rattle.model_batch.proofs.Encoded.{item_got, behind, reads_behind}

-- ---- only a mark is refused 19

abbrev Not19 : ℕ → Type 0
Not19 n = n ≡ 19 → ⊥

abbrev Plain : {A : Type 0} → Parser A → Type 0
Plain {A} m = (at : ℕ) (x : Bytes) → Comes (λ (a : A). Unit {0}) Not19 (m at x)

plain_then : {A B : Type 0} {m : Parser A} {f : A → Parser B} → Plain m → ((a : A) → Plain (f a)) → Plain (λ at x. bind (m at x) f)
plain_then {f = f} c d at x = comes_bind f (c at x) (λ a p r h. d a p r)

plain_cond : {A : Type 0} (b : Bool) {m n : Parser A} → Plain m → Plain n → Plain (cond b m n)
plain_cond true c d = c
plain_cond false c d = d

plain_give : {A : Type 0} (a : A) → Plain (give a)
plain_give a at x = gets tt

plain_number : (n : ℕ) (f : ℕ → ℕ) → ((v : ℕ) → f v ≡ 19 → ⊥) → Plain (number_field n f)
unfolding number_field
plain_number n f h at x = comes_bind _ (comes_field n (λ b. f (num b)) at x (λ e. omega arith) (λ b z. h (num b))) (λ b p r z. gets tt)

one_fault : (b : Bool) → fault ((b, 18) ∷ []) ≡ 19 → ⊥
unfolding fault
one_fault true e = omega arith
one_fault false e = omega arith

forget : {A : Type 0} {P : A → Type 0} {Q : ℕ → Type 0} {w : Parsed A} → Comes P Q w → Comes (λ (a : A). Unit {0}) Q w
forget (gets h) = gets tt
forget (fails h) = fails h

plain_text : Plain read_text
unfolding read_text
plain_text =
    plain_then (plain_number count_width (λ v. 0) (λ v e. omega arith))
    (λ n at x. forget (comes_field n (λ b. 0) at x (λ e. omega arith) (λ b z e. omega arith)))

plain_who : (earlier : List Item) → Plain (read_who earlier)
unfolding read_who
plain_who earlier =
    plain_then (plain_number tag_width _ (λ n. one_fault (ltb 1 n))) (λ b. plain_cond (eqb b 0)
    (plain_then (plain_number number_width (λ v. 0) (λ v e. omega arith)) (λ t. plain_give (started t)))
    (plain_then (plain_number place_width _ (λ p. one_fault (not (begins_at earlier p)))) (λ p. plain_give (placed p))))

plain_act : (k : ℕ) → Plain (read_act k)
unfolding read_act
plain_act k =
    plain_cond (eqb k 17) (plain_then plain_text (λ x. plain_give (read x)))
    (plain_cond (eqb k 18) (plain_then plain_text (λ x. plain_then plain_text (λ v. plain_give (put x v))))
    (plain_cond (eqb k 19) (plain_then plain_text (λ x. plain_give (delete x)))
    (plain_cond (eqb k 20) (plain_give commit) (plain_give abort))))

plain_operands : (earlier : List Item) (k : ℕ) → Plain (read_operands earlier k)
unfolding read_operands
plain_operands earlier k =
    plain_cond (eqb k 16) (plain_give begins)
    (plain_cond (eqb k 22) (plain_then (plain_number number_width (λ v. 0) (λ v e. omega arith)) (λ l. plain_give (sweeps l)))
    (plain_then (plain_who earlier) (λ w. plain_then (plain_act k) (λ a. plain_give (acts w a)))))

-- ---- marks

-- a mark that is refused 19 is reserved
mark_reserved : (b c : ℕ) → b < 256 → mark_fault (num (b ∷ c ∷ [])) ≡ 19 → (b ≡ marker) × (23 ≤ c) × (c ≤ 31)
unfolding mark_fault fault num
mark_reserved b c h e =
    let n = b + 256 * (c + 256 * 0) in
    let m : n % 256 ≡ b = omega arith in
    let d : n / 256 ≡ c = omega arith in
    let f : ◌≡◌ {A = ℕ} (cond (not (eqb b marker)) 18 (cond (within 23 31 c) 19 (cond (not (within 16 22 c)) 18 0))) 19 = rw (m, d) at e in
    by_bool (eqb b marker)
    (λ p. by_bool (within 23 31 c)
    (λ q. let w = within_le 23 31 c q in (eqb-true b marker p, w.0, w.1))
    (λ q. by_bool (within 16 22 c) (λ r. absurd (omega (arith, rw (p, q, r) at f))) (λ r. absurd (omega (arith, rw (p, q, r) at f)))))
    (λ p. absurd (omega (arith, rw p at f)))

reserved_mark : (c : ℕ) → 23 ≤ c → c ≤ 31 → mark_fault (num (marker ∷ c ∷ [])) ≡ 19
unfolding mark_fault fault num
reserved_mark c l h =
    let m : (marker + 256 * (c + 256 * 0)) % 256 ≡ marker = omega arith in
    let d : (marker + 256 * (c + 256 * 0)) / 256 ≡ c = omega arith in
    rw (m, d, le_within 23 31 c l h)

failed : {A : Type 0} {P : A → Type 0} {Q : ℕ → Type 0} {w : Parsed A} {n q : ℕ} → Comes P Q w → w ≡ bad n q → Q n
failed (gets h) e = bad_got (sym e)
failed {Q = Q} (fails h) e = subst Q (bad_number e) h

-- an item that is refused 19 is reserved
item_19 : (earlier : List Item) (at : ℕ) (x : Bytes) (q : ℕ) → are_bytes x ≡ true → read_item earlier at x ≡ bad 19 q → Reserves x
unfolding read_item number_field bind are_bytes
item_19 earlier at [] q s e = absurd (omega (arith, bad_number (rw (field_cut mark_width (λ b. mark_fault (num b)) [] at (omega arith)) at e)))
item_19 earlier at (b ∷ []) q s e = absurd (omega (arith, bad_number (rw (field_cut mark_width (λ b. mark_fault (num b)) (b ∷ []) at (omega arith)) at e)))
item_19 earlier at (b ∷ c ∷ x) q s e =
    let k = mark_fault (num (b ∷ c ∷ [])) in
    by_bool (eqb k 0)
    (λ z.
    let g = rw (field_got mark_width (λ b. mark_fault (num b)) (b ∷ c ∷ []) x at refl (eqb-true k 0 z)) at e in
    absurd (failed (plain_operands earlier (num (b ∷ c ∷ []) / 256) (at + mark_width) x) g refl))
    (λ z.
    let g = rw (field_bad mark_width (λ b. mark_fault (num b)) (b ∷ c ∷ []) x at refl (eqb-false k 0 z)) at e in
    let w = mark_reserved b c (ltb-true b 256 (and_left (ltb b 256) _ s)) (bad_number g) in
    record { kind = c; rest = x; from = w.1; up_to = w.2; whole = rw w.0 })

item_reserved : (earlier : List Item) (at : ℕ) (x : Bytes) → Reserves x → read_item earlier at x ≡ bad 19 at
unfolding read_item number_field bind
item_reserved earlier at x v =
    let k = v.kind in
    let z = reserved_mark k v.from v.up_to in
    rw (v.whole, field_bad mark_width (λ b. mark_fault (num b)) (marker ∷ k ∷ []) v.rest at refl (λ e. omega arith), z)

-- ---- what is wrong stops the decoder

no_item_read : (earlier : List Item) (at b : ℕ) (x : Bytes) (m : ℕ) → are_bytes (b ∷ x) ≡ true
    → (Fronts earlier (b ∷ x) → ⊥) → (Reserves (b ∷ x) → ⊥) → read_items (suc m) earlier at (b ∷ x) ≡ bad 18 at
unfolding read_items bind
no_item_read earlier at b x m s f g = go (read_item earlier at (b ∷ x)) refl
  where
    go : (w : Parsed Item) → read_item earlier at (b ∷ x) ≡ w → read_items (suc m) earlier at (b ∷ x) ≡ bad 18 at
    go (got i p r) e =
        let t = takes_item earlier at (b ∷ x) i p r s e in
        absurd (f (record { item = i; rest = r; placed = t.1.0; fits = t.1.2; whole = t.0.whole }))
    go (bad k p) e =
        by_bool (eqb k 19)
        (λ z. absurd (g (item_19 earlier at (b ∷ x) p s (e ∙ ap (λ k. bad k p) (eqb-true k 19 z)))))
        (λ z. rw (e, z))

wrong_stops : (earlier : List Item) (at : ℕ) (x : Bytes) (n left : ℕ) → length earlier + left ≡ max_items → Wrong earlier x n
    → read_items left earlier at x ≡ bad n at
unfolding read_items bind
wrong_stops earlier at x n zero l (too_many e) = refl
wrong_stops earlier at x n (suc m) l (too_many e) = absurd (omega arith)
wrong_stops earlier at x n zero l (reserved h v) = absurd (omega arith)
wrong_stops earlier at x n (suc m) l (reserved h v) = rw (item_reserved earlier at _ v)
wrong_stops earlier at x n zero l (no_item h s f g) = absurd (omega arith)
wrong_stops earlier at x n (suc m) l (no_item h s f g) = no_item_read earlier at _ _ m s f g

nothing_left : (left : ℕ) (earlier : List Item) (at : ℕ) → read_items left earlier at [] ≡ got [] at []
unfolding read_items
nothing_left zero earlier at = refl
nothing_left (suc n) earlier at = refl

-- the decoder over items, and what is behind them
decodes : (is : List Item) (x : Bytes) → Proper is
    → read_batch (dump_items is ++ x) ≡ behind is (read_items (max_items - length is) is (length (dump_items is)) x)
unfolding read_batch
decodes is x p =
    let e : max_items ≡ length is + (max_items - length is) = omega (arith, p.few) in
    let z : 0 + length (dump_items is) ≡ length (dump_items is) = omega arith in
    ap (λ k. read_items k [] 0 (dump_items is ++ x)) e ∙ (rw z at (reads_behind is (max_items - length is) [] 0 x p.places p.fit))

pub reads_whole : (is : List Item) → Proper is → read_batch (dump_items is) ≡ got is (length (dump_items is)) []
unfolding behind
reads_whole is p =
    let e = decodes is [] p in
    let g = rw (append-nil (dump_items is), nothing_left (max_items - length is) is (length (dump_items is))) at e in
    g ∙ ap (λ js. got js (length (dump_items is)) []) (append-nil is)

pub reads_wrong : (is : List Item) (x : Bytes) (n : ℕ) → Proper is → Wrong is x n
    → read_batch (dump_items is ++ x) ≡ bad n (length (dump_items is))
unfolding behind
reads_wrong is x n p w =
    let left : ℕ = max_items - length is in
    decodes is x p ∙ ap (behind is) (wrong_stops is (length (dump_items is)) x n left (omega (arith, p.few)) w)

-- ---- what is no batch has something wrong in it

-- x is items after the earlier ones, at most `left`, or some and then what is wrong
data Parts (earlier : List Item) (left : ℕ) (x : Bytes) : Type 0 where
  items : (is : List Item) → all_placed earlier is ≡ true → AllFit is → length is ≤ left → x ≡ dump_items is → Parts earlier left x
  stops : (is : List Item) (y : Bytes) (n : ℕ) → all_placed earlier is ≡ true → AllFit is → length is ≤ left
      → Wrong (earlier ++ is) y n → x ≡ dump_items is ++ y → Parts earlier left x

stops_here : (earlier : List Item) (left : ℕ) (x : Bytes) (n : ℕ) → Wrong earlier x n → Parts earlier left x
unfolding dump_items all_placed
stops_here earlier left x n w = stops [] x n refl tt (omega arith) (rw (append-nil earlier) w) refl

ends_here : (earlier : List Item) (left : ℕ) → Parts earlier left []
unfolding dump_items all_placed
ends_here earlier left = items [] refl tt (omega arith) refl

one_more : (earlier : List Item) (left : ℕ) (x r : Bytes) (i : Item) → is_placed earlier i ≡ true → ItemFits i → x ≡ dump_item i ++ r
    → Parts (earlier ++ i ∷ []) left r → Parts earlier (suc left) x
unfolding dump_items all_placed
one_more earlier left x r i p f e (items is q g l h) = items (i ∷ is) (and_intro p q) (f, g) (omega arith) (e ∙ ap (λ y. dump_item i ++ y) h)
one_more earlier left x r i p f e (stops is y n q g l w h) =
    stops (i ∷ is) y n (and_intro p q) (f, g) (omega arith) (rw (append_assoc earlier (i ∷ []) is) at w)
    (e ∙ ap (λ y. dump_item i ++ y) h ∙ sym (append_assoc (dump_item i) (dump_items is) y))

got_bad : {A Z : Type 0} {a : A} {n p q : ℕ} {r : Bytes} → got a q r ≡ bad n p → Z
got_bad e = bad_got (sym e)

pub not_read : (earlier : List Item) (at b : ℕ) (x : Bytes) (k p : ℕ) → length earlier < max_items → are_bytes (b ∷ x) ≡ true
    → read_item earlier at (b ∷ x) ≡ bad k p → (n : ℕ) × Wrong earlier (b ∷ x) n
not_read earlier at b x k p l s e =
    by_bool (eqb k 19)
    (λ z. (19, reserved l (item_19 earlier at (b ∷ x) p s (e ∙ ap (λ k. bad k p) (eqb-true k 19 z)))))
    (λ z. (
      18,
      no_item l s
          (λ f. got_bad (sym (item_got earlier f.item at f.rest f.placed f.fits) ∙ ap (read_item earlier at) (sym f.whole) ∙ e))
          (λ v. eqb-false k 19 z (sym (bad_number (sym (item_reserved earlier at (b ∷ x) v) ∙ e)))),
    ))

next_part : (m : ℕ) (earlier : List Item) (b : ℕ) (x : Bytes) → length earlier < max_items → are_bytes (b ∷ x) ≡ true
    → ((i : Item) (r : Bytes) → are_bytes r ≡ true → Parts (earlier ++ i ∷ []) m r) → Parts earlier (suc m) (b ∷ x)
next_part m earlier b x l s f = go (read_item earlier 0 (b ∷ x)) refl
  where
    go : (w : Parsed Item) → read_item earlier 0 (b ∷ x) ≡ w → Parts earlier (suc m) (b ∷ x)
    go (got i p r) e =
        let t = takes_item earlier 0 (b ∷ x) i p r s e in
        one_more earlier m (b ∷ x) r i t.1.0 t.1.2 t.0.whole (f i r t.0.rest)
    go (bad k p) e = let w = not_read earlier 0 b x k p l s e in stops_here earlier (suc m) (b ∷ x) w.0 w.1

parts : (left : ℕ) (earlier : List Item) (x : Bytes) → length earlier + left ≡ max_items → are_bytes x ≡ true → Parts earlier left x
parts zero earlier [] l s = ends_here earlier zero
parts zero earlier (b ∷ x) l s = stops_here earlier zero (b ∷ x) 18 (too_many (omega arith))
parts (suc m) earlier [] l s = ends_here earlier (suc m)
parts (suc m) earlier (b ∷ x) l s =
    next_part m earlier b x (omega arith) s (λ i r t. parts m (earlier ++ i ∷ []) r (omega (arith, length-append earlier (i ∷ []))) t)

judged : {x : Bytes} → Parts [] max_items x → Judged x
judged (items is p f l e) = rw e (whole is (record { places = p; fit = f; few = l }))
judged (stops is y n p f l w e) = rw e (spoilt is y n (record { places = p; fit = f; few = l }) w)

pub batch_judged : statements.BatchJudged
batch_judged x s = judged (parts max_items [] x refl s)

pub batch_verdict : statements.BatchVerdict
batch_verdict x (whole is p) = reads_whole is p
batch_verdict x (spoilt is y n p w) = reads_wrong is y n p w
