-- Items in their own bytes are decoded, each behind the one before, and the offset goes on by what was taken.
use Prim.Native.Nat.{ℕ, suc, ◌+◌, ◌*◌, ◌/◌, ◌%◌, ◌≤◌}
use native.Mathlib.Omega.{arith}
use mathlib.Core.Path.{◌≡◌, refl, ap, ◌∙◌}
use mathlib.Core.Bool.{Bool, true, false, cond}
use mathlib.Core.List.{List, [], ◌∷◌, ◌++◌, append_assoc, append-nil}
use lib.ListN.{length, take, length-append, length-drop}
use lib.Dec.{ltb, eqb, lit<}
use borrow.Author.Tests.{ltb-false, ne_eqb, lt-leb}
use Rattle.model.specs.Sizes.{mark_width, number_width, count_width, tag_width}
use Rattle.model.specs.Bytes.{Bytes, num, bytes}
use Rattle.model.specs.Load.{Parsed, got, bad, Parser, bind, give, fault, field, number_field}
use Rattle.model.specs.Calls.{Act, read, put, delete, commit, commit_to, abort}
use Rattle.model.proofs.Cases.{by_bool, and_left, and_right, le_within}
use Rattle.model_laws.proofs.Round.{bind_got, got_rest, got_at, bad_got, Reads, then, gives, reads_field, reads_number}
use Rattle.model_batch.specs.Encoder.{dump_who, dump_text, dump_act, dump_operands, dump_item, dump_items, is_placed, all_placed, WhoFits, TextFits, ActFits, ItemFits, AllFit}
use Rattle.model_batch.specs.Items.{place_width, Who, started, placed, Item, begins, acts, sweeps, marker, act_kind, item_kind}
use Rattle.model_batch.specs.Decoder.{mark_fault, read_text, read_who, read_act, read_operands, read_item, read_items}

-- ---- one item

reads_text : (b : Bytes) {r : Bytes} → TextFits b → Reads read_text (dump_text b ++ r) b r
unfolding read_text dump_text
reads_text b h = simp append_assoc (then _ (reads_number count_width _ (length b) h refl) (reads_field (length b) _ b refl refl))

reads_who : (earlier : List Item) (w : Who) {r : Bytes} → is_placed earlier (acts w abort) ≡ true → WhoFits w → Reads (read_who earlier) (dump_who w ++ r) w r
unfolding read_who dump_who is_placed fault
reads_who earlier (started t) p h = simp append_assoc (then _ (reads_number tag_width _ 0 (lit< tt) refl) (then _ (reads_number number_width _ t h refl) gives))
reads_who earlier (placed n) p h = simp append_assoc (then _ (reads_number tag_width _ 1 (lit< tt) refl) (then _ (reads_number place_width _ n h (rw p)) gives))

reads_act : (a : Act) {r : Bytes} → ActFits a → Reads (read_act (act_kind a)) (dump_act a ++ r) a r
unfolding read_act act_kind dump_act
reads_act (read k) h = then _ (reads_text k h) gives
reads_act (put k v) h = simp append_assoc (then _ (reads_text k h.0) (then _ (reads_text v h.1) gives))
reads_act (delete k) h = then _ (reads_text k h) gives
reads_act (commit_to j) h = rw h gives
reads_act abort h = gives

placed_any : (earlier : List Item) (w : Who) (a b : Act) → is_placed earlier (acts w a) ≡ is_placed earlier (acts w b)
unfolding is_placed
placed_any earlier (started t) a b = refl
placed_any earlier (placed p) a b = refl

act_kind_lem : (a : Act) → (17 ≤ act_kind a) × (act_kind a ≤ 21)
unfolding act_kind
act_kind_lem (read k) = omega arith
act_kind_lem (put k v) = omega arith
act_kind_lem (delete k) = omega arith
act_kind_lem (commit_to j) = omega arith
act_kind_lem abort = omega arith

reads_operands : (earlier : List Item) (i : Item) {r : Bytes} → is_placed earlier i ≡ true → ItemFits i
    → Reads (read_operands earlier (item_kind i)) (dump_operands i ++ r) i r
unfolding read_operands item_kind dump_operands
reads_operands earlier begins p h = gives
reads_operands earlier (acts w a) p h =
    let k = act_kind_lem a in
    rw (ne_eqb (act_kind a) 16 (λ e. omega (arith, k.0)), ne_eqb (act_kind a) 22 (λ e. omega (arith, k.1)))
    (simp append_assoc (then _ (reads_who earlier w (rw (placed_any earlier w a abort) at p) h.0) (then _ (reads_act a h.1) gives)))
reads_operands earlier (sweeps l) p h = then _ (reads_number number_width _ l h refl) gives

pub item_kind_lem : (i : Item) → (16 ≤ item_kind i) × (item_kind i ≤ 22)
unfolding item_kind
item_kind_lem begins = omega arith
item_kind_lem (acts w a) = omega (arith, (act_kind_lem a).0, (act_kind_lem a).1)
item_kind_lem (sweeps l) = omega arith

kind_none : (k : ℕ) → 16 ≤ k → k ≤ 22
    → (mark_fault (marker + 256 * k) ≡ 0) × ((marker + 256 * k) / 256 ≡ k) × (bytes mark_width (marker + 256 * k) ≡ marker ∷ k ∷ [])
unfolding mark_fault fault bytes
kind_none k l h =
    let m : (marker + 256 * k) % 256 ≡ marker = omega arith in
    let d : (marker + 256 * k) / 256 ≡ k = omega arith in
    let z : k % 256 ≡ k = omega arith in
    (rw (m, d, lt-leb 23 k (omega arith), le_within 16 22 k l h), d, rw (m, d, z))

reads_item : (earlier : List Item) (i : Item) {r : Bytes} → is_placed earlier i ≡ true → ItemFits i → Reads (read_item earlier) (dump_item i ++ r) i r
unfolding read_item dump_item
reads_item earlier i {r} p h =
    let k = item_kind i in
    let w = item_kind_lem i in
    let n = kind_none k w.0 w.1 in
    let o : Reads (read_operands earlier ((marker + 256 * k) / 256)) (dump_operands i ++ r) i r = rw n.1 (reads_operands earlier i p h) in
    let all : Reads (read_item earlier) (bytes mark_width (marker + 256 * k) ++ (dump_operands i ++ r)) i r =
    then (λ n. read_operands earlier (n / 256)) (reads_number mark_width mark_fault (marker + 256 * k) (omega (arith, w.1)) n.0) o in
    rw n.2 at all

-- ---- offsets

-- what is got moves the offset by the bytes taken
abbrev Moves : {A : Type 0} → Parser A → Type 0
Moves {A} m = (at : ℕ) (x : Bytes) (a : A) (q : ℕ) (r : Bytes) → m at x ≡ got a q r → q + length r ≡ at + length x

moves_field : (n : ℕ) (f : Bytes → ℕ) → Moves (field n f)
unfolding field
moves_field n f at x a q r e =
    by_bool (ltb (length x) n)
    (λ p. bad_got (rw p at e))
    (λ p. by_bool (eqb (f (take n x)) 0)
    (λ z. let g = rw (p, z) at e in omega (arith, ltb-false (length x) n p, length-drop n x, ap length (got_rest g), got_at g))
    (λ z. bad_got (rw (p, z) at e)))

moves_then : {A B : Type 0} {m : Parser A} {f : A → Parser B} → Moves m → ((a : A) → Moves (f a)) → Moves (λ at x. bind (m at x) f)
moves_then {m = m} {f = f} c d at x b q r e = bind_got (m at x) f e (λ a p y g e. omega (arith, c at x a p y g, d a p y b q r e))

moves_give : {A : Type 0} (a : A) → Moves (give a)
moves_give a at x b q r e = omega (arith, got_at e, ap length (got_rest e))

moves_cond : {A : Type 0} (b : Bool) {m n : Parser A} → Moves m → Moves n → Moves (cond b m n)
moves_cond true c d = c
moves_cond false c d = d

moves_number : (n : ℕ) (f : ℕ → ℕ) → Moves (number_field n f)
unfolding number_field
moves_number n f = moves_then (moves_field n (λ b. f (num b))) (λ b. moves_give (num b))

moves_text : Moves read_text
unfolding read_text
moves_text = moves_then (moves_number count_width (λ v. 0)) (λ n. moves_field n (λ b. 0))

moves_who : (earlier : List Item) → Moves (read_who earlier)
unfolding read_who
moves_who earlier =
    moves_then (moves_number tag_width _) (λ b. moves_cond (eqb b 0)
    (moves_then (moves_number number_width _) (λ t. moves_give (started t)))
    (moves_then (moves_number place_width _) (λ p. moves_give (placed p))))

moves_act : (k : ℕ) → Moves (read_act k)
unfolding read_act
moves_act k =
    moves_cond (eqb k 17) (moves_then moves_text (λ x. moves_give (read x)))
    (moves_cond (eqb k 18) (moves_then moves_text (λ x. moves_then moves_text (λ v. moves_give (put x v))))
    (moves_cond (eqb k 19) (moves_then moves_text (λ x. moves_give (delete x)))
    (moves_cond (eqb k 20) (moves_give commit) (moves_give abort))))

moves_item : (earlier : List Item) → Moves (read_item earlier)
unfolding read_item read_operands
moves_item earlier =
    moves_then (moves_number mark_width _) (λ n. moves_cond (eqb (n / 256) 16) (moves_give begins)
    (moves_cond (eqb (n / 256) 22) (moves_then (moves_number number_width _) (λ l. moves_give (sweeps l)))
    (moves_then (moves_who earlier) (λ w. moves_then (moves_act (n / 256)) (λ a. moves_give (acts w a))))))

pub item_got : (earlier : List Item) (i : Item) (at : ℕ) (r : Bytes) → is_placed earlier i ≡ true → ItemFits i
    → read_item earlier at (dump_item i ++ r) ≡ got i (at + length (dump_item i)) r
item_got earlier i at r p f =
    let u = reads_item earlier i {r = r} p f in
    let e = u.gets at in
    let q : u.end at ≡ at + length (dump_item i) = omega (arith, moves_item earlier at _ i _ r e, length-append (dump_item i) r) in
    e ∙ ap (λ q. got i q r) q

-- ---- items in front

item_first : (n : ℕ) (earlier : List Item) (i : Item) (at : ℕ) (r : Bytes) → is_placed earlier i ≡ true → ItemFits i
    → read_items (suc n) earlier at (dump_item i ++ r) ≡ bind (read_items n (earlier ++ i ∷ []) (at + length (dump_item i)) r) (λ is. give (i ∷ is))
unfolding read_items dump_item bind
item_first n earlier i at r p f = rw (item_got earlier i at r p f)

-- what is read behind the items comes behind them
unfoldable pub behind : List Item → Parsed (List Item) → Parsed (List Item)
behind is (got js q r) = got (is ++ js) q r
behind is (bad n q) = bad n q

behind_one : (i : Item) (is : List Item) (w : Parsed (List Item)) → bind (behind is w) (λ js. give (i ∷ js)) ≡ behind (i ∷ is) w
unfolding bind behind
behind_one i is (got js q r) = refl
behind_one i is (bad n q) = refl

behind_nil : (w : Parsed (List Item)) → w ≡ behind [] w
unfolding behind
behind_nil (got js q r) = refl
behind_nil (bad n q) = refl

pub reads_behind : (is : List Item) (left : ℕ) (earlier : List Item) (at : ℕ) (x : Bytes) → all_placed earlier is ≡ true → AllFit is
    → read_items (length is + left) earlier at (dump_items is ++ x) ≡ behind is (read_items left (earlier ++ is) (at + length (dump_items is)) x)
unfolding dump_items all_placed
reads_behind [] left earlier at x p f =
    let a : 0 + left ≡ left = omega arith in
    let b : at + 0 ≡ at = omega arith in
    rw (a, append-nil earlier, b) (behind_nil _)
reads_behind (i ∷ is) left earlier at x p f =
    let a : suc (length is) + left ≡ suc (length is + left) = omega arith in
    let d = dump_item i in
    let b : at + length d + length (dump_items is) ≡ at + length (d ++ dump_items is) = omega (arith, length-append d (dump_items is)) in
    let h = reads_behind is left (earlier ++ i ∷ []) (at + length d) x (and_right (is_placed earlier i) (all_placed (earlier ++ i ∷ []) is) p) f.1 in
    let g = rw (b, append_assoc earlier (i ∷ []) is) at h in
    rw (a, append_assoc d (dump_items is) x)
    (item_first (length is + left) earlier i at (dump_items is ++ x) (and_left (is_placed earlier i) (all_placed (earlier ++ i ∷ []) is) p) f.0
    ∙ (ap (λ w. bind w (λ js. give (i ∷ js))) g ∙ behind_one i is (read_items left (earlier ++ i ∷ is) (at + length (d ++ dump_items is)) x)))
