-- The records of a batch, one turn after another: what is left to do leads to the same end.
use Prim.Native.Nat.{ℕ, zero, suc, ◌+◌, ◌*◌, ◌≤◌, ◌<◌}
use native.Mathlib.Omega.{arith}
use mathlib.Core.Path.{◌≡◌, refl, sym, ap, subst, ◌∙◌}
use mathlib.Core.Logic.{◌⊎◌, inl, inr, ⊎_elim}
use mathlib.Core.Bool.{true}
use mathlib.Core.List.{List, [], ◌∷◌, ◌++◌, append_assoc, append-nil}
use native.Mathlib.Nat.{add-zero}
use lib.ListN.{length, drop, length-append}
use lib.Seq.{sets, length-sets, drop_at, drop-drop}
use Rattle.model.specs.Sizes.{number_width}
use Rattle.model.specs.Bytes.{Bytes, are_bytes, part, num}
use Rattle.model.specs.Calls.{begin, on, Answer, Outcome}
use Rattle.model.specs.Runs.{response}
use Rattle.model.specs.Load.{got, bad}
use Rattle.model_laws.proofs.Round.{got_what, got_at, bad_got}
use Rattle.model.proofs.Bytes.{num_bytes}
use Rattle.model_laws.proofs.Tested.{sound_parts}
use Rattle.model.proofs.Cases.{true_false, and_left, and_right}
use Rattle.model_batch.specs.Encoder.{dump_item, dump_items, is_placed, all_placed, AllFit, item_in_bytes, items_in_bytes}
use Rattle.model_batch.specs.Items.{max_items, started, placed, Item, begins, acts, sweeps, is_begin, begins_at, start_of, start_at, resolve, call_of}
use Rattle.model_batch.specs.Answers.{head_width, head, heads, detail, detail_width, details, answers_bytes, answers_width}
use Rattle.model_batch.specs.Decoder.{read_item, malformed, read_batch}
use Rattle.model_batch.proofs.Decoded.{batch_exact}
use Rattle.model_batch.proofs.Encoded.{item_got}
use Rattle.model_batch.proofs.Singles.{begins_within, start_append, call_in_lem}
use Rattle.model_batch.proofs.Lengths.{length_head, rows_long_lem}
use Rattle.model_batch.proofs.Answered.{answered}
use Rattle.model_batch.proofs.Answers.{start_first, only_begins, head_first}
use Rattle.memory.specs.Spans.{overlay}
use Rattle.memory.proofs.Laws.Parts.{part_part, part_sets_below, part_sets}
use Rattle.bridge.proofs.Laws.Memories.{outcome_sound}
use Rattle.bridge.specs.Store.{after_call, store_in, answer_on, Sound, response_on, Memories, memories_of}
use Rattle.bridge.proofs.Laws.Kept.{is_sound_lem}
use Rattle.store.proofs.Laws.Runs.{call_holds}
use Rattle.batch.specs.Batches.{made_on}
use Rattle.batch.proofs.Laws.Output.{answers_over}
use Rattle.batch_heads.specs.Heads.{headed}
use Rattle.batch_calls.specs.Done.{Doing, Did}
use Rattle.batch.specs.Making.{start_in, call_in, Answered, Resolved, written}

-- the details' bytes of the items
abbrev pub details_width : List Item → ℕ
details_width [] = 0
details_width (i ∷ is) = detail_width i + details_width is

-- the place of a begin has its start in the output
abbrev pub Starts : (out : Bytes) → List Item → List Answer → Type 0
Starts o earlier l = (p : ℕ) → begins_at earlier p ≡ true → num (part o (head_width * p) number_width) ≡ start_at l p

-- before the record i, which stands at `at` in x and has its details at `to`: the items `earlier` are made and got these
-- answers, and what is left leads to the memories m' and the output o'
pub record Left (x : Bytes) (m' : Memories) (o' h d o : Bytes) (at i to : ℕ) (earlier rest : List Item) (answers : List Answer) : Type 0 where
  pub count : length earlier ≡ i
  pub told : length answers ≡ i
  pub source : drop at x ≡ dump_items rest
  pub places : all_placed earlier rest ≡ true
  pub fit : AllFit rest
  pub bytes : items_in_bytes rest ≡ true
  pub sound : Sound h d
  pub starts : Starts o earlier answers
  pub heads : head_width * (i + length rest) ≤ to
  pub room : to + details_width rest ≤ length o
  pub memories : (made_on (memories_of h d) answers rest).memories ≡ m'
  pub output : written o i to rest (made_on (memories_of h d) answers rest).responses ≡ o'

pub record Going (all : List Item) (x : Bytes) (m' : Memories) (o' h d o : Bytes) (at i to : ℕ) : Type 0 where
  pub earlier : List Item
  pub rest : List Item
  pub answers : List Answer
  pub whole : earlier ++ rest ≡ all
  pub left : Left x m' o' h d o at i to earlier rest answers

-- ---- the call of a record

call_known : (o : Bytes) (earlier : List Item) (l : List Answer) (j : Item) → Starts o earlier l → is_placed earlier j ≡ true
    → call_in o j ≡ call_of l j
unfolding call_in start_in call_of resolve is_placed
call_known o earlier l begins s p = refl
call_known o earlier l (acts (started t) a) s p = refl
call_known o earlier l (acts (placed n) a) s p = ap (λ t. on t a) (s n p)
call_known o earlier l (sweeps n) s p = refl

-- ---- the starts of places

begins_last : (is : List Item) (j : Item) (p : ℕ) → begins_at (is ++ j ∷ []) p ≡ true → (begins_at is p ≡ true) ⊎ ((p ≡ length is) × (is_begin j ≡ true))
unfolding begins_at
begins_last [] j zero e = inr (refl, e)
begins_last [] j (suc p) e = true_false (sym e)
begins_last (i ∷ is) j zero e = inl e
begins_last (i ∷ is) j (suc p) e = ⊎_elim (λ f. inl f) (λ f. inr (ap suc f.0, f.1)) (begins_last is j p e)

start_last : (l : List Answer) (a : Answer) → start_at (l ++ a ∷ []) (length l) ≡ start_of a
unfolding start_at
start_last [] a = refl
start_last (b ∷ l) a = start_last l a

-- what a begin answers stands first in its head
begin_first : (h d : Bytes) → Sound h d → num (part (head (answer_on h d begin)) 0 number_width) ≡ start_of (answer_on h d begin)
unfolding part call_of
begin_first h d s =
    let r = response (store_in h d) begin in
    let e : answer_on h d begin ≡ r.0 = ap (λ (o : Outcome). o.answer) (outcome_sound h d s begin) in
    let f = start_first r (answered (store_in h d) (sound_parts (store_in h d) (is_sound_lem h d s)) [] begins tt) in
    let g = rw append-nil at (head_first r.0 []) in
    rw (e, g, f.0) (num_bytes number_width (start_of r.0) f.1)

-- the first number of a head that was written
first_there : (o : Bytes) (i : ℕ) (a : Answer) → head_width * i + head_width ≤ length o
    → part (headed o i a) (head_width * i) number_width ≡ part (head a) 0 number_width
first_there o i a h =
    let e = length_head a in
    let b : part (headed o i a) (head_width * i) head_width ≡ head a =
    subst (λ n. part (headed o i a) (head_width * i) n ≡ head a) e (part_sets o (head_width * i) (head a) (omega (arith, e))) in
    sym (ap (λ b. part b 0 number_width) (sym b) ∙ part_part (headed o i a) (head_width * i) head_width 0 number_width (omega arith)
    ∙ ap (λ k. part (headed o i a) k number_width) (add-zero (head_width * i)))

-- record i, done in memories h and d, had this answer
starts_more : (h d o bs : Bytes) (i to : ℕ) (earlier : List Item) (l : List Answer) (j : Item) → Sound h d → Starts o earlier l → length earlier ≡ i → length l ≡ i
    → head_width * i + head_width ≤ to → to ≤ length o
    → Starts (sets (headed o i (answer_on h d (call_of l j))) to bs) (earlier ++ j ∷ []) (l ++ answer_on h d (call_of l j) ∷ [])
unfolding call_of
starts_more h d o bs i to earlier l j s f n k room long p e =
    let a = answer_on h d (call_of l j) in
    ⊎_elim
    (λ g.
    let w = begins_within earlier p g in
    ap num (part_sets_below (headed o i a) to bs (head_width * p) number_width (omega arith)
    ∙ part_sets_below o (head_width * i) (head a) (head_width * p) number_width (omega arith))
    ∙ f p g ∙ sym (start_append l (a ∷ []) p (omega arith)))
    (λ g.
    let q : p ≡ i = omega (arith, g.0) in
    let r : i ≡ length l = sym k in
    let z : a ≡ answer_on h d begin = ap (λ j. answer_on h d (call_of l j)) (only_begins j g.1) in
    rw q (ap num (part_sets_below (headed o i a) to bs (head_width * i) number_width (omega arith) ∙ first_there o i a (omega arith))
    ∙ ap (λ a. num (part (head a) 0 number_width)) z ∙ begin_first h d s ∙ ap start_of (sym z) ∙ sym (start_last l a) ∙ ap (start_at (l ++ a ∷ [])) k))
    (begins_last earlier j p e)

-- ---- one record more

drop_more : (x : Bytes) (at : ℕ) (a b : Bytes) → drop at x ≡ a ++ b → drop (at + length a) x ≡ b
drop_more x at a b e = sym (drop-drop (length a) at x) ∙ ap (drop (length a)) e ∙ drop_at a b (length a) refl

pub goes_on : {x : Bytes} {m' : Memories} {o' h d o h₁ d₁ o₁ : Bytes} {at i to : ℕ} {earlier : List Item} {j : Item} {is : List Item} {l : List Answer}
    → Left x m' o' h d o at i to earlier (j ∷ is) l → Did h d h₁ d₁ o o₁ i to j (call_in o j)
    → Left x m' o' h₁ d₁ o₁ (at + length (dump_item j)) (suc i) (to + detail_width j) (earlier ++ j ∷ []) is (l ++ answer_on h d (call_of l j) ∷ [])
unfolding made_on written dump_items all_placed items_in_bytes
goes_on {x} {m'} {o'} {h} {d} {o} {h₁} {d₁} {o₁} {at} {i} {to} {earlier} {j} {is} {l} g w =
    let p = and_left (is_placed earlier j) (all_placed (earlier ++ j ∷ []) is) g.places in
    let c = call_of l j in
    let e : call_in o j ≡ c = call_known o earlier l j g.starts p in
    let a = answer_on h d c in
    let bs = detail j (response_on h d c) in
    let v : Did h d h₁ d₁ o o₁ i to j c = subst (λ c. Did h d h₁ d₁ o o₁ i to j c) e w in
    let hold = call_holds (memories_of h d) (store_in h d) c (call_in_lem l j (and_left (item_in_bytes j) (items_in_bytes is) g.bytes))
    (record { sound = g.sound; store = refl }) in
    record {
      count = length-append earlier (j ∷ []) ∙ omega (arith, g.count);
      told = length-append l (a ∷ []) ∙ omega (arith, g.told);
      source = drop_more x at (dump_item j) (dump_items is) g.source;
      places = and_right (is_placed earlier j) (all_placed (earlier ++ j ∷ []) is) g.places;
      fit = g.fit.1;
      bytes = and_right (item_in_bytes j) (items_in_bytes is) g.bytes;
      sound = rw (v.hall, v.desk) hold.sound;
      starts = rw v.output (starts_more h d o bs i to earlier l j g.sound g.starts g.count g.told (omega (arith, g.heads)) (omega (arith, g.room)));
      heads = omega (arith, g.heads);
      room = rw (v.output, length-sets, length-sets) (omega (arith, g.room));
      memories = rw (v.hall, v.desk) g.memories;
      output = rw (v.hall, v.desk, v.output) g.output;
    }

-- ---- the record that is next

begins_more : (a b : List Item) (p : ℕ) → begins_at a p ≡ true → begins_at (a ++ b) p ≡ true
unfolding begins_at
begins_more [] b p e = true_false (sym e)
begins_more (i ∷ a) b zero e = e
begins_more (i ∷ a) b (suc p) e = begins_more a b p e

placed_more : (a b : List Item) (j : Item) → is_placed a j ≡ true → is_placed (a ++ b) j ≡ true
unfolding is_placed
placed_more a b begins e = e
placed_more a b (acts (started t) x) e = e
placed_more a b (acts (placed p) x) e = begins_more a b p e
placed_more a b (sweeps l) e = e

module _ {all : List Item} {x : Bytes} {m' : Memories} {o' h d o : Bytes} {at i to : ℕ} where
  -- it is read the same among all items as after those before it
  pub next_read : (g : Going all x m' o' h d o at i to) {j : Item} {is : List Item} → g.rest ≡ j ∷ is
      → read_item all at (drop at x) ≡ got j (at + length (dump_item j)) (dump_items is)
  unfolding dump_items all_placed
  next_read g {j} {is} e =
      let f = g.left in
      let p = subst (λ r. all_placed g.earlier r ≡ true) e f.places in
      let q = placed_more g.earlier g.rest j (and_left (is_placed g.earlier j) _ p) in
      let fit = subst AllFit e f.fit in
      rw (f.source, e) (item_got all j at (dump_items is) (rw g.whole at q) fit.0)

  -- one is left as long as fewer are made than there are
  pub some_left : (g : Going all x m' o' h d o at i to) → i < length all → (j : Item) × (is : List Item) × (g.rest ≡ j ∷ is)
  some_left g k = go g.rest refl
    where
      go : (r : List Item) → g.rest ≡ r → (j : Item) × (is : List Item) × (g.rest ≡ j ∷ is)
      go [] e =
          absurd (omega (arith, g.left.count, ap length g.whole, length-append g.earlier g.rest, ap length e))
      go (j ∷ is) e = (j, is, e)

  pub none_left : (g : Going all x m' o' h d o at i to) → length all ≤ i → g.rest ≡ []
  none_left g k = go g.rest refl
    where
      go : (r : List Item) → g.rest ≡ r → g.rest ≡ []
      go [] e = e
      go (j ∷ is) e =
          absurd (omega (arith, g.left.count, ap length g.whole, length-append g.earlier g.rest, ap length e))

  -- at the end
  pub ended : (g : Going all x m' o' h d o at i to) → length all ≤ i → (memories_of h d ≡ m') × (o ≡ o')
  unfolding made_on written
  ended g k =
      let e = none_left g k in
      let f = subst (λ r. Left x m' o' h d o at i to g.earlier r g.answers) e g.left in
      (f.memories, f.output)

-- ---- the first record

widths : (is : List Item) → answers_width is ≡ head_width * length is + details_width is
unfolding answers_width
widths [] = omega arith
widths (i ∷ is) = omega (arith, widths is)

pub few_items : (x : Bytes) (is : List Item) → are_bytes x ≡ true → read_batch x ≡ got is (length x) [] → length is ≤ max_items
few_items x is b e = (batch_exact x is (length x) [] b e).1.few

pub begun : (h d x o : Bytes) (is : List Item) → are_bytes x ≡ true → read_batch x ≡ got is (length x) [] → Sound h d → answers_width is ≤ length o
    → Going is x (made_on (memories_of h d) [] is).memories (written o 0 (head_width * length is) is (made_on (memories_of h d) [] is).responses) h d o 0 0 (head_width * length is)
unfolding begins_at
begun h d x o is b e s r =
    let a = batch_exact x is (length x) [] b e in
    record {
      earlier = [];
      rest = is;
      answers = [];
      whole = refl;
      left = record {
        count = refl;
        told = refl;
        source = sym a.0;
        places = a.1.places;
        fit = a.1.fit;
        bytes = a.2;
        sound = s;
        starts = λ p e. true_false (sym e);
        heads = omega arith;
        room = omega (arith, widths is);
        memories = refl;
        output = refl;
      };
    }

-- ---- the whole output

length_made : (m : Memories) (l : List Answer) (is : List Item) → length (made_on m l is).responses ≡ length is
unfolding made_on
length_made m l [] = refl
length_made m l (i ∷ is) = ap suc (length_made (after_call m (call_of l i)) _ is)

pub all_written : (m : Memories) (o : Bytes) (is : List Item) → answers_width is ≤ length o
    → written o 0 (head_width * length is) is (made_on m [] is).responses ≡ overlay (answers_bytes is (made_on m [] is).responses) o
unfolding answers_bytes
all_written m o is r =
    let rs = (made_on m [] is).responses in
    let e = length_made m [] is in
    answers_over o is rs e (omega (arith, length-append (heads rs) (details is rs), rows_long_lem is rs e))

-- ---- one turn of the loop

-- the head of its begin is there
resolved_in : (o : Bytes) (earlier : List Item) (j : Item) → is_placed earlier j ≡ true → head_width * length earlier ≤ length o → Resolved o j
unfolding is_placed Resolved Answered
resolved_in o earlier begins p h = tt
resolved_in o earlier (acts (started t) a) p h = tt
resolved_in o earlier (acts (placed n) a) p h = omega (arith, begins_within earlier n p)
resolved_in o earlier (sweeps l) p h = tt

module _ {all : List Item} {x : Bytes} {m' : Memories} {o' h d o : Bytes} {at i to : ℕ} (g : Going all x m' o' h d o at i to) where
  -- what was read there is the next item
  pub found : i < length all → {a : Item} {end : ℕ} {y : Bytes} → read_item all at (drop at x) ≡ got a end y
      → (is : List Item) × (g.rest ≡ a ∷ is) × (end ≡ at + length (dump_item a))
  found k {a} e =
      let s = some_left g k in
      let f = sym (next_read g s.2) ∙ e in
      let j : s.0 ≡ a = got_what f in
      (s.1, s.2 ∙ ap (λ (j : Item). j ∷ s.1) j, sym (got_at f) ∙ ap (λ (j : Item). at + length (dump_item j)) j)

  -- so there is no fault
  pub faultless : i < length all → {n : ℕ} {P : Type 0} → malformed at (read_item all at (drop at x)) ≡ bad n at → P
  faultless k e = let s = some_left g k in bad_got (sym e ∙ ap (malformed at) (next_read g s.2))

  module _ {j : Item} {is : List Item} (e : g.rest ≡ j ∷ is) where
    next_left : Left x m' o' h d o at i to g.earlier (j ∷ is) g.answers
    next_left = subst (λ r. Left x m' o' h d o at i to g.earlier r g.answers) e g.left

    pub next_doing : Doing h d o i to j
    next_doing =
        let f = next_left in
        record { sound = f.sound; head = omega (arith, f.heads); details = omega (arith, f.room) }

    pub next_resolved : Resolved o j
    unfolding all_placed
    next_resolved =
        let f = next_left in
        resolved_in o g.earlier j (and_left (is_placed g.earlier j) _ f.places) (omega (arith, f.count, f.heads, f.room))

    pub next_going : {h₁ d₁ o₁ : Bytes} {at₁ i₁ to₁ : ℕ} → Did h d h₁ d₁ o o₁ i to j (call_in o j)
        → at₁ ≡ at + length (dump_item j) → i₁ ≡ suc i → to₁ ≡ to + detail_width j → Going all x m' o' h₁ d₁ o₁ at₁ i₁ to₁
    next_going {h₁} {d₁} {o₁} w p q r =
        let a = g.answers ++ answer_on h d (call_of g.answers j) ∷ [] in
        let n : Left x m' o' h₁ d₁ o₁ _ _ _ (g.earlier ++ j ∷ []) is a = goes_on next_left w in
        record {
          earlier = g.earlier ++ j ∷ [];
          rest = is;
          answers = a;
          whole = append_assoc g.earlier (j ∷ []) is ∙ ap (λ r. g.earlier ++ r) (sym e) ∙ g.whole;
          left = rw (p, q, r) n;
        }
