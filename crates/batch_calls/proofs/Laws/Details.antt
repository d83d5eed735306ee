-- The details of a record: a read's value and a commit's clashes fit theirs, and how each is written there.
-- Assumes nothing.
use Prim.Native.Nat.{ℕ, ◌+◌, ◌-◌, ◌*◌, ◌/◌, ◌≤◌}
use native.Mathlib.Omega.{arith}
use mathlib.Core.Path.{◌≡◌, refl, sym, ap, subst, ◌∙◌}
use mathlib.Core.Bool.{false}
use mathlib.Core.List.{[], ◌∷◌, ◌++◌, map, append_assoc, append-nil}
use Rattle.std.specs.Prelude.{None}
use lib.ListN.{length, take, drop, length-append, drop_of_length-le}
use lib.Seq.{sets, take_all, drop_at}
use Rattle.model.specs.Sizes.{max_key, max_value, max_writes, number_width, count_width}
use Rattle.model.specs.Bytes.{Bytes, bytes}
use Rattle.model.specs.Sound.{key_fits}
use Rattle.model.specs.State.{Store}
use Rattle.model.specs.Calls.{Act, read, commit, on, Clashes, Answer, refused, clashes_of, stays, Outcome, answering, check, act, decide}
use Rattle.model.proofs.Cases.{by_bool, key_parts}
use Rattle.model_laws.proofs.Tested.{sound_parts}
use Rattle.model_batch.specs.Encoder.{ActFits}
use Rattle.model_batch.specs.Items.{started, Item}
use Rattle.model_batch.specs.Answers.{padded, value_width, clash_width, clash_bytes, clashes_bytes}
use Rattle.model_batch.proofs.Answered.{AllNarrow, Answered, refusing, beginning, reading, putting, deleting, committing, closing, clashing, aborting, sweeping, acts_answered}
use Rattle.model_batch.proofs.Lengths.{length_clashes, padded_short}
use Rattle.memory.specs.Spans as spans
use Rattle.memory.specs.Spans.{zeros, overlay}
use Rattle.memory.specs.Rows.{joined}
use Rattle.memory.proofs.Laws.Numbers.{length_bytes}
use Rattle.memory.proofs.Laws.Parts.{sets_append}
use Rattle.memory.proofs.Laws.Spans.{zeros_add, length_zeros, over_sets}
use Rattle.cells.specs.Cells as cells
use Rattle.cells.specs.Cells.{listed}
use Rattle.answers.specs.declared.Committed.{Committed}
use Rattle.hall_values.specs.declared.Placed.{Placed}
use Rattle.hall_values.specs.Places.{placed_bytes, Reading}
use Rattle.bridge.specs.Store.{store_in, outcome_on, answer_on, bytes_on, Sound}
use Rattle.bridge.specs.Clauses.{clashes_on, Committing}
use Rattle.bridge.proofs.Laws.Memories.{outcome_sound}
use Rattle.bridge.proofs.Laws.Kept.{is_sound_lem}
use Rattle.batch_calls.specs.Done.{CommitListed}

-- ---- what a sound store answers

-- a value and clashes that have room
record Fits (r : Answer × Bytes) : Type 0 where
  pub value : length r.1 ≤ max_value
  pub few : length (clashes_of r.0) ≤ max_writes
  pub narrow : AllNarrow (clashes_of r.0)

answered_fits : {i : Item} {r : Answer × Bytes} → Answered i r → Fits r
unfolding clashes_of
answered_fits (refusing n c) = record { value = omega arith; few = omega arith; narrow = tt }
answered_fits (beginning t d f g) = record { value = omega arith; few = omega arith; narrow = tt }
answered_fits (reading k b l) = record { value = l; few = omega arith; narrow = tt }
answered_fits putting = record { value = omega arith; few = omega arith; narrow = tt }
answered_fits deleting = record { value = omega arith; few = omega arith; narrow = tt }
answered_fits (committing n f) = record { value = omega arith; few = omega arith; narrow = tt }
answered_fits closing = record { value = omega arith; few = omega arith; narrow = tt }
answered_fits (clashing cs l n) = record { value = omega arith; few = l; narrow = n }
answered_fits aborting = record { value = omega arith; few = omega arith; narrow = tt }
answered_fits (sweeping c d f g) = record { value = omega arith; few = omega arith; narrow = tt }

bad_key : (s : Store) (t : ℕ) (k : Bytes) → key_fits k ≡ false → decide s (on t (read k)) ≡ answering (refused 3) stays
unfolding decide act check
bad_key s t k e = rw e

module _ (h d : Bytes) (s : Sound h d) (t : ℕ) where
  act_fits : (a : Act) → ActFits a → Fits (answer_on h d (on t a), bytes_on h d (on t a))
  unfolding decide
  act_fits a f =
      subst (λ (o : Outcome). Fits (o.answer, o.bytes)) (sym (outcome_sound h d s (on t a)))
      (answered_fits (acts_answered (started t) (store_in h d) (sound_parts (store_in h d) (is_sound_lem h d s)) t a f))

  -- a key that is too long for a batch is no good key
  value_short : (k : Bytes) → length (bytes_on h d (on t (read k))) ≤ max_value
  value_short k =
      by_bool (key_fits k)
      (λ p. (act_fits (read k) (omega (arith, (key_parts k p).1))).value)
      (λ p. subst (λ (o : Outcome). length o.bytes ≤ max_value)
      (sym (outcome_sound h d s (on t (read k)) ∙ bad_key (store_in h d) t k p)) (omega arith))

-- ---- a value

pub lent_short : {h d v : Bytes} {p : Placed} → Sound h d → (t : ℕ) (k : Bytes) → Reading h d p (outcome_on h d (on t (read k))) → v ≡ placed_bytes h d p
    → length v ≤ max_value
lent_short {h} {d} s t k r e = subst (λ (b : Bytes). length b ≤ max_value) (sym (e ∙ r.bytes)) (value_short h d s t k)

-- a length, and the value with zeros after it
pub value_stored : (m : Bytes) (at : ℕ) (v : Bytes) {m₁ m₂ : Bytes} → length v ≤ max_value → m₁ ≡ sets m at (bytes count_width (length v))
    → m₂ ≡ sets m₁ (at + count_width) (spans.padded max_value v)
    → m₂ ≡ sets m at (padded value_width (bytes count_width (length v) ++ v))
unfolding spans.padded
value_stored m at v l p q =
    let b = bytes count_width (length v) in
    let n = length_bytes count_width (length v) in
    let rest = v ++ zeros (max_value - length v) in
    let e : length (b ++ v) ≡ count_width + length v = omega (arith, length-append b v, n) in
    let g : value_width - (count_width + length v) ≡ max_value - length v = omega arith in
    let z : padded value_width (b ++ v) ≡ b ++ rest = padded_short value_width (b ++ v) (omega arith) ∙ rw (e, g, append_assoc) in
    q ∙ rw (p, z, sets_append m at b rest, n)

-- ---- clashes

clash_same : (c : Bytes × ℕ) → length c.0 ≤ max_key → cells.clash_bytes c ≡ clash_bytes c
unfolding cells.clash_bytes cells.key_bytes clash_bytes spans.padded
clash_same c l = ap (λ (b : Bytes). bytes number_width c.1 ++ (length c.0 ∷ b)) (sym (padded_short max_key c.0 l))

clashes_same : (cs : Clashes) → AllNarrow cs → joined (map cells.clash_bytes cs) ≡ clashes_bytes cs
unfolding joined clashes_bytes
clashes_same [] n = refl
clashes_same (c ∷ cs) n = rw (clash_same c n.0, clashes_same cs n.2)

zeros_left : (m n : ℕ) → m ≤ n → drop m (zeros n) ≡ zeros (n - m)
zeros_left m n h =
    let e : n ≡ m + (n - m) = omega arith in
    ap (λ (k : ℕ). drop m (zeros k)) e ∙ rw (zeros_add m (n - m)) (drop_at (zeros m) (zeros (n - m)) m (length_zeros m))

-- listed over zeros, in room for them all
list_whole : (n : ℕ) (cs : Clashes) → length cs ≤ n / clash_width → length cs * clash_width ≤ n → AllNarrow cs
    → overlay (listed n cs) (zeros n) ≡ padded n (clashes_bytes cs)
unfolding overlay listed
list_whole n cs few room narrow =
    let e : joined (map cells.clash_bytes (take (n / clash_width) cs)) ≡ clashes_bytes cs =
    ap (λ (l : Clashes). joined (map cells.clash_bytes l)) (take_all (n / clash_width) cs few) ∙ clashes_same cs narrow in
    let l : length (clashes_bytes cs) ≤ n = omega (arith, length_clashes cs) in
    ap (λ (b : Bytes). b ++ drop (length b) (zeros n)) e
    ∙ ap (λ (b : Bytes). clashes_bytes cs ++ b) (zeros_left (length (clashes_bytes cs)) n l)
    ∙ sym (padded_short n (clashes_bytes cs) l)

cleared : (m : Bytes) (n : ℕ) → length m ≡ n → sets m 0 (zeros n) ≡ zeros n
unfolding overlay
cleared m n e =
    let all : length m ≤ n = omega arith in
    over_sets m (zeros n) (omega (arith, length_zeros n)) ∙ rw (length_zeros n, drop_of_length-le m all, append-nil)

listing : {h d h' d' blank list' : Bytes} {t : ℕ} {r : Committed} (n : ℕ) (list : Bytes) → Fits (answer_on h d (on t commit), bytes_on h d (on t commit))
    → max_writes ≤ n / clash_width → max_writes * clash_width ≤ n
    → length list ≡ n → blank ≡ sets list 0 (zeros n) → Committing None h d h' d' blank list' t r
    → list' ≡ padded n (clashes_bytes (clashes_on None h d t))
listing {h} {d} {t = t} n list f few room l b c =
    let cs = clashes_on None h d t in
    let z : _ ≡ zeros n = b ∙ cleared list n l in
    c.output
    ∙ ap (λ (m : Bytes). overlay (listed (length m) cs) m) z
    ∙ ap (λ (k : ℕ). overlay (listed k cs) (zeros n)) (length_zeros n)
    ∙ list_whole n cs (omega (arith, f.few)) (omega (arith, f.few)) f.narrow

-- a commit whose clashes went into cleared room
pub commit_listed : {h d h' d' blank list' : Bytes} {t : ℕ} {r : Committed} (list : Bytes) → Sound h d → length list ≡ max_writes * clash_width
    → blank ≡ sets list 0 (zeros (max_writes * clash_width)) → Committing None h d h' d' blank list' t r → CommitListed h d h' d' list' t r
commit_listed {h} {d} {t = t} list s l b c =
    record {
      called = c.called;
      count = c.count;
      output = listing (max_writes * clash_width) list (act_fits h d s t commit refl) (omega arith) (omega arith) l b c;
    }
