-- The answers of a whole batch: none is cut, each is read back, and a place's start is in the head there.
use Prim.Native.Nat.{ℕ, zero, suc, ◌+◌, ◌-◌, ◌*◌, ◌≤◌}
use native.Mathlib.Omega.{arith}
use mathlib.Core.Path.{◌≡◌, refl, sym, ap, ◌∙◌}
use mathlib.Core.Bool.{true}
use mathlib.Core.List.{List, [], ◌∷◌, ◌++◌, map, append_assoc}
use Rattle.std.specs.Prelude.{None}
use lib.ListN.{length, take, drop, replicate, length-append, length-map}
use lib.Seq.{take_at, drop_at, drop-append-add}
use Rattle.model.specs.Sizes.{number_width, count_width}
use Rattle.model.specs.Bytes.{Bytes, num, bytes, part}
use Rattle.model.specs.State.{Store, is_some, writes_of}
use Rattle.model.specs.Calls.{read, put, delete, commit, commit_to, abort, on, Clashes, Answer, refused, conflict, refusal, clashes_of, check, act, decide, answer, next}
use Rattle.model.specs.Runs.{response, responses}
use Rattle.model.proofs.Cases.{by_bool, true_false, zero_one, and_left, and_right}
use Rattle.model.proofs.Bytes.{length_bytes, num_bytes}
use Rattle.model_laws.proofs.Sound.{Sound, sound_next}
use Rattle.model_laws.proofs.Tested.{sound_parts}
use Rattle.model_laws.proofs.Demands.{conflict_held}
use Rattle.model_batch.specs.Encoder.{AllFit, Proper, item_in_bytes, items_in_bytes}
use Rattle.model_batch.specs.Items.{Item, begins, acts, sweeps, act_kind, item_kind, is_begin, start_of, call_of, begins_at, start_at}
use Rattle.model_batch.specs.Answers.{flag_of, numbers_of, code_width, head_width, head, heads, clashes_bytes, detail_of, kind_width, detail_width, detail, details, answers_bytes}
use Rattle.model_batch.specs.Reader.{read_answer, read_rows, read_answers}
use Rattle.model_batch.specs.Batch.{calls_of, batch_calls, made}
use Rattle.model_batch.specs.Statements as statements
use Rattle.model_batch.proofs.Singles.{call_in_lem}
use Rattle.model_batch.proofs.Answered.{Narrow, Answered, refusing, beginning, reading, putting, deleting, committing, closing, clashing, aborting, sweeping, acts_answered, answered}
use Rattle.model_batch.proofs.Lengths.{length_head, length_detail, length_clashes, length_batch, length_heads, padded_short}
use Rattle.model_batch.proofs.Told.{back}

-- ---- no detail is cut

refused_short : (i : Item) (n : ℕ) → length (detail_of i (refused n, [])) ≤ detail_width i
unfolding detail_of kind_width item_kind act_kind clashes_of clashes_bytes
refused_short begins n = omega arith
refused_short (acts w (read k)) n = omega (arith, length-append (bytes count_width 0) [], length_bytes count_width 0)
refused_short (acts w (put k v)) n = omega arith
refused_short (acts w (delete k)) n = omega arith
refused_short (acts w (commit_to j)) n = omega arith
refused_short (acts w abort) n = omega arith
refused_short (sweeps l) n = omega arith

detail_short : {i : Item} {r : Answer × Bytes} → Answered i r → length (detail_of i r) ≤ detail_width i
unfolding detail_of kind_width item_kind act_kind clashes_of clashes_bytes
detail_short {i} (refusing n c) = refused_short i n
detail_short (beginning t d f g) = omega arith
detail_short (reading k b h) = omega (arith, length-append (bytes count_width (length b)) b, length_bytes count_width (length b))
detail_short putting = omega arith
detail_short deleting = omega arith
detail_short (committing n f) = omega arith
detail_short closing = omega arith
detail_short (clashing cs l n) = omega (arith, length_clashes cs)
detail_short aborting = omega arith
detail_short (sweeping c d f g) = omega arith

pub detail_whole : statements.DetailWhole
unfolding detail
detail_whole s e l i f = padded_short (detail_width i) (detail_of i (response s (call_of l i))) (detail_short (answered s (sound_parts s e) l i f))

pub answer_read : statements.AnswerRead
answer_read s e l i f = back (answered s (sound_parts s e) l i f)

pub answer_told : statements.AnswerTold
answer_told s s' e e' l l' i j f g k h d =
    let r = response s (call_of l i) in
    let r' = response s' (call_of l' j) in
    let same : read_answer (item_kind i) (head r.0) (detail i r) ≡ read_answer (item_kind j) (head r'.0) (detail j r') = rw (h, d, k) in
    sym (answer_read s e l i f) ∙ same ∙ answer_read s' e' l' j g

-- ---- each item of a batch

abbrev AllAnswered : List Item → List (Answer × Bytes) → Type 0
AllAnswered [] [] = Unit {0}
AllAnswered [] (r ∷ rs) = ⊥
AllAnswered (i ∷ is) [] = ⊥
AllAnswered (i ∷ is) (r ∷ rs) = Answered i r × AllAnswered is rs

all_answered : (s : Store) → Sound s → (l : List Answer) (is : List Item) → AllFit is → items_in_bytes is ≡ true
    → AllAnswered is (responses s (calls_of s l is))
unfolding responses calls_of items_in_bytes
all_answered s d l [] f b = tt
all_answered s d l (i ∷ is) f b = (
  answered s d l i f.0,
  all_answered (next s (call_of l i)) (sound_next s (call_of l i) (call_in_lem l i (and_left (item_in_bytes i) (items_in_bytes is) b)) d) _ is f.1
      (and_right (item_in_bytes i) (items_in_bytes is) b),
)

batch_answered : (s : Store) (is : List Item) → Sound s → Proper is → items_in_bytes is ≡ true → AllAnswered is (responses s (batch_calls s is))
batch_answered s is d p b = all_answered s d [] is p.fit b

rows_back : (is : List Item) (rs : List (Answer × Bytes)) (x : Bytes) → AllAnswered is rs → read_rows (map item_kind is) (heads rs ++ x) (details is rs) ≡ rs
unfolding read_rows heads details
rows_back [] [] x a = refl
rows_back [] (r ∷ rs) x a = absurd a
rows_back (i ∷ is) [] x a = absurd a
rows_back (i ∷ is) (r ∷ rs) x a =
    let h = head r.0 in
    let d = detail i r in
    rw (
      append_assoc h (heads rs) x,
      take_at h (heads rs ++ x) head_width (length_head r.0),
      drop_at h (heads rs ++ x) head_width (length_head r.0),
      take_at d (details is rs) (detail_width i) (length_detail i r),
      drop_at d (details is rs) (detail_width i) (length_detail i r),
      back a.0,
      rows_back is rs x a.1,
    )

pub answers_read : statements.AnswersRead
unfolding read_answers answers_bytes
answers_read s e is p b =
    let rs = responses s (batch_calls s is) in
    let n : ℕ = length (map item_kind is) * head_width in
    let l : length (heads rs) ≡ n = length_heads rs ∙ ap (λ n. n * head_width) (length_batch s [] is ∙ sym (length-map is item_kind)) in
    rw (drop_at (heads rs) (details is rs) n l) (rows_back is rs (details is rs) (batch_answered s is (sound_parts s e) p b))

pub answers_told : statements.AnswersTold
answers_told s s' e e' is js p q b c k z =
    sym (answers_read s e is p b) ∙ ap (read_answers (map item_kind is)) z ∙ ap (λ ns. read_answers ns (made s' js).bytes) k ∙ answers_read s' e' js q c

-- ---- the start of a place

-- what a begin answered says its start first, zero if it was refused
pub start_first : (r : Answer × Bytes) → Answered begins r → ((numbers_of r.0).0 ≡ start_of r.0) × Narrow (start_of r.0)
unfolding numbers_of start_of
start_first r (refusing n c) = (refl, omega arith)
start_first r (beginning t d f g) = (refl, f)

pub only_begins : (i : Item) → is_begin i ≡ true → i ≡ begins
unfolding is_begin
only_begins begins e = refl
only_begins (acts w a) e = true_false (sym e)
only_begins (sweeps l) e = true_false (sym e)

pub head_first : (a : Answer) (x : Bytes) → take number_width (head a ++ x) ≡ bytes number_width (numbers_of a).0
unfolding head
head_first a x =
    let n = bytes number_width (numbers_of a).0 in
    let r = bytes number_width (numbers_of a).1 ++ (bytes code_width (refusal a) ++ bytes code_width (flag_of a)) in
    rw (append_assoc n r x) (take_at n (r ++ x) number_width (length_bytes number_width (numbers_of a).0))

row_found : (is : List Item) (rs : List (Answer × Bytes)) (x : Bytes) (p : ℕ) → AllAnswered is rs → begins_at is p ≡ true
    → num (part (heads rs ++ x) (p * head_width) number_width) ≡ start_at (map (λ (r : Answer × Bytes). r.0) rs) p
unfolding heads part begins_at start_at
row_found [] rs x p a e = true_false (sym e)
row_found (i ∷ is) [] x p a e = absurd a
row_found (i ∷ is) (r ∷ rs) x zero a e =
    let f = start_first r (rw (only_begins i e) at a.0) in
    rw (append_assoc (head r.0) (heads rs) x, head_first r.0 (heads rs ++ x), f.0) (num_bytes number_width _ f.1)
row_found (i ∷ is) (r ∷ rs) x (suc p) a e =
    let h = head r.0 in
    let k : suc p * head_width ≡ length h + p * head_width = omega (arith, length_head r.0) in
    rw (append_assoc h (heads rs) x)
    (ap (λ k. num (take number_width (drop k (h ++ (heads rs ++ x))))) k
    ∙ ap (λ b. num (take number_width b)) (drop-append-add h (heads rs ++ x) (p * head_width)) ∙ row_found is rs x p a.1 e)

pub place_found : statements.PlaceFound
place_found s e is q b p z x = row_found is (responses s (batch_calls s is)) x p (batch_answered s is (sound_parts s e) q b) z

-- ---- the clashes of a commit

-- who is in conflict is open
conflict_open : (s : Store) (t : ℕ) (cs : Clashes) → answer s (on t commit) ≡ conflict cs → is_some (writes_of t s.desks) ≡ true
unfolding decide act check
conflict_open s t cs e = by_bool (is_some (writes_of t s.desks)) (λ o. o) (λ o. zero_one (cc (rw (o, answer) at e)))

pub clashes_whole : statements.ClashesWhole
unfolding decide detail detail_of clashes_of
clashes_whole s e w t cs c =
    let n : ℕ = detail_width (acts w commit) in
    let b : Bytes = clashes_bytes (clashes_of (answer s (on t commit))) in
    let short : length b ≤ n = detail_short (acts_answered w s (sound_parts s e) t commit refl) in (
      (conflict_held s e t (conflict_open s t cs c) None).lists cs c,
      padded_short n b short ∙ ap (λ a. clashes_bytes (clashes_of a) ++ replicate (n - length (clashes_bytes (clashes_of a))) 0) c,
    )
