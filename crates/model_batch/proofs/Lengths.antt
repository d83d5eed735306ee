-- The answers of a batch have the lengths that the kinds of its items give them.
use Prim.Native.Nat.{ℕ, zero, suc, ◌+◌, ◌-◌, ◌*◌, ◌≤◌}
use native.Mathlib.Omega.{arith}
use mathlib.Core.Path.{◌≡◌, refl, ap, ◌∙◌}
use mathlib.Core.List.{List, [], ◌∷◌, ◌++◌}
use lib.ListN.{length, take, replicate, length-append, length-take, length-replicate}
use lib.Seq.{take-append-add}
use Rattle.model.specs.Sizes.{max_key, number_width}
use Rattle.model.specs.Bytes.{Bytes, bytes}
use Rattle.model.specs.State.{Store}
use Rattle.model.specs.Calls.{Call, Clashes, Answer, refusal, next}
use Rattle.model.specs.Runs.{responses}
use Rattle.model.proofs.Bytes.{length_bytes}
use Rattle.model_batch.specs.Items.{Item, call_of}
use Rattle.model_batch.specs.Answers.{flag_of, numbers_of, code_width, head_width, head, heads, padded, clash_width, clash_bytes, clashes_bytes, detail_of, detail_width, detail, details, answers_bytes, answers_width}
use Rattle.model_batch.specs.Batch.{calls_of, batch_calls}
use Rattle.model_batch.specs.Statements as statements

pub length_padded : (n : ℕ) (b : Bytes) → length (padded n b) ≡ n
unfolding padded
length_padded n b = omega (arith, length-take n (b ++ replicate n 0), length-append b (replicate n 0), length-replicate {A = ℕ} n 0)

pub length_head : (a : Answer) → length (head a) ≡ head_width
unfolding head
length_head a =
    let i = (numbers_of a).0 in
    let j = (numbers_of a).1 in
    let c = bytes code_width (refusal a) ++ bytes code_width (flag_of a) in
    omega (
      arith,
      length-append (bytes number_width i) (bytes number_width j ++ c),
      length-append (bytes number_width j) c,
      length-append (bytes code_width (refusal a)) (bytes code_width (flag_of a)),
      length_bytes number_width i,
      length_bytes number_width j,
      length_bytes code_width (refusal a),
      length_bytes code_width (flag_of a),
    )

pub length_detail : (i : Item) (r : Answer × Bytes) → length (detail i r) ≡ detail_width i
unfolding detail
length_detail i r = length_padded (detail_width i) (detail_of i r)

pub length_clash : (c : Bytes × ℕ) → length (clash_bytes c) ≡ clash_width
unfolding clash_bytes
length_clash c =
    let k = padded max_key c.0 in
    omega (arith, length-append (bytes number_width c.1) (length c.0 ∷ k), length_bytes number_width c.1, length_padded max_key c.0)

pub length_clashes : (cs : Clashes) → length (clashes_bytes cs) ≡ length cs * clash_width
unfolding clashes_bytes
length_clashes [] = omega arith
length_clashes (c ∷ cs) = omega (arith, length-append (clash_bytes c) (clashes_bytes cs), length_clash c, length_clashes cs)

-- ---- the whole

length_responses : (s : Store) (cs : List Call) → length (responses s cs) ≡ length cs
unfolding responses
length_responses s [] = refl
length_responses s (c ∷ cs) = ap suc (length_responses (next s c) cs)

length_calls : (s : Store) (l : List Answer) (is : List Item) → length (calls_of s l is) ≡ length is
unfolding calls_of
length_calls s l [] = refl
length_calls s l (i ∷ is) = ap suc (length_calls (next s (call_of l i)) _ is)

-- one response for each item
pub length_batch : (s : Store) (l : List Answer) (is : List Item) → length (responses s (calls_of s l is)) ≡ length is
length_batch s l is = length_responses s (calls_of s l is) ∙ length_calls s l is

pub length_heads : (rs : List (Answer × Bytes)) → length (heads rs) ≡ length rs * head_width
unfolding heads
length_heads [] = omega arith
length_heads (r ∷ rs) = omega (arith, length-append (head r.0) (heads rs), length_head r.0, length_heads rs)

pub rows_long_lem : (is : List Item) (rs : List (Answer × Bytes)) → length rs ≡ length is → length (heads rs) + length (details is rs) ≡ answers_width is
unfolding heads details answers_width
rows_long_lem [] [] e = omega arith
rows_long_lem [] (r ∷ rs) e = absurd (omega arith)
rows_long_lem (i ∷ is) [] e = absurd (omega arith)
rows_long_lem (i ∷ is) (r ∷ rs) e =
    omega (
      arith,
      rows_long_lem is rs (omega arith),
      length-append (head r.0) (heads rs),
      length_head r.0,
      length-append (detail i r) (details is rs),
      length_detail i r,
    )

pub answers_long : statements.AnswersLong
unfolding answers_bytes
answers_long s is =
    let rs = responses s (batch_calls s is) in
    (length-append (heads rs) (details is rs) ∙ rows_long_lem is rs (length_batch s [] is), refl)

-- ---- what is short enough is not cut

take_zeros : (m n : ℕ) → m ≤ n → take {A = ℕ} m (replicate n 0) ≡ replicate m 0
take_zeros zero n h = refl
take_zeros (suc m) zero h = absurd (omega arith)
take_zeros (suc m) (suc n) h = ap (λ (l : Bytes). 0 ∷ l) (take_zeros m n (omega arith))

pub padded_short : (n : ℕ) (b : Bytes) → length b ≤ n → padded n b ≡ b ++ replicate (n - length b) 0
unfolding padded
padded_short n b h =
    let m : ℕ = n - length b in
    let e : n ≡ length b + m = omega arith in
    ap (λ k. take k (b ++ replicate n 0)) e ∙ take-append-add b (replicate n 0) m ∙ ap (λ l. b ++ l) (take_zeros m n (omega arith))
