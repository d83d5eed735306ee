-- An answer is read back from its head and its detail: each field says its number, and no detail is cut.
use Prim.Native.Nat.{ℕ, ◌+◌, ◌-◌, ◌*◌, ◌^◌, ◌≤◌, ◌<◌}
use native.Mathlib.Omega.{arith}
use mathlib.Core.Path.{◌≡◌, refl, ap, ◌∙◌}
use mathlib.Core.List.{[], ◌∷◌, ◌++◌, append_assoc, append-nil}
use lib.ListN.{length, replicate, length-append}
use lib.Seq.{take_at, drop_at}
use borrow.Author.Tests.{ne_eqb}
use Rattle.model.specs.Sizes.{max_key, max_value, max_writes, number_width, count_width}
use Rattle.model.specs.Bytes.{Bytes, part, num, bytes}
use Rattle.model.specs.Calls.{Kind, own_value, hall_value, nothing_there, Clashes, Answer, refusal, clashes_of}
use Rattle.model.proofs.Bytes.{length_bytes, num_bytes}
use Rattle.model_batch.specs.Items.{Item, act_kind, item_kind}
use Rattle.model_batch.specs.Answers.{kind_flag, flag_of, numbers_of, code_width, head, padded, clash_width, clash_bytes, clashes_bytes, detail_of, kind_width, detail}
use Rattle.model_batch.specs.Reader.{Head, read_head, kind_by, read_clashes, read_done, read_by, read_answer}
use Rattle.model_batch.proofs.Answered.{Narrow, AllNarrow, Answered, refusing, beginning, reading, putting, deleting, committing, closing, clashing, aborting, sweeping}
use Rattle.model_batch.proofs.Lengths.{length_clash, length_clashes, padded_short}

-- ---- fields

-- the bytes b, that stand at `at`
text_at : (p b q : Bytes) (at : ℕ) → length p ≡ at → part (p ++ (b ++ q)) at (length b) ≡ b
unfolding part
text_at p b q at l = rw (drop_at p (b ++ q) at l, take_at b q (length b) refl)

number_at : (p q : Bytes) (at n v : ℕ) → length p ≡ at → v < 256 ^ n → num (part (p ++ (bytes n v ++ q)) at n) ≡ v
unfolding part
number_at p q at n v l h =
    rw (drop_at p (bytes n v ++ q) at l, take_at (bytes n v) q n (length_bytes n v)) (num_bytes n v h)

-- ---- heads

pub record HeadFits (a : Answer) : Type 0 where
  pub first : Narrow (numbers_of a).0
  pub second : Narrow (numbers_of a).1
  pub refusal : refusal a < 256 ^ code_width
  pub flag : flag_of a < 256 ^ code_width

abbrev head_of : Answer → Head
head_of a = record { first = (numbers_of a).0; second = (numbers_of a).1; refusal = refusal a; flag = flag_of a }

head_read : (a : Answer) → HeadFits a → read_head (head a) ≡ head_of a
unfolding read_head head
head_read a f =
    let i = bytes number_width (numbers_of a).0 in
    let j = bytes number_width (numbers_of a).1 in
    let r = bytes code_width (refusal a) in
    let g = bytes code_width (flag_of a) in
    let li = length_bytes number_width (numbers_of a).0 in
    let lj = length_bytes number_width (numbers_of a).1 in
    let lr = length_bytes code_width (refusal a) in
    let two : length (i ++ j) ≡ number_width + number_width = omega (arith, length-append i j) in
    let three : length (i ++ (j ++ r)) ≡ number_width + number_width + code_width = omega (arith, length-append i (j ++ r), length-append j r) in
    let e₃ = append_assoc i j (r ++ g) in
    let e₄ : (i ++ (j ++ r)) ++ (g ++ []) ≡ i ++ (j ++ (r ++ g)) = rw (append-nil g, append_assoc i (j ++ r) g, append_assoc j r g) in
    rw (
      number_at [] (j ++ (r ++ g)) 0 number_width (numbers_of a).0 refl f.first,
      number_at i (r ++ g) number_width number_width (numbers_of a).1 li f.second,
      rw e₃ at (number_at (i ++ j) g (number_width + number_width) code_width (refusal a) two f.refusal),
      rw e₄ at (number_at (i ++ (j ++ r)) [] (number_width + number_width + code_width) code_width (flag_of a) three f.flag),
    )

-- ---- details

-- what has zeros behind it
behind_zeros : (b : Bytes) (n : ℕ) → length b ≤ n → (z : Bytes) × (padded n b ≡ b ++ z)
behind_zeros b n h = (replicate (n - length b) 0, padded_short n b h)

-- a clash in its parts: number, length, key, and what comes behind
clash_parts : (c : Bytes × ℕ) (x : Bytes) → length c.0 ≤ max_key
    → (y : Bytes) × (clash_bytes c ++ x ≡ bytes number_width c.1 ++ ((length c.0 ∷ []) ++ (c.0 ++ y)))
unfolding clash_bytes
clash_parts c x h =
    let k = c.0 in
    let z = behind_zeros k max_key h in
    let e : (length k ∷ padded max_key k) ++ x ≡ (length k ∷ []) ++ (k ++ (z.0 ++ x)) =
    ap (λ (b : Bytes). length k ∷ (b ++ x)) z.1 ∙ ap (λ (b : Bytes). length k ∷ b) (append_assoc k z.0 x) in
    (z.0 ++ x, append_assoc (bytes number_width c.1) (length k ∷ padded max_key k) x ∙ ap (λ b. bytes number_width c.1 ++ b) e)

byte_at : (p q : Bytes) (at b : ℕ) → length p ≡ at → num (part (p ++ (b ∷ q)) at 1) ≡ b
unfolding part num
byte_at p q at b l = rw (drop_at p (b ∷ q) at l) (omega arith)

clash_read : (c : Bytes × ℕ) (x : Bytes) → length c.0 ≤ max_key → Narrow c.1
    → (part (clash_bytes c ++ x) (number_width + 1) (num (part (clash_bytes c ++ x) number_width 1)) ≡ c.0)
    × (num (part (clash_bytes c ++ x) 0 number_width) ≡ c.1)
clash_read c x h n =
    let k = c.0 in
    let b = bytes number_width c.1 in
    let l = length_bytes number_width c.1 in
    let d = clash_parts c x h in
    let y = k ++ d.0 in
    let nine : length (b ++ (length k ∷ [])) ≡ number_width + 1 = omega (arith, length-append b (length k ∷ [])) in
    let key = rw (append_assoc b (length k ∷ []) y) at (text_at (b ++ (length k ∷ [])) k d.0 (number_width + 1) nine) in
    rw (d.1, byte_at b y number_width (length k) l) (key, number_at [] ((length k ∷ []) ++ y) 0 number_width c.1 refl n)

clashes_read : (cs : Clashes) (x : Bytes) → AllNarrow cs → read_clashes (length cs) (clashes_bytes cs ++ x) ≡ cs
unfolding read_clashes clashes_bytes
clashes_read [] x n = refl
clashes_read (c ∷ cs) x n =
    let e = append_assoc (clash_bytes c) (clashes_bytes cs) x in
    let r = clash_read c (clashes_bytes cs ++ x) n.0 n.1 in
    rw (e, r.0, r.1, drop_at (clash_bytes c) (clashes_bytes cs ++ x) clash_width (length_clash c), clashes_read cs x n.2)

-- ---- each kind of item

abbrev Back : Item → Answer × Bytes → Type 0
Back i r = read_answer (item_kind i) (head r.0) (detail i r) ≡ r

value_read : (b x : Bytes) → length b ≤ max_value
    → let d = (bytes count_width (length b) ++ b) ++ x in part d count_width (num (part d 0 count_width)) ≡ b
value_read b x h =
    let n = bytes count_width (length b) in
    rw (append_assoc n b x, number_at [] (b ++ x) 0 count_width (length b) refl (omega arith))
    (text_at n b x count_width (length_bytes count_width (length b)))

kind_read : (k : Kind) → (kind_by (kind_flag k) ≡ k) × (kind_flag k < 256 ^ code_width)
unfolding kind_by kind_flag
kind_read own_value = (refl, omega arith)
kind_read hall_value = (refl, omega arith)
kind_read nothing_there = (refl, omega arith)

-- an answer's numbers fit its head
head_fits : {i : Item} {r : Answer × Bytes} → Answered i r → HeadFits r.0
unfolding numbers_of flag_of refusal
head_fits (refusing n c) = record { first = omega arith; second = omega arith; refusal = omega (arith, c.2); flag = omega arith }
head_fits (beginning t d f g) = record { first = f; second = g; refusal = omega arith; flag = omega arith }
head_fits (reading k b h) = record { first = omega arith; second = omega arith; refusal = omega arith; flag = (kind_read k).1 }
head_fits putting = record { first = omega arith; second = omega arith; refusal = omega arith; flag = omega arith }
head_fits deleting = record { first = omega arith; second = omega arith; refusal = omega arith; flag = omega arith }
head_fits (committing n f) = record { first = f; second = omega arith; refusal = omega arith; flag = omega arith }
head_fits closing = record { first = omega arith; second = omega arith; refusal = omega arith; flag = omega arith }
head_fits (clashing cs l n) = record { first = omega arith; second = omega arith; refusal = omega arith; flag = omega arith }
head_fits aborting = record { first = omega arith; second = omega arith; refusal = omega arith; flag = omega arith }
head_fits (sweeping c d f g) = record { first = f; second = g; refusal = omega arith; flag = omega arith }

-- what its fields say
by_fields : {i : Item} {r : Answer × Bytes} → Answered i r → read_by (item_kind i) (head_of r.0) (detail i r) ≡ r
unfolding read_by read_done numbers_of flag_of refusal detail detail_of kind_width item_kind act_kind clashes_of
by_fields (refusing n c) = rw (ne_eqb n 0 c.0, ne_eqb n 9 c.1)
by_fields (beginning t d f g) = refl
by_fields (reading k b h) =
    let v = bytes count_width (length b) in
    let z = behind_zeros (v ++ b) (count_width + max_value) (omega (arith, length-append v b, length_bytes count_width (length b))) in
    rw ((kind_read k).0, z.1, value_read b z.0 h)
by_fields putting = refl
by_fields deleting = refl
by_fields (committing n f) = refl
by_fields closing = refl
by_fields (clashing cs l n) =
    let z = behind_zeros (clashes_bytes cs) (max_writes * clash_width) (omega (arith, length_clashes cs)) in
    rw (z.1, clashes_read cs z.0 n)
by_fields aborting = refl
by_fields (sweeping c d f g) = refl

pub back : {i : Item} {r : Answer × Bytes} → Answered i r → Back i r
unfolding read_answer
back {r = r} a = rw (head_read r.0 (head_fits a)) (by_fields a)
