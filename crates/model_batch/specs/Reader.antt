-- The answers of a batch read back, by the kinds of its items.
use Rattle.std.specs.Prelude.{ℕ, zero, suc, ◌+◌, ◌*◌, cond, List, [], ◌∷◌, length, take, drop, eqb}
use Rattle.model.specs.Sizes.{number_width, count_width}
use Rattle.model.specs.Bytes.{Bytes, part, num}
use Rattle.model.specs.Calls.{Kind, own_value, hall_value, nothing_there, Clashes, Answer, refused, conflict, began, found, done, committed, closed, swept}
use Rattle.model_batch.specs.Answers.{code_width, head_width, clash_width, kind_width}

-- the fields of a head
pub record Head : Type 0 where
  pub first : ℕ
  pub second : ℕ
  pub refusal : ℕ
  pub flag : ℕ

unfoldable pub read_head : Bytes → Head
read_head h = record {
  first = num (part h 0 number_width);
  second = num (part h number_width number_width);
  refusal = num (part h (number_width + number_width) code_width);
  flag = num (part h (number_width + number_width + code_width) code_width);
}

unfoldable pub kind_by : (flag : ℕ) → Kind
kind_by f = cond (eqb f 1) own_value (cond (eqb f 2) hall_value nothing_there)

unfoldable pub read_clashes : (count : ℕ) → Bytes → Clashes
read_clashes zero d = []
read_clashes (suc n) d =
    (part d (number_width + 1) (num (part d number_width 1)), num (part d 0 number_width))
    ∷ read_clashes n (drop clash_width d)

-- what an item of that kind answered that was not refused, by its head and its detail
unfoldable pub read_done : (kind : ℕ) → Head → (detail : Bytes) → Answer × Bytes
read_done n h d =
    cond (eqb n 16) (began h.first h.second, [])
    (cond (eqb n 17) (found (kind_by h.flag), part d count_width (num (part d 0 count_width)))
    (cond (eqb n 20) (cond (eqb h.flag 1) closed (committed h.first), [])
    (cond (eqb n 22) (swept h.first h.second, []) (done, []))))

unfoldable pub read_by : (kind : ℕ) → Head → (detail : Bytes) → Answer × Bytes
read_by n h d =
    cond (eqb h.refusal 0) (read_done n h d)
    (cond (eqb h.refusal 9) (conflict (read_clashes h.first d), []) (refused h.refusal, []))

unfoldable pub read_answer : (kind : ℕ) → (head detail : Bytes) → Answer × Bytes
read_answer n h d = read_by n (read_head h) d

-- heads and details of items of these kinds, each in its row
unfoldable pub read_rows : (kinds : List ℕ) → (heads details : Bytes) → List (Answer × Bytes)
read_rows [] h d = []
read_rows (n ∷ ns) h d =
    read_answer n (take head_width h) (take (kind_width n) d) ∷ read_rows ns (drop head_width h) (drop (kind_width n) d)

unfoldable pub read_answers : (kinds : List ℕ) → Bytes → List (Answer × Bytes)
read_answers ns x = read_rows ns x (drop (length ns * head_width) x)
