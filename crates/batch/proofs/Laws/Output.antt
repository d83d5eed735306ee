-- The output of a batch: heads and details, each record's written at its place, are the answers' bytes at its front.
use Prim.Native.Nat.{ℕ, suc, ◌+◌, ◌*◌, ◌≤◌}
use native.Mathlib.Omega.{arith}
use mathlib.Core.Path.{◌≡◌, refl, sym, ap, ◌∙◌}
use mathlib.Core.List.{List, [], ◌∷◌, ◌++◌}
use lib.ListN.{length, length-append}
use lib.Seq.{sets}
use Rattle.model.specs.Bytes.{Bytes}
use Rattle.model.specs.Calls.{Answer}
use Rattle.model_batch.specs.Items.{Item}
use Rattle.model_batch.specs.Answers.{head_width, head, heads, detail, detail_width, details, answers_bytes}
use Rattle.model_batch.proofs.Lengths.{length_head, length_detail, length_heads}
use Rattle.memory.specs.Spans.{overlay}
use Rattle.memory.proofs.Laws.Parts.{sets_append, sets_swap}
use Rattle.memory.proofs.Laws.Spans.{over_sets}
use Rattle.batch_heads.specs.Heads.{headed}
use Rattle.batch.specs.Making.{written}

written_sets : (o : Bytes) (i at : ℕ) (is : List Item) (rs : List (Answer × Bytes)) → length rs ≡ length is → head_width * i + length (heads rs) ≤ at
    → written o i at is rs ≡ sets (sets o (head_width * i) (heads rs)) at (details is rs)
unfolding written heads details
written_sets o i at [] [] e f = refl
written_sets o i at [] (r ∷ rs) e f = absurd (omega arith)
written_sets o i at (j ∷ is) [] e f = absurd (omega arith)
written_sets o i at (j ∷ is) (r ∷ rs) e f =
    let a = head r.0 in
    let b = heads rs in
    let d = detail j r in
    let l = length-append a b in
    let n : head_width * suc i ≡ head_width * i + length a = omega (arith, length_head r.0) in
    let k : at + detail_width j ≡ at + length d = omega (arith, length_detail j r) in
    written_sets (sets (headed o i r.0) at d) (suc i) (at + detail_width j) is rs (omega arith) (omega (arith, l, n))
    ∙ rw (n, k, sets_swap (headed o i r.0) (head_width * i + length a) b at d (omega (arith, l)), sets_append o (head_width * i) a b, sets_append _ at d (details is rs)) refl

pub answers_over : (o : Bytes) (is : List Item) (rs : List (Answer × Bytes)) → length rs ≡ length is → length (answers_bytes is rs) ≤ length o
    → written o 0 (head_width * length is) is rs ≡ overlay (answers_bytes is rs) o
unfolding answers_bytes
answers_over o is rs e f =
    let n : head_width * length is ≡ 0 + length (heads rs) = omega (arith, length_heads rs) in
    written_sets o 0 (head_width * length is) is rs e (omega (arith, n))
    ∙ ap (λ k. sets (sets o 0 (heads rs)) k (details is rs)) n ∙ sym (sets_append o 0 (heads rs) (details is rs))
    ∙ over_sets o (heads rs ++ details is rs) f
