-- A batch grows by an item as a run grows by a call: lists are made up from the front, and each goes on behind the last.
use native.Mathlib.Omega.{arith}
use mathlib.Core.Path.{◌≡◌, refl, sym, ap, ◌∙◌}
use mathlib.Core.List.{List, [], ◌∷◌, ◌++◌, append_assoc, append-nil}
use lib.ListN.{length}
use Rattle.model.specs.Bytes.{Bytes}
use Rattle.model.specs.State.{Store}
use Rattle.model.specs.Calls.{Call, Answer, answer, next}
use Rattle.model.specs.Runs.{run, response, responses}
use Rattle.model.proofs.Cases.{both}
use Rattle.model_batch.specs.Items.{Item, call_of}
use Rattle.model_batch.specs.Answers.{head, heads, detail, details, answers_bytes}
use Rattle.model_batch.specs.Batch.{calls_of, batch_calls, answers_to}
use Rattle.model_batch.specs.Statements as statements
use Rattle.model_batch.proofs.Singles.{run_append}
use Rattle.model_batch.proofs.Lengths.{length_batch}

calls_more : (s : Store) (l : List Answer) (is : List Item) (i : Item)
    → calls_of s l (is ++ i ∷ []) ≡ calls_of s l is ++ call_of (l ++ answers_to s (calls_of s l is)) i ∷ []
unfolding calls_of responses
calls_more s l [] i = rw (append-nil l)
calls_more s l (j ∷ is) i =
    let c = call_of l j in
    let h = calls_more (next s c) (l ++ answer s c ∷ []) is i in
    both refl (rw (append_assoc l (answer s c ∷ []) (answers_to (next s c) (calls_of (next s c) (l ++ answer s c ∷ []) is))) at h)

pub responses_append : (s : Store) (a b : List Call) → responses s (a ++ b) ≡ responses s a ++ responses (run s a) b
unfolding responses run
responses_append s [] b = refl
responses_append s (c ∷ a) b = both refl (responses_append (next s c) a b)

heads_append : (a b : List (Answer × Bytes)) → heads (a ++ b) ≡ heads a ++ heads b
unfolding heads
heads_append [] b = refl
heads_append (r ∷ a) b = ap (λ x. head r.0 ++ x) (heads_append a b) ∙ sym (append_assoc (head r.0) (heads a) (heads b))

details_more : (is : List Item) (rs : List (Answer × Bytes)) (i : Item) (r : Answer × Bytes) → length rs ≡ length is
    → details (is ++ i ∷ []) (rs ++ r ∷ []) ≡ details is rs ++ detail i r
unfolding details
details_more [] [] i r e = append-nil (detail i r)
details_more [] (x ∷ rs) i r e = absurd (omega arith)
details_more (j ∷ is) [] i r e = absurd (omega arith)
details_more (j ∷ is) (x ∷ rs) i r e =
    ap (λ y. detail j x ++ y) (details_more is rs i r (omega arith)) ∙ sym (append_assoc (detail j x) (details is rs) (detail i r))

pub batch_grows : statements.BatchGrows
unfolding run responses heads answers_bytes
batch_grows s is i =
    let cs = batch_calls s is in
    let rs = responses s cs in
    let c = call_of (answers_to s cs) i in
    let r = response (run s cs) c in
    let more = calls_more s [] is i in
    let said : responses s (batch_calls s (is ++ i ∷ [])) ≡ rs ++ r ∷ [] = rw more (responses_append s cs (c ∷ [])) in
    record {
      calls = more;
      answered = said;
      store = rw more (run_append s cs (c ∷ []));
      bytes = rw (said, heads_append rs (r ∷ []), append-nil (head r.0), details_more is rs i r (length_batch s [] is));
    }
