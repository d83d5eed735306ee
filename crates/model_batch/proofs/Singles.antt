-- A batch is its calls made singly: places are the starts that begins answered, and runs with batches are runs.
use Prim.Native.Nat.{ℕ, zero, suc, ◌<◌}
use native.Mathlib.Omega.{arith}
use mathlib.Core.Path.{◌≡◌, refl, sym, ap, ◌∙◌}
use mathlib.Core.Bool.{true}
use mathlib.Core.List.{List, [], ◌∷◌, ◌++◌, map, append_assoc}
use lib.ListN.{length, length-append}
use lib.Dec.{ltb}
use borrow.Author.Tests.{lt-ltb, le-ltb}
use Rattle.model.specs.Bytes.{Bytes, are_bytes}
use Rattle.model.specs.State.{Store, is_some, writes_of}
use Rattle.model.specs.Load.{Parsed, got, bad}
use Rattle.model.specs.Calls.{Call, on, Answer, refusal, answer, next}
use Rattle.model.specs.Runs.{run, responses}
use Rattle.model.specs.History.{in_bytes, all_in_bytes}
use Rattle.model.proofs.Cases.{by_bool, true_false, both, and_intro, and_left, and_right}
use Rattle.model_laws.proofs.Sound.{begun_of}
use Rattle.model_laws.proofs.Tested.{sound_parts}
use Rattle.model_batch.specs.Encoder.{is_placed, all_placed, item_in_bytes, items_in_bytes}
use Rattle.model_batch.specs.Items.{started, placed, Item, begins, acts, sweeps, begins_at, start_of, start_at, resolve, call_of}
use Rattle.model_batch.specs.Decoder.{read_batch}
use Rattle.model_batch.specs.Answers.{answers_width}
use Rattle.model_batch.specs.Batch.{calls_of, answers_to, makes, batch, Turn, single, batched, turn, turns, calls_in, singles, turns_in_bytes}
use Rattle.model_batch.specs.Statements as statements
use Rattle.model_batch.proofs.Decoded.{batch_exact}
use Rattle.model_batch.proofs.Stopped.{reads_whole, reads_wrong}

-- ---- a place is the start that its begin answered

pub start_append : (a b : List Answer) (p : ℕ) → p < length a → start_at (a ++ b) p ≡ start_at a p
unfolding start_at
start_append [] b p h = absurd (omega arith)
start_append (x ∷ a) b zero h = refl
start_append (x ∷ a) b (suc p) h = start_append a b p (omega arith)

pub begins_within : (is : List Item) (p : ℕ) → begins_at is p ≡ true → p < length is
unfolding begins_at
begins_within [] p e = true_false (sym e)
begins_within (i ∷ is) zero e = omega arith
begins_within (i ∷ is) (suc p) e = omega (arith, begins_within is p e)

call_append : (earlier : List Item) (i : Item) (a b : List Answer) → is_placed earlier i ≡ true → length a ≡ length earlier → call_of (a ++ b) i ≡ call_of a i
unfolding call_of resolve is_placed
call_append earlier begins a b e l = refl
call_append earlier (acts (started t) x) a b e l = refl
call_append earlier (acts (placed p) x) a b e l = ap (λ t. on t x) (start_append a b p (omega (arith, begins_within earlier p e)))
call_append earlier (sweeps n) a b e l = refl

resolved : (earlier : List Item) (s : Store) (a : List Answer) (is : List Item) → all_placed earlier is ≡ true → length a ≡ length earlier
    → calls_of s a is ≡ map (call_of (a ++ answers_to s (calls_of s a is))) is
unfolding calls_of responses all_placed
resolved earlier s a [] e l = refl
resolved earlier s a (i ∷ is) e l =
    let c = call_of a i in
    let n = next s c in
    let b = a ++ answer s c ∷ [] in
    let f = and_left (is_placed earlier i) (all_placed (earlier ++ i ∷ []) is) e in
    let h = resolved (earlier ++ i ∷ []) n b is (and_right (is_placed earlier i) (all_placed (earlier ++ i ∷ []) is) e)
    (omega (arith, length-append a (answer s c ∷ []), length-append earlier (i ∷ []))) in
    both (sym (call_append earlier i a _ f l)) (h ∙ ap (λ d. map (call_of d) is) (append_assoc a (answer s c ∷ []) (answers_to n (calls_of n b is))))

pub batch_singles : statements.BatchSingles
batch_singles s is e = resolved [] s [] is e refl

-- each start of a sound store is at least 1
pub zero_closed : statements.ZeroClosed
zero_closed s e =
    by_bool (is_some (writes_of 0 s.desks)) (λ o. absurd (omega (arith, (begun_of (sound_parts s e).desks 0 o).0))) (λ o. o)

pub refused_closed : statements.RefusedClosed
unfolding start_of
refused_closed s e n = zero_closed s e

-- ---- what is refused, and what is made

pub batch_made : statements.BatchMade
unfolding batch makes
batch_made s room is p h = rw (reads_whole is p, le-ltb room (answers_width is) h)

pub batch_short : statements.BatchShort
unfolding batch makes
batch_short s room is p h = rw (reads_whole is p, lt-ltb room (answers_width is) h)

pub batch_wrong : statements.BatchWrong
unfolding batch makes
batch_wrong s room is x n p w = rw (reads_wrong is x n p w)

pub batch_refused : statements.BatchRefused
unfolding batch makes refusal
batch_refused s room x n e = go (read_batch x) e
  where
    go : (w : Parsed (List Item)) → refusal (makes s room w).answer ≡ suc n → ((makes s room w).store ≡ s) × ((makes s room w).bytes ≡ [])
    go (bad m at) e = (refl, refl)
    go (got is at r) e = by_bool (ltb room (answers_width is)) (λ p. (rw p, rw p)) (λ p. absurd (omega (arith, rw p at e)))

-- ---- runs with batches are runs

pub run_append : (s : Store) (a b : List Call) → run s (a ++ b) ≡ run (run s a) b
unfolding run
run_append s [] b = refl
run_append s (c ∷ a) b = run_append (next s c) a b

pub makes_run : (s : Store) (room : ℕ) (w : Parsed (List Item)) → (makes s room w).store ≡ run s (calls_in s room w)
unfolding makes calls_in run
makes_run s room (bad n at) = refl
makes_run s room (got is at r) = by_bool (ltb room (answers_width is)) (λ p. rw p) (λ p. rw p)

turns_same : (s : Store) (ts : List Turn) → turns s ts ≡ run s (singles s ts)
unfolding turns turn singles run batch
turns_same s [] = refl
turns_same s (single c ∷ ts) = turns_same (next s c) ts
turns_same s (batched room x ∷ ts) =
    turns_same (batch s room x).store ts
    ∙ rw (makes_run s room (read_batch x)) (sym (run_append s (calls_in s room (read_batch x)) _))

-- ---- what comes in by a batch is bytes

pub in_append : (a b : List Call) → all_in_bytes a ≡ true → all_in_bytes b ≡ true → all_in_bytes (a ++ b) ≡ true
unfolding all_in_bytes
in_append [] b p q = q
in_append (c ∷ a) b p q = and_intro (and_left (in_bytes c) (all_in_bytes a) p) (in_append a b (and_right (in_bytes c) (all_in_bytes a) p) q)

pub call_in_lem : (a : List Answer) (i : Item) → item_in_bytes i ≡ true → in_bytes (call_of a i) ≡ true
unfolding call_of in_bytes item_in_bytes
call_in_lem a begins e = refl
call_in_lem a (acts w x) e = e
call_in_lem a (sweeps l) e = refl

calls_in_lem : (s : Store) (a : List Answer) (is : List Item) → items_in_bytes is ≡ true → all_in_bytes (calls_of s a is) ≡ true
unfolding all_in_bytes calls_of items_in_bytes
calls_in_lem s a [] e = refl
calls_in_lem s a (i ∷ is) e =
    and_intro (call_in_lem a i (and_left (item_in_bytes i) (items_in_bytes is) e)) (calls_in_lem (next s (call_of a i)) _ is (and_right (item_in_bytes i) (items_in_bytes is) e))

pub batch_in : (s : Store) (room : ℕ) (x : Bytes) (w : Parsed (List Item)) → read_batch x ≡ w → are_bytes x ≡ true → all_in_bytes (calls_in s room w) ≡ true
unfolding calls_in all_in_bytes
batch_in s room x (bad n at) e b = refl
batch_in s room x (got is at r) e b =
    by_bool (ltb room (answers_width is)) (λ p. rw p) (λ p. rw p (calls_in_lem s [] is (batch_exact x is at r b e).2))

turns_in : (s : Store) (ts : List Turn) → turns_in_bytes ts ≡ true → all_in_bytes (singles s ts) ≡ true
unfolding turns_in_bytes singles all_in_bytes
turns_in s [] e = refl
turns_in s (single c ∷ ts) e = and_intro (and_left (in_bytes c) (turns_in_bytes ts) e) (turns_in (next s c) ts (and_right (in_bytes c) (turns_in_bytes ts) e))
turns_in s (batched room x ∷ ts) e =
    in_append (calls_in s room (read_batch x)) _ (batch_in s room x (read_batch x) refl (and_left (are_bytes x) (turns_in_bytes ts) e))
    (turns_in (batch s room x).store ts (and_right (are_bytes x) (turns_in_bytes ts) e))

pub turns_as_calls : statements.TurnsAsCalls
turns_as_calls s ts = (turns_same s ts, turns_in s ts)

pub turns_run : statements.TurnsRun
turns_run o s ts a d b = record { accepted = a; dump = d; calls = turns_in s ts b }
