-- What callers see of a run with batches: what each batch hands back is read as the answers of its single calls.
use Prim.Native.Nat.{ℕ}
use mathlib.Core.Path.{◌≡◌, refl}
use mathlib.Core.Bool.{true}
use mathlib.Core.List.{List, [], ◌∷◌}
use lib.Dec.{ltb}
use Rattle.model.specs.Bytes.{Bytes, are_bytes}
use Rattle.model.specs.State.{Store}
use Rattle.model.specs.Sound.{sound}
use Rattle.model.specs.Load.{Parsed, got, bad}
use Rattle.model.specs.Calls.{Call, refusal, next}
use Rattle.model.specs.Runs.{run, responses}
use Rattle.model.specs.History.{in_bytes, all_in_bytes}
use Rattle.model.proofs.Cases.{by_bool, both, and_left, and_right}
use Rattle.model_laws.proofs.Demands.{keeps_sound}
use Rattle.model_batch.specs.Items.{Item}
use Rattle.model_batch.specs.Decoder.{read_batch}
use Rattle.model_batch.specs.Answers.{answers_width}
use Rattle.model_batch.specs.Batch.{makes, batch, single, batched, turn, read_out, seen, all_seen, calls_in, singles, turns_in_bytes}
use Rattle.model_batch.specs.Statements as statements
use Rattle.model_batch.proofs.Decoded.{batch_exact}
use Rattle.model_batch.proofs.Singles.{makes_run, batch_in}
use Rattle.model_batch.proofs.Grows.{responses_append}
use Rattle.model_batch.proofs.Answers.{answers_read}

sound_run : (s : Store) (cs : List Call) → all_in_bytes cs ≡ true → sound s ≡ true → sound (run s cs) ≡ true
unfolding run all_in_bytes
sound_run s [] b e = e
sound_run s (c ∷ cs) b e =
    sound_run (next s c) cs (and_right (in_bytes c) (all_in_bytes cs) b) (keeps_sound s c (and_left (in_bytes c) (all_in_bytes cs) b) e)

-- a batch that is refused shows nothing, and one that is made the answers of its calls
pub read_out_lem : (s : Store) (room : ℕ) (x : Bytes) (w : Parsed (List Item)) → read_batch x ≡ w → sound s ≡ true → are_bytes x ≡ true
    → read_out w (makes s room w) ≡ responses s (calls_in s room w)
unfolding read_out makes calls_in responses refusal
read_out_lem s room x (bad n at) q e b = refl
read_out_lem s room x (got is at r) q e b =
    let a = batch_exact x is at r b q in
    by_bool (ltb room (answers_width is)) (λ p. rw p) (λ p. rw p (answers_read s e is a.1 a.2))

pub turns_seen : statements.TurnsSeen
unfolding all_seen seen turn singles turns_in_bytes responses batch
turns_seen s e [] b = refl
turns_seen s e (single c ∷ ts) b =
    both refl (turns_seen (next s c) (keeps_sound s c (and_left (in_bytes c) (turns_in_bytes ts) b) e) ts (and_right (in_bytes c) (turns_in_bytes ts) b))
turns_seen s e (batched room x ∷ ts) b =
    let w = read_batch x in
    let cs = calls_in s room w in
    let s' = (makes s room w).store in
    let f = and_left (are_bytes x) (turns_in_bytes ts) b in
    let ran = makes_run s room w in
    let after : sound s' ≡ true = rw ran (sound_run s cs (batch_in s room x w refl f) e) in
    let rest = turns_seen s' after ts (and_right (are_bytes x) (turns_in_bytes ts) b) in
    rw (read_out_lem s room x w refl e f, rest, responses_append s cs (singles s' ts), ← ran)
