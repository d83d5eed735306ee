-- A record done: its call's contract and what was written into the output make `Did`.
-- Assumes nothing.
use Prim.Native.Nat.{ℕ, ◌+◌, ◌-◌, ◌*◌, ◌≤◌}
use native.Mathlib.Omega.{arith}
use mathlib.Core.Path.{◌≡◌, refl, sym, ap, ◌∙◌}
use mathlib.Core.Bool.{false}
use mathlib.Core.List.{[], ◌++◌, append_assoc}
use lib.ListN.{length, take, drop}
use lib.Seq.{sets, sets-eq}
use borrow.Rule.Slice.PartMut.{put_mid, Post-is}
use Rattle.model.specs.Sizes.{max_writes, count_width}
use Rattle.model.specs.Bytes.{Bytes, bytes}
use Rattle.model.specs.State.{Store}
use Rattle.model.specs.Calls.{Act, read, commit, Call, on, sweep, Answer, sweep_at, decide, apply}
use Rattle.model.specs.History.{is_commit}
use Rattle.model_laws.proofs.Effects.{read_same}
use Rattle.model_laws.proofs.Demands.{hall_kept}
use Rattle.model_batch.specs.Items.{Who, Item, acts, act_kind, item_kind}
use Rattle.model_batch.specs.Answers.{head_width, head, padded, value_width, clash_width, detail_of, kind_width, detail_width, detail}
use Rattle.model_batch.proofs.Lengths.{length_padded, length_head}
use Rattle.memory.proofs.Laws.Parts.{sets_swap}
use Rattle.hall_values.specs.declared.Placed.{Placed}
use Rattle.hall_values.specs.Places.{placed_answer, placed_bytes, Reading}
use Rattle.answers.specs.declared.Committed.{Committed}
use Rattle.bridge.specs.Store.{store_in, outcome_on, answer_on, bytes_on, hall_after, desk_after}
use Rattle.bridge.specs.Clauses.{Called, DeskCalled, HallCalled}
use Rattle.bridge.proofs.Laws.Kept.{hall_stays, desks_stay}
use Rattle.batch_heads.specs.Heads.{headed, CommitHeaded}
use Rattle.batch_calls.specs.Done.{Doing, Did, DidPlain, CommitListed}

-- ---- calls that are lent a memory

hall_lent : (h d : Bytes) (t : ℕ) (a : Act) → is_commit a ≡ false → h ≡ hall_after h d (on t a)
unfolding store_in
hall_lent h d t a n = sym (hall_stays h d (on t a) (λ p. hall_kept (store_in h d) t a n))

desk_called : {h d d' : Bytes} {t : ℕ} {a : Act} {x : Answer} → is_commit a ≡ false → DeskCalled h d d' (on t a) x → Called h d h d' (on t a) x
desk_called {h} {d} {t = t} {a = a} n k = record { answer = k.answer; hall = hall_lent h d t a n; desk = k.desk }

hall_called : {h d h' : Bytes} {l : ℕ} {x : Answer} → HallCalled h d h' (sweep l) x → Called h d h' d (sweep l) x
unfolding store_in decide sweep_at apply
hall_called {h} {d} {l = l} k = record { answer = k.answer; hall = k.hall; desk = sym (desks_stay h d (sweep l) (λ p. refl)) }

desk_read : (h d : Bytes) (t : ℕ) (k : Bytes) → d ≡ desk_after h d (on t (read k))
unfolding store_in
desk_read h d t k = sym (desks_stay h d (on t (read k)) (λ p. ap (λ (s : Store). s.desks) (read_same (store_in h d) t k)))

-- ---- records without details

no_detail : (item : Item) (r : Answer × Bytes) → detail_width item ≡ 0 → detail item r ≡ []
unfolding detail padded
no_detail item r e = rw e

pub did_plain : {h d h' d' before after : Bytes} {i : ℕ} {c : Call} {x : Answer} (item : Item) → detail_width item ≡ 0
    → Called h d h' d' c x → after ≡ headed before i x → DidPlain h d h' d' before after i item c
did_plain {h} {d} {before = before} {i = i} {c = c} item e k o at =
    record {
      hall = k.hall;
      desk = k.desk;
      output = o ∙ ap (headed before i) k.answer
          ∙ ap (sets (headed before i (answer_on h d c)) at) (sym (no_detail item (answer_on h d c, bytes_on h d c) e));
    }

-- put, delete, abort
pub did_act : {h d d' before after : Bytes} {i t : ℕ} {a : Act} {x : Answer} (w : Who) → is_commit a ≡ false → detail_width (acts w a) ≡ 0
    → DeskCalled h d d' (on t a) x → after ≡ headed before i x → DidPlain h d h d' before after i (acts w a) (on t a)
did_act w n e k o = did_plain (acts w _) e (desk_called n k) o

pub did_sweep : {h d h' before after : Bytes} {i l : ℕ} {x : Answer} (item : Item) → detail_width item ≡ 0
    → HallCalled h d h' (sweep l) x → after ≡ headed before i x → DidPlain h d h' d before after i item (sweep l)
did_sweep item e k o = did_plain item e (hall_called k) o

-- ---- a read

pub did_read : {h d before out after v : Bytes} {i at t : ℕ} {k : Bytes} {p : Placed} (w : Who) → Reading h d p (outcome_on h d (on t (read k)))
    → out ≡ headed before i (placed_answer p) → v ≡ placed_bytes h d p
    → after ≡ sets out at (padded value_width (bytes count_width (length v) ++ v))
    → Did h d h d before after i at (acts w (read k)) (on t (read k))
unfolding detail detail_of kind_width item_kind act_kind is_commit
did_read {h} {d} {before} {v = v} {i} {at} {t} {k} w r o e f =
    record {
      hall = hall_lent h d t (read k) refl;
      desk = desk_read h d t k;
      output = f
          ∙ ap (λ (m : Bytes). sets m at (padded value_width (bytes count_width (length v) ++ v))) (o ∙ ap (headed before i) r.answer)
          ∙ ap (λ (b : Bytes). sets (headed before i (answer_on h d (on t (read k)))) at (padded value_width (bytes count_width (length b) ++ b)))
          (e ∙ r.bytes);
    }

-- ---- a commit

-- a part that was lent and came back
part_back : (m : Bytes) (at n : ℕ) (ys : Bytes) → length ys ≡ n → at + n ≤ length m → put_mid at (at + n - at) m ys ≡ sets m at ys
part_back m at n ys e l =
    let k : at + length ys ≡ at + n = omega arith in
    sym (sets-eq ys m at (omega arith) ∙ rw (k, Post-is at (at + n) m (omega arith)) (append_assoc (take at m) ys (drop (at + n) m)))

pub did_commit : {h d h' d' before out after list : Bytes} {i at t : ℕ} {r : Committed} (w : Who) → Doing h d before i at (acts w commit)
    → CommitListed h d h' d' list t r → out ≡ put_mid at (at + max_writes * clash_width - at) before list → CommitHeaded out after i r
    → Did h d h' d' before after i at (acts w commit) (on t commit)
unfolding detail detail_of kind_width item_kind act_kind
did_commit {h} {d} {before = before} {out} {after} {list} {i} {at} {t} w g k o f =
    let a = answer_on h d (on t commit) in
    let n : length list ≡ max_writes * clash_width = ap length k.output ∙ length_padded (max_writes * clash_width) _ in
    record {
      hall = k.called.hall;
      desk = k.called.desk;
      output = f _ k.count
          ∙ ap (headed out i) k.called.answer
          ∙ ap (λ (m : Bytes). headed m i a) (o ∙ part_back before at (max_writes * clash_width) list n g.details)
          ∙ sets_swap before (head_width * i) (head a) at list (omega (arith, length_head a, g.head))
          ∙ ap (sets (headed before i a) at) k.output;
    }
