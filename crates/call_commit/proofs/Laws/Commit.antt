-- A commit, exit by exit: what is found on the way says its outcome, and what is left in the memories.
-- Assumes nothing.
use Prim.Native.Nat.{ℕ, ◌≤◌, ◌<◌}
use native.Mathlib.Omega.{arith}
use mathlib.Core.Path.{◌≡◌, refl, sym, ap, ◌∙◌}
use mathlib.Core.Bool.{true, false}
use mathlib.Core.List.{[], ◌∷◌}
use Rattle.std.specs.Prelude.{Option, None, Some}
use lib.ListN.{length, set}
use Rattle.model.specs.Sizes.{max_writes}
use Rattle.model.specs.Bytes.{Bytes}
use Rattle.model.specs.State.{Hall, Writes, free, written_keys}
use Rattle.model.specs.Calls.{commit_to, on, Clashes, conflict, clashes_of, closed, closes, Outcome, answering, check, clashes, settle, act, decide, apply}
use Rattle.model_laws.proofs.Effects.{checked}
use Rattle.answers.specs.declared.Refusal.TheVariants.{Unsound, NotOpen}
use Rattle.answers.specs.declared.Committed.{Committed}
use Rattle.answers.specs.declared.Committed.TheVariants as answers
use Rattle.answers.specs.declared.Recorded.{Recorded}
use Rattle.answers.specs.Paper.{paper_committed, Counts}
use Rattle.hall.specs.Layout.{hall_in}
use Rattle.desk.specs.Layout.{desks_in, put_desks}
use Rattle.desk.specs.Shape.{desk_of}
use Rattle.memory.specs.Which.{placed}
use Rattle.memory.specs.declared.Which.{Which}
use Rattle.memory.specs.declared.Which.TheVariants as found
use Rattle.memory.proofs.Laws.Which.{placed_at, placed_none}
use Rattle.desk.proofs.Laws.Starts.{open_at, not_open}
use Rattle.hall_conflict.specs.Clashes.{Gathered}
use Rattle.cells.proofs.Laws.Cells.{nothing_over}
use Rattle.hall_sought.specs.Sought.{writes_in}
use Rattle.desk_writes.proofs.Laws.Writes.{few}
use Rattle.bridge.specs.Store.{store_in, looks_at_desks, are_sound, Sound}
use Rattle.bridge.proofs.Laws.Memories.{unsound, outcome_unsound, outcome_sound, leaves}
use Rattle.memory.specs.Spans.{overlay}
use Rattle.commit_writes.specs.Commits.{room_in, settle_at, OpenDesk, Unopposed, Ended}
use Rattle.commit_writes.proofs.Laws.Writes.{none_kept, refused_ended, desks_shaped, desk_closed}
use Rattle.call_commit.specs.Lists.{Lists}
use Rattle.bridge.specs.Clauses.{clashes_on, record_on, Committing, Recording}

-- ---- the model's commit

module _ (g : Hall) (j : Option ℕ) (t : ℕ) where
  pub settle_closed : (ws : Writes) (cs : Clashes) → length ws ≡ 0 → settle g j t ws cs ≡ answering closed (closes t)
  unfolding settle
  settle_closed [] cs e = refl
  settle_closed (w ∷ ws) cs e = absurd (omega (arith, e))

  settle_conflict : (ws : Writes) (cs : Clashes) → (length ws ≡ 0 → ⊥) → (length cs ≡ 0 → ⊥) → settle g j t ws cs ≡ answering (conflict cs) (closes t)
  unfolding settle
  settle_conflict [] cs z y = absurd (z refl)
  settle_conflict (w ∷ ws) [] z y = absurd (y refl)
  settle_conflict (w ∷ ws) (c ∷ cs) z y = refl

  -- the commit of some writes lists what it was given
  settle_lists : (ws : Writes) (cs : Clashes) → (length ws ≡ 0 → ⊥) → clashes_of (settle g j t ws cs).answer ≡ cs
  unfolding settle clashes_of
  settle_lists [] cs z = absurd (z refl)
  settle_lists (w ∷ ws) (c ∷ cs) z = refl
  settle_lists (w ∷ ws) [] z =
      checked (λ o. clashes_of o.answer ≡ []) (λ n. refl) _ _
      (λ a. checked (λ o. clashes_of o.answer ≡ []) (λ n. refl) _ _ (λ b. refl))

none_listed : (cs : Clashes) → length cs ≡ 0 → cs ≡ []
none_listed [] e = refl
none_listed (c ∷ cs) e = absurd (omega (arith, e))

-- ---- what each effect leaves in sound memories

module _ {h d : Bytes} (s : Sound h d) where
  -- an outcome that lists nothing leaves the output
  lists_none : (out : Bytes) (o : Outcome) → clashes_of o.answer ≡ [] → Lists out out o
  lists_none out o e = rw e (sym (nothing_over (length out) out))

  pub commits : (j : Option ℕ) (t : ℕ) {h' d' out out' x x' : Bytes} {r : Recorded}
      → Ended h d h' d' x x' (decide (store_in h d) (on t (commit_to j))) r
      → Lists out out' (decide (store_in h d) (on t (commit_to j))) → Recording j h d h' d' out out' x x' t r
  commits j t z l =
      let o = outcome_sound h d s (on t (commit_to j)) in
      let e : clashes_on j h d t ≡ clashes_of (decide (store_in h d) (on t (commit_to j))).answer =
      ap (λ (o : Outcome). clashes_of o.answer) o in
      let b : record_on j h d t ≡ (decide (store_in h d) (on t (commit_to j))).bytes = ap (λ (o : Outcome). o.bytes) o in
      record {
        commits =
            record {
              called = rw e (leaves h d s (on t (commit_to j)) z.settled.answer z.settled.hall z.settled.desk);
              count = rw e z.settled.count;
              output = rw e l;
            };
        size = rw b z.kept.count;
        output = rw b z.kept.bytes;
      }

  -- x is the desk that was found
  module _ (t : ℕ) {x : Which} (q : placed x ≡ desk_of t (desks_in d)) where
    pub commit_closed : {j : Option ℕ} (out journal : Bytes) → x ≡ found.Nothing
        → Recording j h d h d out out journal journal t (record { answer = answers.Refused NotOpen; length = 0 })
    unfolding decide act check store_in clashes_of
    commit_closed {j} out journal e =
        let o = not_open t (desks_in d) (placed_none q e) in
        commits j t (refused_ended s NotOpen journal (rw o)) (lists_none out (decide (store_in h d) (on t (commit_to j))) (rw o))

    pub desk_found : {k : ℕ} → x ≡ found.At k → OpenDesk h d k t
    desk_found e = record { sound = s; at = placed_at q e }

-- desk k of start t is open
module _ {h d : Bytes} {k t : ℕ} (p : OpenDesk h d k t) where
  abbrev ws : Writes
  ws = writes_in d k

  pub few_places : length (writes_in d k) ≤ max_writes
  few_places = few d (desks_shaped p).0 k (desks_shaped p).1

  pub commit_open : {j : Option ℕ} {h' d' out out' x x' : Bytes} {r : Recorded} → Ended h d h' d' x x' (settle_at j h d k t) r
      → Lists out out' (settle_at j h d k t) → Recording j h d h' d' out out' x x' t r
  unfolding decide act check store_in
  commit_open {j} z l = let w = (open_at t (desks_in d) k p.at).writes in commits p.sound j t (rw w z) (rw w l)

  module _ {d' : Bytes} (q : d' ≡ put_desks d (set (desks_in d) k free)) (out : Bytes) where
    closes_ended : (r : Committed) {o : Outcome} (cs : Clashes) → o ≡ answering (paper_committed cs r) (closes t)
        → clashes_of (paper_committed cs r) ≡ cs → Counts cs r → Ended h d h d' out out o (record { answer = r; length = 0 })
    unfolding apply store_in
    closes_ended r {o} cs e l i =
        record {
          settled =
              rw e
              (record {
                answer = ap (λ (x : Clashes). paper_committed x r) l;
                count = rw l i;
                hall = p.sound.hall.same;
                desk = rw (desk_closed p) q;
              });
          kept = none_kept out o (rw e);
        }

    pub closed_ended : (j : Option ℕ) {n : ℕ} → n ≡ length ws → n ≡ 0
        → Ended h d h d' out out (settle_at j h d k t) (record { answer = answers.Closed; length = 0 })
    unfolding clashes_of
    closed_ended j e z = closes_ended answers.Closed [] (settle_closed (hall_in h) j t ws _ (sym e ∙ z)) refl tt

  pub closed_lists : (j : Option ℕ) (out : Bytes) {n : ℕ} → n ≡ length ws → n ≡ 0 → Lists out out (settle_at j h d k t)
  unfolding clashes_of
  closed_lists j out e z = lists_none p.sound out (settle_at j h d k t) (rw (settle_closed (hall_in h) j t ws _ (sym e ∙ z)))

  -- with writes, of which n clash
  module _ {n m : ℕ} {out out' : Bytes} (e : m ≡ length ws) (z : m ≡ 0 → ⊥)
      (g : Gathered out out' (clashes t (written_keys ws) (hall_in h)) n) where
    pub settled_lists : (j : Option ℕ) → Lists out out' (settle_at j h d k t)
    settled_lists j = rw (settle_lists (hall_in h) j t ws (clashes t (written_keys ws) (hall_in h)) (λ v. z (e ∙ v))) g.output

    pub conflict_ended : (j : Option ℕ) {d' : Bytes} → d' ≡ put_desks d (set (desks_in d) k free) → 0 < n → (x : Bytes)
        → Ended h d h d' x x (settle_at j h d k t) (record { answer = answers.Conflict n; length = 0 })
    unfolding clashes_of
    conflict_ended j q l x =
        closes_ended q x (answers.Conflict n) _
        (settle_conflict (hall_in h) j t ws _ (λ v. z (e ∙ v)) (λ v. omega (arith, l, v, g.count))) refl g.count

    pub unopposed : n ≤ 0 → Unopposed h d k t
    unopposed l = record { desk = p; writes = λ v. z (e ∙ v); clear = none_listed _ (omega (arith, l, g.count)) }

-- ---- any memories

pub commit_unsound : {j : Option ℕ} (h d out journal : Bytes) (t : ℕ) → are_sound h d ≡ false
    → Recording j h d h d out out journal journal t (record { answer = answers.Refused Unsound; length = 0 })
unfolding looks_at_desks clashes_of overlay
commit_unsound {j} h d out journal t e =
    let o = outcome_unsound h d (on t (commit_to j)) refl e in
    let l : clashes_on j h d t ≡ [] = ap (λ (o : Outcome). clashes_of o.answer) o in
    let b : record_on j h d t ≡ [] = ap (λ (o : Outcome). o.bytes) o in
    record {
      commits =
          record {
            called = unsound h d (on t (commit_to j)) refl e;
            count = tt;
            output = rw l (sym (nothing_over (length out) out));
          };
      size = rw b;
      output = rw b;
    }

-- a commit that keeps no journal, and one that does
module _ {h d h' d' list list' out out' : Bytes} {t : ℕ} {r : Recorded} where
  pub plain : Recording (room_in false out) h d h' d' list list' out out' t r → Committing None h d h' d' list list' t r.answer
  unfolding room_in
  plain c = c.commits

  pub journaled : Recording (room_in true out) h d h' d' list list' out out' t r → Recording (Some (length out)) h d h' d' list list' out out' t r
  unfolding room_in
  journaled c = c
