-- A replay midway: what is done so far, and that the rest of the journal ends it as the whole does.
-- Assumes nothing.
use mathlib.Core.Path.{◌≡◌, refl, sym, ap, subst, ◌∙◌}
use mathlib.Core.Logic.{◌⊎◌, ⊎_elim}
use mathlib.Core.Bool.{true}
use mathlib.Core.List.{List, [], ◌∷◌, ◌++◌, append_assoc, append-nil}
use Prim.Native.Nat.{ℕ, ◌+◌, ◌≤◌}
use native.Mathlib.Omega.{arith}
use lib.ListN.{length, drop}
use borrow.Author.Tests.{ne_eqb}
use Rattle.model.specs.Sizes.{number_width}
use Rattle.model.specs.Bytes.{Bytes, part, num}
use Rattle.model.specs.State.{Hall, Writes}
use Rattle.model.specs.Sound.{sound_hall}
use Rattle.model.specs.Load.{Parsed, got, bad}
use Rattle.model.specs.Journal.{Commit, with_commit, with_commits, mark, dump_body, dump_commit, read_commit}
use Rattle.model.specs.Calls.{faulty, Replay, stops, go_on, replay_of}
use Rattle.model_laws.proofs.Entries.{SoundWrites}
use Rattle.model_laws.proofs.Journal.{Later, Proper, length_framed, commit_got, commit_full}
use Rattle.model_laws.proofs.Replay.{full_of, first_of, full_none, full_some, before, replay_step, replay_stops}
use Rattle.model_laws.proofs.Recovery.{lawful_parts}
use Rattle.model_laws.proofs.Sound.{hall_commit}
use Rattle.model_laws.proofs.Tested.{hall_parts, hall_tests, writes_tests}
use Rattle.memory.proofs.Laws.Parts.{length_part}
use Rattle.hall.specs.Layout.{counter_in, hall_in, put_hall, Sound}
use Rattle.model.proofs.Cases.{key_parts}
use Rattle.hall.proofs.Laws.Halls.{payload_short}
use Rattle.hall.proofs.Laws.Sound.{hall_counter, hall_read, put_hall_put, put_sound}
use Rattle.desk.specs.Shape.{RoomForWrites}
use Rattle.journal_fields.specs.Places.{frame_width}
use Rattle.journal_check.specs.Records.{IsWhole}
use Rattle.journal_stage.specs.Staging.{writes_of}
use Rattle.journal_stage.proofs.Laws.Staging.{body_writes, body_number, body_of}
use Rattle.journal_replay.specs.Replays.{Vacant, commit_of, Lawful, Committed, Replayed}

-- a journal x from h₀ and d₀, where its records before `at` are done
pub record Going (x h₀ d₀ h d : Bytes) (at : ℕ) : Type 0 where
  pub sound : Sound h
  pub vacant : Vacant d
  pub desk : d ≡ d₀
  pub inside : at ≤ length x
  pub commits : List Commit
  pub rest : replay_of (hall_in h₀) 0 x ≡ before commits (replay_of (hall_in h) at (drop at x))
  pub now : hall_in h ≡ with_commits (hall_in h₀) commits
  pub hall : h ≡ put_hall h₀ (hall_in h)

pub going_start : {x h d : Bytes} → Sound h → Vacant d → Going x h d h d 0
unfolding with_commits
going_start s v = record {
  sound = s;
  vacant = v;
  desk = refl;
  inside = omega arith;
  commits = [];
  rest = refl;
  now = refl;
  hall = s.same;
}

with_more : (h : Hall) (cs : List Commit) (c : Commit) → with_commits h (cs ++ c ∷ []) ≡ with_commit (with_commits h cs) c
unfolding with_commits
with_more h [] c = refl
with_more h (b ∷ cs) c = with_more (with_commit h b) cs c

rooms_of : (last : Bytes) (ws : Writes) → SoundWrites last ws → RoomForWrites ws
rooms_of last [] s = tt
rooms_of last (w ∷ ws) s = (((key_parts w.key s.1).1, payload_short w.payload s.2), rooms_of w.key ws s.3)

module _ {x h₀ d₀ h d : Bytes} {at : ℕ} (g : Going x h₀ d₀ h d at) where
  -- no record is read any more
  pub going_stops : (n : ℕ) → first_of (hall_in h) at (drop at x) ≡ bad n at → Replayed h₀ d₀ x h d (stops n at)
  going_stops n e =
      let r : replay_of (hall_in h₀) 0 x ≡ before g.commits (record { answer = stops n at; commits = [] }) =
      g.rest ∙ ap (before g.commits) (replay_stops (hall_in h) at (drop at x) n at e) in
      record {
        answer = sym (ap (λ (r : Replay). r.answer) r);
        hall = g.hall ∙ ap (put_hall h₀) (g.now ∙ ap (with_commits (hall_in h₀)) (sym (append-nil g.commits) ∙ sym (ap (λ (r : Replay). r.commits) r)));
        desk = g.desk;
      }

  pub going_bad : {counter : ℕ} → counter ≡ counter_in h → (n : ℕ)
      → ((full : Commit → ℕ) → read_commit counter full at (drop at x) ≡ bad n at) → Replayed h₀ d₀ x h d (stops n at)
  going_bad k n e = going_stops n (rw (k, ← hall_counter h) at (e (full_of (hall_in h))))

  -- a whole record
  module _ {n : ℕ} (w : IsWhole (counter_in h) x at n) {b : Bytes} (f : b ≡ part x (at + frame_width) n) where
    abbrev c : Commit
    c = w.commit

    parts : Proper c × Later (hall_in h).counter c
    parts = rw (← hall_counter h) at (lawful_parts (counter_in h) c w.lawful)

    room : RoomForWrites c.writes
    room = rooms_of [] c.writes parts.0.sound

    body : b ≡ dump_body c
    body = f ∙ w.body

    number : num (part b 0 number_width) ≡ c.number
    number = body_number b c body parts.0.few room (omega (arith, parts.1.1))

    writes : writes_of b ≡ c.writes
    writes = body_writes b c body parts.0.few room

    pub going_lawful : Lawful h b
    going_lawful =
        let s = body_of b c body parts.0.few room in
        record {
          body = s;
          long = omega (arith, s.long);
          later = rw number parts.1.0;
          low = rw number parts.1.1;
          writes = rw writes (writes_tests [] c.writes parts.0.sound);
        }

    is : commit_of b ≡ c
    is = λ i. record { number = number i; writes = writes i }

    ends : at + length (dump_commit c) ≡ at + frame_width + n
    unfolding dump_commit mark
    ends =
        let l = length_part x (at + frame_width) n w.inside in
        omega (arith, length_framed (dump_body c), ap length body, ap length f)

    module _ {h' d' : Bytes} {r : ℕ} (t : Committed h (commit_of b) h' r) (q : d' ≡ d) where
      lack : full_of (hall_in h) c ≡ r
      lack = ap (λ (c : Commit). full_of (hall_in h) c) (sym is) ∙ sym t.lack

      pub going_lack : (r ≡ 0 → ⊥) → (r ≡ 10) ⊎ (r ≡ 11)
      going_lack z = full_some (hall_in h) c r lack z

      pub going_full : (r ≡ 0 → ⊥) → Replayed h₀ d₀ x h' d' (faulty r at)
      going_full z =
          let y : Bytes = drop (at + frame_width + n) x in
          let e : first_of (hall_in h) at (drop at x) ≡ bad r at =
          ap (first_of (hall_in h) at) w.bytes
          ∙ commit_full (hall_in h).counter (full_of (hall_in h)) at c y parts.0 parts.1 (λ i. z (sym lack ∙ i))
          ∙ ap (λ (m : ℕ). bad m at) lack in
          let same : stops r at ≡ faulty r at = ⊎_elim (λ i. rw i) (λ i. rw i) (going_lack z) in
          let s = going_stops r e in
          let kept = rw (ne_eqb r 0 z) at t.hall in
          record { answer = sym same ∙ s.answer; hall = kept ∙ s.hall; desk = q ∙ s.desk }

      pub going_next : r ≡ 0 → Going x h₀ d₀ h' d' (at + frame_width + n)
      unfolding go_on
      going_next z =
          let W : Hall = with_commit (hall_in h) c in
          let to : ℕ = at + frame_width + n in
          let y : Bytes = drop to x in
          let u : Committed h c h' r = subst (λ (c : Commit). Committed h c h' r) is t in
          let e : h' ≡ put_hall h W = rw z at u.hall in
          let fits = full_none (hall_in h) c (lack ∙ z) in
          let sw : sound_hall W ≡ true =
          hall_tests W (hall_commit (hall_parts (hall_in h) g.sound.hall) c parts.1 fits parts.0) in
          let nw : hall_in h' ≡ W = ap hall_in e ∙ hall_read h W sw in
          let first : first_of (hall_in h) at (drop at x) ≡ got c to y =
          ap (first_of (hall_in h) at) w.bytes
          ∙ commit_got (hall_in h).counter (full_of (hall_in h)) at c y parts.0 parts.1 (lack ∙ z)
          ∙ ap (λ (p : ℕ). got c p y) ends in
          let step : replay_of (hall_in h) at (drop at x) ≡ before (c ∷ []) (replay_of W to y) =
          replay_step (hall_in h) at (drop at x)
          ∙ ap (λ (w : Parsed Commit). go_on w (λ c. replay_of (with_commit (hall_in h) c))) first in
          let rest : Replay = replay_of (hall_in h') to y in
          record {
            sound = rw e (put_sound h W sw g.sound.long);
            vacant = rw q g.vacant;
            desk = q ∙ g.desk;
            inside = w.inside;
            commits = g.commits ++ c ∷ [];
            rest = g.rest
                ∙ ap (before g.commits) (step ∙ ap (λ (h : Hall). before (c ∷ []) (replay_of h to y)) (sym nw))
                ∙ ap (λ (l : List Commit). record { answer = rest.answer; commits = l })
                (sym (append_assoc g.commits (c ∷ []) rest.commits));
            now = nw ∙ ap (λ (h : Hall). with_commit h c) g.now ∙ sym (with_more (hall_in h₀) g.commits c);
            hall = e ∙ ap (λ (y : Bytes). put_hall y W) g.hall
                ∙ put_hall_put h₀ (hall_in h) g.sound.hall W refl refl ∙ ap (put_hall h₀) (sym nw);
          }
