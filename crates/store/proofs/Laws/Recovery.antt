-- The journal's promises over the memories' bytes, from the model's theorems.
use Prim.Native.Nat.{ℕ, ◌≤◌}
use native.Mathlib.Omega.{arith}
use mathlib.Core.Path.{◌≡◌, refl, sym, ap, ◌∙◌, subst}
use mathlib.Core.Logic.{◌⊎◌}
use mathlib.Core.Bool.{true}
use mathlib.Core.List.{List, [], ◌∷◌, ◌++◌}
use Rattle.std.specs.Prelude.{Option, Some}
use lib.ListN.{length, take}
use Rattle.model.specs.Sizes.{max_key_rooms, max_version_rooms, max_desks}
use Rattle.model.specs.Bytes.{Bytes, are_bytes}
use Rattle.model.specs.State.{Hall, Store, is_some, look, visible, newest_of, value_of, writes_of, with_floor, vacant}
use Rattle.model.specs.Sound.{sizes_fit, sound}
use Rattle.model.specs.Dump.{dump_hall}
use Rattle.model.specs.Journal.{Commit, with_commits, journal}
use Rattle.model.specs.Calls.{read, put, delete, commit_to, abort, dump, Call, begin, on, ask, sweep, thin, replay, Answer, done, replayed, Outcome, above, answer, next}
use Rattle.model.specs.Load.{Parsed, got, bad, read_hall}
use Rattle.model.specs.Runs.{Creation, load, Created, loaded, created, run}
use Rattle.model.specs.History.{in_bytes, all_in_bytes, creates_in_bytes, is_commit, top_cutoff, never_thins, is_full}
use Rattle.model.specs.Demands.{held}
use Rattle.model.specs.Recovery as model
use Rattle.model.specs.Recovery.{whole_in, Journaled, recorded_by, journal_of, commits_of, reloaded, rebuilt}
use Rattle.model.proofs.Cases.{by_bool, zero_one, and_left, and_right}
use Rattle.model_laws.proofs.Sizes.{created_sizes}
use Rattle.model_laws.proofs.Tested.{hall_parts, sound_vacant}
use Rattle.model_laws.proofs.Demands.{starts_sound, load_then_dump, dump_then_load}
use Rattle.model_laws.proofs.Recovery.{replay_open, replay_whole, replay_cut, replay_torn, replay_spoiled, replay_front, reloaded_as, journal_rebuilds, journal_cut, rebuilt_swept, rebuilt_shown}
use Rattle.hall.specs.Layout.{hall_in, put_hall}
use Rattle.hall.proofs.Laws.Halls.{sound_sizes}
use Rattle.hall.proofs.Laws.Sound as halls
use Rattle.bridge.specs.Store.{store_in, answer_on, bytes_on, Sound, Memories, after_call}
use Rattle.bridge.specs.Creations.{are_long_for, created_on}
use Rattle.bridge.proofs.Laws.Memories.{outcome_sound, hall_left}
use Rattle.bridge.proofs.Laws.Kept.{hall_stays, hall_sound, is_sound_lem}
use Rattle.store.specs.Runs.{create_on, Step, call, create, steps_on, calls_of, AllRefused, Hold}
use Rattle.store.specs.Recovery
use Rattle.store.specs.Recovery.{Replays, recorded_on, journal_on, Reloaded, loaded_on, HasRoom, store_on, rebuilt_on, Rebuilt}
use Rattle.store.proofs.Laws.Runs.{lent, call_holds, creation_holds, accepted, creation_refused, steps_hold}
use Rattle.store.proofs.Laws.Demands.{answers_hold, handed_out}
use Rattle.store.proofs.Laws.Written.{dump_bytes, journal_bytes}

-- ---- replays

module _ (h d : Bytes) (s : Sound h d) where
  replays_on : (x : Bytes) (a : Answer) (cs : List Commit) → model.Replays (store_in h d) x a cs → Replays h d x a cs
  unfolding store_in
  replays_on x a cs r = (
    ap (λ (o : Outcome). o.answer) (outcome_sound h d s (replay x)) ∙ r.0,
    hall_left h d s (replay x) ∙ ap (λ (z : Store). put_hall h z.hall) r.1,
    (lent h d).replays x,
  )

pub bytes_replay_open : Recovery.ReplayOpen
unfolding store_in
bytes_replay_open h d s x o =
    let r = replay_open (store_in h d) x o in (
      ap (λ (o : Outcome). o.answer) (outcome_sound h d s (replay x)) ∙ r.0,
      hall_stays h d (replay x) (λ p. ap (λ (z : Store). z.hall) r.1),
      (lent h d).replays x,
    )

pub bytes_replay_whole : Recovery.ReplayWhole
unfolding store_in
bytes_replay_whole h d s o cs f = replays_on h d s _ _ _ (replay_whole (store_in h d) cs o f)

pub bytes_replay_cut : Recovery.ReplayCut
unfolding store_in
bytes_replay_cut h d s o cs f n = replays_on h d s _ _ _ (replay_cut (store_in h d) cs n o f)

pub bytes_replay_torn : Recovery.ReplayTorn
unfolding store_in
bytes_replay_torn h d s o cs f x t = replays_on h d s _ _ _ (replay_torn (store_in h d) cs x o f t)

pub bytes_replay_spoiled : Recovery.ReplaySpoiled
unfolding store_in
bytes_replay_spoiled h d s o cs f x n w = replays_on h d s _ _ _ (replay_spoiled (store_in h d) cs x n o f w)

pub bytes_replay_front : Recovery.ReplayFront
unfolding store_in
bytes_replay_front h d s o x b =
    let r = replay_front (store_in h d) x o b in
    let a = outcome_sound h d s (replay x) in
    record {
      commits = r.commits;
      rest = r.rest;
      splits = r.splits;
      fitting = r.fitting;
      does = replays_on h d s x _ _ (ap (λ (o : Outcome). o.answer) (sym a), r.does);
      ends = subst (λ (o : Outcome). model.Stops (with_commits (hall_in h) r.commits) r.rest (length (journal r.commits)) o.answer) (sym a) r.ends;
    }

-- ---- the journal of steps is that of their calls

recorded_hold : (m : Memories) (s : Store) → Hold m s → (c : Call) → recorded_on m.hall m.desk c ≡ recorded_by s c
unfolding recorded_on recorded_by is_commit
recorded_hold m s i begin = refl
recorded_hold m s i (on t (read k)) = refl
recorded_hold m s i (on t (put k v)) = refl
recorded_hold m s i (on t (delete k)) = refl
recorded_hold m s i (on t (commit_to j)) = ap (λ (o : Outcome). o.bytes) (answers_hold m s i (on t (commit_to j)))
recorded_hold m s i (on t abort) = refl
recorded_hold m s i (ask q) = refl
recorded_hold m s i (sweep l) = refl
recorded_hold m s i (thin l) = refl
recorded_hold m s i (replay x) = refl

journal_hold : (m : Memories) (s : Store) → Hold m s → (xs : List Step) → all_in_bytes (calls_of xs) ≡ true → AllRefused m xs
    → journal_on m xs ≡ journal_of s (calls_of xs)
unfolding journal_on journal_of calls_of all_in_bytes AllRefused
journal_hold m s i [] b r = refl
journal_hold m s i (call c ∷ xs) b r =
    let e = recorded_hold m s i c in
    let l = journal_hold (after_call m c) (next s c) (call_holds m s c (and_left (in_bytes c) _ b) i) xs (and_right (in_bytes c) _ b) r in
    λ k. e k ++ l k
journal_hold m s i (create o ∷ xs) b r =
    journal_hold (create_on m o) s (rw (creation_refused m o r.0.0 r.0.1) i) xs b r.1

-- ---- what a load that answers done gives

abbrev Opens : Created → Type 0
Opens x = (s : Store) × (x ≡ (done, Some s))

done_loaded : (p : Parsed Hall) → (loaded p).0 ≡ done → Opens (loaded p)
unfolding loaded
done_loaded (got h at rest) e = (vacant h, refl)
done_loaded (bad n at) e = zero_one (cc e)

done_load : (x : Bytes) (ks vs ds : ℕ) → (created (load x ks vs ds)).0 ≡ done → Opens (created (load x ks vs ds))
unfolding created
done_load x ks vs ds e =
    by_bool (sizes_fit ks vs ds) (λ p. rw p (done_loaded (read_hall ks vs ds 0 x) (rw p at e))) (λ p. zero_one (cc (rw p at e)))

done_load_on : (h d x : Bytes) (ks vs ds : ℕ) → (created_on h d (load x ks vs ds)).0 ≡ done → Opens (created_on h d (load x ks vs ds))
unfolding created_on
done_load_on h d x ks vs ds e =
    by_bool (are_long_for h d (load x ks vs ds)) (λ p. rw p (done_load x ks vs ds (rw p at e))) (λ p. zero_one (cc (rw p at e)))

opened_same : {x y : Created} {a b : Store} → x ≡ (done, Some a) → y ≡ (done, Some b) → x ≡ y → a ≡ b
opened_same {x} {y} {a} {b} e f g = let q : Some a ≡ Some b = ap (λ (o : Created). o.1) (sym e ∙ g ∙ f) in cc

-- in the largest sizes
largest : sizes_fit max_key_rooms max_version_rooms max_desks ≡ true
unfolding sizes_fit
largest = refl

reloaded_largest : (s : Store) → sound s ≡ true
    → created (load (dump_hall s.hall) max_key_rooms max_version_rooms max_desks) ≡ (done, Some (reloaded max_key_rooms max_version_rooms max_desks s))
reloaded_largest s e =
    let p = hall_parts s.hall (hall_sound s e) in
    let z = sound_sizes s.hall (hall_sound s e) in
    reloaded_as s max_key_rooms max_version_rooms max_desks e largest (omega (arith, p.keys, z.keys.1)) (omega (arith, p.versions, z.versions.1))

-- a dump that is accepted gives the store that was dumped
loaded_only : (s : Store) → sound s ≡ true → (ks vs ds : ℕ) (z : Store) → created (load (dump_hall s.hall) ks vs ds) ≡ (done, Some z)
    → z ≡ reloaded ks vs ds s
unfolding vacant creates_in_bytes
loaded_only s g ks vs ds z e =
    let o : Creation = load (dump_hall s.hall) ks vs ds in
    let b : are_bytes (dump_hall s.hall) ≡ true = dump_bytes s.hall (hall_sound s g) in
    let f : sound z ≡ true = starts_sound o z b e in
    let w : dump_hall z.hall ≡ dump_hall s.hall = load_then_dump (dump_hall s.hall) ks vs ds z b e in
    let k = created_sizes o z e in
    let same : reloaded max_key_rooms max_version_rooms max_desks z ≡ reloaded max_key_rooms max_version_rooms max_desks s =
    opened_same (reloaded_largest z f) (reloaded_largest s g) (ap (λ (x : Bytes). created (load x max_key_rooms max_version_rooms max_desks)) w) in
    let again : z ≡ vacant (with_floor z.hall z.hall.counter) =
    opened_same e (dump_then_load z.hall (hall_sound z f))
    (λ i. created (load (sym w i) (sym k.0 i) (sym k.1 i) (sym k.2 i))) in
    let c = ap (λ (x : Store). x.hall.counter) same in
    let es = ap (λ (x : Store). x.hall.entries) same in
    again ∙ (λ i. vacant (record { key_rooms = k.0 i; version_rooms = k.1 i; desk_count = k.2 i; counter = c i; floor = c i; entries = es i }))

pub bytes_reloaded_as : Recovery.ReloadedAs
unfolding created_on store_in vacant
bytes_reloaded_as h d room size e ks vs ds z k v n l =
    let o = handed_out h room size e in
    let g = (halls.tested h o.0).hall in
    rw (l, o.1) (reloaded_as (vacant (hall_in h)) ks vs ds (sound_vacant (hall_in h) g) z k v)

-- ---- rebuilding

module _ (m : Memories) (xs : List Step) (n : Memories) (room ks vs ds : ℕ) (r : Reloaded m xs n room ks vs ds) where
  first : Hold m (store_on m)
  first = record { sound = r.sound; store = refl }

  later : Hold (steps_on m xs) (run (store_on m) (calls_of xs))
  later = steps_hold m (store_on m) xs r.steps first

  first_sound : sound (store_on m) ≡ true
  first_sound = is_sound_lem m.hall m.desk r.sound

  journaled : Journaled (store_on m) (calls_of xs)
  journaled = record { sound = first_sound; calls = r.steps.calls; commits = r.commits }

  same_journal : journal_on m xs ≡ journal_of (store_on m) (calls_of xs)
  same_journal = journal_hold m (store_on m) first xs r.steps.calls r.steps.refused

  loaded_holds : Hold (loaded_on m n room ks vs ds) (reloaded ks vs ds (store_on m))
  unfolding store_in creates_in_bytes
  loaded_holds =
      let x : Bytes = bytes_on m.hall [] (ask (dump room)) in
      let o : x ≡ dump_hall (hall_in m.hall) = (handed_out m.hall room r.size r.dumps).1 in
      let z = done_load_on n.hall n.desk x ks vs ds r.loads in
      let a = (accepted n.hall n.desk (load x ks vs ds) z.0 z.1).1 in
      let b : are_bytes x ≡ true = rw o (dump_bytes (hall_in m.hall) r.sound.hall.hall) in
      let q = loaded_only (store_on m) first_sound ks vs ds z.0 (sym (ap (λ (y : Bytes). created (load y ks vs ds)) o) ∙ a) in
      subst (λ (y : Store). Hold (loaded_on m n room ks vs ds) y) q (creation_holds n (load x ks vs ds) z.0 b z.1)

  replayed_as : answer_on (loaded_on m n room ks vs ds).hall (loaded_on m n room ks vs ds).desk (replay (journal_on m xs))
      ≡ answer (reloaded ks vs ds (store_on m)) (replay (journal_of (store_on m) (calls_of xs)))
  replayed_as =
      ap (λ (o : Outcome). o.answer) (answers_hold (loaded_on m n room ks vs ds) _ loaded_holds (replay (journal_on m xs)))
      ∙ ap (λ (x : Bytes). answer (reloaded ks vs ds (store_on m)) (replay x)) same_journal

  rebuilt_holds : Hold (rebuilt_on m xs (loaded_on m n room ks vs ds)) (rebuilt ks vs ds (store_on m) (calls_of xs))
  unfolding in_bytes
  rebuilt_holds =
      let b : are_bytes (journal_on m xs) ≡ true = rw same_journal (journal_bytes (store_on m) first_sound (calls_of xs) r.steps.calls) in
      subst (λ (x : Bytes). Hold (rebuilt_on m xs (loaded_on m n room ks vs ds)) (next (reloaded ks vs ds (store_on m)) (replay x))) same_journal
      (call_holds (loaded_on m n room ks vs ds) (reloaded ks vs ds (store_on m)) (replay (journal_on m xs)) b loaded_holds)

  module _ (f : HasRoom m xs (loaded_on m n room ks vs ds)) where
    has_room_lem : model.HasRoom ks vs ds (store_on m) (calls_of xs)
    has_room_lem = sym (ap is_full replayed_as) ∙ f

    is_rebuilt : Rebuilt m xs (loaded_on m n room ks vs ds) ks vs ds
    unfolding store_in vacant
    is_rebuilt =
        let z = journal_rebuilds (store_on m) (calls_of xs) journaled ks vs ds has_room_lem in
        let e = rebuilt_holds.store in
        record {
          answers = replayed_as ∙ z.answers ∙ ap (λ (x : Bytes). replayed (length x)) (sym same_journal);
          sound = rebuilt_holds.sound;
          holds = λ k. ap (λ (y : Store). look k y.hall.entries) e ∙ z.holds k;
          counter = ap (λ (y : Store). y.hall.counter) e ∙ z.counter;
          floor = ap (λ (y : Store). y.hall.floor) e ∙ z.floor;
          key_rooms = ap (λ (y : Store). y.hall.key_rooms) e ∙ z.key_rooms;
          version_rooms = ap (λ (y : Store). y.hall.version_rooms) e ∙ z.version_rooms;
          desk_count = ap (λ (y : Store). y.hall.desk_count) e ∙ z.desk_count;
          desks = ap (λ (y : Store). y.desks) e ∙ z.desks;
        }

    is_cut : (i : ℕ)
        → Replays (loaded_on m n room ks vs ds).hall (loaded_on m n room ks vs ds).desk (take i (journal_on m xs))
        (replayed (length (journal (whole_in i (commits_of (store_on m) (calls_of xs)))))) (whole_in i (commits_of (store_on m) (calls_of xs)))
    is_cut i =
        let cs = whole_in i (commits_of (store_on m) (calls_of xs)) in
        let a : Answer = replayed (length (journal cs)) in
        replays_on (loaded_on m n room ks vs ds).hall (loaded_on m n room ks vs ds).desk loaded_holds.sound _ a cs
        (subst (λ (y : Store). model.Replays y (take i (journal_on m xs)) a cs) (sym loaded_holds.store)
        (subst (λ (x : Bytes). model.Replays (reloaded ks vs ds (store_on m)) (take i x) a cs) (sym same_journal)
        (journal_cut (store_on m) (calls_of xs) journaled ks vs ds has_room_lem i)))

    is_swept : never_thins (calls_of xs) ≡ true → (k : Bytes)
        → look k (hall_in (steps_on m xs).hall).entries
        ≡ held (top_cutoff (store_on m) (calls_of xs)) (look k (hall_in (rebuilt_on m xs (loaded_on m n room ks vs ds)).hall).entries)
    unfolding store_in
    is_swept p k =
        ap (λ (y : Store). look k y.hall.entries) later.store
        ∙ rebuilt_swept (store_on m) (calls_of xs) journaled ks vs ds has_room_lem p k
        ∙ ap (λ (y : Store). held (top_cutoff (store_on m) (calls_of xs)) (look k y.hall.entries)) (sym rebuilt_holds.store)

pub bytes_rebuilt : Recovery.JournalRebuilds
bytes_rebuilt m xs n room ks vs ds r f = is_rebuilt m xs n room ks vs ds r f

pub bytes_journal_cut : Recovery.JournalCut
bytes_journal_cut m xs n room ks vs ds r f i = is_cut m xs n room ks vs ds r f i

pub bytes_rebuilt_swept : Recovery.RebuiltSwept
bytes_rebuilt_swept m xs n room ks vs ds r f p k = is_swept m xs n room ks vs ds r f p k

pub bytes_rebuilt_shown : Recovery.RebuiltShown
unfolding store_in
bytes_rebuilt_shown m xs n room ks vs ds r f t o k =
    let e = (later m xs n room ks vs ds r).store in
    let g = (rebuilt_holds m xs n room ks vs ds r).store in
    let seen : Store → Option Bytes = λ y. value_of (visible t (look k y.hall.entries)) in
    let clash : Store → Option ℕ = λ y. above t (newest_of (look k y.hall.entries)) in
    let q = subst (λ (y : Store). (is_some (writes_of t y.desks) ≡ true) ⊎ (y.hall.floor ≤ t)) e o in
    let z = rebuilt_shown (store_on m) (calls_of xs) (journaled m xs n room ks vs ds r) ks vs ds (has_room_lem m xs n room ks vs ds r f) t q k in
    (ap seen e ∙ z.0 ∙ sym (ap seen g), ap clash e ∙ z.1 ∙ sym (ap clash g))
