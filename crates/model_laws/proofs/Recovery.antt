-- The journal's promises: what a replay does, cut or spoiled, and that it rebuilds what a run committed.
use Prim.Native.Nat.{ℕ, zero, suc, ◌+◌, ◌-◌, ◌≤◌, ◌<◌}
use native.Mathlib.Nat.{le_refl}
use native.Mathlib.Omega.{arith}
use mathlib.Core.Path.{◌≡◌, refl, sym, ap, ◌∙◌}
use mathlib.Core.Logic.{⊎_elim}
use mathlib.Core.Bool.{true, false}
use mathlib.Core.List.{List, [], ◌∷◌, ◌++◌, append_assoc, append-nil}
use Rattle.std.specs.Prelude.{Option, None, Some}
use lib.ListN.{length, take, length-append}
use lib.Seq.{take-append-add, take-append-le, take-nil}
use lib.Dec.{leb, eqb}
use borrow.Author.Tests.{leb-true, leb-false, ltb-true, eqb-true, eqb-false, eq-eqb, ne_eqb, le-leb, lt-ltb}
use Rattle.model.specs.Sizes.{max_writes, last_number}
use Rattle.model.specs.Bytes.{Bytes, are_bytes}
use Rattle.model.specs.State.{Hall, Writes, Store, or_empty, look, writes_of, open_desks, find, vacant}
use Rattle.model.specs.Load.{Parsed, got, bad, bind}
use Rattle.model.specs.Journal.{Commit, with_commit, with_commits, framed, dump_commit, journal, read_frame, read_body, admitted, read_commit, blamed}
use Rattle.model.specs.Calls.{Act, read, put, delete, commit_to, abort, Call, begin, on, ask, sweep, Clashes, thin, replay, refused, faulty, replayed, stays, Outcome, answering, replays, check, Replay, stops, go_on, replay_up_to, replay_of, replay_beside, settle, act, decide, apply, answer, next}
use Rattle.model.specs.Dump.{dump_hall}
use Rattle.model.specs.Runs.{run, loaded, created}
use Rattle.model.specs.History.{in_bytes, all_in_bytes, is_commit, top_cutoff, commit_number, stamp, stamps, gain, gains, history, is_full, never_thins}
use Rattle.model.specs.Demands.{held}
use Rattle.model.specs.Recovery
use Rattle.model.specs.Recovery.{is_lawful, all_fit, Replays, whole_in, no_mark, no_body, no_room, in_mark, Stops, torn, spoiled, commit_at, commit_of, commits_of, recorded_by, journal_of, is_journaled, all_journaled, last_of, Journaled, reloaded, HasRoom, rebuilt, Rebuilt}
use Rattle.model_laws.proofs.Desks.{free_none}
use Rattle.model.proofs.Cases.{by_bool, by_option, true_false, none_some, and_left, and_right, every_all, all_every, within_le, le_within}
use Rattle.model_laws.proofs.Trim.{trim_held}
use Rattle.model_laws.proofs.Held.{inv_run, trim_run}
use Rattle.model_laws.proofs.Journal.{Later, came, comes_commit, Proper, takes_commit, commit_got, commit_full, body_bad, mark_bad, mark_some, torn_read, commit_torn, commit_end, Unread, cut_off, bad_mark, bad_body, unread}
use Rattle.model_laws.proofs.Journal as read
use Rattle.model_laws.proofs.Round.{got_at, bad_got, reads_hall}
use Rattle.model_laws.proofs.Replay.{full_of, first_of, Rises, AllProper, full_none, full_some, full_stops, none_full, before, replay_step, replay_on, replay_stops, commit_rest, replay_rises, replay_proper, look_commits}
use Rattle.model_laws.proofs.Effects.{checked, read_handed, Comes, idles, notes, ends, commits, comes, counter_up, sweeps}
use Rattle.model_laws.proofs.Sound.{tidy_of, SoundHall, Sound, sound_next}
use Rattle.model_laws.proofs.Tested.{writes_parts, writes_tests, hall_tests, sound_parts}

-- ---- the tests taken apart

pub lawful_parts : (counter : ℕ) (c : Commit) → is_lawful counter c ≡ true → Proper c × Later counter c
unfolding is_lawful
lawful_parts counter c e =
    let a = every_all _ e in
    let w = within_le 1 max_writes (length c.writes) a.1.1.0 in (
      record { sound = writes_parts [] c.writes a.1.1.1.0; some = w.0; few = w.1 },
      (ltb-true _ _ a.0, leb-true _ _ a.1.0),
    )

pub lawful_tests : (counter : ℕ) (c : Commit) → Proper c → Later counter c → is_lawful counter c ≡ true
unfolding is_lawful
lawful_tests counter c p l =
    all_every _ (lt-ltb _ _ l.0, (le-leb _ _ l.1, (le_within 1 max_writes _ p.some p.few, (writes_tests [] c.writes p.sound, tt))))

fits_parts : (h : Hall) (cs : List Commit) → all_fit h cs ≡ true → AllProper cs × Rises h cs
unfolding all_fit
fits_parts h [] e = (tt, tt)
fits_parts h (c ∷ cs) e =
    let a = every_all _ e in
    let l = lawful_parts h.counter c a.0 in
    let r = fits_parts (with_commit h c) cs a.1.1.0 in
    ((l.0, r.0), (l.1, full_none h c (eqb-true _ _ a.1.0), r.1))

fits_tests : (h : Hall) (cs : List Commit) → AllProper cs → Rises h cs → all_fit h cs ≡ true
unfolding all_fit
fits_tests h [] p r = refl
fits_tests h (c ∷ cs) p r =
    all_every _ (lawful_tests h.counter c p.0 r.0, (eq-eqb _ _ (none_full h c r.1), (fits_tests (with_commit h c) cs p.1 r.2, tt)))

-- ---- beside vacant desks

-- an outcome by its parts
parts : (s : Store) (x : Bytes) (o : Outcome) → decide s (replay x) ≡ o → (answer s (replay x) ≡ o.answer) × (next s (replay x) ≡ apply s o.effect)
parts s x o e = (ap (λ (o : Outcome). o.answer) e, ap (λ (o : Outcome). apply s o.effect) e)

pub replay_open : Recovery.ReplayOpen
unfolding decide replay_beside check apply
replay_open s x n = parts s x (answering (refused 17) stays) (rw (ne_eqb (open_desks s.desks) 0 n))

replays_as : (s : Store) (x : Bytes) (r : Replay) → open_desks s.desks ≡ 0 → replay_of s.hall 0 x ≡ r → Replays s x r.answer r.commits
unfolding decide replay_beside check apply
replays_as s x r o e = parts s x (answering r.answer (replays r.commits)) (rw (o, e))

-- a journal, and a record at which replay stops
stops_after : (s : Store) (cs : List Commit) (x : Bytes) (n : ℕ) → open_desks s.desks ≡ 0 → AllProper cs → Rises s.hall cs
    → ((at : ℕ) → first_of (with_commits s.hall cs) at x ≡ bad n at) → Replays s (journal cs ++ x) (stops n (length (journal cs))) cs
stops_after s cs x n o p r b =
    let at : ℕ = 0 + length (journal cs) in
    let z : at ≡ length (journal cs) = omega arith in
    let e = replay_on s.hall 0 cs x p r ∙ ap (λ (q : Replay). before cs q) (replay_stops (with_commits s.hall cs) at x n at (b at)) in
    rw (z, append-nil cs) at (replays_as s (journal cs ++ x) _ o e)

full_stop : (h : Hall) (c : Commit) (n at : ℕ) → full_of h c ≡ suc n → stops (suc n) at ≡ faulty (suc n) at
full_stop h c n at e = ⊎_elim (λ z. rw z) (λ z. rw z) (full_some h c (suc n) e (λ z. omega arith))

pub replay_spoiled : Recovery.ReplaySpoiled
replay_spoiled s cs x n o f (no_mark m y l d) =
    let p = fits_parts s.hall cs f in
    stops_after s cs (m ++ y) 14 o p.0 p.1 (λ at. mark_bad _ _ at m y l d)
replay_spoiled s cs x n o f (no_body b y l k d) =
    let p = fits_parts s.hall cs f in
    stops_after s cs (framed b ++ y) 14 o p.0 p.1 (λ at. body_bad _ _ at b y l k (λ c p l. d c (lawful_tests _ c p l)))
replay_spoiled s cs x n o f (no_room c y m l e) =
    let p = fits_parts s.hall cs f in
    let h = with_commits s.hall cs in
    let q = lawful_parts h.counter c l in
    rw (full_stop h c m (length (journal cs)) e) at
    (stops_after s cs (dump_commit c ++ y) (suc m) o p.0 p.1 (λ at. rw e at (commit_full h.counter (full_of h) at c y q.0 q.1 (λ z. omega arith))))

-- ---- cuts

pub replay_torn : Recovery.ReplayTorn
replay_torn s cs x o f t = let p = fits_parts s.hall cs f in stops_after s cs x 13 o p.0 p.1 (λ at. torn_read _ _ at x t)

-- the whole records, then less than a record
record Piece (n : ℕ) (cs : List Commit) : Type 0 where
  rest : Bytes
  splits : take n (journal cs) ≡ journal (whole_in n cs) ++ rest
  stops : (counter : ℕ) (full : Commit → ℕ) (at : ℕ) → read_commit counter full at rest ≡ bad 13 at

piece : (n : ℕ) (cs : List Commit) → AllProper cs → Piece n cs
unfolding journal whole_in
piece n [] p = record { rest = []; splits = take-nil n; stops = commit_end }
piece n (c ∷ cs) p =
    let d = dump_commit c in
    by_bool (leb (length d) n)
    (λ q.
    let m : ℕ = n - length d in
    let e : n ≡ length d + m = omega (arith, leb-true (length d) n q) in
    let i = piece m cs p.1 in
    record {
      rest = i.rest;
      splits = rw q (ap (λ k. take k (d ++ journal cs)) e ∙ take-append-add d (journal cs) m ∙ ap (λ l. d ++ l) i.splits ∙ sym (append_assoc d _ _));
      stops = i.stops;
    })
    (λ q. torn n c cs p.0 q)
  where
    torn : (n : ℕ) (c : Commit) (cs : List Commit) → Proper c → leb (length (dump_commit c)) n ≡ false → Piece n (c ∷ cs)
    torn n c cs p q = record {
      rest = take n (dump_commit c);
      splits = rw q (take-append-le n (dump_commit c) (journal cs) (omega (arith, leb-false (length (dump_commit c)) n q)));
      stops = λ counter full at. commit_torn counter full at c n p (leb-false (length (dump_commit c)) n q);
    }

proper_whole : (n : ℕ) (cs : List Commit) → AllProper cs → AllProper (whole_in n cs)
unfolding whole_in
proper_whole n [] p = tt
proper_whole n (c ∷ cs) p = by_bool (leb (length (dump_commit c)) n) (λ q. rw q (p.0, proper_whole (n - length (dump_commit c)) cs p.1)) (λ q. rw q tt)

rises_whole : (n : ℕ) (h : Hall) (cs : List Commit) → Rises h cs → Rises h (whole_in n cs)
unfolding whole_in
rises_whole n h [] r = tt
rises_whole n h (c ∷ cs) r = by_bool (leb (length (dump_commit c)) n) (λ q. rw q (r.0, r.1, rises_whole (n - length (dump_commit c)) (with_commit h c) cs r.2)) (λ q. rw q tt)

cut_parts : (s : Store) (cs : List Commit) (n : ℕ) → open_desks s.desks ≡ 0 → AllProper cs → Rises s.hall cs
    → Replays s (take n (journal cs)) (replayed (length (journal (whole_in n cs)))) (whole_in n cs)
cut_parts s cs n o p r =
    let i = piece n cs p in
    rw i.splits (stops_after s (whole_in n cs) i.rest 13 o (proper_whole n cs p) (rises_whole n s.hall cs r) (λ at. i.stops _ _ at))

pub replay_cut : Recovery.ReplayCut
replay_cut s cs n o f = let p = fits_parts s.hall cs f in cut_parts s cs n o p.0 p.1

whole_parts : (s : Store) (cs : List Commit) → open_desks s.desks ≡ 0 → AllProper cs → Rises s.hall cs → Replays s (journal cs) (replayed (length (journal cs))) cs
whole_parts s cs o p r = rw (append-nil (journal cs)) at (stops_after s cs [] 13 o p r (λ at. commit_end _ _ at))

pub replay_whole : Recovery.ReplayWhole
replay_whole s cs o f = let p = fits_parts s.hall cs f in whole_parts s cs o p.0 p.1

-- ---- whatever the journal

-- what was read is in front, and what is behind stops the replay there
record Fronted (h : Hall) (at : ℕ) (x : Bytes) (r : Replay) : Type 0 where
  rest : Bytes
  splits : x ≡ journal r.commits ++ rest
  ends : Stops (with_commits h r.commits) rest (at + length (journal r.commits)) r.answer

blamed_at : {A : Type 0} {n q : ℕ} (at : ℕ) (w : Parsed A) → blamed at w ≡ bad n q → q ≡ at
blamed_at at (got a p r) e = bad_got (sym e)
blamed_at at (bad m p) e = cc

bad_at : (counter : ℕ) (full : Commit → ℕ) (at : ℕ) (x : Bytes) (n q : ℕ) → read_commit counter full at x ≡ bad n q → q ≡ at
unfolding read_commit
bad_at counter full at x n q e = blamed_at at (bind (read_frame at x) (λ b. admitted full (read_body counter 0 b))) e

-- why the first record is not read answering why replay stops
stops_as : (h : Hall) (x : Bytes) (at n : ℕ) → Unread h.counter (full_of h) x n → Stops h x at (stops n at)
stops_as h x at n (cut_off t) = torn t
stops_as h x at n (bad_mark (m, r, e, l, d)) = spoiled {n = 14} (rw e (no_mark m r l d))
stops_as h x at n (bad_body b r e l s d) = spoiled {n = 14} (rw e (no_body b r l s (λ c k. let p = lawful_parts h.counter c k in d c p.0 p.1)))
stops_as h x at n (read.no_room c r e p l f) = full_as (full_of h c) refl
  where
    full_as : (k : ℕ) → full_of h c ≡ k → Stops h x at (stops k at)
    full_as zero z = absurd (f z)
    full_as (suc k) z = rw (full_stop h c k at z, e) (spoiled (Recovery.no_room c r k (lawful_tests h.counter c p l) z))

fronted_on : (h : Hall) (at : ℕ) (x : Bytes) → are_bytes x ≡ true → (w : Parsed Commit) → first_of h at x ≡ w → (f : Commit → (at : ℕ) → Bytes → Replay)
    → ((c : Commit) (p : ℕ) (r : Bytes) → are_bytes r ≡ true → length r < length x → Fronted (with_commit h c) p r (f c p r)) → Fronted h at x (go_on w f)
unfolding go_on journal with_commits
fronted_on h at x s (bad n q) e f k =
    let z : at + 0 ≡ at = omega arith in
    record { rest = x; splits = refl; ends = rw (bad_at _ _ at x n q e, z) (stops_as h x at n (unread h.counter (full_of h) at x n q s e)) }
fronted_on h at x s (got c p r) e f k =
    let t = takes_commit h.counter (full_of h) at x c p r s e in
    let l = came (comes_commit h.counter (full_of h) at x) e in
    let d = dump_commit c in
    let g = commit_got h.counter (full_of h) at c r t.1 l.0 l.1 in
    let q : p ≡ at + length d = got_at (sym e ∙ rw (← t.0.whole) at g) in
    let i = k c p r t.0.rest (commit_rest h.counter (full_of h) at x c p r e) in
    let z : p + length (journal (f c p r).commits) ≡ at + length (d ++ journal (f c p r).commits) = omega (arith, length-append d (journal (f c p r).commits)) in
    record {
      rest = i.rest;
      splits = t.0.whole ∙ ap (λ l. d ++ l) i.splits ∙ sym (append_assoc d _ _);
      ends = rw z at i.ends;
    }

fronted : (n : ℕ) (h : Hall) (at : ℕ) (x : Bytes) → are_bytes x ≡ true → length x ≤ n → Fronted h at x (replay_up_to n h at x)
unfolding replay_up_to journal with_commits
fronted zero h at x s l =
    let z : at + 0 ≡ at = omega arith in
    record { rest = x; splits = refl; ends = rw z (torn (in_mark x (omega (arith, mark_some)))) }
fronted (suc n) h at x s l = fronted_on h at x s (first_of h at x) refl _ (λ c p r s k. fronted n (with_commit h c) p r s (omega arith))

pub replay_front : Recovery.ReplayFront
unfolding replay_of
replay_front s x o b =
    let r = replay_of s.hall 0 x in
    let f = fronted (length x) s.hall 0 x b (le_refl _) in
    let a = replays_as s x r o refl in
    let z : 0 + length (journal r.commits) ≡ length (journal r.commits) = omega arith in
    record {
      commits = r.commits;
      rest = f.rest;
      splits = f.splits;
      fitting = fits_tests s.hall r.commits (replay_proper s.hall 0 x b) (replay_rises s.hall 0 x).0;
      does = a.1;
      ends = rw a.0 (rw z at f.ends);
    }

-- ---- what a run commits

-- numbers go up, from above n
abbrev Climbs : ℕ → List Commit → Type 0
Climbs n [] = Unit {0}
Climbs n (c ∷ cs) = Later n c × Climbs c.number cs

climbs_from : (m n : ℕ) (cs : List Commit) → m ≤ n → Climbs n cs → Climbs m cs
climbs_from m n [] h c = tt
climbs_from m n (x ∷ cs) h c = ((omega (arith, c.0.0), c.0.1), c.1)

-- a call that commits takes the next number
numbered : {s : Store} {t : ℕ} {a : Act} {o : Outcome} → Comes s (on t a) o → (n : ℕ) → commit_number o.answer ≡ Some n
    → (n ≡ suc s.hall.counter) × (s.hall.counter < last_number) × ((apply s o.effect).hall.counter ≡ n)
unfolding commit_number apply
numbered (idles a i r) n e = none_some (sym i.0 ∙ e)
numbered (notes g m w) n e = none_some e
numbered (ends a w i r) n e = none_some (sym i.0 ∙ e)
numbered {s} (commits w h k v) n e = let q : suc s.hall.counter ≡ n = cc in (sym q, h, q)
numbered (sweeps _ _ x) n e = elim x [ ]

-- a commit with a number has writes
settle_some : (h : Hall) (j : Option ℕ) (t : ℕ) (ws : Writes) (c : Clashes) (n : ℕ) → commit_number (settle h j t ws c).answer ≡ Some n → 1 ≤ length ws
unfolding settle commit_number
settle_some h j t [] c n e = none_some e
settle_some h j t (w ∷ ws) c n e = omega arith

-- no other act does
act_plain : (h : Hall) (t : ℕ) (a : Act) (o : Option Writes) → is_commit a ≡ false → commit_number (act h t a o).answer ≡ None
unfolding act commit_number is_commit
act_plain h t (read k) o e = checked (λ o. commit_number o.answer ≡ None) (λ n. refl) _ _ (λ a. read_handed (λ o. commit_number o.answer ≡ None) (λ k b. refl) _ _)
act_plain h t (put k v) o e = checked (λ o. commit_number o.answer ≡ None) (λ n. refl) _ _ (λ a. refl)
act_plain h t (delete k) o e = checked (λ o. commit_number o.answer ≡ None) (λ n. refl) _ _ (λ a. refl)
act_plain h t (commit_to j) o e = true_false e
act_plain h t abort o e = checked (λ o. commit_number o.answer ≡ None) (λ n. refl) _ _ (λ a. refl)

act_some : (h : Hall) (t : ℕ) (a : Act) (o : Option Writes) (n : ℕ) → commit_number (act h t a o).answer ≡ Some n
    → 1 ≤ length (or_empty o)
unfolding act commit_number is_commit
act_some h t (read k) o n e = none_some (sym (act_plain h t (read k) o refl) ∙ e)
act_some h t (put k v) o n e = none_some (sym (act_plain h t (put k v) o refl) ∙ e)
act_some h t (delete k) o n e = none_some (sym (act_plain h t (delete k) o refl) ∙ e)
act_some h t (commit_to j) o n e =
    checked (λ x. commit_number x.answer ≡ Some n → 1 ≤ length (or_empty o)) (λ m q. none_some q) _ _
    (λ a q. settle_some h j t (or_empty o) _ n q) e
act_some h t abort o n e = none_some (sym (act_plain h t abort o refl) ∙ e)

record Good (n : ℕ) (cs : List Commit) : Type 0 where
  proper : AllProper cs
  climbs : Climbs n cs

-- a call that commits nothing, and one that does, in front
passes : (s : Store) (c : Call) (cs : List Commit) → Good (next s c).hall.counter cs → Good s.hall.counter cs
passes s c cs g = record { proper = g.proper; climbs = climbs_from _ _ cs (counter_up (comes s c)) g.climbs }

good_on : (s : Store) → Sound s → (c : Call) (cs : List Commit) → Good (next s c).hall.counter cs → Good s.hall.counter (commit_of s c ++ cs)
unfolding commit_of decide
good_on s d begin cs g = passes s begin cs g
good_on s d (on t a) cs g =
    by_option (commit_number (answer s (on t a)))
    (λ p. rw p (passes s (on t a) cs g))
    (λ n p.
    let m = numbered (comes s (on t a)) n p in
    let w = tidy_of d.desks t in
    rw p (record {
      proper = (record { sound = w.sound; some = act_some s.hall t a _ n p; few = w.few }, g.proper);
      climbs = ((omega (arith, m.0), omega (arith, m.0, m.1)), rw m.2 at g.climbs);
    }))
good_on s d (ask q) cs g = passes s (ask q) cs g
good_on s d (sweep l) cs g = passes s (sweep l) cs g
good_on s d (thin l) cs g = passes s (thin l) cs g
good_on s d (replay x) cs g = passes s (replay x) cs g

good : (s : Store) → Sound s → (cs : List Call) → all_in_bytes cs ≡ true → Good s.hall.counter (commits_of s cs)
unfolding commits_of all_in_bytes
good s d [] b = record { proper = tt; climbs = tt }
good s d (c ∷ cs) b =
    good_on s d c (commits_of (next s c) cs)
    (good (next s c) (sound_next s c (and_left (in_bytes c) (all_in_bytes cs) b) d) cs (and_right (in_bytes c) (all_in_bytes cs) b))

-- ---- what a run writes into its journal

Noted : (room : ℕ) (ws : Writes) → Outcome → Type 0
Noted room ws o = o.bytes ≡ journal (commit_at (commit_number o.answer) ws)

settle_noted : (h : Hall) (room t : ℕ) (ws : Writes) (l : Clashes) → Noted room ws (settle h (Some room) t ws l)
unfolding Noted settle commit_number journal
settle_noted h room t [] l = refl
settle_noted h room t (w ∷ ws) (c ∷ l) = refl
settle_noted h room t (w ∷ ws) [] =
    checked (Noted room (w ∷ ws)) (λ n. refl) _ _ (λ a. checked (Noted room (w ∷ ws)) (λ n. refl) _ _ (λ b. sym (append-nil _)))

recorded_act : (s : Store) (t : ℕ) (a : Act) → is_journaled (on t a) ≡ true → recorded_by s (on t a) ≡ journal (commit_of s (on t a))
unfolding recorded_by commit_of is_journaled is_commit journal decide act Noted commit_number
recorded_act s t (read k) j = rw (act_plain s.hall t (read k) (writes_of t s.desks) refl)
recorded_act s t (put k v) j = rw (act_plain s.hall t (put k v) (writes_of t s.desks) refl)
recorded_act s t (delete k) j = rw (act_plain s.hall t (delete k) (writes_of t s.desks) refl)
recorded_act s t (commit_to None) j = true_false (sym j)
recorded_act s t (commit_to (Some room)) j =
    let ws = or_empty (writes_of t s.desks) in
    checked (Noted room ws) (λ n. refl) _ _ (λ a. settle_noted s.hall room t ws _)
recorded_act s t abort j = rw (act_plain s.hall t abort (writes_of t s.desks) refl)

recorded : (s : Store) (c : Call) → is_journaled c ≡ true → recorded_by s c ≡ journal (commit_of s c)
unfolding recorded_by commit_of journal is_journaled
recorded s begin j = refl
recorded s (on t a) j = recorded_act s t a j
recorded s (ask q) j = refl
recorded s (sweep l) j = refl
recorded s (thin l) j = refl
recorded s (replay x) j = refl

journal_append : (a b : List Commit) → journal (a ++ b) ≡ journal a ++ journal b
unfolding journal
journal_append [] b = refl
journal_append (c ∷ a) b = rw (journal_append a b) (sym (append_assoc (dump_commit c) (journal a) (journal b)))

journal_of_lem : (s : Store) (cs : List Call) → all_journaled cs ≡ true → journal_of s cs ≡ journal (commits_of s cs)
unfolding journal_of commits_of all_journaled journal
journal_of_lem s [] j = refl
journal_of_lem s (c ∷ cs) j =
    rw (recorded s c (and_left (is_journaled c) (all_journaled cs) j), journal_of_lem (next s c) cs (and_right (is_journaled c) (all_journaled cs) j))
    (sym (journal_append (commit_of s c) (commits_of (next s c) cs)))

-- ---- each key's history

stamps_append : (k : Bytes) (a b : List Commit) → stamps k (a ++ b) ≡ stamps k a ++ stamps k b
unfolding stamps
stamps_append k [] b = refl
stamps_append k (c ∷ a) b = rw (stamps_append k a b) (sym (append_assoc (stamp (Some c.number) (find k c.writes)) (stamps k a) (stamps k b)))

gain_stamps : (k : Bytes) (s : Store) (c : Call) → is_journaled c ≡ true → gain k s c ≡ stamps k (commit_of s c)
unfolding gain commit_of stamps stamp is_journaled
gain_stamps k s begin j = refl
gain_stamps k s (on t a) j = by_option (commit_number (answer s (on t a))) (λ p. rw p) (λ n p. rw p (sym (append-nil _)))
gain_stamps k s (ask q) j = refl
gain_stamps k s (sweep l) j = refl
gain_stamps k s (thin l) j = refl
gain_stamps k s (replay x) j = true_false (sym j)

gains_stamps : (k : Bytes) (s : Store) (cs : List Call) → all_journaled cs ≡ true → gains k s cs ≡ stamps k (commits_of s cs)
unfolding gains commits_of all_journaled stamps
gains_stamps k s [] j = refl
gains_stamps k s (c ∷ cs) j =
    rw (gain_stamps k s c (and_left (is_journaled c) (all_journaled cs) j), gains_stamps k (next s c) cs (and_right (is_journaled c) (all_journaled cs) j))
    (sym (stamps_append k (commit_of s c) (commits_of (next s c) cs)))

counter_last : (h : Hall) (cs : List Commit) → (with_commits h cs).counter ≡ last_of h.counter cs
unfolding with_commits last_of
counter_last h [] = refl
counter_last h (c ∷ cs) = counter_last (with_commit h c) cs

-- the sizes and the floor stay
record Stays (h h' : Hall) : Type 0 where
  key_rooms : h'.key_rooms ≡ h.key_rooms
  desk_count : h'.desk_count ≡ h.desk_count
  version_rooms : h'.version_rooms ≡ h.version_rooms
  floor : h'.floor ≡ h.floor

commits_stay : (h : Hall) (cs : List Commit) → Stays h (with_commits h cs)
unfolding with_commits
commits_stay h [] = record { key_rooms = refl; desk_count = refl; version_rooms = refl; floor = refl }
commits_stay h (c ∷ cs) =
    let i = commits_stay (with_commit h c) cs in
    record { key_rooms = i.key_rooms; desk_count = i.desk_count; version_rooms = i.version_rooms; floor = i.floor }

-- ---- room is all that may be wrong

has_room_lem : (h : Hall) (at : ℕ) (cs : List Commit) → AllProper cs → Climbs h.counter cs → is_full (replay_of h at (journal cs)).answer ≡ false → Rises h cs
unfolding journal go_on
has_room_lem h at [] p c f = tt
has_room_lem h at (x ∷ cs) p c f =
    let s = replay_step h at (dump_commit x ++ journal cs) in
    by_bool (eqb (full_of h x) 0)
    (λ z.
    let o : full_of h x ≡ 0 = eqb-true _ _ z in
    let g = commit_got h.counter (full_of h) at x (journal cs) p.0 c.0 o in
    (c.0, full_none h x o, has_room_lem (with_commit h x) _ cs p.1 c.1 (rw (s, g) at f)))
    (λ z.
    let n = eqb-false _ _ z in
    let g = commit_full h.counter (full_of h) at x (journal cs) p.0 c.0 n in
    true_false (sym (full_stops h x at n) ∙ rw (s, g) at f))

-- ---- what a run committed is rebuilt

module _ (s : Store) (cs : List Call) (j : Journaled s cs) (ks vs ds : ℕ) (f : HasRoom ks vs ds s cs) where
  base : Store
  base = reloaded ks vs ds s

  nobody : open_desks base.desks ≡ 0
  unfolding base vacant
  nobody = free_none ds

  run_good : Good s.hall.counter (commits_of s cs)
  run_good = good s (sound_parts s j.sound) cs j.calls

  run_rises : Rises base.hall (commits_of s cs)
  unfolding base vacant
  run_rises =
      let e = (replays_as base (journal (commits_of s cs)) _ nobody refl).0 in
      has_room_lem base.hall 0 (commits_of s cs) run_good.proper run_good.climbs (rw (journal_of_lem s cs j.commits, e) at f)

  run_replays : Replays base (journal_of s cs) (replayed (length (journal_of s cs))) (commits_of s cs)
  run_replays = rw (journal_of_lem s cs j.commits) (whole_parts base (commits_of s cs) nobody run_good.proper run_rises)

  run_rebuilt : Rebuilt ks vs ds s cs
  unfolding history base vacant
  run_rebuilt =
      let e = run_replays.1 in
      let h = base.hall in
      let z = commits_stay h (commits_of s cs) in
      record {
        answers = run_replays.0;
        holds = λ k. rw e (look_commits k h (commits_of s cs) run_good.proper ∙ ap (λ l. look k h.entries ++ l) (sym (gains_stamps k s cs j.commits)));
        counter = rw e (counter_last h (commits_of s cs));
        floor = rw e z.floor;
        key_rooms = rw e z.key_rooms;
        desk_count = rw e z.desk_count;
        version_rooms = rw e z.version_rooms;
        desks = rw e;
      }

  run_cut : (n : ℕ) → Replays base (take n (journal_of s cs)) (replayed (length (journal (whole_in n (commits_of s cs))))) (whole_in n (commits_of s cs))
  run_cut n = rw (journal_of_lem s cs j.commits) (cut_parts base (commits_of s cs) n nobody run_good.proper run_rises)

  run_held : never_thins cs ≡ true → (k : Bytes)
      → look k (run s cs).hall.entries ≡ held (top_cutoff s cs) (look k (rebuilt ks vs ds s cs).hall.entries)
  run_held p k =
      let d = sound_parts s j.sound in
      rw (run_rebuilt.holds k)
      (trim_run s d k cs j.calls p ∙ trim_held _ 0 _ _ (inv_run s d k cs j.calls).rising)

pub journal_rebuilds : Recovery.JournalRebuilds
journal_rebuilds s cs j ks vs ds f = run_rebuilt s cs j ks vs ds f

pub journal_cut : Recovery.JournalCut
unfolding base
journal_cut s cs j ks vs ds f n = run_cut s cs j ks vs ds f n

pub rebuilt_swept : Recovery.RebuiltSwept
rebuilt_swept s cs j ks vs ds f p k = run_held s cs j ks vs ds f p k

pub rebuilt_shown : Recovery.RebuiltShown
rebuilt_shown s cs j ks vs ds f t o k =
    rw ((run_rebuilt s cs j ks vs ds f).holds k) ((inv_run s (sound_parts s j.sound) k cs j.calls).like t o)

-- a dump does not tell the sizes
pub reloaded_as : Recovery.ReloadedAs
unfolding created loaded dump_hall
reloaded_as s ks vs ds d z k v =
    let g = (sound_parts s d).hall in
    let h : Hall = record { key_rooms = ks; version_rooms = vs; desk_count = ds; counter = s.hall.counter; floor = s.hall.floor; entries = s.hall.entries } in
    let t : SoundHall h = record {
      sizes = z;
      counter = g.counter;
      keys = k;
      versions = v;
      ascending = g.ascending;
      non_empty = g.non_empty;
      rising = g.rising;
      payloads = g.payloads;
      floor = g.floor;
    } in
    rw (z, (reads_hall h (hall_tests h t)).gets 0)
