-- The demands over the memories' bytes, from the model's theorems.
use Prim.Native.Nat.{ℕ, suc, ◌+◌, ◌-◌, ◌^◌, ◌≤◌}
use native.Mathlib.Omega.{arith}
use mathlib.Core.Path.{◌≡◌, refl, sym, ap, subst, ◌∙◌}
use mathlib.Core.Logic.{◌⊎◌, ⊎_elim}
use mathlib.Core.Bool.{true, false}
use mathlib.Core.List.{List, [], Memᴰ}
use borrow.Author.Tests.{le-ltb}
use lib.ListN.{length}
use Rattle.model.specs.Bytes.{Bytes}
use Rattle.model.specs.State.{Hall, Store, is_some, or_empty, look, version_count, find, writes_of, open_desks}
use Rattle.model.specs.Dump.{dump_hall}
use Rattle.model.specs.Calls.{read, commit_to, newest, as_of, Question, dump, refusal, Call, begin, Answer, on, ask, sweep, thin, replay, swept, thinned, dumped, Outcome, returning, clashes, check, decide, apply, answer, next}
use Rattle.model.specs.Runs.{Creation, load, sizes_of, run}
use Rattle.model.specs.History.{creates_in_bytes, in_bytes, Run, Rising, is_replay, is_sweep, is_full, history}
use Rattle.model.specs.Demands.{DesksGiven, gone_keys, reads_at, HoldsPrintable, Refuses, claim_made, claim_held}
use Rattle.model.proofs.Cases.{by_bool, true_false, zero_one}
use Rattle.model_laws.proofs.Effects.{through, below, between, Comes, idles, begins, notes, ends, commits, sweeps, restores, comes}
use Rattle.model_laws.proofs.Replay.{Stopped, whole, wrong, no_keys, no_versions}
use Rattle.model_laws.proofs.Demands.{refused_unchanged, refused_empty, conflict_closes, desks_exact, open_exact, history_rises, holds_writes, reads_held, reads_snapshot, newest_held, reads_newest, conflict_held, conflict_exact, load_then_dump, dump_then_load, holds, floor_exact, floor_raised, as_of_held, reads_as_of, as_of_stable, cutoff_exact, sweeps_held, drops_counted, drops_below, conflicts_stay, gone_not_held, keys_given_back, gone_make_room, sound_printable, run_printable, stray_refused, thins_held, read_exact, thins_to_few, thins_counted}
use Rattle.hall.specs.Layout as hall
use Rattle.hall.specs.Layout.{hall_in}
use Rattle.hall.proofs.Laws.Sound as halls
use Rattle.memory.specs.Spans.{overlay}
use Rattle.desk.specs.Layout.{desks_in, put_desks}
use Rattle.bridge.specs.Store.{store_in, asks_desks, looks_at_desks, is_sound_for, outcome_on, answer_on, bytes_on, hall_after, desk_after, are_sound, Sound, Memories, after_call}
use Rattle.bridge.specs.Creations.{created_on}
use Rattle.bridge.proofs.Laws.Memories.{sound_of, unsound_hall, outcome_unsound, outcome_sound}
use Rattle.bridge.proofs.Laws.Kept.{hall_stays, desks_stay, is_sound_lem}
use Rattle.call_dump.proofs.Laws.{dump_sound}
use Rattle.store.specs.Runs.{create_on, Step, steps_on, calls_of, Hold}
use Rattle.store.specs.Demands
use Rattle.store.specs.Demands.{RunOn, present}
use Rattle.store.proofs.Laws.Runs.{unsound_refused, lent, call_holds, creation_holds, accepted, creation_refused, steps_hold}

sound_outcome : (h d : Bytes) (c : Call) → is_sound_for c h d ≡ true → outcome_on h d c ≡ decide (store_in h d) c
unfolding outcome_on
sound_outcome h d c p = rw p refl

-- a replay stops with 14, 10 or 11, so one that is refused 1 or 17 changes nothing
stopped_other : {a : Answer} → Stopped a → (n : ℕ) → refusal a ≡ suc n → (suc n ≡ 1) ⊎ (suc n ≡ 17) → ⊥
unfolding refusal
stopped_other whole n e g = omega arith
stopped_other wrong n e g = ⊎_elim (λ z. omega arith) (λ z. omega arith) g
stopped_other no_keys n e g = ⊎_elim (λ z. omega arith) (λ z. omega arith) g
stopped_other no_versions n e g = ⊎_elim (λ z. omega arith) (λ z. omega arith) g

replay_refused : {s : Store} {c : Call} {o : Outcome} → Comes s c o → is_replay c ≡ true → (n : ℕ) → refusal o.answer ≡ suc n → (suc n ≡ 1) ⊎ (suc n ≡ 17) → apply s o.effect ≡ s
unfolding is_replay apply
replay_refused (idles a i r) w n e g = refl
replay_refused (begins h d) w n e g = true_false (sym w)
replay_refused (notes b m k) w n e g = true_false (sym w)
replay_refused (ends a k i r) w n e g = true_false (sym w)
replay_refused (commits k h m v) w n e g = true_false (sym w)
replay_refused (sweeps h f below) w n e g = true_false (sym w)
replay_refused (sweeps h f (between ts)) w n e g = true_false (sym w)
replay_refused (restores r o f p a) w n e g = absurd (stopped_other a n e g)

pub bytes_refused : Demands.RefusedUnchanged
unfolding store_in
bytes_refused h d c n e g i =
    let same : is_sound_for c h d ≡ true → next (store_in h d) c ≡ store_in h d =
    λ p.
    let f = subst (λ (x : Outcome). refusal x.answer ≡ suc n) (sound_outcome h d c p) e in
    by_bool (is_replay c)
    (λ w. replay_refused (comes (store_in h d) c) w n f (i w))
    (λ w. refused_unchanged (store_in h d) c n f g (λ v. true_false (sym v ∙ w))) in
    (hall_stays h d c (λ p. ap (λ (s : Store). s.hall) (same p)), desks_stay h d c (λ p. ap (λ (s : Store). s.desks) (same p)))

pub bytes_empty : Demands.RefusedEmpty
bytes_empty h d c n e =
    by_bool (is_sound_for c h d)
    (λ p.
    let o = sound_outcome h d c p in
    ap (λ (x : Outcome). x.bytes) o ∙ refused_empty (store_in h d) c n (subst (λ (x : Outcome). refusal x.answer ≡ suc n) o e))
    (λ p. ap (λ (x : Outcome). x.bytes) (unsound_refused h d c p).0)

pub output_left : Demands.RefusedOutput
unfolding overlay
output_left h before after a n r e =
    r.output ∙ ap (λ (b : Bytes). overlay b before) (bytes_empty h [] (ask (dump (length before))) n (ap refusal (sym r.answer) ∙ e))

pub refused_creation : Demands.RefusedCreation
refused_creation = creation_refused

-- ---- conflicts, and what a commit alone may change

pub bytes_closed : Demands.ConflictCloses
unfolding store_in refusal looks_at_desks desk_after
bytes_closed h d c e =
    by_bool (is_sound_for c h d)
    (λ p.
    let k = conflict_closes (store_in h d) c (subst (λ (x : Outcome). refusal x.answer ≡ 9) (sound_outcome h d c p) e) in (
      k.0,
      k.1,
      k.2,
      hall_stays h d c (λ q. ap (λ (s : Store). s.hall) k.3),
      rw (ap looks_at_desks k.2, p) (ap (λ (s : Store). put_desks d s.desks) k.3),
    ))
    (λ p. absurd (omega (arith, subst (λ (x : Outcome). refusal x.answer ≡ 9) (unsound_refused h d c p).0 e)))

pub bytes_kept : Demands.HallKept
bytes_kept h d t a n = (lent h d).acts t a n

-- memories that hold a store answer as it does
pub answers_hold : (m : Memories) (s : Store) → Hold m s → (c : Call) → outcome_on m.hall m.desk c ≡ decide s c
answers_hold m s i c =
    outcome_sound m.hall m.desk i.sound c ∙ ap (λ (x : Store). decide x c) i.store

-- and what is asked of the hall alone, as its memory alone does
alone_hold : (m : Memories) (s : Store) → Hold m s → (q : Question) → asks_desks q ≡ false
    → outcome_on m.hall [] (ask q) ≡ decide s (ask q)
alone_hold m s i q e = sym ((lent m.hall m.desk).alone q e []) ∙ answers_hold m s i (ask q)

module _ {m : Memories} {o : Creation} {s : Store} {xs : List Step} (r : RunOn m o s xs) where
  pub model_run : Run o s (calls_of xs)
  model_run = record { accepted = (accepted m.hall m.desk o s r.accepted).1; dump = r.dump; calls = r.steps.calls }

  pub held_first : Hold (create_on m o) s
  held_first = creation_holds m o s r.dump r.accepted

  pub held_now : Hold (present m o xs) (run s (calls_of xs))
  held_now = steps_hold (create_on m o) s xs r.steps held_first

  pub step_now : (c : Call) → outcome_on (present m o xs).hall (present m o xs).desk c ≡ decide (run s (calls_of xs)) c
  step_now c = answers_hold (present m o xs) (run s (calls_of xs)) held_now c

  open_same : (t : ℕ) → is_some (writes_of t (desks_in (present m o xs).desk)) ≡ is_some (writes_of t (run s (calls_of xs)).desks)
  unfolding store_in
  open_same t = ap (λ (x : Store). is_some (writes_of t x.desks)) held_now.store

  open_now : (t : ℕ) → Demands.Open (present m o xs) t → is_some (writes_of t (run s (calls_of xs)).desks) ≡ true
  open_now t p = sym (open_same t) ∙ p

pub each_step : Demands.EachStep
each_step m o s xs r c = step_now r c

pub bytes_open : Demands.OpenExact
bytes_open m o s xs r t = open_same r t ∙ open_exact o s (calls_of xs) (model_run r) t

pub bytes_desks : Demands.DesksExact
unfolding store_in
bytes_desks m o s xs r =
    let a : answer_on (present m o xs).hall (present m o xs).desk begin ≡ answer (run s (calls_of xs)) begin =
    ap (λ (x : Outcome). x.answer) (step_now r begin) in
    let e : open_desks (desks_in (present m o xs).desk) ≡ open_desks (run s (calls_of xs)).desks =
    ap (λ (x : Store). open_desks x.desks) (held_now r).store in
    subst (λ (k : ℕ). DesksGiven (sizes_of o).2 k (answer_on (present m o xs).hall (present m o xs).desk begin)) (sym e)
    (subst (λ (x : Answer). DesksGiven (sizes_of o).2 (open_desks (run s (calls_of xs)).desks) x) (sym a)
    (desks_exact o s (calls_of xs) (model_run r)))

pub bytes_rise : Demands.HistoryRises
unfolding store_in
bytes_rise m o s xs r k =
    subst (λ (x : Store). Rising 0 x.hall.counter (history k s (calls_of xs))) (sym (held_now r).store)
    (history_rises o s (calls_of xs) (model_run r) k)

pub holds_history : Demands.HoldsHistory
unfolding store_in
holds_history m o s xs r p k = ap (λ (x : Store). look k x.hall.entries) (held_now r).store ∙ holds o s (calls_of xs) (model_run r) p k

pub bytes_written : Demands.HoldsWrites
unfolding store_in
bytes_written m o s xs r t k p =
    ap (λ (x : Store). find k (or_empty (writes_of t x.desks))) (held_now r).store
    ∙ holds_writes o s (calls_of xs) (model_run r) t k (open_now r t p)

pub bytes_read : Demands.ReadsSnapshot
bytes_read m o s xs r t k p f =
    ap (λ (x : Outcome). (x.answer, x.bytes)) (step_now r (on t (read k)))
    ∙ reads_snapshot o s (calls_of xs) (model_run r) t k (open_now r t p) f

pub bytes_newest : Demands.ReadsNewest
unfolding asks_desks
bytes_newest m o s xs r k f =
    ap (λ (x : Outcome). (x.answer, x.bytes)) (alone_hold (present m o xs) _ (held_now r) (newest k) refl)
    ∙ reads_newest o s (calls_of xs) (model_run r) k f

pub bytes_floor : Demands.FloorExact
unfolding store_in
bytes_floor m o s xs r p =
    ap (λ (x : Store). x.hall.floor) (held_now r).store ∙ floor_exact o s (calls_of xs) (model_run r) p

pub bytes_floor_raised : Demands.FloorRaised
unfolding store_in
bytes_floor_raised m o s xs r =
    ap (λ (x : Store). x.hall.floor) (held_now r).store ∙ floor_raised o s (calls_of xs) (model_run r)

pub bytes_as_of : Demands.ReadsAsOf
unfolding asks_desks store_in
bytes_as_of m o s xs r n k f =
    ap (λ (x : Outcome). (x.answer, x.bytes)) (alone_hold (present m o xs) _ (held_now r) (as_of n k) refl)
    ∙ reads_as_of o s (calls_of xs) (model_run r) n k f
    ∙ ap (λ (x : Store). reads_at n x.hall (history k s (calls_of xs))) (sym (held_now r).store)

pub bytes_as_of_stable : Demands.AsOfStable
unfolding asks_desks store_in
bytes_as_of_stable m d xs r n h l k =
    let s = store_in m.hall m.desk in
    let first : Hold m s = record { sound = d; store = refl } in
    let later : Hold (steps_on m xs) (run s (calls_of xs)) = steps_hold m s xs r first in
    let low : (run s (calls_of xs)).hall.floor ≤ n = subst (λ (x : Store). x.hall.floor ≤ n) later.store l in
    ap (λ (x : Outcome). (x.answer, x.bytes)) (alone_hold (steps_on m xs) _ later (as_of n k) refl)
    ∙ as_of_stable s (is_sound_lem m.hall m.desk d) (calls_of xs) r.calls n h low k
    ∙ ap (λ (x : Outcome). (x.answer, x.bytes)) (sym (alone_hold m s first (as_of n k) refl))

pub bytes_conflict : Demands.ConflictExact
bytes_conflict m o s xs r t p j =
    subst (λ (x : Outcome). Refuses (claim_made s (calls_of xs) t) t x.answer) (sym (step_now r (on t (commit_to j))))
    (conflict_exact o s (calls_of xs) (model_run r) t (open_now r t p) j)

-- ---- any two sound memories

pub bytes_reads_held : Demands.ReadsHeld
unfolding store_in
bytes_reads_held h d s t k o f = ap (λ (x : Outcome). (x.answer, x.bytes)) (outcome_sound h d s (on t (read k))) ∙ reads_held (store_in h d) t k o f

alone_sound : (h : Bytes) → hall.is_sound h ≡ true → (q : Question) → asks_desks q ≡ false
    → outcome_on h [] (ask q) ≡ decide (store_in h []) (ask q)
unfolding outcome_on is_sound_for looks_at_desks
alone_sound h e q a = rw (e, a)

pub bytes_newest_held : Demands.NewestHeld
unfolding store_in asks_desks
bytes_newest_held h e k f =
    ap (λ (x : Outcome). (x.answer, x.bytes)) (alone_sound h e (newest k) refl) ∙ newest_held (store_in h []) k f

pub bytes_as_of_held : Demands.AsOfHeld
unfolding store_in asks_desks
bytes_as_of_held h e n k f =
    ap (λ (x : Outcome). (x.answer, x.bytes)) (alone_sound h e (as_of n k) refl) ∙ as_of_held (store_in h []) n k f

pub bytes_conflict_held : Demands.ConflictHeld
unfolding store_in
bytes_conflict_held h d s t o j =
    subst (λ (x : Outcome). Refuses (claim_held (store_in h d) t) t x.answer) (sym (outcome_sound h d s (on t (commit_to j))))
    (conflict_held (store_in h d) (is_sound_lem h d s) t o j)

pub bytes_cutoff : Demands.CutoffExact
bytes_cutoff h d s l =
    let x = cutoff_exact (store_in h d) l in
    (x.0, x.1, ap (λ (y : Outcome). y.answer) (outcome_sound h d s (sweep l)) ∙ x.2, x.3)

-- memories that a call on both does not refuse are sound, and the hall is then what the model's call leaves
module _ (h d : Bytes) (c : Call) (w : looks_at_desks c ≡ true) (b : in_bytes c ≡ true) (e : refusal (answer_on h d c) ≡ 0) where
  answered_sound : Sound h d
  unfolding refusal
  answered_sound =
      by_bool (are_sound h d)
      (λ p. sound_of h d p)
      (λ p. absurd (omega (arith, subst (λ (x : Outcome). refusal x.answer ≡ 0) (outcome_unsound h d c w p) e)))

  answered_as : answer (store_in h d) c ≡ answer_on h d c
  answered_as = sym (ap (λ (x : Outcome). x.answer) (outcome_sound h d answered_sound c))

  answered_hall : hall_in (hall_after h d c) ≡ (next (store_in h d) c).hall
  unfolding store_in
  answered_hall =
      let i = call_holds (record { hall = h; desk = d }) (store_in h d) c b (record { sound = answered_sound; store = refl }) in
      ap (λ (x : Store). x.hall) i.store

module _ (h d : Bytes) (l c n : ℕ) (e : answer_on h d (sweep l) ≡ swept c n) where
  swept_sound : Sound h d
  unfolding looks_at_desks in_bytes refusal
  swept_sound = answered_sound h d (sweep l) refl refl (ap refusal e)

  swept_as : answer (store_in h d) (sweep l) ≡ swept c n
  unfolding looks_at_desks in_bytes refusal
  swept_as = answered_as h d (sweep l) refl refl (ap refusal e) ∙ e

  swept_hall : hall_in (hall_after h d (sweep l)) ≡ (next (store_in h d) (sweep l)).hall
  unfolding looks_at_desks in_bytes refusal
  swept_hall = answered_hall h d (sweep l) refl refl (ap refusal e)

module _ (h d : Bytes) (l n : ℕ) (e : answer_on h d (thin l) ≡ thinned n) where
  thinned_sound : Sound h d
  unfolding looks_at_desks in_bytes refusal
  thinned_sound = answered_sound h d (thin l) refl refl (ap refusal e)

  thinned_hall : hall_in (hall_after h d (thin l)) ≡ (next (store_in h d) (thin l)).hall
  unfolding looks_at_desks in_bytes refusal
  thinned_hall = answered_hall h d (thin l) refl refl (ap refusal e)

pub bytes_sweeps_held : Demands.SweepsHeld
unfolding store_in
bytes_sweeps_held h d l c n e k =
    ap (λ (x : Hall). look k x.entries) (swept_hall h d l c n e)
    ∙ sweeps_held (store_in h d) (is_sound_lem h d (swept_sound h d l c n e)) l c n (swept_as h d l c n e) k

pub bytes_dropped : Demands.DropsCounted
unfolding store_in
bytes_dropped h d l c n e =
    ap (λ (x : Hall). n + version_count x.entries) (swept_hall h d l c n e) ∙ drops_counted (store_in h d) l c n (swept_as h d l c n e)

-- ---- gone rows make room

pub bytes_drops_below : Demands.DropsBelow
unfolding store_in
bytes_drops_below h d l c n e k v m =
    subst
    (λ (x : Hall). Memᴰ v (look k x.entries) ⊎ ((v.number ≤ c) × ((t : ℕ) → is_some (writes_of t (desks_in d)) ≡ true → v.number ≤ t)))
    (sym (swept_hall h d l c n e))
    (drops_below (store_in h d) (is_sound_lem h d (swept_sound h d l c n e)) l c n (swept_as h d l c n e) k v m)

sweep_in_bytes : (c : Call) → is_sweep c ≡ true → (looks_at_desks c ≡ true) × (in_bytes c ≡ true)
unfolding is_sweep in_bytes looks_at_desks
sweep_in_bytes begin e = (refl, refl)
sweep_in_bytes (on t a) e = true_false (sym e)
sweep_in_bytes (ask q) e = true_false (sym e)
sweep_in_bytes (sweep l) e = (refl, refl)
sweep_in_bytes (thin l) e = (refl, refl)
sweep_in_bytes (replay x) e = true_false (sym e)

pub bytes_conflicts_stay : Demands.ConflictsStay
unfolding store_in is_sound_for are_sound
bytes_conflicts_stay h d c w t o ks =
    let k = sweep_in_bytes c w in
    by_bool (is_sound_for c h d)
    (λ p.
    let s = sound_of h d (rw k.0 at p) in
    ap (λ (x : Store). clashes t ks x.hall) (call_holds (record { hall = h; desk = d }) (store_in h d) c k.1 (record { sound = s; store = refl })).store
    ∙ conflicts_stay (store_in h d) (is_sound_lem h d s) c w t o ks)
    (λ p. ap (λ (x : Bytes). clashes t ks (hall_in x)) (unsound_refused h d c p).1)

pub bytes_gone : Demands.GoneNotHeld
unfolding store_in
bytes_gone h d l c n e x m =
    gone_not_held (store_in h d) (is_sound_lem h d (swept_sound h d l c n e)) l c n (swept_as h d l c n e) x
    (subst (λ (y : Hall). Memᴰ x y.entries) (swept_hall h d l c n e) m)

pub bytes_given_back : Demands.KeysGivenBack
unfolding store_in
bytes_given_back h d l c n e =
    ap (λ (x : Hall). gone_keys c (hall_in h).entries + length x.entries) (swept_hall h d l c n e)
    ∙ keys_given_back (store_in h d) (is_sound_lem h d (swept_sound h d l c n e)) l c n (swept_as h d l c n e)

pub bytes_make_room : Demands.GoneMakeRoom
unfolding store_in in_bytes
bytes_make_room h d l c n e t o f j =
    let s = swept_sound h d l c n e in
    let m : Memories = record { hall = h; desk = d } in
    let first : Hold m (store_in h d) = record { sound = s; store = refl } in
    let later = call_holds m (store_in h d) (sweep l) refl first in
    ap (λ (x : Outcome). is_full x.answer) (answers_hold (after_call m (sweep l)) (next (store_in h d) (sweep l)) later (on t (commit_to j)))
    ∙ gone_make_room (store_in h d) (is_sound_lem h d s) l c n (swept_as h d l c n e) t o f j

-- ---- sweeps between readers

pub bytes_thins_held : Demands.ThinsHeld
unfolding store_in
bytes_thins_held h d l n e k =
    ap (λ (x : Hall). look k x.entries) (thinned_hall h d l n e)
    ∙ thins_held (store_in h d) (is_sound_lem h d (thinned_sound h d l n e)) l k

pub bytes_read_exact : Demands.ReadExact
unfolding store_in
bytes_read_exact d = read_exact (store_in [] d)

pub bytes_thins_to_few : Demands.ThinsToFew
unfolding store_in
bytes_thins_to_few h d n e k =
    let l : ℕ = 2 ^ 64 - 1 in
    subst (λ (x : Hall). length (look k x.entries) ≤ open_desks (desks_in d) + 1) (sym (thinned_hall h d l n e))
    (thins_to_few (store_in h d) (is_sound_lem h d (thinned_sound h d l n e)) k)

pub bytes_thinned : Demands.ThinsCounted
unfolding store_in
bytes_thinned h d s l =
    let x = thins_counted (store_in h d) l in
    let e = ap (λ (y : Outcome). y.answer) (outcome_sound h d s (thin l)) ∙ x.1 in
    (x.0, e, ap (λ (y : Hall). x.0 + version_count y.entries) (thinned_hall h d l x.0 e) ∙ x.2)

-- ---- only printable keys

pub bytes_printable : Demands.SoundPrintable
bytes_printable h d s = sound_printable (store_in h d) (is_sound_lem h d s)

pub bytes_run_printable : Demands.RunPrintable
bytes_run_printable m o s xs r =
    subst HoldsPrintable (sym (held_now r).store) (run_printable o s (calls_of xs) (model_run r))

pub bytes_stray : Demands.StrayRefused
bytes_stray h d c s k e b m o =
    ap (λ (x : Outcome). x.answer) (sound_outcome h d c s) ∙ stray_refused (store_in h d) c k e b m o

-- ---- dumps

pub dumps : Demands.Dumps
unfolding check
dumps h room s l = dump_sound h room s ∙ rw (le-ltb room (length (dump_hall (hall_in h))) l)

pub bytes_loaded : Demands.LoadThenDump
unfolding store_in creates_in_bytes
bytes_loaded m x ks vs ds s r room l =
    let i = creation_holds m (load x ks vs ds) s r.dump r.accepted in
    let h : Bytes = (create_on m (load x ks vs ds)).hall in
    let e : dump_hall (hall_in h) ≡ x =
    ap (λ (x : Store). dump_hall x.hall) i.store
    ∙ load_then_dump x ks vs ds s r.dump (accepted m.hall m.desk (load x ks vs ds) s r.accepted).1 in
    dumps h room (halls.tests h i.sound.hall) (rw e l) ∙ ap (λ (y : Bytes). returning (dumped (length y)) y) e

-- a dump that is handed out is that of a sound hall memory
pub handed_out : (h : Bytes) (room n : ℕ) → answer_on h [] (ask (dump room)) ≡ dumped n → (hall.is_sound h ≡ true) × (bytes_on h [] (ask (dump room)) ≡ dump_hall (hall_in h))
handed_out h room n e =
    by_bool (hall.is_sound h)
    (λ s.
    let o = dump_sound h room s in
    let q = through _ _ (dumped n) (λ m q. zero_one (cc q)) (sym (ap (λ (x : Outcome). x.answer) o) ∙ e) in
    (s, ap (λ (x : Outcome). x.bytes) (o ∙ q)))
    (λ s. zero_one (cc (sym (ap (λ (x : Outcome). x.answer) (unsound_hall h [] (ask (dump room)) s)) ∙ e)))

pub bytes_reloaded : Demands.DumpThenLoad
unfolding created_on
bytes_reloaded h room n e m l =
    let o = handed_out h room n e in
    rw (l, o.1) (dump_then_load (hall_in h) (halls.tested h o.0).hall)
