-- The demands, proved.
use Prim.Native.Nat.{ℕ, suc, ◌-◌, ◌^◌, ◌≤◌, min, max}
use lib.Dec.{leb}
use native.Mathlib.Omega.{arith}
use mathlib.Core.Path.{◌≡◌, refl, sym, ap, ◌∙◌, subst}
use mathlib.Core.Logic.{◌⊎◌, inl, inr, ⊎_elim}
use mathlib.Core.Bool.{true, false, not}
use mathlib.Core.List.{List, [], ◌∷◌, Memᴰ}
use Rattle.std.specs.Prelude.{Option, None, Some}
use borrow.Author.Tests.{eqb-false, leb-true, leb-false}
use Rattle.model.specs.Bytes.{Bytes, are_bytes}
use Rattle.model.specs.State.{Payload, deletion, content, content_of, Version, Chain, Hall, Writes, Store, or_else, is_some, or_empty, look, visible, newest_of, value_of, find, writes_of, open_desks, open_starts, cutoff, redesk, vacated, new_hall, vacant}
use Rattle.model.specs.Sweeps.{goes, trim}
use Rattle.model.specs.Sound.{within, key_fits, sizes_fit, sound_hall}
use Rattle.model.specs.Dump.{dump_hall}
use Rattle.model.specs.Load.{Parsed, got, bad, read_hall}
use Rattle.model.specs.Calls.{Act, read, commit_to, put, delete, abort, Question, newest, as_of, counts, dump, Call, begin, on, ask, sweep, thin, replay, hall_value, Clashes, Answer, refused, conflict, done, swept, refusal, stays, trims, Outcome, answering, Checks, check, finding, read_outcome, above, act, reply, drops, sweep_at, thin_at, decide, apply, answer, next}
use Rattle.model.specs.Runs.{Creation, make, load, sizes_of, Created, loaded, created, run}
use Rattle.model.specs.Demands
use Rattle.model.specs.History.{creates_in_bytes, Run, Rising, still_open, last_write, history, top_cutoff, top_thinned, first_floor, is_replay, is_sweep, is_full, is_commit}
use Rattle.model.specs.Demands.{DesksGiven, payload_as, reads_as, reads_at, act_key, question_key, Claim, Clash, Clashing, First, Ascend, Listed, Refuses}
use Rattle.model.proofs.Cases.{by_bool, true_false, none_some, within_le, le_within}
use Rattle.model_laws.proofs.Chains.{or_else_none, visible_newest, Like, like_refl, above_some, some_above}
use Rattle.model_laws.proofs.Trim.{trim_held, trim_below}
use Rattle.model_laws.proofs.Readers.{reads, read_by}
use Rattle.model_laws.proofs.Thin.{trim_thin, few_left, trim_limit}
use Rattle.model_laws.proofs.Entries.{count_trim_all}
use Rattle.model_laws.proofs.Keys.{look_trim_all}
use Rattle.model_laws.proofs.Gone.{keys_back, versions_back, gone_left, room_enough}
use Rattle.model_laws.proofs.Desks.{Seated, unseated_free, seated_start, start_seated, length_starts, cutoff_le, cutoff_seated, cutoff_one}
use Rattle.model_laws.proofs.Replay.{Stopped, whole, wrong, no_keys, no_versions}
use Rattle.model_laws.proofs.Effects.{below, between, Comes, idles, begins, notes, ends, commits, sweeps, restores, comes}
use Rattle.model_laws.proofs.Printable.{stray_fits, holds_printable}
use Rattle.model_laws.proofs.AsOf.{counter_run, floor_run, thins_none, shows_run}
use Rattle.model_laws.proofs.Sound.{Tidy, tidy_of, Sound, swept_like, sound_next, sound_run}
use Rattle.model_laws.proofs.Tested.{sound_parts, sound_tests, hall_parts, sound_vacant, sound_new}
use Rattle.model_laws.proofs.Round.{load_dump, reads_hall}
use Rattle.model_laws.proofs.Sizes.{created_sizes, desks_run, desks_given}
use Rattle.model_laws.proofs.Open.{still_open_lem}
use Rattle.model_laws.proofs.Held.{Inv, inv_run, trim_run}
use Rattle.model_laws.proofs.Written.{own_write}
use Rattle.model_laws.proofs.Conflict.{Above, not_below, commit_open, commit_refused, commit_lists}
use Rattle.model_laws.proofs.Struck as struck
use Rattle.model_laws.proofs.Stable as stable

-- ---- demand 1

stopped_number : {a : Answer} → Stopped a → (n : ℕ) → refusal a ≡ suc n → (10 ≤ suc n) × (suc n ≤ 14)
unfolding refusal
stopped_number whole n e = absurd (omega arith)
stopped_number wrong n e = (omega arith, omega arith)
stopped_number no_keys n e = (omega arith, omega arith)
stopped_number no_versions n e = (omega arith, omega arith)

-- a refusal for another reason than a conflict leaves the store, that of a replay at a record apart; one for conflict
-- closes the transaction of a commit
refused_as : {s : Store} {c : Call} {o : Outcome} → Comes s c o → (n : ℕ) → refusal o.answer ≡ suc n
    → ((suc n ≡ 9 → ⊥) × ((is_replay c ≡ true → suc n ≡ 17) → apply s o.effect ≡ s))
    ⊎ ((suc n ≡ 9) × (t : ℕ) × (j : Option ℕ) × (c ≡ on t (commit_to j))
    × (apply s o.effect ≡ record { hall = s.hall; desks = redesk t vacated s.desks }))
unfolding apply refusal is_replay
refused_as (idles a i q) n e = inl (λ z. eqb-false _ _ q.1 (e ∙ z), λ u. refl)
refused_as (begins h d) n e = absurd (omega arith)
refused_as (notes b m w) n e = absurd (omega arith)
refused_as (ends {t} a w i r) n e = let x = r.1 n e in inr (x.0, t, x.1, ap (on t) x.2, refl)
refused_as (commits w h k v) n e = absurd (omega arith)
refused_as (sweeps h f below) n e = absurd (omega arith)
refused_as (sweeps h f (between ts)) n e = absurd (omega arith)
refused_as (restores r o g p a) n e =
    let z = stopped_number a n e in inl (λ i. omega arith, λ u. absurd (omega (arith, u refl)))

pub refused_unchanged : Demands.RefusedUnchanged
refused_unchanged s c n e g i = ⊎_elim (λ r. r.1 i) (λ r. absurd (g r.0)) (refused_as (comes s c) n e)

no_bytes : {s : Store} {c : Call} {o : Outcome} → Comes s c o → (n : ℕ) → refusal o.answer ≡ suc n → o.bytes ≡ []
unfolding refusal
no_bytes (idles a i q) n e = q.2 n e
no_bytes (begins h d) n e = refl
no_bytes (notes b m w) n e = refl
no_bytes (ends a w i r) n e = refl
no_bytes (commits w h k v) n e = absurd (omega arith)
no_bytes (sweeps h f r) n e = refl
no_bytes (restores r o g p a) n e = refl

pub refused_empty : Demands.RefusedEmpty
refused_empty s c n e = no_bytes (comes s c) n e

pub conflict_closes : Demands.ConflictCloses
conflict_closes s c e = ⊎_elim (λ r. absurd (r.0 refl)) (λ r. (r.1, r.2, r.3, r.4)) (refused_as (comes s c) 8 e)

pub keeps_sound : Demands.KeepsSound
keeps_sound s c b e = sound_tests (next s c) (sound_next s c b (sound_parts s e))

-- ---- what begins a run

-- an accepted creation gives a sound hall with its first floor and all desks free
record Begun (o : Creation) (s : Store) : Type 0 where
  hall : Hall
  vacant : s ≡ vacant hall
  sound : sound_hall hall ≡ true
  floor : s.hall.floor ≡ first_floor o s

created_inj : {x s : Store} → ◌≡◌ {A = Created} (done, Some x) (done, Some s) → s ≡ x
created_inj {x} {s} e = let q : Some x ≡ Some s = ap (λ (o : Created). o.1) e in cc

loaded_parts : (x : Bytes) (ks vs ds : ℕ) (p : Parsed Hall) → read_hall ks vs ds 0 x ≡ p → (s : Store) → are_bytes x ≡ true → sizes_fit ks vs ds ≡ true
    → ◌≡◌ {A = Created} (loaded p) (done, Some s) → Begun (load x ks vs ds) s × (dump_hall s.hall ≡ x)
unfolding loaded vacant first_floor
loaded_parts x ks vs ds (got h at rest) q s b f e =
    let d = load_dump ks vs ds x h at rest b f q in
    let q : s ≡ vacant h = created_inj e in
    (record { hall = h; vacant = q; sound = d.1; floor = rw q d.2 }, rw q d.0)
loaded_parts x ks vs ds (bad n at) q s b f e = none_some (ap (λ (x : Created). x.1) e)

load_parts : (x : Bytes) (ks vs ds : ℕ) (s : Store) → are_bytes x ≡ true → created (load x ks vs ds) ≡ (done, Some s)
    → Begun (load x ks vs ds) s × (dump_hall s.hall ≡ x)
unfolding created
load_parts x ks vs ds s b e =
    by_bool (sizes_fit ks vs ds)
    (λ p. loaded_parts x ks vs ds (read_hall ks vs ds 0 x) refl s b p (rw p at e))
    (λ p. none_some (ap (λ (x : Created). x.1) (rw p at e)))

begun : (o : Creation) (s : Store) → creates_in_bytes o ≡ true → created o ≡ (done, Some s) → Begun o s
unfolding created creates_in_bytes first_floor vacant
begun (make ks vs ds) s b e =
    by_bool (sizes_fit ks vs ds)
    (λ p. let q : s ≡ vacant (new_hall ks vs ds) = created_inj (rw p at e) in
    record { hall = new_hall ks vs ds; vacant = q; sound = sound_new ks vs ds p; floor = rw q })
    (λ p. none_some (ap (λ (x : Created). x.1) (rw p at e)))
begun (load x ks vs ds) s b e = (load_parts x ks vs ds s b e).0

pub starts_sound : Demands.StartsSound
starts_sound o s b e = let g = begun o s b e in rw g.vacant (sound_vacant g.hall g.sound)

pub desks_exact : Demands.DesksExact
desks_exact o s cs r =
    let x = run s cs in
    let d = sound_run s cs r.calls (sound_parts s (starts_sound o s r.dump r.accepted)) in
    let n : x.hall.desk_count ≡ (sizes_of o).2 = desks_run s cs ∙ (created_sizes o s r.accepted).2 in
    subst (λ (n : ℕ). DesksGiven n (open_desks x.desks) (answer x begin)) n (desks_given x d.count)

-- what every run has at its beginning
record Ready (s : Store) : Type 0 where
  sound : Sound s
  nobody : (t : ℕ) → writes_of t s.desks ≡ None

ready : {o : Creation} {s : Store} {cs : List Call} → Run o s cs → Ready s
unfolding vacant
ready {o} {s} r =
    let g = begun o s r.dump r.accepted in
    record { sound = sound_parts s (starts_sound o s r.dump r.accepted); nobody = λ t. rw g.vacant (unseated_free t g.hall.desk_count) }

inv : {o : Creation} {s : Store} {cs : List Call} → Run o s cs → (k : Bytes) → Inv k (run s cs) (history k s cs)
inv r k = inv_run _ (ready r).sound k _ r.calls

-- ---- demand 2

pub open_exact : Demands.OpenExact
open_exact o s cs r t = still_open_lem t s cs ∙ ap (λ (ws : Option Writes). still_open t (is_some ws) s cs) ((ready r).nobody t)

pub history_rises : Demands.HistoryRises
history_rises o s cs r k = (inv r k).rising

pub holds_writes : Demands.HoldsWrites
unfolding find
holds_writes o s cs r t k op =
    let d = ready r in
    let e : find k (or_empty (writes_of t s.desks)) ≡ None = rw (d.nobody t) in
    own_write t k s d.sound cs r.calls op ∙ ap (or_else (last_write t k s cs)) e ∙ or_else_none (last_write t k s cs)

read_open : (s : Store) (t : ℕ) (k : Bytes) → Seated t s.desks → key_fits k ≡ true
    → decide s (on t (read k)) ≡ read_outcome (find k (or_empty (writes_of t s.desks))) (value_of (visible t (look k s.hall.entries)))
unfolding decide act check
read_open s t k o f = rw (f, o)

seen_read : (own : Option Payload) (v : Option Version) → ◌≡◌ {A = Answer × Bytes} ((read_outcome own (value_of v)).answer, (read_outcome own (value_of v)).bytes) (reads_as own v)
unfolding read_outcome reads_as payload_as
seen_read (Some deletion) v = refl
seen_read (Some (content b)) v = refl
seen_read None None = refl
seen_read None (Some v) = in_hall v.payload
  where
    in_hall : (p : Payload) → ◌≡◌ {A = Answer × Bytes} ((finding hall_value (content_of p)).answer, (finding hall_value (content_of p)).bytes) (payload_as hall_value p)
    in_hall deletion = refl
    in_hall (content b) = refl

pub reads_held : Demands.ReadsHeld
reads_held s t k op f =
    ap (λ (x : Outcome). (x.answer, x.bytes)) (read_open s t k op f) ∙ seen_read _ (visible t (look k s.hall.entries))

-- a deletion reads as nothing does
same_value : (own : Option Payload) (v w : Option Version) → value_of v ≡ value_of w → reads_as own v ≡ reads_as own w
same_value own v w e =
    sym (seen_read own v)
    ∙ ap (λ (b : Option Bytes). ((read_outcome own b).answer, (read_outcome own b).bytes)) e
    ∙ seen_read own w

pub reads_snapshot : Demands.ReadsSnapshot
reads_snapshot o s cs r t k op f =
    reads_held (run s cs) t k op f
    ∙ ap (λ w. reads_as w (visible t (look k (run s cs).hall.entries))) (holds_writes o s cs r t k op)
    ∙ same_value (last_write t k s cs) _ _ ((inv r k).like t (inl op)).0

pub newest_held : Demands.NewestHeld
unfolding decide reply check
newest_held s k f = rw f (seen_read None (newest_of (look k s.hall.entries)))

-- the newest version is what the counter sees
newest_now : {o : Creation} {s : Store} {cs : List Call} → Run o s cs → (k : Bytes)
    → value_of (newest_of (look k (run s cs).hall.entries)) ≡ value_of (newest_of (history k s cs))
newest_now {s = s} {cs} r k =
    let d = (sound_run s cs r.calls (ready r).sound).hall in
    let i = inv r k in
    ap value_of (sym (visible_newest 0 _ _ (d.rising k)))
    ∙ (i.like (run s cs).hall.counter (inr d.floor)).0
    ∙ ap value_of (visible_newest 0 _ _ i.rising)

pub reads_newest : Demands.ReadsNewest
reads_newest o s cs r k f = newest_held (run s cs) k f ∙ same_value None _ _ (newest_now r k)

-- the head of an ascending list is its lowest key
heads : {c : Claim} {t : ℕ} (l : Clashes) → (l ≡ [] → ⊥) → Ascend [] l
    → ((k : Bytes) → Clash c t k → (n : ℕ) × Memᴰ (k, n) l)
    → ((k : Bytes) (n : ℕ) → Memᴰ (k, n) l → Clashing c t k n)
    → First c t l
heads [] f a every only = absurd (f refl)
heads (x ∷ l) f a every only = record {
  clashing = only x.0 x.1 (Memᴰ.head refl);
  lowest = λ j c q. not_below x l a.1 j (every j c).0 (every j c).1 q;
}

-- the commit of a sound store, beside a claim that has the same writes and the same clashes
refuses_by : (s : Store) → Sound s → (to : Option ℕ) (t : ℕ) → Seated t s.desks → (c : Claim)
    → ((k : Bytes) → find k (or_empty (writes_of t s.desks)) ≡ c.writes k)
    → ((k : Bytes) → Above t k s.hall ≡ above t (newest_of (c.versions k)))
    → ((k : Bytes) → Rising 0 s.hall.counter (c.versions k))
    → Refuses c t (answer s (on t (commit_to to)))
refuses_by s d to t op c same clash rising = record { refuses = refuses; lists = lists }
  where
    w : Tidy (or_empty (writes_of t s.desks))
    w = tidy_of d.desks t

    -- a clashing key's newest number is above the start
    rises : (k : Bytes) → Clash c t k → (n : ℕ) × (Above t k s.hall ≡ Some n)
    rises k x =
        let a = above_some t 0 _ (c.versions k) (rising k) x.version x.there x.above in
        (a.0, clash k ∙ a.1)

    refuses : (k : Bytes) → Clash c t k → (l : Clashes) × (answer s (on t (commit_to to)) ≡ conflict l)
    refuses k x = let a = rises k x in commit_refused s to t op k a.0 (rw (same k) x.written) a.1

    lists : (l : Clashes) → answer s (on t (commit_to to)) ≡ conflict l → Listed c t l
    lists l e =
        let f = commit_lists s to t w.sound l e in
        let every : (k : Bytes) → Clash c t k → (n : ℕ) × Memᴰ (k, n) l =
        λ k x. let a = rises k x in (a.0, f.every k a.0 (rw (same k) x.written) a.1) in
        let only : (k : Bytes) (n : ℕ) → Memᴰ (k, n) l → Clashing c t k n =
        λ k n m.
        let g = f.only k n m in
        let top = some_above t 0 _ (c.versions k) (rising k) n (sym (clash k) ∙ g.1) in
        record {
          clash = record { written = rw (← same k) g.0; version = top.version; there = top.there; above = top.higher };
          newest = top.newest;
        } in
        record { first = heads l f.filled f.ascend every only; ascend = f.ascend; every = every; only = only }

pub conflict_held : Demands.ConflictHeld
conflict_held s e t op j = let d = sound_parts s e in refuses_by s d j t op _ (λ k. refl) (λ k. refl) d.hall.rising

pub conflict_exact : Demands.ConflictExact
conflict_exact o s cs r t op j =
    refuses_by (run s cs) (sound_run s cs r.calls (ready r).sound) j t op _
    (λ k. holds_writes o s cs r t k op) (λ k. ((inv r k).like t (inl op)).1) (λ k. (inv r k).rising)

pub load_then_dump : Demands.LoadThenDump
load_then_dump x ks vs ds s b e = (load_parts x ks vs ds s b e).1

pub dump_then_load : Demands.DumpThenLoad
unfolding created loaded
dump_then_load h e = rw ((hall_parts h e).sizes, (reads_hall h e).gets 0)

-- ---- demand 3

pub holds : Demands.HoldsHistory
holds o s cs r p k = trim_run s (ready r).sound k cs r.calls p ∙ trim_held _ 0 _ _ (inv r k).rising

pub cutoff_exact : Demands.CutoffExact
unfolding decide sweep_at
cutoff_exact s l =
    let n = s.hall.counter in
    let m = min l n in (
      cutoff m s.desks,
      _,
      refl,
      record {
        limit = omega (arith, cutoff_le m s.desks);
        counter = omega (arith, cutoff_le m s.desks);
        starts = λ t o. cutoff_seated m t s.desks o;
        one_of = ⊎_elim
            (λ e. by_bool (leb l n) (λ p. inl (omega (arith, e, leb-true l n p))) (λ p. inr (inl (omega (arith, e, leb-false l n p)))))
            (λ o. inr (inr o))
            (cutoff_one m s.desks);
      },
    )

-- a sweep that answers c is the sweep at c, and no open start is below c
record At (s : Store) (l c d : ℕ) : Type 0 where
  after : next s (sweep l) ≡ apply s (trims c (goes c []))
  count : drops (goes c []) s.hall.entries ≡ d
  starts : (t : ℕ) → Seated t s.desks → c ≤ t

swept_at : {s : Store} {l c d : ℕ} → answer s (sweep l) ≡ swept c d → At s l c d
unfolding decide sweep_at
swept_at {s} {l} {c} {d} e =
    let m = min l s.hall.counter in
    let q : cutoff m s.desks ≡ c = cc in
    let n : drops (goes (cutoff m s.desks) []) s.hall.entries ≡ d = cc in
    record {
      after = ap (λ c. apply s (trims c (goes c []))) q;
      count = ap (λ c. drops (goes c []) s.hall.entries) (sym q) ∙ n;
      starts = λ t o. rw (← q) (cutoff_seated m t s.desks o);
    }

pub sweeps_held : Demands.SweepsHeld
unfolding apply
sweeps_held s e l c d a k =
    let g = (sound_parts s e).hall in
    rw ((swept_at a).after, look_trim_all k (goes c []) [] s.hall.entries g.ascending)
    (trim_held c 0 _ _ (g.rising k))

pub sweeps_unseen : Demands.SweepsUnseen
sweeps_unseen o s cs r = struck.sweeps_unseen s (ready r).sound cs r.calls

-- ---- gone rows make room

pub drops_below : Demands.DropsBelow
unfolding apply
drops_below s e l c d a k v m =
    let g = (sound_parts s e).hall in
    rw ((swept_at a).after, look_trim_all k (goes c []) [] s.hall.entries g.ascending)
    (⊎_elim (λ n. inl n) (λ h. inr (h, λ t o. omega (arith, h, (swept_at a).starts t o)))
    (trim_below c 0 _ (look k s.hall.entries) (g.rising k) v m))

-- an open start can't tell what a sweep leaves
sweep_like : {s : Store} {c : Call} {o : Outcome} → Sound s → Comes s c o → is_sweep c ≡ true
    → (t : ℕ) → Seated t s.desks → (k : Bytes)
    → Like t (look k (apply s o.effect).hall.entries) (look k s.hall.entries)
unfolding apply is_sweep
sweep_like d (idles a i r) n t o k = like_refl t _
sweep_like d (begins h f) n t o k = like_refl t _
sweep_like d (notes g m w) n t o k = like_refl t _
sweep_like d (ends a w i r) n t o k = like_refl t _
sweep_like d (commits w h j v) n t o k = true_false (sym n)
sweep_like d (sweeps {g = g} h f w) n t o k = swept_like d.hall g t (f t (inl o)) k
sweep_like d (restores r e g p a) n t o k = true_false (sym n)

pub conflicts_stay : Demands.ConflictsStay
conflicts_stay s e c n t op ks =
    struck.clashes_same t ks _ _ (λ k. (sweep_like (sound_parts s e) (comes s c) n t op k).1)

pub gone_not_held : Demands.GoneNotHeld
unfolding apply
gone_not_held s e l c d a x m =
    let g = (sound_parts s e).hall in
    gone_left c _ s.hall.entries g.ascending g.non_empty g.rising x (rw (swept_at a).after at m)

pub keys_given_back : Demands.KeysGivenBack
unfolding apply
keys_given_back s e l c d a =
    let g = (sound_parts s e).hall in
    rw (swept_at a).after (keys_back c _ s.hall.entries g.ascending g.non_empty g.rising)

pub gone_make_room : Demands.GoneMakeRoom
unfolding apply
gone_make_room s e l c d a t op n j =
    let g = (sound_parts s e).hall in
    let es = s.hall.entries in
    let k = keys_back c _ es g.ascending g.non_empty g.rising in
    let v = versions_back c _ es g.ascending g.non_empty g.rising in
    let after = apply s (trims c (goes c [])) in
    rw (swept_at {s = s} a).after
    (ap (λ (o : Outcome). is_full o.answer) (commit_open after j t op)
    ∙ room_enough after.hall j t (or_empty (writes_of t s.desks)) _
    (omega (arith, k, n, g.keys)) (omega (arith, v, n, g.versions)))

-- ---- sweeps between readers

-- what is left of a key, by the limit itself
thins : (s : Store) → Sound s → (l : ℕ) (k : Bytes)
    → look k (next s (thin l)).hall.entries ≡ trim (goes l (open_starts s.desks)) (look k s.hall.entries)
unfolding decide thin_at apply
thins s d l k =
    let ts = open_starts s.desks in
    let es = s.hall.entries in
    look_trim_all k (goes (min l s.hall.counter) ts) [] es d.hall.ascending
    ∙ trim_limit l ts 0 s.hall.counter (look k es) (d.hall.rising k)

pub thins_held : Demands.ThinsHeld
thins_held s e l k =
    let d = sound_parts s e in
    thins s d l k ∙ trim_thin l (open_starts s.desks) 0 _ (look k s.hall.entries) (d.hall.rising k)

pub read_exact : Demands.ReadExact
read_exact s lo hi =
    let ts = open_starts s.desks in (
      λ e. read_by lo hi ts e (λ t m p q. (t, start_seated t s.desks m, p, q)),
      λ t o p q. reads lo hi t ts (seated_start t s.desks o) p q,
    )

pub thins_to_few : Demands.ThinsToFew
thins_to_few s e k =
    let d = sound_parts s e in
    let l : ℕ = 2 ^ 64 - 1 in
    let h = s.hall in
    let f = few_left l (open_starts s.desks) 0 h.counter (look k h.entries) (omega (arith, d.hall.counter)) in
    rw (thins s d l k) (omega (arith, f (d.hall.rising k), length_starts s.desks))

pub thins_counted : Demands.ThinsCounted
unfolding decide thin_at drops apply
thins_counted s l =
    let g = goes (min l s.hall.counter) (open_starts s.desks) in
    (_, refl, omega (arith, count_trim_all g s.hall.entries))

-- ---- the map as it stood at a number

pub floor_raised : Demands.FloorRaised
floor_raised o s cs r =
    floor_run s cs
    ∙ ap (λ f. max (top_cutoff s cs) (max (top_thinned s cs) f)) (begun o s r.dump r.accepted).floor

pub floor_exact : Demands.FloorExact
floor_exact o s cs r p = floor_raised o s cs r ∙ rw (thins_none s cs p) (omega arith)

pub as_of_held : Demands.AsOfHeld
unfolding decide reply check reads_at
as_of_held s n k f =
    by_bool (within s.hall.floor s.hall.counter n)
    (λ p. rw (f, p) (seen_read None (visible n (look k s.hall.entries))))
    (λ p. rw (f, p))

-- what chains show at a number matters from the floor on
reads_same : (n : ℕ) (h : Hall) (vs ws : Chain) → (h.floor ≤ n → value_of (visible n vs) ≡ value_of (visible n ws))
    → reads_at n h vs ≡ reads_at n h ws
unfolding reads_at
reads_same n h vs ws f =
    by_bool (within h.floor h.counter n)
    (λ p. rw p (same_value None (visible n vs) (visible n ws) (f (within_le h.floor h.counter n p).0)))
    (λ p. rw p)

pub reads_as_of : Demands.ReadsAsOf
reads_as_of o s cs r n k f =
    as_of_held (run s cs) n k f ∙ reads_same n (run s cs).hall _ _ (λ l. ((inv r k).like n (inr l)).0)

pub as_of_stable : Demands.AsOfStable
unfolding decide reply
as_of_stable s e cs b n h l k =
    let later = (run s cs).hall in
    rw (
      le_within later.floor later.counter n l (omega (arith, counter_run s cs)),
      le_within s.hall.floor s.hall.counter n (omega (arith, floor_run s cs)) h,
      shows_run s (sound_parts s e) cs b n h l k,
    )

-- ---- only printable keys

pub sound_printable : Demands.SoundPrintable
sound_printable s e = holds_printable s (sound_parts s e)

pub run_printable : Demands.RunPrintable
run_printable o s cs r = holds_printable (run s cs) (sound_run s cs r.calls (ready r).sound)

stray_check : (k : Bytes) (cs : Checks) (o : Outcome) → key_fits k ≡ false → check ((not (key_fits k), 3) ∷ cs) o ≡ answering (refused 3) stays
unfolding check
stray_check k cs o f = rw f

stray_act : (s : Store) (t : ℕ) (a : Act) (k : Bytes) → act_key a ≡ Some k → key_fits k ≡ false → decide s (on t a) ≡ answering (refused 3) stays
unfolding decide act
stray_act s t (read j) k e f = let q : j ≡ k = cc in stray_check j _ _ (rw q f)
stray_act s t (put j v) k e f = let q : j ≡ k = cc in stray_check j _ _ (rw q f)
stray_act s t (delete j) k e f = let q : j ≡ k = cc in stray_check j _ _ (rw q f)
stray_act s t (commit_to j) k e f = none_some e
stray_act s t abort k e f = none_some e

stray_question : (s : Store) (q : Question) (k : Bytes) → question_key q ≡ Some k → key_fits k ≡ false → decide s (ask q) ≡ answering (refused 3) stays
unfolding decide reply
stray_question s (newest j) k e f = let q : j ≡ k = cc in stray_check j _ _ (rw q f)
stray_question s (as_of n j) k e f = let q : j ≡ k = cc in stray_check j _ _ (rw q f)
stray_question s counts k e f = none_some e
stray_question s (dump n) k e f = none_some e

pub stray_refused : Demands.StrayRefused
stray_refused s begin k e b m o = none_some e
stray_refused s (on t a) k e b m o = ap (λ (x : Outcome). x.answer) (stray_act s t a k e (stray_fits k b m o))
stray_refused s (ask q) k e b m o = ap (λ (x : Outcome). x.answer) (stray_question s q k e (stray_fits k b m o))
stray_refused s (sweep l) k e b m o = none_some e
stray_refused s (thin l) k e b m o = none_some e
stray_refused s (replay x) k e b m o = none_some e

-- ---- also wanted

pub snapshot_stable : Demands.SnapshotStable
snapshot_stable o s cs r t d b xs ys p q e =
    stable.snapshot_stable (run s cs) (sound_run s cs r.calls (ready r).sound) t d b xs ys p q e

-- ---- what stops a useless store

hall_same : {s : Store} {t : ℕ} {a : Act} {o : Outcome} → Comes s (on t a) o → is_commit a ≡ false → (apply s o.effect).hall ≡ s.hall
unfolding apply is_commit
hall_same (idles a i r) n = refl
hall_same (notes g m w) n = refl
hall_same (ends a w i r) n = refl
hall_same (commits w h k v) n = true_false n
hall_same (sweeps _ _ x) n = elim x [ ]

pub hall_kept : Demands.HallKept
hall_kept s t a n = hall_same (comes s (on t a)) n

pub drops_counted : Demands.DropsCounted
unfolding drops apply
drops_counted s l c d e =
    rw (swept_at e).after (omega (arith, (swept_at e).count, count_trim_all (goes c []) s.hall.entries))
