-- Outcomes: what a refusal leaves, and what the effect of a call may be.
use Prim.Native.Nat.{ℕ, suc, ◌-◌, ◌≤◌, ◌<◌, min, max}
use native.Mathlib.Nat.{le_refl}
use native.Mathlib.Omega.{arith}
use mathlib.Core.Path.{◌≡◌, refl, sym}
use mathlib.Core.Logic.{◌⊎◌, inl, inr, ⊎_elim}
use mathlib.Core.Bool.{true, false, cond}
use mathlib.Core.List.{List, [], ◌∷◌}
use Rattle.std.specs.Prelude.{Option, None, Some}
use lib.ListN.{length}
use lib.Dec.{eqb, ltb}
use borrow.Author.Tests.{leb-false, ltb-false, not-false, eqb-true, ne_eqb}
use Rattle.model.specs.Sizes.{last_number}
use Rattle.model.specs.Bytes.{Bytes, are_bytes}
use Rattle.model.specs.State.{Payload, deletion, content, Writes, Hall, Store, or_empty, is_some, version_count, writes_of, put_write, free_desk, open_desks, open_starts, cutoff}
use Rattle.model.specs.Sweeps.{Rule, goes}
use Rattle.model.specs.Sound.{key_fits, value_fits, sound_payload}
use Rattle.model.specs.Dump.{dump_hall}
use Rattle.model.specs.Journal.{Commit, with_commit, with_commits}
use Rattle.model.specs.Calls.{Act, read, put, delete, commit_to, abort, Question, newest, as_of, counts, dump, Call, begin, on, ask, sweep, thin, replay, Kind, own_value, hall_value, nothing_there, Clashes, Answer, refused, began, found, done, committed, closed, conflict, swept, thinned, counted, dumped, refusal, Effect, stays, opens, writes, closes, publishes, trims, replays, Outcome, answering, returning, Checks, check, read_outcome, new_keys, is_spent, room_checks, record_of, settle, Replay, replay_of, replay_beside, is_too_many, act, reply, sweep_at, thin_at, decide, apply, answer, next}
use Rattle.model.specs.History.{act_in_bytes, in_bytes, written, commit_number, swept_cutoff, thinned_to, is_sweep, gives, ends_by, ends_call}
use Rattle.model.proofs.Cases.{by_bool, true_false, zero_one, and_intro, and_right}
use Rattle.model_laws.proofs.Trim.{Spares}
use Rattle.model_laws.proofs.Thin.{goes_spares}
use Rattle.model_laws.proofs.Replay.{Rises, AllProper, Stopped, whole, wrong, no_keys, no_versions, replay_rises, replay_proper}
use Rattle.model_laws.proofs.Desks.{Seated, seated_seat, seated_redesk, vacated_keeps, rewriting_keeps, seated_start, cutoff_le, cutoff_seated}

-- ---- checks

-- what holds of each refusal, and of what stands behind the checks where none of them holds, holds of the checks
abbrev pub AllFalse : Checks → Type 0
AllFalse [] = Unit {0}
AllFalse (c ∷ cs) = (c.0 ≡ false) × AllFalse cs

pub checked {ℓ} : (P : Outcome → Type ℓ) → ((n : ℕ) → P (answering (refused n) stays)) → (cs : Checks) (o : Outcome) → (AllFalse cs → P o) → P (check cs o)
unfolding check
checked P z [] o h = h tt
checked P z (c ∷ cs) o h = by_bool c.0 (λ p. rw p (z c.1)) (λ p. rw p (checked P z cs o (λ a. h (p, a))))

effect_checked {ℓ} : (P : Effect → Type ℓ) → P stays → (cs : Checks) (o : Outcome) → (AllFalse cs → P o.effect) → P (check cs o).effect
effect_checked P z cs o h = checked (λ o. P o.effect) (λ n. z) cs o h

-- an answer that is no refusal of the checks is what stands behind them
pub through : (cs : Checks) (o : Outcome) (a : Answer) → ((n : ℕ) → refused n ≡ a → ⊥) → (check cs o).answer ≡ a → check cs o ≡ o
unfolding check
through [] o a h e = refl
through (c ∷ cs) o a h e =
    by_bool c.0 (λ p. absurd (h c.1 (rw p at e))) (λ p. rw p (through cs o a h (rw p at e)))

-- ---- checks by their answer alone, as code asks for it: done if none holds

done_refused {ℓ} : {P : Type ℓ} {n : ℕ} → refused n ≡ done → P
done_refused e = zero_one (cc e)

pub none_holds : (cs : Checks) → (check cs (answering done stays)).answer ≡ done → AllFalse cs
unfolding check
none_holds [] e = tt
none_holds (c ∷ cs) e = by_bool c.0 (λ p. done_refused (rw p at e)) (λ p. (p, none_holds cs (rw p at e)))

pub passes : (cs : Checks) (o : Outcome) → AllFalse cs → check cs o ≡ o
unfolding check
passes [] o n = refl
passes (c ∷ cs) o n = rw n.0 (passes cs o n.1)

pub fails : (cs : Checks) (o : Outcome) (n : ℕ) → (check cs (answering done stays)).answer ≡ refused n → check cs o ≡ answering (refused n) stays
unfolding check
fails [] o n e = done_refused (sym e)
fails (c ∷ cs) o n e =
    by_bool c.0
    (λ p. let r = rw p at e in let q : c.1 ≡ n = cc in rw (p, q))
    (λ p. rw p (fails cs o n (rw p at e)))

-- what holds of every value handed back, and of nothing there, holds of a read
pub read_handed {ℓ} : (P : Outcome → Type ℓ) → ((k : Kind) (b : Bytes) → P (returning (found k) b)) → (o : Option Payload) (b : Option Bytes) → P (read_outcome o b)
unfolding read_outcome
read_handed P f None None = f nothing_there []
read_handed P f None (Some x) = f hall_value x
read_handed P f (Some deletion) b = f nothing_there []
read_handed P f (Some (content x)) b = f own_value x

read_stays : (o : Option Payload) (b : Option Bytes) → (read_outcome o b).effect ≡ stays
read_stays o b = read_handed (λ x. x.effect ≡ stays) (λ k b. refl) o b

pub read_same : (s : Store) (t : ℕ) (k : Bytes) → next s (on t (read k)) ≡ s
unfolding decide act apply
read_same s t k = effect_checked (λ e. apply s e ≡ s) refl _ _ (λ a. rw (read_stays _ _))

-- a dump is within the room that it was given
pub dump_within : (s : Store) (room n : ℕ) → dumped n ≡ answer s (ask (dump room)) → n ≤ room
unfolding decide reply check
dump_within s room n e =
    let l : ℕ = length (dump_hall s.hall) in
    by_bool (ltb room l) (λ t. zero_one (cc (rw (t, answer) at e))) (λ t. let q : n ≡ l = cc (rw (t, answer) at e) in omega (arith, ltb-false room l t))

-- ---- what a call may come to

-- the act that writes p of key k
abbrev pub writing : Bytes → Payload → Act
writing k deletion = delete k
writing k (content v) = put k v

-- what a call writes of key k if it is not refused
abbrev pub wants : Bytes → Call → Option Payload
wants k begin = None
wants k (on t a) = written k a
wants k (ask q) = None
wants k (sweep l) = None
wants k (thin l) = None
wants k (replay x) = None

-- the answer a to call c tells of no version, of no cutoff, of no write and of no start
abbrev pub Idle : Call → Answer → Type 0
Idle c a = (commit_number a ≡ None) × (swept_cutoff a ≡ 0) × ((k : Bytes) → cond (eqb (refusal a) 0) (wants k c) None ≡ None) × ((t : ℕ) → gives t a ≡ false)

-- what idles ends no transaction, is no conflict, and hands back bytes only where it is not refused
abbrev pub Quiet : Call → Answer → Bytes → Type 0
Quiet c a b = ((t : ℕ) → ends_call t c a ≡ false) × (eqb (refusal a) 9 ≡ false) × ((n : ℕ) → refusal a ≡ suc n → b ≡ [])

-- it ends the transaction, and a refusal is that of a commit for conflict
abbrev pub Ending : Act → Answer → Type 0
Ending x a = (ends_by x a ≡ true) × ((n : ℕ) → refusal a ≡ suc n → (suc n ≡ 9) × (j : Option ℕ) × (x ≡ commit_to j))

-- the two kinds of sweep, with their answers, how far they go and their rules
pub data Sweeping (s : Store) : Call → Answer → ℕ → Rule → Type 0 where
  below : {l c d : ℕ} → Sweeping s (sweep l) (swept c d) c (goes c [])
  between : {l d : ℕ} (ts : List ℕ)
      → Sweeping s (thin l) (thinned d) (min l s.hall.counter) (goes (min l s.hall.counter) ts)

-- what a call comes to, one case for each effect, with what the store's checks have shown
pub data Comes (s : Store) : Call → Outcome → Type 0 where
  idles : {c : Call} (a : Answer) {b : Bytes} → Idle c a → Quiet c a b → Comes s c (record { answer = a; bytes = b; effect = stays })
  begins : {d : ℕ} → s.hall.counter < last_number → is_some (free_desk s.desks) ≡ true → Comes s begin (answering (began (suc s.hall.counter) d) (opens (suc s.hall.counter)))
  notes : {t : ℕ} {k : Bytes} {p : Payload} → (in_bytes (on t (writing k p)) ≡ true → (key_fits k ≡ true) × (sound_payload p ≡ true))
      → is_too_many k (or_empty (writes_of t s.desks)) ≡ false → Seated t s.desks → Comes s (on t (writing k p)) (answering done (writes t k p))
  ends : {t : ℕ} {x : Act} (a : Answer) → Seated t s.desks → Idle (on t x) a → Ending x a → Comes s (on t x) (answering a (closes t))
  commits : {t : ℕ} {j : Option ℕ} {ws : Writes} → writes_of t s.desks ≡ Some ws → s.hall.counter < last_number
      → new_keys ws s.hall.entries ≤ s.hall.key_rooms - length s.hall.entries
      → length ws ≤ s.hall.version_rooms - version_count s.hall.entries
      → Comes s (on t (commit_to j)) (record {
        answer = committed (suc s.hall.counter);
        bytes = record_of j (record { number = suc s.hall.counter; writes = ws });
        effect = publishes t (suc s.hall.counter) ws;
      })
  sweeps : {x : Call} {a : Answer} {c : ℕ} {g : Rule} → c ≤ s.hall.counter
      → ((t : ℕ) → Seated t s.desks ⊎ (c ≤ t) → Spares g t) → Sweeping s x a c g
      → Comes s x (answering a (trims c g))
  restores : {x : Bytes} (r : Replay) → open_desks s.desks ≡ 0 → Rises s.hall r.commits
      → (are_bytes x ≡ true → AllProper r.commits) → Stopped r.answer
      → Comes s (replay x) (answering r.answer (replays r.commits))

-- the refusals of a call but for conflict
abbrev Plain : Checks → Type 0
Plain [] = Unit {0}
Plain (c ∷ cs) = (c.1 ≡ 0 → ⊥) × (c.1 ≡ 9 → ⊥) × Plain cs

-- a plain refusal ends nothing
refused_ends : (c : Call) (n : ℕ) → (n ≡ 0 → ⊥) → (n ≡ 9 → ⊥) → (t : ℕ) → ends_call t c (refused n) ≡ false
unfolding ends_call ends_by refusal
refused_ends begin n p q t = refl
refused_ends (on u (read k)) n p q t = refl
refused_ends (on u (put k v)) n p q t = refl
refused_ends (on u (delete k)) n p q t = refl
refused_ends (on u (commit_to j)) n p q t = rw (ne_eqb n 0 p, ne_eqb n 9 q)
refused_ends (on u abort) n p q t = rw (ne_eqb n 0 p)
refused_ends (ask x) n p q t = refl
refused_ends (sweep l) n p q t = refl
refused_ends (thin l) n p q t = refl
refused_ends (replay x) n p q t = refl

module _ (s : Store) where
  refuses : (c : Call) (cs : Checks) (o : Outcome) → Plain cs → (AllFalse cs → Comes s c o) → Comes s c (check cs o)
  unfolding check refusal commit_number swept_cutoff gives
  refuses c [] o p h = h tt
  refuses c (x ∷ cs) o p h =
      by_bool x.0
      (λ q. rw q
      (idles {c = c} (refused x.1) (refl, refl, λ k. rw (ne_eqb x.1 0 p.0), λ t. refl)
      (refused_ends c x.1 p.0 p.1, ne_eqb x.1 9 p.1, λ n e. refl)))
      (λ q. rw q (refuses c cs o p.2 (λ a. h (q, a))))

  comes_settle : (j : Option ℕ) (t : ℕ) (o : Option Writes) → writes_of t s.desks ≡ o → is_some o ≡ true
      → (l : Clashes) → Comes s (on t (commit_to j)) (settle s.hall j t (or_empty o) l)
  unfolding settle room_checks is_spent refusal commit_number swept_cutoff written gives ends_by
  comes_settle j t None e h l = true_false (sym h)
  comes_settle j t (Some []) e h l = ends {t = t} closed (rw e) (refl, refl, λ k. refl, λ u. refl) (refl, λ n z. absurd (omega arith))
  comes_settle j t (Some (w ∷ ws)) e h (c ∷ l) = ends {t = t} (conflict (c ∷ l)) (rw e) (refl, refl, λ k. refl, λ u. refl) (refl, λ n z. (sym z, j, refl))
  comes_settle j t (Some (w ∷ ws)) e h [] =
      refuses _ _ _ (omega arith) (λ a. refuses _ _ _ (omega arith) (λ b.
      commits e (leb-false _ _ a.0) (ltb-false _ _ a.1.0) (ltb-false _ _ a.1.1.0)))

  -- a read of any kind idles
  comes_read : (c : Call) → ((k : Bytes) → wants k c ≡ None) → ((t : ℕ) (a : Answer) → ends_call t c a ≡ false)
      → (cs : Checks) → Plain cs → (o : Option Payload) (b : Option Bytes) → Comes s c (check cs (read_outcome o b))
  unfolding refusal commit_number swept_cutoff gives
  comes_read c w n cs p o b =
      refuses _ cs _ p (λ a. read_handed (λ x. Comes s c x)
      (λ j b. idles (found j) (refl, refl, w, λ u. refl) (λ u. n u (found j), refl, λ n e. absurd (omega arith))) o b)

  comes_act : (t : ℕ) (a : Act) → Comes s (on t a) (act s.hall t a (writes_of t s.desks))
  unfolding act refusal commit_number swept_cutoff written gives ends_by ends_call in_bytes act_in_bytes sound_payload
  comes_act t (read k) = comes_read _ (λ k. refl) (λ u a. refl) _ (omega arith) _ _
  comes_act t (put k v) =
      refuses _ _ _ (omega arith)
      (λ a. notes {p = content v}
      (λ b. (not-false (key_fits k) a.0, and_intro (not-false (value_fits v) a.1.0) (and_right (are_bytes k) (are_bytes v) b)))
      a.1.1.1.0 (not-false _ a.1.1.0))
  comes_act t (delete k) =
      refuses _ _ _ (omega arith) (λ a. notes {p = deletion} (λ b. (not-false (key_fits k) a.0, refl)) a.1.1.0 (not-false _ a.1.0))
  comes_act t (commit_to j) = refuses _ _ _ (omega arith) (λ a. comes_settle j t _ refl (not-false _ a.0) _)
  comes_act t abort = refuses _ _ _ (omega arith) (λ a. ends done (not-false _ a.0) (refl, refl, λ k. refl, λ u. refl) (refl, λ n z. absurd (omega arith)))

  comes_reply : (q : Question) → Comes s (ask q) (reply s q)
  unfolding reply refusal commit_number swept_cutoff gives ends_call
  comes_reply (newest k) = comes_read _ (λ k. refl) (λ u a. refl) _ (omega arith) _ _
  comes_reply (as_of n k) = comes_read _ (λ k. refl) (λ u a. refl) _ (omega arith) _ _
  comes_reply counts = idles (counted _ _ _) (refl, refl, λ k. refl, λ u. refl) (λ u. refl, refl, λ n e. refl)
  comes_reply (dump room) = refuses _ _ _ (omega arith) (λ a. idles (dumped _) (refl, refl, λ k. refl, λ u. refl) (λ u. refl, refl, λ n e. absurd (omega arith)))

  pub comes : (c : Call) → Comes s c (decide s c)
  unfolding decide sweep_at thin_at is_spent replay_beside
  comes begin = refuses _ _ _ (omega arith) (λ a. begins (leb-false _ _ a.1.0) (not-false _ a.0))
  comes (on t a) = comes_act t a
  comes (ask q) = comes_reply q
  comes (sweep l) =
      let m = min l s.hall.counter in
      let c = cutoff m s.desks in
      sweeps {c = c} (omega (arith, cutoff_le m s.desks))
      (λ t p. goes_spares c [] t (inr (⊎_elim (cutoff_seated m t s.desks) (λ h. h) p))) below
  comes (thin l) =
      let m = min l s.hall.counter in
      sweeps {c = m} (omega arith)
      (λ t p. goes_spares m (open_starts s.desks) t (⊎_elim (λ o. inl (seated_start t s.desks o)) (λ h. inr h) p))
      (between _)
  comes (replay x) =
      let r = replay_of s.hall 0 x in
      let t = replay_rises s.hall 0 x in
      refuses _ _ _ (omega arith)
      (λ a. restores r (eqb-true _ _ (not-false _ a.0)) t.0 (replay_proper s.hall 0 x) t.1)

-- a question changes nothing
asked_stays : {s : Store} {q : Question} {o : Outcome} → Comes s (ask q) o → o.effect ≡ stays
asked_stays (idles a i r) = refl
asked_stays (sweeps _ _ x) = elim x [ ]

pub reply_stays : (s : Store) (q : Question) → (reply s q).effect ≡ stays
reply_stays s q = asked_stays (comes_reply s q)

-- a replay tells of no version by its answer, of no cutoff and of no start
pub stopped_tells : {a : Answer} → Stopped a
    → (commit_number a ≡ None) × (swept_cutoff a ≡ 0) × ((t : ℕ) → gives t a ≡ false)
unfolding commit_number swept_cutoff gives
stopped_tells whole = (refl, refl, λ t. refl)
stopped_tells wrong = (refl, refl, λ t. refl)
stopped_tells no_keys = (refl, refl, λ t. refl)
stopped_tells no_versions = (refl, refl, λ t. refl)

-- ---- what every call does to the counter, the floor and the starts

pub counter_commits : (h : Hall) (cs : List Commit) → Rises h cs → h.counter ≤ (with_commits h cs).counter
unfolding with_commits
counter_commits h [] r = le_refl _
counter_commits h (c ∷ cs) r = omega (arith, r.0.0, counter_commits (with_commit h c) cs r.2)

pub floor_commits : (h : Hall) (cs : List Commit) → (with_commits h cs).floor ≡ h.floor
unfolding with_commits
floor_commits h [] = refl
floor_commits h (c ∷ cs) = floor_commits (with_commit h c) cs

module _ {s : Store} where
  pub counter_up : {c : Call} {o : Outcome} → Comes s c o → s.hall.counter ≤ (apply s o.effect).hall.counter
  unfolding apply
  counter_up (idles a i r) = le_refl _
  counter_up (begins h d) = omega arith
  counter_up (notes g m w) = le_refl _
  counter_up (ends a w i r) = le_refl _
  counter_up (commits w h k v) = omega arith
  counter_up (sweeps h f r) = le_refl _
  counter_up (restores r o g p a) = counter_commits s.hall r.commits g

  pub floor_up : {c : Call} {o : Outcome} → Comes s c o → s.hall.floor ≤ (apply s o.effect).hall.floor
  unfolding apply
  floor_up (idles a i r) = le_refl _
  floor_up (begins h d) = le_refl _
  floor_up (notes g m w) = le_refl _
  floor_up (ends a w i r) = le_refl _
  floor_up (commits w h k v) = le_refl _
  floor_up (sweeps h f w) = omega arith
  floor_up (restores r o g p a) = omega (arith, floor_commits s.hall r.commits)

  -- only sweeps raise it
  floor_same : {c : Call} {o : Outcome} → Comes s c o → is_sweep c ≡ false
      → ((apply s o.effect).hall.floor ≡ s.hall.floor) × (swept_cutoff o.answer ≡ 0)
  unfolding apply swept_cutoff is_sweep
  floor_same (idles a i r) n = (refl, i.1)
  floor_same (begins h d) n = (refl, refl)
  floor_same (notes g m w) n = (refl, refl)
  floor_same (ends a w i r) n = (refl, i.1)
  floor_same (commits w h k v) n = (refl, refl)
  floor_same (sweeps h f below) n = true_false n
  floor_same (sweeps h f (between ts)) n = true_false n
  floor_same (restores r o g p a) n = (floor_commits s.hall r.commits, (stopped_tells a).1)

  -- a start that is open afterwards was open before, or is the next
  pub seated_back {ℓ} : {P : Type ℓ} {c : Call} {o : Outcome} → Comes s c o → (u : ℕ) → Seated u (apply s o.effect).desks
      → (Seated u s.desks → P) → (u ≡ suc s.hall.counter → P) → P
  unfolding apply
  seated_back (idles a i r) u o f g = f o
  seated_back (begins h d) u o f g = seated_seat u _ s.desks o f g
  seated_back (notes {t} {k} {p} b m w) u o f g = f (seated_redesk t _ (rewriting_keeps (put_write k p)) u s.desks o)
  seated_back (ends {t} a w i r) u o f g = f (seated_redesk t _ vacated_keeps u s.desks o)
  seated_back (commits {t} w h k v) u o f g = f (seated_redesk t _ vacated_keeps u s.desks o)
  seated_back (sweeps h e r) u o f g = f o
  seated_back (restores r n l p a) u o f g = f o

-- to their cutoff, or to the smaller of limit and counter
pub floor_next : (s : Store) (c : Call)
    → (next s c).hall.floor ≡ max s.hall.floor (max (swept_cutoff (answer s c)) (thinned_to s c))
unfolding decide sweep_at thin_at apply swept_cutoff thinned_to is_sweep
floor_next s begin = let e = floor_same (comes s begin) refl in omega (arith, e.0, e.1)
floor_next s (on t a) = let e = floor_same (comes s (on t a)) refl in omega (arith, e.0, e.1)
floor_next s (ask q) = let e = floor_same (comes s (ask q)) refl in omega (arith, e.0, e.1)
floor_next s (sweep l) = omega arith
floor_next s (thin l) = omega arith
floor_next s (replay x) = let e = floor_same (comes s (replay x)) refl in omega (arith, e.0, e.1)
