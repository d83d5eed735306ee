-- Sweeps are not seen: with and without them the named calls answer the same, as long as there is room.
use Prim.Native.Nat.{ℕ, zero, suc, ◌-◌, ◌≤◌, ◌<◌}
use native.Mathlib.Nat.{le_refl}
use native.Mathlib.Omega.{arith}
use mathlib.Core.Path.{◌≡◌, refl, sym, ap, ◌∙◌}
use mathlib.Core.Logic.{◌⊎◌, inl, inr, ⊎_elim}
use mathlib.Core.Bool.{Bool, true, false}
use mathlib.Core.List.{List, [], ◌∷◌}
use Rattle.std.specs.Prelude.{Option, None, Some}
use lib.ListN.{length}
use lib.Dec.{eqb}
use borrow.Author.Tests.{ltb-false, le-ltb}
use Rattle.model.specs.Bytes.{Bytes, are_bytes}
use Rattle.model.specs.State.{deletion, content, Chain, Hall, Writes, Desk, Store, is_some, or_empty, look, newest_of, version_count, open_desks, publish, written_keys, with_entries}
use Rattle.model.specs.Sweeps.{Rule, trim, trim_all}
use Rattle.model.specs.Load.{Parsed, got, bad}
use Rattle.model.specs.Journal.{Commit, with_commit, with_commits, read_commit}
use Rattle.model.specs.Calls.{Act, read, put, delete, commit_to, abort, Question, Call, begin, on, ask, sweep, Clashes, thin, replay, Answer, refusal, Outcome, check, above, clashes, new_keys, is_spent, room_checks, settle, Replay, go_on, replay_up_to, replay_of, replay_beside, act, sweep_at, thin_at, decide, apply, answer, next}
use Rattle.model.specs.Runs.{response}
use Rattle.model.specs.History.{in_bytes, all_in_bytes, responses_to, is_sweep, strike, is_named, is_full, until_full}
use Rattle.model.proofs.Cases.{by_bool, true_false, both}
use Rattle.model_laws.proofs.Chains.{Like, like_refl, like_trans, like_append}
use Rattle.model_laws.proofs.Trim.{Spares}
use Rattle.model_laws.proofs.Entries.{made, look_publish, SoundWrites, newest_some, count_publish, count_trim_all}
use Rattle.model_laws.proofs.Keys.{Has, look_trim_all, has_publish, fewer_rooms}
use Rattle.model_laws.proofs.Desks.{Seated}
use Rattle.model_laws.proofs.Effects.{reply_stays, below, between, Comes, idles, begins, notes, ends, commits, sweeps, restores, comes, counter_up, seated_back}
use Rattle.model_laws.proofs.Journal.{takes_commit, came, comes_commit, commit_same}
use Rattle.model_laws.proofs.Replay.{full_of, first_of, full_none, none_full, full_stops}
use Rattle.model_laws.proofs.Sound.{SoundHall, Sound, tidy_of, hall_commit, swept_like, sound_head, bytes_head, bytes_tail}

-- ---- the store s with sweeps beside the store s' without

-- a start that is open, or that may yet be given out
abbrev Live : Store → ℕ → Type 0
Live s t = Seated t s.desks ⊎ (s.hall.counter < t)

-- the halls h and h' can't be told apart by the starts in L
record Alike (L : ℕ → Type 0) (h h' : Hall) : Type 0 where
  key_rooms : h.key_rooms ≡ h'.key_rooms
  version_rooms : h.version_rooms ≡ h'.version_rooms
  counter : h.counter ≡ h'.counter
  fewer : version_count h.entries ≤ version_count h'.entries
  has : (k : Bytes) → Has k h.entries → Has k h'.entries
  like : (k : Bytes) (t : ℕ) → L t → Like t (look k h.entries) (look k h'.entries)

record Sim (s s' : Store) : Type 0 where
  hall : Alike (Live s') s.hall s'.hall
  desks : s.desks ≡ s'.desks

sim_refl : (s : Store) → Sim s s
sim_refl s = record {
  hall = record {
    key_rooms = refl;
    version_rooms = refl;
    counter = refl;
    fewer = le_refl _;
    has = λ k e. e;
    like = λ k t h. like_refl t _;
  };
  desks = refl;
}

-- ---- the same outcome

pub clashes_same : (t : ℕ) (ks : List Bytes) (h h' : Hall)
    → ((k : Bytes) → above t (newest_of (look k h.entries)) ≡ above t (newest_of (look k h'.entries)))
    → clashes t ks h ≡ clashes t ks h'
unfolding clashes
clashes_same t [] h h' e = refl
clashes_same t (k ∷ ks) h h' e = rw (e k, clashes_same t ks h h' e)

-- checks for room that differ only where the right side is refused
check_room : (a p q p' q' : Bool) (o : Outcome) → (p' ≡ false → p ≡ false) → (q' ≡ false → q ≡ false)
    → is_full (check ((a, 8) ∷ (p', 10) ∷ (q', 11) ∷ []) o).answer ≡ false
    → check ((a, 8) ∷ (p, 10) ∷ (q, 11) ∷ []) o ≡ check ((a, 8) ∷ (p', 10) ∷ (q', 11) ∷ []) o
unfolding check is_full refusal
check_room true p q p' q' o f h g = refl
check_room false p q true q' o f h g = true_false g
check_room false p q false true o f h g = true_false g
check_room false p q false false o f h g = rw (f refl, h refl)

module _ {L : ℕ → Type 0} {h h' : Hall} (m : Alike L h h') (d : SoundHall h) (d' : SoundHall h') where
  -- what fits beside h' fits beside h
  fewer_keys : (ws : Writes) → SoundWrites [] ws → new_keys ws h'.entries ≤ h'.key_rooms - length h'.entries
      → new_keys ws h.entries ≤ h'.key_rooms - length h.entries
  fewer_keys ws w q =
      omega (
        arith,
        fewer_rooms ws h.entries h'.entries w d.ascending d'.ascending d.non_empty d'.non_empty m.has,
        d'.keys,
      )

  settle_same : (j : Option ℕ) (t : ℕ) (ws : Writes) (l : Clashes) → SoundWrites [] ws
      → is_full (settle h' j t ws l).answer ≡ false → settle h j t ws l ≡ settle h' j t ws l
  unfolding settle room_checks is_spent
  settle_same j t [] l w g = refl
  settle_same j t (x ∷ ws) (c ∷ l) w g = refl
  settle_same j t (x ∷ ws) [] w g =
      rw (m.counter, m.key_rooms, m.version_rooms)
      (check_room _ _ _ _ _ _
      (λ q. le-ltb _ (new_keys (x ∷ ws) h.entries) (fewer_keys (x ∷ ws) w (ltb-false _ (new_keys (x ∷ ws) h'.entries) q)))
      (λ q. le-ltb _ (suc (length ws)) (omega (arith, m.fewer, ltb-false _ (suc (length ws)) q))) g)

  room_same : (c : Commit) → SoundWrites [] c.writes → full_of h' c ≡ 0 → full_of h c ≡ 0
  room_same c w z =
      let r = full_none h' c z in
      none_full h c (
        rw m.key_rooms (fewer_keys c.writes w r.0),
        rw m.version_rooms (omega (arith, m.fewer, r.1)),
      )

  act_same : (t : ℕ) (a : Act) (o : Option Writes) → (is_some o ≡ true → L t) → SoundWrites [] (or_empty o)
      → is_full (act h' t a o).answer ≡ false → act h t a o ≡ act h' t a o
  unfolding act check
  act_same t (read k) None l w g = refl
  act_same t (read k) (Some ws) l w g = rw (m.like k t (l refl)).0
  act_same t (put k v) o l w g = refl
  act_same t (delete k) o l w g = refl
  act_same t (commit_to j) None l w g = refl
  act_same t (commit_to j) (Some ws) l w g =
      rw (clashes_same t (written_keys ws) h h' (λ k. (m.like k t (l refl)).1)) (settle_same j t ws _ w g)
  act_same t abort o l w g = refl

-- ---- the two stores go on

has_trim : (g : Rule) (l : Chain) → is_some (newest_of (trim g l)) ≡ true → is_some (newest_of l) ≡ true
unfolding trim
has_trim g [] e = e
has_trim g (v ∷ vs) e = newest_some (v ∷ vs) (omega arith)

live_back : {s : Store} {c : Call} {o : Outcome} → Comes s c o → (u : ℕ) → Live (apply s o.effect) u → Live s u
live_back m u (inl o) = seated_back m u o (λ w. inl w) (λ e. inr (omega arith))
live_back m u (inr h) = inr (omega (arith, counter_up m))

module _ {L L' : ℕ → Type 0} {h h' : Hall} (m : Alike L h h') (f : (u : ℕ) → L' u → L u) where
  -- for fewer starts, and with the writes ws published; of none, only the counter changes
  alike_publish : {n n' : ℕ} → n ≡ n' → (ws : Writes) → Alike L' (with_entries h n (publish n ws h.entries)) (with_entries h' n' (publish n' ws h'.entries))
  alike_publish {n} {n'} e ws =
      let es = h.entries in
      let fs = h'.entries in
      rw (← e)
      (record {
        key_rooms = m.key_rooms;
        version_rooms = m.version_rooms;
        counter = refl;
        fewer = rw (count_publish n ws es, count_publish n ws fs) (omega (arith, m.fewer));
        has = has_publish n ws es fs m.has;
        like = λ k u l. rw (look_publish k n ws es, look_publish k n ws fs)
            (like_append u (look k es) (look k fs) (made k n ws) (m.like k u (f u l)));
      })

alike_commits : {L L' : ℕ → Type 0} {h h' : Hall} → Alike L h h' → ((u : ℕ) → L' u → L u) → (cs : List Commit)
    → Alike L' (with_commits h cs) (with_commits h' cs)
unfolding with_commits publish
alike_commits m f [] = alike_publish m f m.counter []
alike_commits {h = h} {h' = h'} m f (c ∷ cs) =
    alike_commits
    {h = with_entries h c.number (publish c.number c.writes h.entries)}
    {h' = with_entries h' c.number (publish c.number c.writes h'.entries)}
    (alike_publish m (λ u l. l) refl c.writes) f cs

-- ---- the same replay, up to a record that the right side refuses for room

go_on_when : (w : Parsed Commit) (f g : Commit → (at : ℕ) → Bytes → Replay)
    → ((c : Commit) (p : ℕ) (r : Bytes) → w ≡ got c p r → is_full (g c p r).answer ≡ false → f c p r ≡ g c p r)
    → is_full (go_on w g).answer ≡ false → go_on w f ≡ go_on w g
unfolding go_on
go_on_when (got c p r) f g k h = let e = k c p r refl h in rw e
go_on_when (bad n p) f g k h = refl

replay_same : {L : ℕ → Type 0} (n : ℕ) {h h' : Hall} → Alike L h h' → SoundHall h → SoundHall h'
    → (at : ℕ) (x : Bytes) → are_bytes x ≡ true → is_full (replay_up_to n h' at x).answer ≡ false
    → replay_up_to n h at x ≡ replay_up_to n h' at x
unfolding replay_up_to go_on
replay_same zero m d d' at x b g = refl
replay_same (suc n) {h} {h'} m d d' at x b g =
    let k : read_commit h.counter (full_of h') at x ≡ first_of h' at x =
    ap (λ i. read_commit i (full_of h') at x) m.counter in
    commit_same h.counter (full_of h) (full_of h') at x b (λ c p. room_same m d d' c p.sound)
    (λ e. ap (λ w. go_on w (λ c. replay_up_to n (with_commit h c))) (e ∙ k)
    ∙ go_on_when (first_of h' at x) _ _ (λ c p r w i.
    let t = takes_commit h'.counter (full_of h') at x c p r b w in
    let l = came (comes_commit h'.counter (full_of h') at x) w in
    let z = room_same m d d' c t.1.sound l.1 in
    replay_same n (alike_publish m (λ u l. l) refl c.writes)
    (hall_commit d c (rw m.counter l.0) (full_none h c z) t.1)
    (hall_commit d' c l.0 (full_none h' c l.1) t.1) p r t.0.rest i) g)
    (λ c z e. true_false (sym (full_stops h' c at z) ∙ rw (sym k ∙ e) at g))

beside_same : (ds : List Desk) (r r' : Replay) → (is_full r'.answer ≡ false → r ≡ r')
    → is_full (replay_beside ds r').answer ≡ false → replay_beside ds r ≡ replay_beside ds r'
unfolding replay_beside check
beside_same ds r r' f h = by_bool (eqb (open_desks ds) 0) (λ p. let e = f (rw p at h) in rw e) (λ p. rw p)

module _ {s s' : Store} (m : Sim s s') (d : Sound s) (d' : Sound s') where
  same : (c : Call) → is_named c ≡ true → in_bytes c ≡ true → is_full (answer s' c) ≡ false → decide s c ≡ decide s' c
  unfolding is_named in_bytes decide is_spent replay_of
  same begin n b h = rw (m.desks, m.hall.counter)
  same (on t a) n b h =
      rw m.desks (act_same m.hall d.hall d'.hall t a _ (λ o. inl o) (tidy_of d'.desks t).sound h)
  same (ask q) n b h = true_false (sym n)
  same (sweep l) n b h = true_false (sym n)
  same (thin l) n b h = true_false (sym n)
  same (replay x) n b h =
      rw m.desks (beside_same s'.desks _ _ (replay_same (length x) m.hall d.hall d'.hall 0 x b) h)

module _ {s s' : Store} (m : Sim s s') (d : Sound s) (d' : Sound s') where
  goes_on : {c : Call} {o : Outcome} → Comes s' c o → is_named c ≡ true → ((u : ℕ) → Live (apply s' o.effect) u → Live s' u)
      → Sim (apply s o.effect) (apply s' o.effect)
  unfolding apply publish is_named
  goes_on (idles a i r) n f = m
  goes_on (begins h e) n f = record { hall = alike_publish m.hall f refl []; desks = rw m.desks }
  goes_on (notes g x w) n f = record { hall = alike_publish m.hall f m.hall.counter []; desks = rw m.desks }
  goes_on (ends a w i r) n f = record { hall = alike_publish m.hall f m.hall.counter []; desks = rw m.desks }
  goes_on (commits {ws = ws} w h x v) n f = record { hall = alike_publish m.hall f refl ws; desks = rw m.desks }
  goes_on (sweeps h f below) n g = true_false (sym n)
  goes_on (sweeps h f (between ts)) n g = true_false (sym n)
  goes_on (restores r o g p a) n f =
      record { hall = alike_commits m.hall f r.commits; desks = m.desks }

  swept_on : {x : Call} {o : Outcome} → Comes s x o → is_sweep x ≡ true → Sim (apply s o.effect) s'
  unfolding apply is_sweep
  swept_on (idles a i r) n = m
  swept_on (begins h e) n = true_false (sym n)
  swept_on (notes {p = deletion} g x w) n = true_false (sym n)
  swept_on (notes {p = content v} g x w) n = true_false (sym n)
  swept_on (ends a w i r) n = true_false (sym n)
  swept_on (commits w h x v) n = true_false (sym n)
  swept_on (restores r o g p a) n = true_false (sym n)
  swept_on (sweeps {c = c} {g} h f e) n =
      let es = s.hall.entries in
      let spared : (u : ℕ) → Live s' u → Spares g u =
      λ u l. f u
      (⊎_elim (λ o. inl (rw m.desks o)) (λ (o : s'.hall.counter < u). inr (omega (arith, m.hall.counter))) l) in
      record {
        hall = record {
          key_rooms = m.hall.key_rooms;
          version_rooms = m.hall.version_rooms;
          counter = m.hall.counter;
          fewer = omega (arith, count_trim_all g es, m.hall.fewer);
          has = λ k. rw (look_trim_all k g [] es d.hall.ascending) (λ e. m.hall.has k (has_trim g (look k es) e));
          like = λ k u l. like_trans u (look k (trim_all g es)) (look k es) _
              (swept_like d.hall g u (spared u l) k) (m.hall.like k u l);
        };
        desks = m.desks;
      }

  next_named : (c : Call) → is_named c ≡ true → in_bytes c ≡ true → is_full (answer s' c) ≡ false
      → Sim (next s c) (next s' c)
  next_named c n b h = rw (same m d d' c n b h) (goes_on (comes s' c) n (live_back (comes s' c)))

  seen_named : (c : Call) → is_named c ≡ true → in_bytes c ≡ true → is_full (answer s' c) ≡ false
      → ◌≡◌ {A = Answer × Bytes} (response s c) (response s' c)
  seen_named c n b h = ap (λ (o : Outcome). (o.answer, o.bytes)) (same m d d' c n b h)

  next_asked : (q : Question) → Sim (next s (ask q)) (next s' (ask q))
  unfolding apply decide
  next_asked q = rw (reply_stays s q, reply_stays s' q) m

-- ---- runs

struck : {s s' : Store} → Sim s s' → Sound s → Sound s' → (cs : List Call) → all_in_bytes cs ≡ true
    → responses_to is_named s (until_full s' cs) ≡ responses_to is_named s' (strike (until_full s' cs))
unfolding responses_to until_full strike is_named in_bytes is_sweep decide sweep_at thin_at all_in_bytes
struck m d d' [] b = refl
struck {s} {s'} m d d' (begin ∷ cs) b =
    by_bool (is_full (answer s' begin)) (λ p. rw p)
    (λ p. rw p (both (seen_named m d d' begin refl refl p)
    (struck {s = next s begin} {s' = next s' begin} (next_named m d d' begin refl refl p) (sound_head s begin cs b d) (sound_head s' begin cs b d') cs
    (bytes_tail begin cs b))))
struck {s} {s'} m d d' (on t a ∷ cs) b =
    by_bool (is_full (answer s' (on t a))) (λ p. rw p)
    (λ p. rw p (both (seen_named m d d' (on t a) refl (bytes_head (on t a) cs b) p)
    (struck {s = next s (on t a)} {s' = next s' (on t a)} (next_named m d d' (on t a) refl (bytes_head (on t a) cs b) p) (sound_head s (on t a) cs b d) (sound_head s' (on t a) cs b d') cs
    (bytes_tail (on t a) cs b))))
struck {s} {s'} m d d' (ask q ∷ cs) b =
    by_bool (is_full (answer s' (ask q))) (λ p. rw p)
    (λ p. rw p
    (struck {s = next s (ask q)} {s' = next s' (ask q)} (next_asked m d d' q) (sound_head s (ask q) cs b d) (sound_head s' (ask q) cs b d') cs
    (bytes_tail (ask q) cs b)))
struck {s} m d d' (sweep l ∷ cs) b =
    struck {s = next s (sweep l)} (swept_on m d d' (comes s (sweep l)) refl) (sound_head s (sweep l) cs b d) d' cs
    (bytes_tail (sweep l) cs b)
struck {s} m d d' (thin l ∷ cs) b =
    struck {s = next s (thin l)} (swept_on m d d' (comes s (thin l)) refl) (sound_head s (thin l) cs b d) d' cs
    (bytes_tail (thin l) cs b)
struck {s} {s'} m d d' (replay x ∷ cs) b =
    by_bool (is_full (answer s' (replay x))) (λ p. rw p)
    (λ p. rw p (both (seen_named m d d' (replay x) refl (bytes_head (replay x) cs b) p)
    (struck {s = next s (replay x)} {s' = next s' (replay x)} (next_named m d d' (replay x) refl (bytes_head (replay x) cs b) p)
    (sound_head s (replay x) cs b d) (sound_head s' (replay x) cs b d') cs (bytes_tail (replay x) cs b))))

pub sweeps_unseen : (s : Store) → Sound s → (cs : List Call) → all_in_bytes cs ≡ true
    → responses_to is_named s (until_full s cs) ≡ responses_to is_named s (strike (until_full s cs))
sweeps_unseen s d cs b = struck (sim_refl s) d d cs b
