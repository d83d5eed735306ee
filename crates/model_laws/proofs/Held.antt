-- What a run holds of each key: what its history shows, and exactly the history swept at the largest cutoff so far.
use Prim.Native.Nat.{ℕ, suc, ◌≤◌, max}
use native.Mathlib.Nat.{le_refl}
use native.Mathlib.Omega.{arith}
use mathlib.Core.Path.{◌≡◌, refl, sym, ap, ◌∙◌}
use mathlib.Core.Bool.{true, not}
use mathlib.Core.List.{List, [], ◌∷◌, ◌++◌, append_assoc, append-nil}
use Rattle.std.specs.Prelude.{None, Some}
use Rattle.model.specs.Bytes.{Bytes}
use Rattle.model.specs.State.{Chain, Store, look, find}
use Rattle.model.specs.Sweeps.{Rule, goes, trim, trim_all}
use Rattle.model.specs.Calls.{Call, begin, on, ask, sweep, thin, replay, Answer, committed, Outcome, decide, apply, answer, next}
use Rattle.model.specs.Runs.{run}
use Rattle.model.specs.History.{in_bytes, all_in_bytes, commit_number, stamp, stamps, replayed_by, gain, gains, swept_cutoff, top_cutoff, is_thin, never_thins, history, Rising}
use Rattle.model.proofs.Cases.{true_false, and_left, and_right}
use Rattle.model_laws.proofs.Chains.{rising_mono, rising_stamp, Like, like_refl, like_trans, like_append}
use Rattle.model_laws.proofs.Trim.{trim_idle, trim_stamp, trim_trim}
use Rattle.model_laws.proofs.Entries.{look_publish, made_find}
use Rattle.model_laws.proofs.Keys.{look_trim_all}
use Rattle.model_laws.proofs.Replay.{look_commits, rising_commits, trim_commits}
use Rattle.model_laws.proofs.Effects.{Sweeping, below, between, Comes, idles, begins, notes, ends, commits, sweeps, restores, stopped_tells, comes, floor_next}
use Rattle.model_laws.proofs.Sound.{Tidy, tidy_of, Sound, swept_like, sound_head, bytes_head, bytes_tail}
use Rattle.model_laws.proofs.AsOf.{Kept, kept_back, kept_spared}

gain_none : (k : Bytes) (s : Store) (c : Call) (o : Outcome) → decide s c ≡ o → commit_number o.answer ≡ None
    → replayed_by o.effect ≡ [] → gain k s c ≡ []
unfolding gain stamp stamps
gain_none k s begin o e n r = refl
gain_none k s (on t a) o e n r =
    let q : commit_number (answer s (on t a)) ≡ None = ap (λ (o : Outcome). commit_number o.answer) e ∙ n in rw q
gain_none k s (ask q) o e n r = refl
gain_none k s (sweep l) o e n r = refl
gain_none k s (thin l) o e n r = refl
gain_none k s (replay x) o e n r = rw (e, r)

gain_replay : (k : Bytes) (s : Store) (x : Bytes) (o : Outcome) → decide s (replay x) ≡ o
    → gain k s (replay x) ≡ stamps k (replayed_by o.effect)
unfolding gain
gain_replay k s x o e = ap (λ (o : Outcome). stamps k (replayed_by o.effect)) e

swept_none : {s : Store} {x : Call} {a : Answer} {c : ℕ} {g : Rule} → Sweeping s x a c g → commit_number a ≡ None
unfolding commit_number
swept_none below = refl
swept_none (between ts) = refl

-- ---- what the history shows

-- key k has the history l, as far as that can be told
pub record Inv (k : Bytes) (s : Store) (l : Chain) : Type 0 where
  pub like : (t : ℕ) → Kept s t → Like t (look k s.hall.entries) l
  pub rising : Rising 0 s.hall.counter l

-- nothing gained
same : {k : Bytes} {s : Store} {l g : Chain} → g ≡ [] → Inv k s l → Inv k s (l ++ g)
same {l = l} n i = rw (n, append-nil l) i

keeps : {k : Bytes} {s : Store} {l : Chain} {x : Call} {o : Outcome} → Sound s → Inv k s l → Comes s x o
    → ((t : ℕ) → Kept (apply s o.effect) t → Kept s t) → decide s x ≡ o → in_bytes x ≡ true
    → Inv k (apply s o.effect) (l ++ gain k s x)
unfolding apply gain commit_number replayed_by in_bytes
keeps {k} {s} d i (idles a q r) b e y = same (gain_none k s _ _ e q.0 refl) i
keeps {s = s} {l} d i (begins h f) b e y =
    let n = s.hall.counter in
    let r = rising_mono 0 n (suc n) l (omega arith) i.rising in
    same refl (record { like = λ t p. i.like t (b t p); rising = r })
keeps {k} {s} d i (notes g m w) b e y =
    same (gain_none k s _ _ e refl refl) (record { like = λ t p. i.like t (b t p); rising = i.rising })
keeps {k} {s} d i (ends a w q r) b e y =
    same (gain_none k s _ _ e q.0 refl) (record { like = λ t p. i.like t (b t p); rising = i.rising })
keeps {k} {s} {l} d i (commits {t} {ws = ws} w h _ _) b e y =
    let n = suc s.hall.counter in
    let es = s.hall.entries in
    let tidy : Tidy ws = rw w at (tidy_of d.desks t) in
    let a : answer s _ ≡ committed n = ap (λ (o : Outcome). o.answer) e in
    rw (a, w)
    (record {
      like = λ u p. rw (look_publish k n ws es, made_find k n [] ws tidy.sound)
          (like_append u (look k es) l (stamp (Some n) (find k ws)) (i.like u (b u p)));
      rising = rising_stamp s.hall.counter n l (find k ws) (omega arith) i.rising;
    })
keeps {k} {s} {l} d i (sweeps {a = a} {c} {g} h f w) b e y =
    let es = s.hall.entries in
    same (gain_none k s _ _ e (swept_none w) refl)
    (record {
      like = λ u p. like_trans u (look k (trim_all g es)) (look k es) l
          (swept_like d.hall g u (kept_spared s c g f u p) k) (i.like u (b u p));
      rising = i.rising;
    })
keeps {k} {s} {l} d i (restores {x} r o g p a) b e y =
    let cs = r.commits in
    rw (gain_replay k s x _ e)
    (record {
      like = λ u q. rw (look_commits k s.hall cs (p y)) (like_append u _ l (stamps k cs) (i.like u (b u q)));
      rising = rising_commits k s.hall l cs g i.rising;
    })

later : {k : Bytes} {s : Store} {l : Chain} → Sound s → Inv k s l → (cs : List Call) → all_in_bytes cs ≡ true
    → Inv k (run s cs) (l ++ gains k s cs)
unfolding run gains all_in_bytes
later d i [] b = same refl i
later {k} {s} {l} d i (x ∷ cs) b =
    let m = comes s x in
    rw (← append_assoc l (gain k s x) (gains k (next s x) cs))
    (later {s = next s x} {l = l ++ gain k s x} (sound_head s x cs b d) (keeps d i m (kept_back d m) refl (bytes_head x cs b)) cs (bytes_tail x cs b))

first : {s : Store} → Sound s → (k : Bytes) → Inv k s (look k s.hall.entries)
first d k = record { like = λ t p. like_refl t _; rising = d.hall.rising k }

pub inv_run : (s : Store) → Sound s → (k : Bytes) (cs : List Call) → all_in_bytes cs ≡ true
    → Inv k (run s cs) (history k s cs)
unfolding history
inv_run s d k cs b = later d (first d k) cs b

-- ---- what exactly is held

-- nothing swept and nothing gained
idle : {a : Chain} (c x : ℕ) (l g : Chain) → x ≡ 0 → g ≡ [] → a ≡ trim (goes c []) l
    → a ≡ trim (goes (max c x) []) (l ++ g)
idle c x l g z n e =
    let m : max c 0 ≡ c = omega arith in
    rw (z, m, n, append-nil l) e

-- key k holds its history l swept at c
record Trimmed (k : Bytes) (s : Store) (c : ℕ) (l : Chain) : Type 0 where
  inv : Inv k s l
  chain : look k s.hall.entries ≡ trim (goes c []) l
  cut : c ≤ s.hall.floor

trimmed : {k : Bytes} {s : Store} {c : ℕ} {l : Chain} {x : Call} {o : Outcome} → Sound s → Trimmed k s c l
    → Comes s x o → not (is_thin x) ≡ true → decide s x ≡ o → in_bytes x ≡ true
    → look k (apply s o.effect).hall.entries ≡ trim (goes (max c (swept_cutoff o.answer)) []) (l ++ gain k s x)
unfolding apply gain commit_number swept_cutoff is_thin replayed_by in_bytes
trimmed {k} {s} {c} {l} d i (idles a q z) p e y =
    idle c _ l _ q.1 (gain_none k s _ _ e q.0 refl) i.chain
trimmed {c = c} {l} d i (begins h f) p e y = idle c 0 l [] refl refl i.chain
trimmed {k} {s} {c} {l} d i (notes g m w) p e y = idle c 0 l _ refl (gain_none k s _ _ e refl refl) i.chain
trimmed {k} {s} {c} {l} d i (ends a w q z) p e y =
    idle c _ l _ q.1 (gain_none k s _ _ e q.0 refl) i.chain
trimmed {k} {s} {c} {l} d i (commits {t} {ws = ws} w _ _ _) p e y =
    let n = suc s.hall.counter in
    let m : max c 0 ≡ c = omega arith in
    let tidy : Tidy ws = rw w at (tidy_of d.desks t) in
    let a : answer s _ ≡ committed n = ap (λ (o : Outcome). o.answer) e in
    rw (m, a, w, look_publish k n ws s.hall.entries, i.chain, made_find k n [] ws tidy.sound)
    (trim_stamp c n l (find k ws) (omega (arith, i.cut, d.hall.floor)))
trimmed {k} {s} {c} {l} d i (sweeps {c = x} _ f below) p e y =
    rw (append-nil l, look_trim_all k (goes x []) [] s.hall.entries d.hall.ascending, i.chain)
    (trim_trim c x 0 _ l i.inv.rising)
trimmed d i (sweeps _ f (between ts)) p e y = true_false (sym p)
trimmed {k} {s} {c} {l} d i (restores {x} r o g q a) p e y =
    let cs = r.commits in
    let m : max c 0 ≡ c = omega arith in
    rw (gain_replay k s x _ e, (stopped_tells a).1, m, look_commits k s.hall cs (q y), i.chain)
    (trim_commits k c s.hall l cs g (omega (arith, i.cut, d.hall.floor)))

trims : {k : Bytes} {s : Store} {c : ℕ} {l : Chain} → Sound s → Trimmed k s c l → (cs : List Call)
    → all_in_bytes cs ≡ true → never_thins cs ≡ true
    → look k (run s cs).hall.entries ≡ trim (goes (max c (top_cutoff s cs)) []) (l ++ gains k s cs)
unfolding run top_cutoff gains all_in_bytes never_thins
trims {c = c} {l} d i [] b p = idle c 0 l [] refl refl i.chain
trims {k} {s} {c} {l} d i (x ∷ cs) b p =
    let m = comes s x in
    let n = swept_cutoff (answer s x) in
    let z = top_cutoff (next s x) cs in
    let a : max (max c n) z ≡ max c (max n z) = omega arith in
    let j : Trimmed k (next s x) (max c n) (l ++ gain k s x) =
    record {
      inv = keeps d i.inv m (kept_back d m) refl (bytes_head x cs b);
      chain = trimmed d i m (and_left (not (is_thin x)) (never_thins cs) p) refl (bytes_head x cs b);
      cut = omega (arith, i.cut, floor_next s x);
    } in
    rw (← a, ← append_assoc l (gain k s x) (gains k (next s x) cs))
    (trims {s = next s x} {c = max c n} {l = l ++ gain k s x} (sound_head s x cs b d) j cs (bytes_tail x cs b)
    (and_right (not (is_thin x)) (never_thins cs) p))

pub trim_run : (s : Store) → Sound s → (k : Bytes) (cs : List Call) → all_in_bytes cs ≡ true → never_thins cs ≡ true
    → look k (run s cs).hall.entries ≡ trim (goes (top_cutoff s cs) []) (history k s cs)
unfolding history
trim_run s d k cs b p =
    let z : max 0 (top_cutoff s cs) ≡ top_cutoff s cs = omega arith in
    let i : Trimmed k s 0 (look k s.hall.entries) =
    record { inv = first d k; chain = sym (trim_idle 0 0 _ _ (le_refl 0) (d.hall.rising k)); cut = omega arith } in
    rw z at (trims d i cs b p)
