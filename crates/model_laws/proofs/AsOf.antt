-- The map at a number: which numbers can still be asked for, what they show stays, and the floor of a run.
use Prim.Native.Nat.{ℕ, suc, ◌≤◌, ◌<◌, max}
use native.Mathlib.Nat.{le_refl}
use native.Mathlib.Omega.{arith}
use mathlib.Core.Path.{◌≡◌, refl, sym, ap, ◌∙◌}
use mathlib.Core.Logic.{◌⊎◌, inl, inr, ⊎_elim}
use mathlib.Core.Bool.{true}
use mathlib.Core.List.{List, [], ◌∷◌}
use Rattle.model.specs.Bytes.{Bytes}
use Rattle.model.specs.State.{Writes, Entry, Hall, Store, look, visible, value_of, publish}
use Rattle.model.specs.Sweeps.{Rule}
use Rattle.model.specs.Journal.{Commit, with_commit, with_commits}
use Rattle.model.specs.Calls.{Call, begin, on, ask, sweep, thin, replay, trims, Outcome, apply, next}
use Rattle.model.specs.Runs.{run}
use Rattle.model.specs.History.{all_in_bytes, top_cutoff, thinned_to, top_thinned, is_thin, never_thins}
use Rattle.model.proofs.Cases.{true_false}
use Rattle.model_laws.proofs.Chains.{visible_append}
use Rattle.model_laws.proofs.Trim.{Spares}
use Rattle.model_laws.proofs.Entries.{look_publish, visible_made}
use Rattle.model_laws.proofs.Desks.{Seated}
use Rattle.model_laws.proofs.Replay.{Rises}
use Rattle.model_laws.proofs.Effects.{Comes, idles, begins, notes, ends, commits, sweeps, restores, comes, counter_up, floor_up, floor_next, seated_back}
use Rattle.model_laws.proofs.Sound.{Sound, swept_like, sound_head, bytes_tail}

-- ---- what can still be asked for

-- an open start, or a number from the floor on
abbrev pub Kept : Store → ℕ → Type 0
Kept s n = Seated n s.desks ⊎ (s.hall.floor ≤ n)

pub kept_back : {s : Store} {c : Call} {o : Outcome} → Sound s → Comes s c o
    → (n : ℕ) → Kept (apply s o.effect) n → Kept s n
kept_back d m n (inl o) = seated_back m n o (λ w. inl w) (λ e. inr (omega (arith, d.hall.floor)))
kept_back d m n (inr h) = inr (omega (arith, floor_up m))

-- who is kept after a sweep is spared by it
pub kept_spared : (s : Store) (c : ℕ) (g : Rule) → ((t : ℕ) → Seated t s.desks ⊎ (c ≤ t) → Spares g t)
    → (n : ℕ) → Kept (apply s (trims c g)) n → Spares g n
unfolding apply
kept_spared s c g f n p = f n (⊎_elim (λ o. inl o) (λ (h : max s.hall.floor c ≤ n). inr (omega arith)) p)

-- a number that is counted shows the same after later commits
shows_publish : (n m : ℕ) (k : Bytes) (ws : Writes) (es : List Entry) → n < m
    → visible n (look k (publish m ws es)) ≡ visible n (look k es)
shows_publish n m k ws es h =
    rw (look_publish k m ws es, visible_append n (look k es), visible_made n k m ws h)

shows_commits : (n : ℕ) (k : Bytes) (h : Hall) (cs : List Commit) → Rises h cs → n ≤ h.counter
    → visible n (look k (with_commits h cs).entries) ≡ visible n (look k h.entries)
unfolding with_commits
shows_commits n k h [] r l = refl
shows_commits n k h (c ∷ cs) r l =
    shows_commits n k (with_commit h c) cs r.2 (omega (arith, r.0.0))
    ∙ shows_publish n c.number k c.writes h.entries (omega (arith, r.0.0))

-- and after any call that keeps it
pub shows_same : {s : Store} {c : Call} {o : Outcome} → Sound s → Comes s c o
    → (n : ℕ) → n ≤ s.hall.counter → Kept (apply s o.effect) n → (k : Bytes)
    → value_of (visible n (look k (apply s o.effect).hall.entries))
    ≡ value_of (visible n (look k s.hall.entries))
unfolding apply
shows_same d (idles a i r) n h p k = refl
shows_same d (begins f e) n h p k = refl
shows_same d (notes g m w) n h p k = refl
shows_same d (ends a w i r) n h p k = refl
shows_same {s} d (commits {ws = ws} w f _ _) n h p k =
    ap value_of (shows_publish n (suc s.hall.counter) k ws s.hall.entries (omega arith))
shows_same {s} d (sweeps {c = c} {g} h f _) n l p k = (swept_like d.hall g n (kept_spared s c g f n p) k).0
shows_same {s} d (restores r o g _ a) n h p k = ap value_of (shows_commits n k s.hall r.commits g h)

-- ---- a run

pub counter_run : (s : Store) (cs : List Call) → s.hall.counter ≤ (run s cs).hall.counter
unfolding run
counter_run s [] = le_refl _
counter_run s (c ∷ cs) = omega (arith, counter_run (next s c) cs, counter_up (comes s c))

larger : (a A b B f : ℕ) → max A (max B (max f (max a b))) ≡ max (max a A) (max (max b B) f)
larger a A b B f = ap (max A) (inner a b B f) ∙ outer a A (max (max b B) f)
  where
    inner : (a b B f : ℕ) → max B (max f (max a b)) ≡ max a (max (max b B) f)
    inner a b B f = omega arith

    outer : (a A y : ℕ) → max A (max a y) ≡ max (max a A) y
    outer a A y = omega arith

pub floor_run : (s : Store) (cs : List Call)
    → (run s cs).hall.floor ≡ max (top_cutoff s cs) (max (top_thinned s cs) s.hall.floor)
unfolding run top_cutoff top_thinned
floor_run s [] = omega arith
floor_run s (c ∷ cs) =
    let z = next s c in
    floor_run z cs
    ∙ ap (λ f. max (top_cutoff z cs) (max (top_thinned z cs) f)) (floor_next s c)
    ∙ larger _ _ _ _ _

-- a run without sweeps between readers
pub thins_none : (s : Store) (cs : List Call) → never_thins cs ≡ true → top_thinned s cs ≡ 0
unfolding top_thinned never_thins thinned_to is_thin
thins_none s [] p = refl
thins_none s (begin ∷ cs) p = omega (arith, thins_none (next s begin) cs p)
thins_none s (on t a ∷ cs) p = omega (arith, thins_none (next s (on t a)) cs p)
thins_none s (ask q ∷ cs) p = omega (arith, thins_none (next s (ask q)) cs p)
thins_none s (sweep l ∷ cs) p = omega (arith, thins_none (next s (sweep l)) cs p)
thins_none s (thin l ∷ cs) p = true_false (sym p)
thins_none s (replay x ∷ cs) p = omega (arith, thins_none (next s (replay x)) cs p)

pub shows_run : (s : Store) → Sound s → (cs : List Call) → all_in_bytes cs ≡ true
    → (n : ℕ) → n ≤ s.hall.counter → (run s cs).hall.floor ≤ n → (k : Bytes)
    → value_of (visible n (look k (run s cs).hall.entries)) ≡ value_of (visible n (look k s.hall.entries))
unfolding run all_in_bytes
shows_run s d [] b n h l k = refl
shows_run s d (c ∷ cs) b n h l k =
    shows_run (next s c) (sound_head s c cs b d) cs (bytes_tail c cs b)
    n (omega (arith, counter_up (comes s c))) l k
    ∙ shows_same d (comes s c) n h (inr (omega (arith, floor_run (next s c) cs))) k
