-- What whole runs answer, over bytes: sweeps are not seen, and a transaction's reads are stable.
use Prim.Native.Nat.{ℕ, suc}
use mathlib.Core.Path.{◌≡◌, refl, sym, ap, ◌∙◌}
use mathlib.Core.Bool.{Bool, true, cond}
use mathlib.Core.List.{List, [], ◌∷◌}
use lib.ListN.{length}
use Rattle.model.specs.State.{Store}
use Rattle.model.specs.Calls.{Call, begin, refusal, Outcome, answer, next}
use Rattle.model.specs.Runs.{Creation, make, load, Created, run}
use Rattle.model.specs.History.{in_bytes, all_in_bytes, responses_to, is_sweep, strike, is_named, is_full, until_full, is_under, is_commit_under, own, up_to_commit}
use Rattle.model.proofs.Cases.{by_bool, and_intro, and_left, and_right, both}
use Rattle.model_laws.proofs.Demands.{sweeps_unseen, snapshot_stable}
use Rattle.bridge.specs.Store.{outcome_on, Memories, after_call}
use Rattle.bridge.specs.Creations.{are_long, created_on}
use Rattle.bridge.proofs.Laws.Kept.{call_lengths}
use Rattle.store.specs.Runs.{create_on, Step, call, create, calls_of, AllRefused, Hold}
use Rattle.store.specs.Demands
use Rattle.store.specs.Demands.{present, responses_on, without, until_full_on, before}
use Rattle.store.proofs.Laws.Runs.{call_holds, creation_refused}
use Rattle.store.proofs.Laws.Demands.{answers_hold, model_run, held_first, held_now, step_now}

-- ---- steps get the responses of their calls

responses_hold : (f : Call → Bool) (m : Memories) (s : Store) → Hold m s → (xs : List Step) → all_in_bytes (calls_of xs) ≡ true → AllRefused m xs
    → responses_on f m xs ≡ responses_to f s (calls_of xs)
unfolding responses_on responses_to calls_of all_in_bytes AllRefused
responses_hold f m s i [] b r = refl
responses_hold f m s i (call c ∷ xs) b r =
    let e = answers_hold m s i c in
    let j = call_holds m s c (and_left (in_bytes c) _ b) i in
    let l = responses_hold f (after_call m c) (next s c) j xs (and_right (in_bytes c) _ b) r in
    λ k. cond (f c) (((e k).answer, (e k).bytes) ∷ l k) (l k)
responses_hold f m s i (create o ∷ xs) b r =
    responses_hold f (create_on m o) s (rw (creation_refused m o r.0.0 r.0.1) i) xs b r.1

-- ---- which makes and loads are refused depends on the memories' lengths alone

pub record AsLong (m n : Memories) : Type 0 where
  hall : length m.hall ≡ length n.hall
  desk : length m.desk ≡ length n.desk

created_same : {m n : Memories} → AsLong m n → (o : Creation) → ◌≡◌ {A = Created} (created_on m.hall m.desk o) (created_on n.hall n.desk o)
unfolding created_on are_long
created_same l (make ks vs ds) = rw (l.hall, l.desk)
created_same l (load x ks vs ds) = rw (l.hall, l.desk)

-- each make and load among the steps is refused on memories as long as m
abbrev Refusing : Memories → List Step → Type 0
Refusing m [] = Unit {0}
Refusing m (call c ∷ xs) = Refusing m xs
Refusing m (create o ∷ xs) = ((n : ℕ) × (refusal (created_on m.hall m.desk o).0 ≡ suc n)) × Refusing m xs

module _ (m : Memories) where
  -- the make or load is refused on m₁ too, and leaves it
  refused_there : {m₁ : Memories} → AsLong m₁ m → (o : Creation) (n : ℕ) → refusal (created_on m.hall m.desk o).0 ≡ suc n
      → (refusal (created_on m₁.hall m₁.desk o).0 ≡ suc n) × (create_on m₁ o ≡ m₁)
  refused_there {m₁} l o n e =
      let f : refusal (created_on m₁.hall m₁.desk o).0 ≡ suc n = ap (λ (x : Created). refusal x.0) (created_same l o) ∙ e in
      (f, creation_refused m₁ o n f)

  after_long : (m₁ : Memories) (s : Store) (c : Call) → in_bytes c ≡ true → Hold m₁ s → AsLong m₁ m → AsLong (after_call m₁ c) m
  after_long m₁ s c b i l = let k = call_lengths m₁.hall m₁.desk i.sound c b in record { hall = k.0 ∙ l.hall; desk = k.1 ∙ l.desk }

  refusing : (m₁ : Memories) (s : Store) (xs : List Step) → AsLong m₁ m → Hold m₁ s → all_in_bytes (calls_of xs) ≡ true → AllRefused m₁ xs → Refusing m xs
  unfolding calls_of all_in_bytes AllRefused
  refusing m₁ s [] l i b r = tt
  refusing m₁ s (call c ∷ xs) l i b r =
      let p = and_left (in_bytes c) _ b in
      refusing (after_call m₁ c) (next s c) xs (after_long m₁ s c p i l) (call_holds m₁ s c p i) (and_right (in_bytes c) _ b) r
  refusing m₁ s (create o ∷ xs) l i b r =
      let e = creation_refused m₁ o r.0.0 r.0.1 in
      ((r.0.0, ap (λ (x : Created). refusal x.0) (sym (created_same l o)) ∙ r.0.1), refusing m₁ s xs l i b (rw e at r.1))

  all_refused : (m₁ : Memories) (s : Store) (xs : List Step) → AsLong m₁ m → Hold m₁ s → all_in_bytes (calls_of xs) ≡ true → Refusing m xs → AllRefused m₁ xs
  unfolding calls_of all_in_bytes AllRefused
  all_refused m₁ s [] l i b r = tt
  all_refused m₁ s (call c ∷ xs) l i b r =
      let p = and_left (in_bytes c) _ b in
      all_refused (after_call m₁ c) (next s c) xs (after_long m₁ s c p i l) (call_holds m₁ s c p i) (and_right (in_bytes c) _ b) r
  all_refused m₁ s (create o ∷ xs) l i b r =
      let e = refused_there l o r.0.0 r.0.1 in
      ((r.0.0, e.0), rw e.1 (all_refused m₁ s xs l i b r.1))

  refusing_without : (f : Call → Bool) (xs : List Step) → Refusing m xs → Refusing m (without f xs)
  unfolding without
  refusing_without f [] r = r
  refusing_without f (call c ∷ xs) r = by_bool (f c) (λ p. rw p (refusing_without f xs r)) (λ p. rw p (refusing_without f xs r))
  refusing_without f (create o ∷ xs) r = (r.0, refusing_without f xs r.1)

  refusing_until : (m₁ : Memories) (xs : List Step) → Refusing m xs → Refusing m (until_full_on m₁ xs)
  unfolding until_full_on
  refusing_until m₁ [] r = r
  refusing_until m₁ (call c ∷ xs) r =
      by_bool (is_sweep c)
      (λ p. rw p (refusing_until m₁ xs r))
      (λ p. by_bool (is_full (outcome_on m₁.hall m₁.desk c).answer) (λ q. rw (p, q) tt) (λ q. rw (p, q) (refusing_until (after_call m₁ c) xs r)))
  refusing_until m₁ (create o ∷ xs) r = (r.0, refusing_until (create_on m₁ o) xs r.1)

  -- ---- the calls of what is left of the steps

  calls_until : (m₁ : Memories) (s : Store) (xs : List Step) → AsLong m₁ m → Hold m₁ s → all_in_bytes (calls_of xs) ≡ true → Refusing m xs
      → calls_of (until_full_on m₁ xs) ≡ until_full s (calls_of xs)
  unfolding calls_of until_full_on until_full all_in_bytes
  calls_until m₁ s [] l i b r = refl
  calls_until m₁ s (call c ∷ xs) l i b r =
      let p = and_left (in_bytes c) _ b in
      let q = and_right (in_bytes c) _ b in
      let e = ap (λ (x : Outcome). is_full x.answer) (answers_hold m₁ s i c) in
      by_bool (is_sweep c)
      (λ w. rw w (both refl (calls_until m₁ s xs l i q r)))
      (λ w. by_bool (is_full (answer s c))
      (λ f. rw (w, e, f))
      (λ f. rw (w, e, f) (both refl (calls_until (after_call m₁ c) (next s c) xs (after_long m₁ s c p i l) (call_holds m₁ s c p i) q r))))
  calls_until m₁ s (create o ∷ xs) l i b r = rw (refused_there l o r.0.0 r.0.1).1 (calls_until m₁ s xs l i b r.1)

calls_without : (xs : List Step) → calls_of (without is_sweep xs) ≡ strike (calls_of xs)
unfolding calls_of without strike
calls_without [] = refl
calls_without (call c ∷ xs) = by_bool (is_sweep c) (λ p. rw p (calls_without xs)) (λ p. rw p (both refl (calls_without xs)))
calls_without (create o ∷ xs) = calls_without xs

calls_before : (t : ℕ) (xs : List Step) → calls_of (before (is_commit_under t) xs) ≡ up_to_commit t (calls_of xs)
unfolding calls_of before up_to_commit
calls_before t [] = refl
calls_before t (call c ∷ xs) = by_bool (is_commit_under t c) (λ p. rw p) (λ p. rw p (both refl (calls_before t xs)))
calls_before t (create o ∷ xs) = calls_before t xs

refused_before : (f : Call → Bool) (m : Memories) (xs : List Step) → AllRefused m xs → AllRefused m (before f xs)
unfolding before AllRefused
refused_before f m [] r = r
refused_before f m (call c ∷ xs) r = by_bool (f c) (λ p. rw p tt) (λ p. rw p (refused_before f (after_call m c) xs r))
refused_before f m (create o ∷ xs) r = (r.0, refused_before f (create_on m o) xs r.1)

-- a call of which only some follow
picked : (c : Call) (cs : List Call) (ds : List Call) → all_in_bytes (c ∷ cs) ≡ true → (all_in_bytes cs ≡ true → all_in_bytes ds ≡ true) → all_in_bytes (c ∷ ds) ≡ true
unfolding all_in_bytes
picked c cs ds b f = and_intro (and_left (in_bytes c) (all_in_bytes cs) b) (f (and_right (in_bytes c) (all_in_bytes cs) b))

struck_bytes : (cs : List Call) → all_in_bytes cs ≡ true → all_in_bytes (strike cs) ≡ true
unfolding strike all_in_bytes
struck_bytes [] b = b
struck_bytes (c ∷ cs) b = by_bool (is_sweep c) (λ p. rw p (struck_bytes cs (and_right (in_bytes c) (all_in_bytes cs) b))) (λ p. rw p (picked c cs (strike cs) b (struck_bytes cs)))

until_bytes : (s : Store) (cs : List Call) → all_in_bytes cs ≡ true → all_in_bytes (until_full s cs) ≡ true
unfolding until_full all_in_bytes
until_bytes s [] b = b
until_bytes s (c ∷ cs) b =
    by_bool (is_sweep c)
    (λ p. rw p (picked c cs (until_full s cs) b (until_bytes s cs)))
    (λ p. by_bool (is_full (answer s c)) (λ q. rw (p, q) refl) (λ q. rw (p, q) (picked c cs (until_full (next s c) cs) b (until_bytes (next s c) cs))))

up_to_bytes : (t : ℕ) (cs : List Call) → all_in_bytes cs ≡ true → all_in_bytes (up_to_commit t cs) ≡ true
unfolding up_to_commit all_in_bytes
up_to_bytes t [] b = b
up_to_bytes t (c ∷ cs) b = by_bool (is_commit_under t c) (λ p. rw p refl) (λ p. rw p (picked c cs (up_to_commit t cs) b (up_to_bytes t cs)))

-- ---- the demands

pub bytes_struck : Demands.SweepsUnseen
bytes_struck m o s xs r =
    let m₁ = create_on m o in
    let i = held_first r in
    let l : AsLong m₁ m₁ = record { hall = refl; desk = refl } in
    let q = refusing m₁ m₁ s xs l i r.steps.calls r.steps.refused in
    let ys = until_full_on m₁ xs in
    let e = calls_until m₁ m₁ s xs l i r.steps.calls q in
    let a : all_in_bytes (calls_of ys) ≡ true = rw e (until_bytes s (calls_of xs) r.steps.calls) in
    let b : all_in_bytes (calls_of (without is_sweep ys)) ≡ true = rw (calls_without ys) (struck_bytes (calls_of ys) a) in
    let f = refusing_until m₁ m₁ xs q in
    responses_hold is_named m₁ s i ys a (all_refused m₁ m₁ s ys l i a f)
    ∙ ap (responses_to is_named s) e
    ∙ sweeps_unseen o s (calls_of xs) (model_run r)
    ∙ sym (ap (responses_to is_named s) (calls_without ys ∙ ap strike e))
    ∙ sym (responses_hold is_named m₁ s i (without is_sweep ys) b (all_refused m₁ m₁ s (without is_sweep ys) l i b (refusing_without m₁ is_sweep ys f)))

pub bytes_stable : Demands.SnapshotStable
unfolding in_bytes
bytes_stable m o s zs r t d e xs ys x y w =
    let m₁ = after_call (present m o zs) begin in
    let s₁ = next (run s (calls_of zs)) begin in
    let i = call_holds (present m o zs) (run s (calls_of zs)) begin refl (held_now r) in
    let f = sym (ap (λ (x : Outcome). x.answer) (step_now r begin)) ∙ e in
    let a = calls_before t xs in
    let b = calls_before t ys in
    responses_hold (is_under t) m₁ s₁ i (before (is_commit_under t) xs) (rw a (up_to_bytes t (calls_of xs) x.calls)) (refused_before _ m₁ xs x.refused)
    ∙ ap (responses_to (is_under t) s₁) a
    ∙ snapshot_stable o s (calls_of zs) (model_run r) t d f (calls_of xs) (calls_of ys) x.calls y.calls (ap (own t) (sym a) ∙ w ∙ ap (own t) b)
    ∙ sym (ap (responses_to (is_under t) s₁) b)
    ∙ sym (responses_hold (is_under t) m₁ s₁ i (before (is_commit_under t) ys) (rw b (up_to_bytes t (calls_of ys) y.calls)) (refused_before _ m₁ ys y.refused))
