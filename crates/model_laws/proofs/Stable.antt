-- What a transaction is told up to its first commit does not depend on what others do.
use Prim.Native.Nat.{ℕ, suc, ◌≤◌}
use native.Mathlib.Omega.{arith}
use mathlib.Core.Path.{◌≡◌, refl, sym, ap, ◌∙◌}
use mathlib.Core.Logic.{inl}
use mathlib.Core.Bool.{true, false}
use mathlib.Core.List.{List, [], ◌∷◌}
use Rattle.std.specs.Prelude.{Option, None, Some}
use lib.Dec.{eqb}
use borrow.Author.Tests.{eqb-true, eqb-false}
use Rattle.model.specs.Bytes.{Bytes}
use Rattle.model.specs.State.{Hall, Writes, Store, is_some, look, visible, value_of, put_write, writes_of}
use Rattle.model.specs.Calls.{Act, read, put, delete, commit_to, abort, Call, begin, on, ask, sweep, thin, replay, began, Outcome, check, act, decide, apply, answer, next}
use Rattle.model.specs.History.{in_bytes, all_in_bytes, responses_to, is_under, is_commit, is_commit_under, own, up_to_commit}
use Rattle.model.proofs.Cases.{by_bool, true_false, zero_one, both}
use Rattle.model_laws.proofs.Desks.{Seated, seated_redesk, vacated_keeps, rewriting_keeps, writes_seat, writes_other, writes_vacated, writes_rewriting, vacant_none}
use Rattle.model_laws.proofs.Effects.{checked, Comes, idles, begins, notes, ends, commits, sweeps, restores, comes, counter_commits}
use Rattle.model_laws.proofs.Sound.{Sound, sound_next, sound_head, bytes_tail}
use Rattle.model_laws.proofs.AsOf.{shows_same}

-- ---- what transaction t can tell of a store

record Same (t : ℕ) (s s' : Store) : Type 0 where
  writes : writes_of t s.desks ≡ writes_of t s'.desks
  sight : Seated t s.desks → (k : Bytes) → value_of (visible t (look k s.hall.entries)) ≡ value_of (visible t (look k s'.hall.entries))
  begun : t ≤ s.hall.counter

-- ---- the calls of others

others : {t : ℕ} {s s' : Store} {c : Call} {o : Outcome} → Sound s → Same t s s' → Comes s c o → is_under t c ≡ false
    → Same t (apply s o.effect) s'
unfolding apply is_under
others d m (idles a i r) n = m
others {t} {s} d m (begins h f) n =
    let e = writes_seat t (suc s.hall.counter) s.desks (omega (arith, m.begun)) in
    record { writes = e ∙ m.writes; sight = λ o. m.sight (rw e at o); begun = omega (arith, m.begun) }
others {t} {s} d m (notes {t = u} {k} {p} g x w) n =
    let e = writes_other u _ (rewriting_keeps (put_write k p)) t s.desks (λ e. eqb-false t u n (sym e)) in
    record { writes = e ∙ m.writes; sight = λ o. m.sight (rw e at o); begun = m.begun }
others {t} {s} d m (ends {t = u} a w i r) n =
    let e = writes_other u _ vacated_keeps t s.desks (λ e. eqb-false t u n (sym e)) in
    record { writes = e ∙ m.writes; sight = λ o. m.sight (rw e at o); begun = m.begun }
others {t} {s} d m (commits {t = u} {j} {ws} w h x v) n =
    let e = writes_other u _ vacated_keeps t s.desks (λ e. eqb-false t u n (sym e)) in
    record {
      writes = e ∙ m.writes;
      sight = λ o k. shows_same {s = s} d (commits {j = j} {ws = ws} w h x v) t m.begun (inl o) k ∙ m.sight (rw e at o) k;
      begun = omega (arith, m.begun);
    }
others {t} {s} d m (sweeps {g = g} h f w) n =
    record {
      writes = m.writes;
      sight = λ o k. shows_same {s = s} d (sweeps {g = g} h f w) t m.begun (inl o) k ∙ m.sight o k;
      begun = m.begun;
    }
others {t} {s} d m (restores r e g p a) n =
    record {
      writes = m.writes;
      sight = λ o. true_false (sym (rw (vacant_none t s.desks e) at o));
      begun = omega (arith, m.begun, counter_commits s.hall r.commits g);
    }

-- ---- its own calls, commits apart

mine : {t : ℕ} {s s' r : Store} {a : Act} {o : Outcome} → Same t s s' → Comes r (on t a) o → is_commit a ≡ false
    → Same t (apply s o.effect) (apply s' o.effect)
unfolding apply is_commit
mine m (idles a i r) n = m
mine {t} {s} {s'} m (notes {k = k} {p} g x w) n =
    record {
      writes = rw (writes_rewriting t _ s.desks, writes_rewriting t _ s'.desks, m.writes);
      sight = λ o. m.sight (seated_redesk t _ (rewriting_keeps (put_write k p)) t s.desks o);
      begun = m.begun;
    }
mine {t} {s} {s'} m (ends a w i r) n =
    record {
      writes = rw (writes_vacated t s.desks, writes_vacated t s'.desks);
      sight = λ o. true_false (sym (rw (writes_vacated t s.desks) at o));
      begun = m.begun;
    }
mine m (commits w h x v) n = true_false n
mine m (sweeps _ _ x) n = elim x [ ]

act_same : (t : ℕ) (h h' : Hall) (a : Act) (o : Option Writes) → is_commit a ≡ false
    → (is_some o ≡ true → (k : Bytes) → value_of (visible t (look k h.entries)) ≡ value_of (visible t (look k h'.entries))) → act h t a o ≡ act h' t a o
unfolding act is_commit check
act_same t h h' (read k) None n f = refl
act_same t h h' (read k) (Some ws) n f = rw (f refl k)
act_same t h h' (put k v) o n f = refl
act_same t h h' (delete k) o n f = refl
act_same t h h' (commit_to j) o n f = true_false n
act_same t h h' abort o n f = refl

same : {t : ℕ} {s s' : Store} → Same t s s' → (a : Act) → is_commit a ≡ false → decide s (on t a) ≡ decide s' (on t a)
unfolding decide
same {t} {s} {s'} m a n = act_same t s.hall s'.hall a _ n m.sight ∙ ap (act s'.hall t a) m.writes

-- ---- runs

-- the calls of others can be left out
alone : {t : ℕ} {s s' : Store} → Sound s → Same t s s' → (cs : List Call) → all_in_bytes cs ≡ true
    → responses_to (is_under t) s (up_to_commit t cs) ≡ responses_to (is_under t) s' (up_to_commit t (own t cs))
unfolding responses_to own up_to_commit is_under is_commit_under all_in_bytes
alone d m [] b = refl
alone {t} {s} d m (begin ∷ cs) b =
    alone {s = next s begin} (sound_head s begin cs b d) (others d m (comes s begin) refl) cs (bytes_tail begin cs b)
alone {t} {s} {s'} d m (on u a ∷ cs) b =
    let d₁ = sound_head s (on u a) cs b d in
    let b₁ = bytes_tail (on u a) cs b in
    by_bool (eqb t u)
    (λ p. by_bool (is_commit a)
    (λ q. rw (p, p, q))
    (λ q.
    let e : decide s (on u a) ≡ decide s' (on u a) = rw (← eqb-true t u p) (same m a q) in
    let o : Comes s' (on t a) (decide s' (on u a)) = rw (eqb-true t u p) (comes s' (on u a)) in
    rw (p, p, q, p) (both (ap (λ (x : Outcome). (x.answer, x.bytes)) e) (alone {s = next s (on u a)} {s' = next s' (on u a)} d₁ (rw e (mine m o q)) cs b₁))))
    (λ p. rw (p, p) (alone {s = next s (on u a)} d₁ (others d m (comes s (on u a)) p) cs b₁))
alone {t} {s} d m (ask q ∷ cs) b =
    alone {s = next s (ask q)} (sound_head s (ask q) cs b d) (others d m (comes s (ask q)) refl) cs
    (bytes_tail (ask q) cs b)
alone {t} {s} d m (sweep l ∷ cs) b =
    alone {s = next s (sweep l)} (sound_head s (sweep l) cs b d) (others d m (comes s (sweep l)) refl) cs
    (bytes_tail (sweep l) cs b)
alone {t} {s} d m (thin l ∷ cs) b =
    alone {s = next s (thin l)} (sound_head s (thin l) cs b d) (others d m (comes s (thin l)) refl) cs
    (bytes_tail (thin l) cs b)
alone {t} {s} d m (replay x ∷ cs) b =
    alone {s = next s (replay x)} (sound_head s (replay x) cs b d) (others d m (comes s (replay x)) refl) cs
    (bytes_tail (replay x) cs b)

begun_at : (s : Store) (t d : ℕ) → answer s begin ≡ began t d → t ≤ (next s begin).hall.counter
unfolding decide apply
begun_at s t d e =
    checked (λ o. o.answer ≡ began t d → t ≤ (apply s o.effect).hall.counter)
    (λ n q. zero_one (cc q)) _ _ (λ a q. let r : suc s.hall.counter ≡ t = cc in omega arith) e

-- the calls under a start before its first commit
own_up_to : (t : ℕ) (cs : List Call) → up_to_commit t (own t cs) ≡ own t (up_to_commit t cs)
unfolding own up_to_commit is_under is_commit_under
own_up_to t [] = refl
own_up_to t (begin ∷ cs) = own_up_to t cs
own_up_to t (on u a ∷ cs) =
    by_bool (eqb t u)
    (λ p. by_bool (is_commit a) (λ q. rw (p, p, q)) (λ q. rw (p, p, q, p) (both refl (own_up_to t cs))))
    (λ p. rw (p, p) (own_up_to t cs))
own_up_to t (ask q ∷ cs) = own_up_to t cs
own_up_to t (sweep l ∷ cs) = own_up_to t cs
own_up_to t (thin l ∷ cs) = own_up_to t cs
own_up_to t (replay x ∷ cs) = own_up_to t cs

pub snapshot_stable : (s : Store) → Sound s → (t d : ℕ) → answer s begin ≡ began t d
    → (xs ys : List Call) → all_in_bytes xs ≡ true → all_in_bytes ys ≡ true
    → own t (up_to_commit t xs) ≡ own t (up_to_commit t ys)
    → responses_to (is_under t) (next s begin) (up_to_commit t xs)
    ≡ responses_to (is_under t) (next s begin) (up_to_commit t ys)
unfolding in_bytes
snapshot_stable s g t d b xs ys p q e =
    let start : Same t (next s begin) (next s begin) =
    record { writes = refl; sight = λ o k. refl; begun = begun_at s t d b } in
    let f = sound_next s begin refl g in
    alone f start xs p
    ∙ ap (responses_to (is_under t) (next s begin)) (own_up_to t xs ∙ e ∙ sym (own_up_to t ys))
    ∙ sym (alone f start ys q)
