-- Which transactions are open: those that a begin gave and that nothing since has ended.
use Prim.Native.Nat.{ℕ, suc}
use mathlib.Core.Path.{◌≡◌, refl, sym, ap, ◌∙◌}
use mathlib.Core.Bool.{Bool, true, false, not, ◌&&◌, ◌||◌}
use mathlib.Core.List.{List, [], ◌∷◌}
use lib.Dec.{eqb}
use borrow.Author.Tests.{eqb-true, eqb-false}
use Rattle.model.specs.Bytes.{Bytes}
use Rattle.model.specs.State.{Payload, deletion, content, Store, is_some, put_write, writes_of, redesk, vacated}
use Rattle.model.specs.Calls.{Call, Answer, done, refusal, Outcome, apply, next}
use Rattle.model.specs.Runs.{run}
use Rattle.model.specs.History.{gives, ends_by, ends_call, still_open}
use Rattle.model.proofs.Cases.{by_bool, by_option, and_true, and_false}
use Rattle.model_laws.proofs.Desks.{vacated_keeps, rewriting_keeps, seat_there, writes_seat, writes_other, writes_vacated, writes_rewriting}
use Rattle.model_laws.proofs.Effects.{writing, below, between, Comes, idles, begins, notes, ends, commits, sweeps, restores, stopped_tells, comes}

abbrev is_open : ℕ → Store → Bool
is_open t s = is_some (writes_of t s.desks)

-- the desk of start u is vacated
vacates : (t u : ℕ) (s : Store) {o : Bool} → o ≡ true → is_some (writes_of t (redesk u vacated s.desks)) ≡ (is_open t s && not (o && eqb t u))
vacates t u s e =
    by_bool (eqb t u)
    (λ p. rw (e, p, ← eqb-true t u p, writes_vacated t s.desks) (and_false (is_open t s)))
    (λ p. rw (e, p, writes_other u _ vacated_keeps t s.desks (λ q. eqb-false t u p (sym q))) (and_true (is_open t s)))

-- a write ends nothing
write_ends : (k : Bytes) (p : Payload) (a : Answer) → ends_by (writing k p) a ≡ false
unfolding ends_by
write_ends k deletion a = refl
write_ends k (content v) a = refl

step : {s : Store} {c : Call} {o : Outcome} (t : ℕ) → Comes s c o
    → is_open t (apply s o.effect) ≡ (gives t o.answer || (is_open t s && not (ends_call t c o.answer)))
unfolding apply gives ends_call ends_by refusal
step {s} t (idles a i q) = rw (i.3 t, q.0 t) (and_true (is_open t s))
step {s} t (begins h f) =
    let u = suc s.hall.counter in
    by_bool (eqb t u)
    (λ p. rw p (rw (← eqb-true t u p) (seat_there t s.desks f)))
    (λ p. rw (p, writes_seat t u s.desks (λ q. eqb-false t u p (sym q))) (and_true (is_open t s)))
step {s} t (notes {t = u} {k} {p} g m w) =
    by_bool (eqb t u)
    (λ q. rw (write_ends k p done, ← eqb-true t u q, writes_rewriting t (put_write k p) s.desks) (by_option (writes_of t s.desks) (λ e. rw e) (λ ws e. rw e)))
    (λ q. rw (write_ends k p done, writes_other u _ (rewriting_keeps (put_write k p)) t s.desks (λ e. eqb-false t u q (sym e))) (and_true (is_open t s)))
step {s} t (ends {t = u} a w i e) = rw (i.3 t) (vacates t u s e.0)
step {s} t (commits {t = u} w h k v) = vacates t u s refl
step {s} t (sweeps h f below) = and_true (is_open t s)
step {s} t (sweeps h f (between ts)) = and_true (is_open t s)
step {s} t (restores r o g p a) = rw ((stopped_tells a).2 t) (and_true (is_open t s))

pub still_open_lem : (t : ℕ) (s : Store) (cs : List Call) → is_open t (run s cs) ≡ still_open t (is_open t s) s cs
unfolding run still_open
still_open_lem t s [] = refl
still_open_lem t s (c ∷ cs) = still_open_lem t (next s c) cs ∙ ap (λ (b : Bool). still_open t b (next s c) cs) (step t (comes s c))
