-- A transaction's own write of a key is the last that the run wrote under its start.
use Prim.Native.Nat.{ℕ, suc, ◌≤◌}
use native.Mathlib.Omega.{arith}
use mathlib.Core.Path.{◌≡◌, refl, sym, ap, ◌∙◌}
use mathlib.Core.Bool.{true, cond}
use mathlib.Core.List.{List, [], ◌∷◌}
use Rattle.std.specs.Prelude.{None}
use lib.Dec.{eqb}
use borrow.Author.Tests.{eqb-true, eqb-false, eq-eqb}
use Rattle.model.specs.Bytes.{Bytes, order, is_same}
use Rattle.model.specs.State.{Payload, deletion, content, Writes, Desk, free, taken, Store, or_else, given, or_empty, find, put_write, writes_of, seat, redesk, vacated, rewriting}
use Rattle.model.specs.Sweeps.{Rule}
use Rattle.model.specs.Calls.{Answer, Call, begin, on, ask, sweep, thin, replay, refusal, Outcome, apply, answer, next}
use Rattle.model.specs.Runs.{run}
use Rattle.model.specs.History.{all_in_bytes, written, written_by, last_write}
use Rattle.model.proofs.Cases.{by_bool, by_option, true_false, none_some}
use Rattle.model_laws.proofs.Chains.{or_else_assoc}
use Rattle.model_laws.proofs.Entries.{find_put}
use Rattle.model_laws.proofs.Desks.{Seated, vacated_keeps, rewriting_keeps, unseated, writes_seat, writes_other, writes_vacated, writes_rewriting}
use Rattle.model_laws.proofs.Effects.{Sweeping, writing, wants, below, between, Comes, idles, begins, notes, ends, commits, sweeps, restores, comes, counter_up, seated_back}
use Rattle.model_laws.proofs.Sound.{Sound, begun_of, sound_head, bytes_tail}

-- ---- what a call writes

written_none : (t : ℕ) (k : Bytes) (s : Store) (c : Call) → cond (eqb (refusal (answer s c)) 0) (wants k c) None ≡ None → written_by t k s c ≡ None
unfolding written_by
written_none t k s begin e = refl
written_none t k s (on u a) e = by_bool (eqb t u) (λ p. rw p e) (λ p. rw p)
written_none t k s (ask q) e = refl
written_none t k s (sweep l) e = refl
written_none t k s (thin l) e = refl
written_none t k s (replay x) e = refl

written_given : (k j : Bytes) (p : Payload) → written k (writing j p) ≡ given (is_same (order k j)) p
unfolding written
written_given k j deletion = refl
written_given k j (content v) = refl

-- ---- one call

-- the writes under start t
abbrev own : ℕ → Store → Writes
own t s = or_empty (writes_of t s.desks)

seated_run : (t : ℕ) (s : Store) (cs : List Call) → t ≤ s.hall.counter → Seated t (run s cs).desks → Seated t s.desks
unfolding run
seated_run t s [] h o = o
seated_run t s (c ∷ cs) h o =
    let m = comes s c in
    seated_back m t (seated_run t (next s c) cs (omega (arith, counter_up m)) o) (λ w. w) (λ e. absurd (omega arith))

-- a desk just taken has no writes
seat_empty : (t : ℕ) (ds : List Desk) → writes_of t ds ≡ None → or_empty (writes_of t (seat t ds)) ≡ []
unfolding writes_of seat
seat_empty t [] e = refl
seat_empty t (free ∷ ds) e = rw (eq-eqb t t refl)
seat_empty t (taken x ∷ ds) e =
    by_bool (eqb t x.start) (λ p. none_some (sym (rw p at e))) (λ p. rw p (seat_empty t ds (rw p at e)))

own_rewriting : (t : ℕ) (g : Writes → Writes) (ds : List Desk) → Seated t ds → or_empty (writes_of t (redesk t (rewriting g) ds)) ≡ g (or_empty (writes_of t ds))
own_rewriting t g ds o = rw (writes_rewriting t g ds) (by_option (writes_of t ds) (λ p. true_false (sym (rw p at o))) (λ ws p. rw p))

-- a transaction that is still open was not closed
still_open_lem : (t u : ℕ) (s : Store) → Sound s → Seated u s.desks → (t ≤ s.hall.counter → Seated t (redesk u vacated s.desks)) → u ≡ t → ⊥
still_open_lem t u s d w back e =
    let o : Seated t s.desks = rw e at w in
    true_false (sym (rw (e, writes_vacated t s.desks) at (back (begun_of d.desks t o).1)))

-- a sweep writes nothing
sweeping_writes : {s : Store} {x : Call} {a : Answer} {c : ℕ} {g : Rule} (t : ℕ) (k : Bytes) → Sweeping s x a c g
    → written_by t k s x ≡ None
unfolding written_by
sweeping_writes t k below = refl
sweeping_writes t k (between ts) = refl

step : {c : Call} {o : Outcome} (t : ℕ) (k : Bytes) (s : Store) → Sound s → Comes s c o → answer s c ≡ o.answer
    → (t ≤ s.hall.counter → Seated t (apply s o.effect).desks)
    → find k (own t (apply s o.effect)) ≡ or_else (written_by t k s c) (find k (own t s))
unfolding apply written_by refusal written
step {c} t k s d (idles a i r) e l = rw (written_none t k s c (rw e (i.2 k)))
step t k s d (begins h f) e l =
    let u = suc s.hall.counter in
    by_bool (eqb u t)
    (λ p.
    let q : u ≡ t = eqb-true u t p in
    let n : writes_of t s.desks ≡ None = unseated t s.desks (λ o. omega (arith, (begun_of d.desks t o).1)) in
    rw (q, seat_empty t s.desks n, n))
    (λ p. rw (writes_seat t u s.desks (eqb-false u t p)))
step t k s d (notes {t = u} {k = j} {p} g m w) e l =
    by_bool (eqb t u)
    (λ q.
    let f : t ≡ u = eqb-true t u q in
    let o : Seated t s.desks = rw (← f) at w in
    rw (e, q, ← f, own_rewriting t (put_write j p) s.desks o, find_put k j p, written_given k j p))
    (λ q. rw (q, writes_other u _ (rewriting_keeps (put_write j p)) t s.desks (λ e. eqb-false t u q (sym e))))
step {c} t k s d (ends {t = u} a w i r) e l = rw (written_none t k s c (rw e (i.2 k)), writes_other u _ vacated_keeps t s.desks (still_open_lem t u s d w l))
step {c} t k s d (commits {t = u} w h _ _) e l =
    rw (written_none t k s c (rw e), writes_other u _ vacated_keeps t s.desks (still_open_lem t u s d (rw w) l))
step t k s d (sweeps h f x) e l = rw (sweeping_writes t k x)
step t k s d (restores r o g p a) e l = refl

-- ---- a run

pub own_write : (t : ℕ) (k : Bytes) (s : Store) → Sound s → (cs : List Call) → all_in_bytes cs ≡ true → Seated t (run s cs).desks
    → find k (own t (run s cs)) ≡ or_else (last_write t k s cs) (find k (own t s))
unfolding run last_write all_in_bytes
own_write t k s d [] b o = refl
own_write t k s d (c ∷ cs) b o =
    let m = comes s c in
    let back : t ≤ s.hall.counter → Seated t (next s c).desks = λ h. seated_run t (next s c) cs (omega (arith, counter_up m)) o in
    own_write t k (next s c) (sound_head s c cs b d) cs (bytes_tail c cs b) o
    ∙ ap (or_else (last_write t k (next s c) cs)) (step t k s d m refl back)
    ∙ or_else_assoc (last_write t k (next s c) cs) (written_by t k s c) (find k (own t s))
