-- Runs on memories are the model's runs.
use Prim.Native.Nat.{ℕ, suc, ◌≤◌}
use native.Mathlib.Omega.{arith}
use mathlib.Core.Path.{◌≡◌, refl, sym, ap, ◌∙◌}
use mathlib.Core.Bool.{Bool, true, false}
use mathlib.Core.List.{[], ◌∷◌}
use Rattle.std.specs.Prelude.{Option, None, Some}
use borrow.Author.Tests.{leb-true}
use lib.Dec.{leb}
use lib.ListN.{length}
use Rattle.model.specs.Bytes.{Bytes}
use Rattle.model.specs.State.{Hall, Store}
use Rattle.model.specs.Sound.{sizes_fit, sound}
use Rattle.model.specs.Calls.{read, Question, newest, as_of, counts, dump, Call, begin, on, ask, sweep, thin, replay, Outcome, done, refusal, reply, sweep_at, thin_at, replay_beside, decide, apply, next}
use Rattle.model.specs.Load.{Parsed, got, bad, read_hall}
use Rattle.model.specs.Runs.{Creation, make, load, Created, loaded, created, run}
use Rattle.model.specs.History.{in_bytes, all_in_bytes, is_sweep}
use Rattle.model.proofs.Cases.{by_bool, true_false, none_some, and_left, and_right}
use Rattle.model_laws.proofs.Effects.{checked, read_same}
use Rattle.model_laws.proofs.Sizes.{created_sizes}
use Rattle.model_laws.proofs.Demands.{starts_sound, hall_kept}
use Rattle.hall.specs.Layout as hall
use Rattle.desk.specs.Layout as desk
use Rattle.desk.proofs.Laws.Sound as desks
use Rattle.bridge.specs.Store.{store_in, asks_desks, looks_at_desks, is_sound_for, outcome_on, hall_after, desk_after, Memories, after_call}
use Rattle.bridge.specs.Creations.{are_long, are_long_for, created_on, with_hall, with_desks}
use Rattle.bridge.proofs.Laws.Memories.{asked}
use Rattle.bridge.proofs.Laws.Kept.{hall_stays, desks_stay, desks_sound, put_store, put_sound, call_sound, call_store}
use Rattle.store.specs.Runs.{create_on, call, create, steps_on, calls_of, AllRefused, Hold, CreationHolds, StepsHold, UnsoundRefused, Lent}

pub unsound_refused : UnsoundRefused
unfolding outcome_on hall_after desk_after
unsound_refused h d c e = rw e (refl, refl, by_bool (looks_at_desks c) (λ l. rw l refl) (λ l. rw l refl))

-- ---- what stays

desks_unasked : (h d e : Bytes) (q : Question) → asks_desks q ≡ false → outcome_on h d (ask q) ≡ outcome_on h e (ask q)
unfolding outcome_on is_sound_for looks_at_desks asks_desks decide reply store_in
desks_unasked h d e (newest k) l = refl
desks_unasked h d e (as_of n k) l = refl
desks_unasked h d e counts l = true_false l
desks_unasked h d e (dump room) l = refl

sweeps_stay : (h d : Bytes) (c : Call) → is_sweep c ≡ true → desk_after h d c ≡ d
unfolding store_in is_sweep decide sweep_at thin_at apply
sweeps_stay h d begin e = true_false (sym e)
sweeps_stay h d (on t a) e = true_false (sym e)
sweeps_stay h d (ask q) e = true_false (sym e)
sweeps_stay h d (sweep l) e = desks_stay h d (sweep l) (λ p. refl)
sweeps_stay h d (thin l) e = desks_stay h d (thin l) (λ p. refl)
sweeps_stay h d (replay x) e = true_false (sym e)

replay_desks : (s : Store) (x : Bytes) → (next s (replay x)).desks ≡ s.desks
unfolding decide replay_beside apply
replay_desks s x = checked (λ (o : Outcome). (apply s o.effect).desks ≡ s.desks) (λ n. refl) _ _ (λ a. refl)

pub lent : (h d : Bytes) → Lent h d
unfolding store_in
lent h d =
    record {
      acts = λ t a n. hall_stays h d (on t a) (λ p. hall_kept (store_in h d) t a n);
      reads = λ t k. desks_stay h d (on t (read k)) (λ p. ap (λ (s : Store). s.desks) (read_same (store_in h d) t k));
      sweeps = sweeps_stay h d;
      replays = λ x. desks_stay h d (replay x) (λ p. replay_desks (store_in h d) x);
      asks = λ q. (
        hall_stays h d (ask q) (λ p. ap (λ (s : Store). s.hall) (asked (store_in h d) q)),
        desks_stay h d (ask q) (λ p. ap (λ (s : Store). s.desks) (asked (store_in h d) q)),
      );
      alone = λ q n e. desks_unasked h d e q n;
    }

-- ---- a store put into two memories

put_holds : (m : Memories) (s : Store) → sound s ≡ true → hall.needed s.hall.key_rooms s.hall.version_rooms ≤ length m.hall → desk.needed (length s.desks) ≤ length m.desk
    → Hold (record { hall = hall.put_hall m.hall s.hall; desk = desk.put_desks m.desk s.desks }) s
put_holds m s e a b = record { sound = put_sound m.hall m.desk s e a b; store = put_store m.hall m.desk s e }

-- ---- one call

pub call_holds : (m : Memories) (s : Store) (c : Call) → in_bytes c ≡ true → Hold m s → Hold (after_call m c) (next s c)
call_holds m s c b i =
    record {
      sound = call_sound m.hall m.desk i.sound c b;
      store = call_store m.hall m.desk i.sound c b ∙ ap (λ (x : Store). next x c) i.store;
    }

-- ---- a creation

lengths : (h d : Bytes) (ks vs ds : ℕ) → are_long h d ks vs ds ≡ true → (hall.needed ks vs ≤ length h) × (desk.needed ds ≤ length d)
unfolding are_long
lengths h d ks vs ds e =
    let a : Bool = leb (hall.needed ks vs) (length h) in
    let b : Bool = leb (desk.needed ds) (length d) in
    (leb-true (hall.needed ks vs) (length h) (and_left a b e), leb-true (desk.needed ds) (length d) (and_right a b e))

-- the memories are long enough for the store
created_fits : (h d : Bytes) (o : Creation) (s : Store) → are_long_for h d o ≡ true → created o ≡ (done, Some s)
    → (hall.needed s.hall.key_rooms s.hall.version_rooms ≤ length h) × (desk.needed s.hall.desk_count ≤ length d)
created_fits h d (make ks vs ds) s l e = let k = created_sizes (make ks vs ds) s e in rw (k.0, k.1, k.2) (lengths h d ks vs ds l)
created_fits h d (load x ks vs ds) s l e = let k = created_sizes (load x ks vs ds) s e in rw (k.0, k.1, k.2) (lengths h d ks vs ds l)

pub accepted : (h d : Bytes) (o : Creation) (s : Store) → created_on h d o ≡ (done, Some s) → (are_long_for h d o ≡ true) × (created o ≡ (done, Some s))
unfolding created_on
accepted h d o s e = by_bool (are_long_for h d o) (λ p. (p, rw p at e)) (λ p. none_some (ap (λ (o : Created). o.1) (rw p at e)))

pub creation_holds : CreationHolds
creation_holds m o s b e =
    let a = accepted m.hall m.desk o s e in
    let l = created_fits m.hall m.desk o s a.0 a.1 in
    let g : sound s ≡ true = starts_sound o s b a.1 in
    rw e (put_holds m s g l.0 (rw (desks.all_there s.hall s.desks (desks_sound s g)) l.1))

-- a store is there only where the answer is done
some_loaded : (p : Parsed Hall) (s : Store) → (loaded p).1 ≡ Some s → loaded p ≡ (done, Some s)
unfolding loaded
some_loaded (got h at rest) s e = ap (λ (x : Option Store). (done, x)) e
some_loaded (bad n at) s e = none_some e

some_created : (o : Creation) (s : Store) → (created o).1 ≡ Some s → created o ≡ (done, Some s)
unfolding created
some_created (make ks vs ds) s e = by_bool (sizes_fit ks vs ds) (λ p. rw p (ap (λ (x : Option Store). (done, x)) (rw p at e))) (λ p. none_some (rw p at e))
some_created (load x ks vs ds) s e = by_bool (sizes_fit ks vs ds) (λ p. rw p (some_loaded (read_hall ks vs ds 0 x) s (rw p at e))) (λ p. none_some (rw p at e))

pub some_created_on : (h d : Bytes) (o : Creation) (s : Store) → (created_on h d o).1 ≡ Some s → created o ≡ (done, Some s)
unfolding created_on
some_created_on h d o s e = by_bool (are_long_for h d o) (λ p. some_created o s (rw p at e)) (λ p. none_some (rw p at e))

-- ---- creations that are refused

-- nothing is opened where the answer is a refusal
abbrev NoStore : Created → Type 0
NoStore x = (n : ℕ) → refusal x.0 ≡ suc n → x.1 ≡ None

none_loaded : (p : Parsed Hall) → NoStore (loaded p)
unfolding loaded refusal
none_loaded (got h at rest) n e = absurd (omega arith)
none_loaded (bad k at) n e = refl

none_created : (o : Creation) → NoStore (created o)
unfolding created refusal
none_created (make ks vs ds) n e = by_bool (sizes_fit ks vs ds) (λ p. absurd (omega (arith, rw p at e))) (λ p. rw p)
none_created (load x ks vs ds) n e = by_bool (sizes_fit ks vs ds) (λ p. rw p (none_loaded (read_hall ks vs ds 0 x) n (rw p at e))) (λ p. rw p)

none_created_on : (h d : Bytes) (o : Creation) → NoStore (created_on h d o)
unfolding created_on
none_created_on h d o n e = by_bool (are_long_for h d o) (λ p. rw p (none_created o n (rw p at e))) (λ p. rw p)

pub creation_refused : (m : Memories) (o : Creation) (n : ℕ) → refusal (created_on m.hall m.desk o).0 ≡ suc n → create_on m o ≡ m
creation_refused m o n e =
    ap (λ (x : Option Store). record { hall = with_hall m.hall x; desk = with_desks m.desk x }) (none_created_on m.hall m.desk o n e)

-- ---- steps

pub steps_hold : StepsHold
unfolding steps_on calls_of AllRefused run all_in_bytes
steps_hold m s [] x i = i
steps_hold m s (call c ∷ xs) x i =
    steps_hold (after_call m c) (next s c) xs (record { calls = and_right (in_bytes c) _ x.calls; refused = x.refused })
    (call_holds m s c (and_left (in_bytes c) _ x.calls) i)
steps_hold m s (create o ∷ xs) x i =
    let r = x.refused in
    steps_hold (create_on m o) s xs (record { calls = x.calls; refused = r.1 }) (rw (creation_refused m o r.0.0 r.0.1) i)
