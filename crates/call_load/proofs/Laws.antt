-- Loading a store: what the check of a dump says of the creation.
use Prim.Native.Nat.{ℕ}
use mathlib.Core.Path.{◌≡◌, refl, sym, ap, ◌∙◌, subst}
use mathlib.Core.Bool.{true, false}
use Rattle.std.specs.Prelude.{Result, Ok, Err, None, Some}
use lib.ListN.{replicate}
use Rattle.model.specs.Bytes.{Bytes}
use Rattle.model.specs.State.{Hall, free, vacant}
use Rattle.model.specs.Sound.{sizes_fit}
use Rattle.model.specs.Calls.{Answer, refused, faulty, done}
use Rattle.model.specs.Load.{Parsed, got, bad, read_hall}
use Rattle.model.specs.Runs.{load, loaded, created}
use Rattle.model.proofs.Cases.{zero_one}
use Rattle.model_laws.proofs.Sizes.{Sized, sized_hall}
use Rattle.dump_fields.specs.Machine.{fault_number}
use Rattle.dump_fields.specs.declared.machine.Fault.{Fault}
use Rattle.dump_check.specs.Paper.{paper_checked}
use Rattle.dump_check.specs.declared.Faulty.{Faulty}
use Rattle.hall.specs.Layout.{put_hall}
use Rattle.desk.specs.Layout as desk
use Rattle.bridge.specs.Creations.{are_long, created_on, CreatedAs}
use Rattle.call_make.proofs.Laws.{has_room, fits, is_long, none_opens, created_as}

-- a fault gives no store
faults : (p : Parsed Hall) (n at : ℕ) → faulty n at ≡ (loaded p).0 → loaded p ≡ (faulty n at, None)
unfolding loaded
faults (got h q r) n at e = zero_one (cc e)
faults (bad m q) n at e = λ i. (sym e i, None)

-- what is accepted is a hall
accepts : {P : Type 0} (p : Parsed Hall) → done ≡ (loaded p).0 → ((g : Hall) (q : ℕ) (r : Bytes) → p ≡ got g q r → P) → P
unfolding loaded
accepts (got g q r) e k = k g q r refl
accepts (bad m q) e k = zero_one (cc e)

module _ (h d x : Bytes) (ks vs ds : ℕ) where
  abbrev read : Parsed Hall
  read = read_hall ks vs ds 0 x

  room : has_room h d ks vs ds ≡ true → created_on h d (load x ks vs ds) ≡ loaded read
  unfolding created_on created
  room e = rw (is_long h d ks vs ds e, fits h d ks vs ds e)

  pub load_refused : has_room h d ks vs ds ≡ false → CreatedAs h d h d (load x ks vs ds) (refused 2)
  unfolding created_on created
  load_refused e = created_as (refused 2, None) (none_opens (sizes_fit ks vs ds) (are_long h d ks vs ds) _ e) refl refl

  -- the hall that is read has the number of desks that was given
  desks_read : (g : Hall) (q : ℕ) (r : Bytes) → read ≡ got g q r → g.desk_count ≡ ds
  desks_read g q r i = (subst (λ (p : Parsed Hall). Sized ks vs ds p) i (sized_hall ks vs ds x)).2

  -- c is what the check answered
  module _ (e : has_room h d ks vs ds ≡ true) {c : Result (Unit {0}) Faulty}
      (f : (k : ℕ) → paper_checked c ≡ (loaded (read_hall ks vs k 0 x)).0) where
    pub load_faulty : (n : Fault) (at : ℕ) → c ≡ Err (record { fault = n; at = at }) → {a : Answer} → a ≡ faulty (fault_number n) at
        → CreatedAs h d h d (load x ks vs ds) a
    load_faulty n at p q =
        rw q (created_as (faulty (fault_number n) at, None) (room e ∙ faults read _ at (rw p at (f ds))) refl refl)

    pub load_done : {h' d' : Bytes} → c ≡ Ok tt
        → ((g : Hall) (q : ℕ) (r : Bytes) → read ≡ got g q r → h' ≡ put_hall h g)
        → d' ≡ desk.put_desks d (replicate ds free) → CreatedAs h d h' d' (load x ks vs ds) done
    unfolding loaded vacant
    load_done p a b =
        accepts read (rw p at (f ds))
        (λ g q r i. created_as (done, Some (vacant g)) (room e ∙ ap loaded i) (a g q r i) (rw (desks_read g q r i) b))
