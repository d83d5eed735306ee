-- The machine's steps, and its run over a dump field by field.
use mathlib.Core.Path.{◌≡◌, refl, ◌∙◌}
use mathlib.Core.Bool.{Bool, true, false}
use Rattle.std.specs.Prelude.{Ok, Err}
use Rattle.std.specs.Result.{is_ok}
use mathlib.Core.List.{List, [], ◌∷◌}
use Prim.Native.Nat.{ℕ, zero, suc, ◌+◌, ◌-◌, ◌≤◌, ◌<◌}
use native.Mathlib.Omega.{arith}
use lib.Dec.{eqb}
use lib.ListN.{length, drop, length-drop}
use lib.Seq.{drop-drop, length-take-le}
use Rattle.model.specs.Bytes.{Bytes, part}
use Rattle.model.specs.Load.{fault}
use Rattle.model.specs.Calls.{Answer, faulty}
use Rattle.dump_fields.specs.Drive.{onto, drive}
use Rattle.dump_fields.specs.Machine.{or_one, width_of, is_key, fault_number, numbered, judged, go_or, step_of, finished, last_by, moves, checker, run_fields}
use Rattle.dump_fields.specs.declared.machine.Phase.{Phase}
use Rattle.dump_fields.specs.declared.machine.Phase.TheVariants.{Magic, Next, Count, KeyLength, Key, VersionCount, Number, Tag, ValueLength, Value, End}
use Rattle.dump_fields.specs.declared.machine.Loader.{Loader}
use Rattle.dump_fields.specs.declared.machine.Fault.{Fault}
use Rattle.dump_fields.specs.declared.machine.Fault.TheVariants.{CutShort, Malformed, TooBig}
use Rattle.dump_fields.proofs.Laws.Drive.{drive_short, drive_whole}

-- ---- one step

-- it goes on where no test holds
pub goes_by : (cs : List (Bool × Fault)) (p : Phase) (s : Loader) → is_ok (go_or (judged cs) p s) ≡ eqb (fault (numbered cs)) 0
unfolding fault
goes_by [] p s = refl
goes_by ((true, CutShort) ∷ cs) p s = refl
goes_by ((true, Malformed) ∷ cs) p s = refl
goes_by ((true, TooBig) ∷ cs) p s = refl
goes_by ((false, f) ∷ cs) p s = goes_by cs p s

-- ---- a field of the dump d, as a loop takes it

pub or_one_lem : (n : ℕ) → (n ≡ 0 → ⊥) → n ≡ or_one n
or_one_lem zero h = absurd (h refl)
or_one_lem (suc n) h = refl

pub wide : (p : Phase) → 1 ≤ width_of p
wide Magic = omega arith
wide Next = omega arith
wide Count = omega arith
wide KeyLength = omega arith
wide (Key zero) = omega arith
wide (Key (suc n)) = omega arith
wide VersionCount = omega arith
wide Number = omega arith
wide Tag = omega arith
wide ValueLength = omega arith
wide (Value zero) = omega arith
wide (Value (suc n)) = omega arith
wide End = omega arith

module _ (d : Bytes) (p : Phase) (s : Loader) (last : Bytes) (at w : ℕ) {r : Answer} (e : w ≡ width_of p) (i : r ≡ run_fields p s last at (drop at d)) where
  pub turn_short : length d - at < w → r ≡ finished p at
  turn_short h = i ∙ drive_short checker _ [] (drop at d) (simp length-drop (omega arith))

  module _ (k : w ≤ length d - at) where
    turn : r ≡ onto (moves (step_of p s last (part d at w)) (last_by (is_key p) last (part d at w)) at (at + w)) (λ x. drive checker x [] (drop (at + w) d))
    unfolding part
    turn =
        let l : w ≤ length (drop at d) = simp length-drop (omega arith) in
        i ∙ drive_whole checker _ w (drop at d) e (omega (arith, wide p)) l ∙ rw (length-take-le w (drop at d) l, drop-drop w at d)

    pub turn_fault : {f : Fault} → step_of p s last (part d at w) ≡ Err f → r ≡ faulty (fault_number f) at
    turn_fault g = turn ∙ rw g

    pub turn_go : {q : Phase} {t : Loader} → step_of p s last (part d at w) ≡ Ok (q, t) → (b : Bool) → b ≡ is_key p
        → r ≡ run_fields q t (last_by b last (part d at w)) (at + w) (drop (at + w) d)
    turn_go g b f = turn ∙ rw (g, f)
