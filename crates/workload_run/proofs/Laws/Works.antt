-- From a text to the dump: the plan, a new store, the run, the dump.
use Prim.Native.Nat.{ℕ, ◌≤◌}
use mathlib.Core.Path.{◌≡◌, refl, sym, ap, subst, ◌∙◌}
use mathlib.Core.Bool.{true}
use mathlib.Core.List.{List, []}
use Rattle.std.specs.Prelude.{Option, None, Some, option_map}
use lib.ListN.{length}
use Rattle.model.specs.Bytes.{Bytes}
use Rattle.model.specs.State.{Store, new_hall, vacant}
use Rattle.model.specs.Sound.{sizes_fit}
use Rattle.model.specs.Calls.{dump, ask, Answer, refused, done, Outcome, reply, decide, answer}
use Rattle.model.specs.Runs.{Created, created}
use Rattle.model.specs.History.{creates_in_bytes}
use Rattle.model.proofs.Cases.{by_bool, by_option, zero_one, none_some}
use Rattle.model_laws.proofs.Effects.{dump_within}
use Rattle.answers.specs.declared.Dumped.{Dumped}
use Rattle.answers.specs.declared.Dumped.TheVariants as dumps
use Rattle.answers.specs.Paper.{paper_dumped}
use Rattle.hall.specs.Layout.{hall_in}
use Rattle.hall.proofs.Laws.Sound.{tests}
use Rattle.memory.specs.Spans.{overlay}
use Rattle.bridge.specs.Store.{store_in, asks_desks, looks_at_desks, is_sound_for, outcome_on}
use Rattle.bridge.specs.Clauses.{DumpCalled}
use Rattle.bridge.specs.Creations.{are_long_for, created_on, CreatedAs}
use Rattle.store.proofs.Laws.Runs.{creation_holds}
use Rattle.workload_plan.specs.declared.Plan.{Plan}
use Rattle.workload_plan.specs.declared.Input.TheVariants as input
use Rattle.workload_turns.specs.declared.Seat.{Seat}
use Rattle.workload_run.specs.declared.Worked.{Worked}
use Rattle.workload_run.specs.declared.Worked.TheVariants as work
use Rattle.workload_plan.specs.Lines.{seven_in}
use Rattle.workload_plan.specs.Input.{workers, fits, plan_from, plan_of, plan_in}
use Rattle.workload_run.specs.Workload.{ended, played, worked, Operates}
use Rattle.workload_turns.specs.Holding.{Holding, Does}
use Rattle.workload_run.specs.Works.{rooms, Left, Ran, store_of, worked_on, paper_worked, dump_for, Works}

-- ---- a new store, and the run on it

abbrev fresh : Plan → Store
fresh p = vacant (new_hall p.key_rooms p.version_rooms (workers p))

by_created {ℓ} : {P : Type ℓ} (p : Plan) (h d : Bytes) → (created_on h d (rooms p) ≡ (refused 2, None) → P) → (created_on h d (rooms p) ≡ (done, Some (fresh p)) → P) → P
unfolding created_on created
by_created p h d f g =
    by_bool (are_long_for h d (rooms p))
    (λ a. by_bool (sizes_fit p.key_rooms p.version_rooms (workers p)) (λ b. g (rw (a, b))) (λ b. f (rw (a, b))))
    (λ a. f (rw a))

-- which of them it was, by the answer
module _ (p : Plan) (h d : Bytes) {a : Answer} (m : a ≡ (created_on h d (rooms p)).0) where
  created_none : {n : ℕ} → a ≡ refused n → (created_on h d (rooms p)).1 ≡ None
  created_none r = by_created p h d (λ e. ap (λ (q : Created). q.1) e) (λ e. zero_one (cc (m ∙ ap (λ (q : Created). q.0) e, r)))

  created_some : a ≡ done → created_on h d (rooms p) ≡ (done, Some (fresh p))
  created_some r = by_created p h d (λ e. zero_one (cc (m ∙ ap (λ (q : Created). q.0) e, r))) (λ e. e)

module _ (p : Plan) {h d h₁ d₁ : Bytes} where
  pub ran_refused : {a : Answer} {n : ℕ} → a ≡ refused n → CreatedAs h d h₁ d₁ (rooms p) a → Ran p h d h₁ d₁ (refused n)
  ran_refused r m =
      let e = created_none p h d m.answer r in
      record { answer = sym r ∙ m.answer; memories = rw e (rw e at m.hall, rw e at m.desk) }

  pub ran_done : {a : Answer} {h₂ d₂ h₃ d₃ : Bytes} (ws : List Seat) → a ≡ done → CreatedAs h d h₁ d₁ (rooms p) a → Operates p h₁ d₁ h₂ d₂ ws → Does (λ (s : Store). ended ws s) h₂ d₂ h₃ d₃
      → Ran p h d h₃ d₃ done
  unfolding worked creates_in_bytes
  ran_done ws r m f g =
      let o = created_some p h d m.answer r in
      let e = ap (λ (q : Created). q.1) o in
      let k = creation_holds (record { hall = h; desk = d }) (rooms p) (fresh p) refl o in
      let x = f h d (fresh p) (record { holds = rw (m.hall, m.desk) k; hall = rw e at m.hall; desk = rw e at m.desk }) in
      record { answer = sym r ∙ m.answer; memories = rw e (rw x.1 at (g h d (played p (fresh p)).store x.0)) }

-- ---- the text

pub plan_fits : (text : Bytes) (p : Plan) → input.Plan p ≡ plan_in text → fits p ≡ true
unfolding plan_in plan_of
plan_fits text p e =
    by_option (seven_in text)
    (λ q. zero_one (cc (rw q at e)))
    (λ ns q.
    let g = rw q at e in
    by_bool (fits (plan_from ns))
    (λ f. let w : p ≡ plan_from ns = cc (rw f at g) in rw w f)
    (λ f. zero_one (cc (rw f at g))))

-- ---- the dump

dump_is : {h₀ d₀ h d : Bytes} {s : Store} → Holding h₀ d₀ h d s → (n : ℕ) → outcome_on h [] (ask (dump n)) ≡ decide s (ask (dump n))
unfolding outcome_on is_sound_for looks_at_desks asks_desks store_in decide reply
dump_is {h = h} {s = s} k n =
    let e : hall_in h ≡ s.hall = ap (λ (t : Store). t.hall) k.holds.store in
    rw (tests h k.holds.sound.hall, e)

module _ (text h d out : Bytes) where
  works : {h₁ d₁ out₁ : Bytes} {r : Worked} (o : Option Store) → worked_on text h d ≡ o → paper_worked r ≡ option_map (λ (s : Store). answer s (ask (dump (length out)))) o
      → Left h d h₁ d₁ o → out₁ ≡ overlay (dump_for o (length out)) out → Works text h d out h₁ d₁ out₁ r
  works o e a m b = record { answer = rw e a; memories = rw e m; output = rw e b }

  -- nothing was run
  works_none : {h₁ d₁ : Bytes} → worked_on text h d ≡ None → Left h d h₁ d₁ None → Works text h d out h₁ d₁ out work.Other
  unfolding overlay
  works_none e l = works None e refl l refl

  pub works_other : input.Other ≡ plan_in text → Works text h d out h d out work.Other
  works_other e = works_none (ap (store_of h d) (sym e)) (refl, refl)

  module _ (p : Plan) (e : input.Plan p ≡ plan_in text) (h₁ d₁ : Bytes) where
    pub works_unfit : {a : Answer} {n : ℕ} → a ≡ refused n → Ran p h d h₁ d₁ a → Works text h d out h₁ d₁ out work.Other
    works_unfit r m =
        let q = ap (option_map (worked p)) (created_none p h d m.answer r) in
        works_none (ap (store_of h d) (sym e) ∙ q) (subst (Left h d h₁ d₁) q m.memories)

    pub works_ran : {a : Answer} {out₁ : Bytes} (r : Dumped) → a ≡ done → Ran p h d h₁ d₁ a → DumpCalled h₁ out out₁ (paper_dumped r) → Works text h d out h₁ d₁ out₁ (work.Ran r)
    works_ran r z m w =
        let q = ap (λ (o : Created). option_map (worked p) o.1) (created_some p h d m.answer z) in
        let k = subst (Left h d h₁ d₁) q m.memories in
        let o = dump_is k (length out) in
        works (Some (worked p (fresh p))) (ap (store_of h d) (sym e) ∙ q) (ap Some (w.answer ∙ ap (λ (x : Outcome). x.answer) o)) k (w.output ∙ ap (λ (x : Outcome). overlay x.bytes out) o)

-- ---- the dump lies within the output

pub works_within : {text h d out h' d' out' : Bytes} {r : Worked} {n : ℕ} → Works text h d out h' d' out' r → r ≡ work.Ran (dumps.Bytes n) → n ≤ length out
works_within {text} {h} {d} {out} {n = n} m e =
    let a = sym (ap paper_worked e) ∙ m.answer in
    by_option (worked_on text h d)
    (λ q. none_some (sym (rw q at a)))
    (λ s q. dump_within s (length out) n (cc (rw q at a)))
