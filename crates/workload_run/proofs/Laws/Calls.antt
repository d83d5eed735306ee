-- The workload is a run of calls.
use Prim.Native.Nat.{ℕ, zero, suc, ◌-◌}
use mathlib.Core.Path.{◌≡◌, refl}
use mathlib.Core.Bool.{true}
use mathlib.Core.List.{List, [], ◌∷◌}
use lib.Dec.{eqb}
use Rattle.model.specs.State.{Store}
use Rattle.model.specs.Calls.{commit, abort, Call, begin, on, answer, next}
use Rattle.model.specs.Runs.{run}
use Rattle.model.specs.History.{act_in_bytes, in_bytes, all_in_bytes}
use Rattle.model.proofs.Cases.{by_bool, and_intro}
use Rattle.workload_plan.specs.declared.Plan.{Plan}
use Rattle.workload_plan.specs.declared.choices.Choice.{Choice}
use Rattle.workload_turns.specs.declared.Seat.{Seat}
use Rattle.workload_plan.specs.Choices.{chosen}
use Rattle.workload_turns.specs.Turns.{seated, drawn_call, lacks_room, finished, unseated, turned}
use Rattle.workload_run.specs.Workload.{Stage, stepped, operated, left, ended, played, worked, Reached, IsRun}
use Rattle.workload_turns.proofs.Laws.Turns.{drawn_in_bytes}

-- from a step's store on, v is reached: then it is from the store before that step, too
module _ {v : Store} where
  reach_call : (t : Store) (c : Call) → in_bytes c ≡ true → Reached (next t c) v → Reached t v
  unfolding run all_in_bytes
  reach_call t c b r = (c ∷ r.0, (and_intro b r.1.0, r.1.1))

  reach_finished : (t : Store) (u : ℕ) → Reached (finished t u) v → Reached t v
  unfolding finished in_bytes act_in_bytes
  reach_finished t u r =
      reach_call t (on u commit) refl
      (by_bool (lacks_room (answer t (on u commit))) (λ e. reach_call (next t (on u commit)) (on u abort) refl (rw e at r)) (λ e. rw e at r))

  reach_seated : (t : Store) (w : Seat) → Reached (seated t w).store v → Reached t v
  unfolding seated in_bytes
  reach_seated t w r = by_bool (eqb w.turns 0) (λ e. reach_call t begin refl (rw e at r)) (λ e. rw e at r)

  reach_unseated : (t : Store) (w : Seat) → Reached (unseated t w).store v → Reached t v
  unfolding unseated
  reach_unseated t w r = by_bool (eqb (w.turns - 1) 0) (λ e. reach_finished t w.start.0 (rw e at r)) (λ e. rw e at r)

  reach_turned : (writers : ℕ) (c : Choice) (t : Store) (w : Seat) → Reached (turned writers c t w).store v → Reached t v
  unfolding turned
  reach_turned writers c t w r =
      let b = seated t w in
      let call = drawn_call writers c b.seat.start.0 in
      reach_seated t w (reach_call b.store call (drawn_in_bytes writers c b.seat.start.0) (reach_unseated (next b.store call) b.seat r))

  reach_operated : (p : Plan) (n state : ℕ) (f : Stage) → Reached (operated p n state f).store v → Reached f.store v
  unfolding operated stepped
  reach_operated p zero state f r = r
  reach_operated p (suc n) state f r =
      let c = chosen p state in
      reach_turned p.writers c f.store _ (reach_operated p n c.state (stepped p.writers c f) r)

  reach_ended : (ws : List Seat) (t : Store) → Reached (ended ws t) v → Reached t v
  unfolding ended left
  reach_ended [] t r = r
  reach_ended (w ∷ ws) t r =
      let q = reach_ended ws (left t w) r in
      by_bool (eqb w.turns 0) (λ e. rw e at q) (λ e. reach_finished t w.start.0 (rw e at q))

pub is_run : IsRun
unfolding worked played run all_in_bytes
is_run p s = reach_operated p _ _ _ (reach_ended _ _ ([], (refl, refl)))
