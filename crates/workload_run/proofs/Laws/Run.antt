-- The loops of a run: what is left to do from here gives what the whole run gives.
use Prim.Native.Nat.{ℕ, zero, suc, ◌+◌, ◌-◌, ◌≤◌, ◌<◌}
use mathlib.Core.Path.{◌≡◌, refl, sym, ap, ◌∙◌}
use mathlib.Core.Bool.{true}
use mathlib.Core.List.{List}
use native.Mathlib.Nat.{mod-lt}
use native.Mathlib.Numerals.{add-one}
use native.Mathlib.Omega.{arith}
use lib.ListN.{length, drop, get_or, set, drop_of_length-le}
use lib.Seq.{drop-cons}
use Rattle.model.specs.Bytes.{Bytes}
use Rattle.model.specs.State.{Store}
use Rattle.workload_splitmix.specs.SplitMix.{drawn}
use Rattle.workload_plan.specs.declared.Plan.{Plan}
use Rattle.workload_plan.specs.declared.choices.Choice.{Choice}
use Rattle.workload_turns.specs.declared.Seat.{Seat}
use Rattle.workload_plan.specs.Input.{worker_limit, workers, fits}
use Rattle.workload_plan.specs.Choices.{chosen}
use Rattle.workload_turns.specs.Turns.{idle, turned}
use Rattle.workload_run.specs.Workload.{Stage, stepped, operated, left, ended, played}
use Rattle.workload_turns.specs.Holding.{Holding, Does, Plays}
use Rattle.workload_plan.proofs.Laws.Fits.{fit}

-- ---- the end

-- the workers below i have left, and the memories h and d have become h' and d'
abbrev pub Ending : (h d : Bytes) (ws : List Seat) (h' d' : Bytes) (i : ℕ) → Type 0
Ending h d ws h' d' i = (h₀ d₀ : Bytes) (s : Store) → Holding h₀ d₀ h d s → (t : Store) × (Holding h₀ d₀ h' d' t × (ended (drop i ws) t ≡ ended ws s))

module _ {h d h₁ d₁ : Bytes} (ws : List Seat) (i : ℕ) (e : Ending h d ws h₁ d₁ i) where
  pub ending_more : {h₂ d₂ : Bytes} (w : Seat) → i < length ws → Does (λ (s : Store). left s (get_or ws i w)) h₁ d₁ h₂ d₂ → Ending h d ws h₂ d₂ (i + 1)
  unfolding ended
  ending_more w l f h₀ d₀ s k =
      let x = e h₀ d₀ s k in
      (left x.0 (get_or ws i w), (f h₀ d₀ x.0 x.1.0, rw (add-one i) (rw (drop-cons ws i w l) at x.1.1)))

  pub ending_all : length ws ≤ i → Does (λ (s : Store). ended ws s) h d h₁ d₁
  unfolding ended
  ending_all l h₀ d₀ s k =
      let x = e h₀ d₀ s k in
      let q : x.0 ≡ ended ws s = rw (drop_of_length-le ws l) at x.1.1 in
      rw (← q) x.1.0

-- ---- the operations

-- n operations are left from a state of the generator and the seats ws, and the memories h and d have become h' and d'
abbrev pub Going : Plan → (h d h' d' : Bytes) (ws : List Seat) (n state : ℕ) → Type 0
Going p h d h' d' ws n state =
    (h₀ d₀ : Bytes) (s : Store) → Holding h₀ d₀ h d s → (t : Store) × (Holding h₀ d₀ h' d' t × (operated p n state (record { store = t; seats = ws }) ≡ played p s))

same_seat : (ws : List Seat) (i : ℕ) (u v : Seat) → i < length ws → get_or ws i u ≡ get_or ws i v
same_seat ws i u v l = let e = sym (drop-cons ws i u l) ∙ drop-cons ws i v l in cc e

turn_stepped : (writers : ℕ) (c : Choice) (s : Store) (ws : List Seat) (u : Seat) {w : Seat} → c.worker < length ws → w ≡ (turned writers c s (get_or ws c.worker u)).seat
    → stepped writers c (record { store = s; seats = ws }) ≡ record { store = (turned writers c s (get_or ws c.worker u)).store; seats = set ws c.worker w }
unfolding stepped
turn_stepped writers c s ws u l e = rw (e, same_seat ws c.worker u idle l)

operated_more : (p : Plan) (n state : ℕ) (f : Stage) (c : Choice) → 0 < n → c ≡ chosen p state → operated p n state f ≡ operated p (n - 1) c.state (stepped p.writers c f)
unfolding operated
operated_more p zero state f c z e = absurd (omega arith)
operated_more p (suc n) state f c z e = let m : suc n - 1 ≡ n = omega arith in rw (m, e)

module _ (p : Plan) (n state : ℕ) (ws : List Seat) {h d h₁ d₁ : Bytes} (g : Going p h d h₁ d₁ ws n state) where
  pub going_more : {h₂ d₂ : Bytes} (c : Choice) (u w : Seat) → 0 < n → c ≡ chosen p state → c.worker < length ws
      → Plays (λ (s : Store). turned p.writers c s (get_or ws c.worker u)) h₁ d₁ h₂ d₂ w → Going p h d h₂ d₂ (set ws c.worker w) (n - 1) c.state
  going_more c u w z e l f h₀ d₀ s k =
      let x = g h₀ d₀ s k in
      let y = f h₀ d₀ x.0 x.1.0 in
      let t : Store = (turned p.writers c x.0 (get_or ws c.worker u)).store in
      (t, (y.0, ap (λ (o : Stage). operated p (n - 1) c.state o) (sym (turn_stepped p.writers c x.0 ws u l y.1)) ∙ sym (operated_more p n state _ c z e) ∙ x.1.1))

  pub going_all : n ≤ 0 → (h₀ d₀ : Bytes) (s : Store) → Holding h₀ d₀ h d s → Holding h₀ d₀ h₁ d₁ (played p s).store × (ws ≡ (played p s).seats)
  unfolding operated
  going_all z h₀ d₀ s k =
      let x = g h₀ d₀ s k in
      let m : n ≡ 0 = omega arith in
      let q = rw m at x.1.1 in
      rw (← q) (x.1.0, refl)

-- the worker drawn has a seat
pub worker_below : (p : Plan) (state : ℕ) {c : Choice} → fits p ≡ true → c ≡ chosen p state → c.worker < worker_limit
unfolding chosen
worker_below p state e q =
    let f = fit p e in
    let l = mod-lt (drawn state).out {m = workers p} (omega arith) in
    rw q (omega arith)
