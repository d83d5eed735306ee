-- Calls on two memories that hold a store.
use Prim.Native.Nat.{ℕ}
use mathlib.Core.Path.{◌≡◌, sym, ap, subst, ◌∙◌}
use mathlib.Core.Bool.{true, false}
use Rattle.model.specs.Bytes.{Bytes}
use Rattle.model.specs.State.{Store}
use Rattle.model.specs.Sound.{sound_hall, sound}
use Rattle.model.specs.Calls.{Act, read, Call, on, decide, next}
use Rattle.model.specs.History.{in_bytes, is_commit}
use Rattle.model_laws.proofs.Sizes.{sizes_kept}
use Rattle.model.proofs.Cases.{and_left}
use Rattle.model_laws.proofs.Effects.{read_same}
use Rattle.model_laws.proofs.Demands.{hall_kept}
use Rattle.hall.specs.Layout.{put_hall}
use Rattle.hall.proofs.Laws.Sound.{put_hall_put}
use Rattle.desk.specs.Layout.{put_desks}
use Rattle.desk.proofs.Laws.Layout.{put_put}
use Rattle.bridge.specs.Store.{outcome_on, hall_after, desk_after}
use Rattle.bridge.proofs.Laws.Memories.{outcome_sound, hall_left, desk_left}
use Rattle.bridge.proofs.Laws.Kept.{desks_room, desks_kept, is_sound_lem}
use Rattle.store.proofs.Laws.Runs.{call_holds}
use Rattle.workload_turns.specs.Holding.{Holding}

module _ {h₀ d₀ h d : Bytes} {s : Store} (k : Holding h₀ d₀ h d s) where
  sound_store : sound s ≡ true
  sound_store = subst (λ (t : Store). sound t ≡ true) k.holds.store (is_sound_lem h d k.holds.sound)

  sound_hall_lem : sound_hall s.hall ≡ true
  unfolding sound
  sound_hall_lem = and_left (sound_hall s.hall) _ sound_store

  -- the call answers what the model's call does
  pub outcome_is : (c : Call) → outcome_on h d c ≡ decide s c
  outcome_is c = outcome_sound h d k.holds.sound c ∙ ap (λ (x : Store). decide x c) k.holds.store

  hall_after_lem : (c : Call) → hall_after h d c ≡ put_hall h₀ (next s c).hall
  hall_after_lem c =
      let z = sizes_kept s (decide s c).effect in
      hall_left h d k.holds.sound c ∙ rw (k.holds.store, k.hall) (put_hall_put h₀ s.hall sound_hall_lem (next s c).hall z.0 z.1)

  desk_after_lem : (c : Call) → desk_after h d c ≡ put_desks d₀ (next s c).desks
  desk_after_lem c =
      desk_left h d k.holds.sound c
      ∙ rw (k.holds.store, k.desk) (put_put d₀ s.desks (desks_room s sound_store) (next s c).desks (desks_kept s (decide s c).effect))

  -- and leaves the store that the model's call leaves
  pub holding_call : (c : Call) {h₁ d₁ : Bytes} → in_bytes c ≡ true → h₁ ≡ hall_after h d c → d₁ ≡ desk_after h d c → Holding h₀ d₀ h₁ d₁ (next s c)
  holding_call c b p q =
      record {
        holds = rw (p, q) (call_holds (record { hall = h; desk = d }) s c b k.holds);
        hall = p ∙ hall_after_lem c;
        desk = q ∙ desk_after_lem c;
      }

  -- a call under a start that publishes nothing leaves hall memory as it was
  pub holding_desk : (t : ℕ) (a : Act) {d₁ : Bytes} → in_bytes (on t a) ≡ true → is_commit a ≡ false → d₁ ≡ desk_after h d (on t a) → Holding h₀ d₀ h d₁ (next s (on t a))
  holding_desk t a b n q =
      let e : (next s (on t a)).hall ≡ s.hall = hall_kept s t a n in
      holding_call (on t a) b (sym (hall_after_lem (on t a) ∙ rw e (sym k.hall))) q

  -- a read changes nothing
  pub holding_read : (t : ℕ) (key : Bytes) → Holding h₀ d₀ h d (next s (on t (read key)))
  holding_read t key = rw (read_same s t key) k
