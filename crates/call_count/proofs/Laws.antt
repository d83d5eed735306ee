-- How much the store holds.
use mathlib.Core.Path.{◌≡◌, sym, ap}
use Prim.Native.Nat.{ℕ}
use lib.ListN.{length}
use Rattle.model.specs.Bytes.{Bytes}
use Rattle.model.specs.State.{open_desks}
use Rattle.model.specs.Calls.{counts, ask, counted, Outcome, reply, decide}
use Rattle.hall.specs.Layout.{keys_in, versions_in}
use Rattle.hall.proofs.Laws.Sound.{keys_counted, versions_counted}
use Rattle.desk.specs.Layout.{desks_in}
use Rattle.bridge.specs.Store.{store_in, answer_on, Sound}
use Rattle.bridge.proofs.Laws.Memories.{outcome_sound}

module _ (h d : Bytes) (s : Sound h d) where
  pub counts_told : {k v n : ℕ} → k ≡ length (keys_in h) → v ≡ length (versions_in h) → n ≡ open_desks (desks_in d)
      → counted k v n ≡ answer_on h d (ask counts)
  unfolding store_in decide reply
  counts_told e f g = rw (e, f, g, keys_counted h s.hall, versions_counted h s.hall) (ap (λ (o : Outcome). o.answer) (sym (outcome_sound h d s (ask counts))))
