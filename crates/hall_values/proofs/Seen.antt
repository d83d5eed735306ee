-- What a start sees of a key in hall memory, and where its value stands.
-- Assumes nothing.
use mathlib.Core.Path.{◌≡◌, sym, ap, ◌∙◌, subst}
use Rattle.std.specs.Prelude.{Option, None}
use Prim.Native.Nat.{ℕ, ◌<◌}
use lib.ListN.{length}
use Rattle.model.specs.Bytes.{Bytes}
use Rattle.model.specs.State.{content_of, look, visible}
use Rattle.memory.specs.Which.{placed}
use Rattle.memory.specs.declared.Which.{Which}
use Rattle.memory.specs.declared.Which.TheVariants as which
use Rattle.memory.proofs.Laws.Which.{placed_at}
use Rattle.memory.specs.declared.spans.Span.{Span}
use Rattle.hall.specs.Layout.{keys_in, versions_in, hall_in, Sound}
use Rattle.hall.specs.Tables.{row_keys, version_at}
use Rattle.cells.specs.Rows.{place_of}
use Rattle.hall.specs.Seen.{seen_of, version_seen}
use Rattle.cells.specs.declared.rows.Place.{Place}
use Rattle.cells.specs.declared.rows.Place.TheVariants.{At, Before}
use Rattle.hall.proofs.Laws.Chains.{SeenBelow, seen_in, look_none, at_in, visible_at}
use Rattle.hall_values.specs.Stands.{Stands}
use Rattle.hall_values.specs.Sees.{sees}

-- the key k has row i
pub record HasRow (m k : Bytes) (i : ℕ) : Type 0 where
  pub sound : Sound m
  pub row : place_of k 0 (row_keys (keys_in m)) ≡ At i

pub no_row_lem : {m : Bytes} → Sound m → (k : Bytes) (t : ℕ) {q : Place} {i : ℕ} → q ≡ place_of k 0 (row_keys (keys_in m))
    → q ≡ Before i → Stands m None (sees m t k)
unfolding visible
no_row_lem {m} s k t {i = i} e f = (rw (look_none m s k i (sym e ∙ f)), tt)

module _ {m k : Bytes} {i : ℕ} (h : HasRow m k i) where
  pub row_there : i < length (keys_in m)
  row_there = at_in m h.sound k i h.row

  module _ (t : ℕ) {p : Which} (g : placed p ≡ seen_of t i (keys_in m) (versions_in m)) where
    seen_as : {q : Which} → p ≡ q → visible t (look k (hall_in m).entries) ≡ version_seen (placed q) (versions_in m)
    seen_as r =
        visible_at m h.sound k i h.row t
        ∙ ap (λ (o : Option ℕ). version_seen o (versions_in m)) (sym g ∙ ap placed r)

    pub none_seen : p ≡ which.Nothing → Stands m None (sees m t k)
    none_seen r = (rw (seen_as r), tt)

    module _ {j : ℕ} (r : p ≡ which.At j) where
      pub version_there : j < length (versions_in m)
      version_there =
          subst (λ (o : Option ℕ). SeenBelow o (length (versions_in m))) (placed_at g r)
          (seen_in m h.sound i row_there t)

      pub one_seen : (v : Option Span) → Stands m v (content_of (version_at j (versions_in m)).payload)
          → Stands m v (sees m t k)
      one_seen v a = rw (seen_as r) a
