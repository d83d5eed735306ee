-- A memory with other rows in it: what it holds, and steps one after the other.
-- Assumes nothing.
use mathlib.Core.Path.{◌≡◌, refl, ap, ◌∙◌, subst}
use mathlib.Core.List.{List}
use lib.ListN.{length}
use Rattle.model.specs.Bytes.{Bytes}
use Rattle.model.specs.State.{Version}
use Rattle.hall.specs.Layout.{Row, Tables, keys_in, versions_in, tables_in}
use Rattle.hall.specs.Tables.{GoodTables, Shaped, with_keys, with_versions}
use Rattle.hall.proofs.Laws.Tables.{tables_put, shaped_put, put_length, put_then}
use Rattle.hall_rows.specs.Held.{other, Holds}

-- nothing done
pub holds_same : (m : Bytes) → Shaped m → Holds m (keys_in m) (versions_in m) m
holds_same m s = record { put = s.same; good = s.good }

pub holds_as : {m : Bytes} {rs qs : List Row} {vs us : List Version} {m₁ : Bytes} → rs ≡ qs → vs ≡ us → Holds m rs vs m₁ → Holds m qs us m₁
holds_as {m} {rs} {qs} {vs} {us} {m₁} p q h = subst (λ l. Holds m qs l m₁) q (subst (λ l. Holds m l vs m₁) p h)

module _ (m : Bytes) (s : Shaped m) {rs : List Row} {vs : List Version} {m₁ : Bytes} (h : Holds m rs vs m₁) where
  pub holds_tables : tables_in m₁ ≡ other m rs vs
  holds_tables = tables_put (other m rs vs) h.good m h.put

  pub holds_keys : keys_in m₁ ≡ rs
  holds_keys = ap (λ (t : Tables). t.keys) holds_tables

  pub holds_versions : versions_in m₁ ≡ vs
  holds_versions = ap (λ (t : Tables). t.versions) holds_tables

  pub holds_shaped : Shaped m₁
  holds_shaped = shaped_put (other m rs vs) h.good m h.put s.long

  pub holds_length : length m₁ ≡ length m
  holds_length = ap length h.put ∙ put_length (other m rs vs) h.good m s.long

  -- one step after the other
  pub holds_then : {qs : List Row} {us : List Version} {m₂ : Bytes} → Holds m₁ qs us m₂ → Holds m qs us m₂
  holds_then {qs} {us} k =
      record {
        put = put_then (other m rs vs) h.good m h.put (λ (u : Tables). with_keys qs (with_versions us u)) refl k.put;
        good = subst (λ u. GoodTables (with_keys qs (with_versions us u))) holds_tables k.good;
      }
