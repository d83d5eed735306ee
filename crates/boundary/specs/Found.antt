-- What C finds where a read or newest says: the bytes handed back, and no place of a value matters but for them.
use Rattle.std.specs.Prelude.{◌+◌, ◌≤◌, ◌≡◌, cond, length, eqb}
use Rattle.model.specs.Bytes.{Bytes, part}
use Rattle.model.specs.Calls.{Outcome}
use Rattle.hall_values.specs.Places.{Reading}
use Rattle.boundary.specs.declared.HbFound.{HbFound}
use Rattle.boundary.specs.Boundary.{Crossed, as_found, nothing_there, own_value}

-- r tells the outcome o of a read of hall memory h and desk memory d
abbrev pub FoundAs : (h d : Bytes) → Outcome → HbFound → Type 0
FoundAs h d o r = Crossed as_found (λ p. Reading h d p o) r

-- own values stand in desk memory d, others in hall memory h
abbrev pub memory_of : (h d : Bytes) → HbFound → Bytes
memory_of h d r = cond (eqb r.kind own_value) d h

abbrev pub bytes_at : (h d : Bytes) → HbFound → Bytes
bytes_at h d r = part (memory_of h d r) r.at r.len

-- the outcome's bytes are there
pub record Handed (h d : Bytes) (o : Outcome) (r : HbFound) : Type 0 where
  pub len : r.len ≡ length o.bytes
  pub bytes : bytes_at h d r ≡ o.bytes
  pub inside : r.at + r.len ≤ length (memory_of h d r)

abbrev pub HandsBack : Type 0
HandsBack = (h d : Bytes) (o : Outcome) (r : HbFound) → FoundAs h d o r → Handed h d o r

-- r and s are the same, but that the equal bytes of a value may stand at two places
pub record SameFound (h d : Bytes) (r s : HbFound) : Type 0 where
  pub refusal : r.refusal ≡ s.refusal
  pub kind : r.kind ≡ s.kind
  pub len : r.len ≡ s.len
  pub bytes : bytes_at h d r ≡ bytes_at h d s
  pub nowhere : r.kind ≡ nothing_there → r.at ≡ s.at

abbrev pub FixedFound : Type 0
FixedFound = (h d : Bytes) (o : Outcome) (r s : HbFound) → FoundAs h d o r → FoundAs h d o s → SameFound h d r s
