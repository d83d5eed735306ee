-- What C finds where a read or newest says.
-- Assumes nothing.
use native.Mathlib.Omega.{arith}
use mathlib.Core.Path.{◌≡◌, refl, sym, ap, ◌∙◌}
use lib.ListN.{length}
use Rattle.model.specs.Bytes.{Bytes}
use Rattle.model.specs.Calls.{Outcome}
use Rattle.model.proofs.Cases.{zero_one}
use Rattle.memory.proofs.Laws.Parts.{part_none, length_part}
use Rattle.hall_values.specs.declared.Placed.{Placed}
use Rattle.hall_values.specs.declared.Placed.TheVariants.{Refused, Own, Held, Nothing}
use Rattle.hall_values.specs.Places.{Reading, placed_answer}
use Rattle.boundary.specs.declared.HbFound.{HbFound}
use Rattle.boundary.specs.Boundary.{as_found, nothing_there}
use Rattle.boundary.specs.Found.{Handed, HandsBack, FixedFound}

-- ---- the bytes

module _ {h d : Bytes} {o : Outcome} where
  handed : (p : Placed) → Reading h d p o → Handed h d o (as_found p)
  handed (Own at n) k =
      record { len = sym (length_part d at n k.inside) ∙ ap length k.bytes; bytes = k.bytes; inside = k.inside }
  handed (Held at n) k =
      record { len = sym (length_part h at n k.inside) ∙ ap length k.bytes; bytes = k.bytes; inside = k.inside }
  handed Nothing k =
      record { len = ap length k.bytes; bytes = part_none h 0 0 refl ∙ k.bytes; inside = omega arith }
  handed (Refused x) k =
      record { len = ap length k.bytes; bytes = part_none h 0 0 refl ∙ k.bytes; inside = omega arith }

pub hands_back : HandsBack
hands_back h d o r t = rw t.same (handed t.answer t.call)

-- ---- the other fields

record Alike (r s : HbFound) : Type 0 where
  refusal : r.refusal ≡ s.refusal
  kind : r.kind ≡ s.kind
  nowhere : r.kind ≡ nothing_there → r.at ≡ s.at

alike : (p q : Placed) → placed_answer p ≡ placed_answer q → Alike (as_found p) (as_found q)
alike (Own at n) (Own at' n') e = record { refusal = refl; kind = refl; nowhere = λ z. zero_one (sym z) }
alike (Own at n) (Held at' n') e = zero_one (cc e)
alike (Own at n) Nothing e = zero_one (cc e)
alike (Own at n) (Refused x') e = zero_one (cc e)
alike (Held at n) (Own at' n') e = zero_one (cc e)
alike (Held at n) (Held at' n') e = record { refusal = refl; kind = refl; nowhere = λ z. zero_one (cc z) }
alike (Held at n) Nothing e = zero_one (cc e)
alike (Held at n) (Refused x') e = zero_one (cc e)
alike Nothing (Own at' n') e = zero_one (cc e)
alike Nothing (Held at' n') e = zero_one (cc e)
alike Nothing Nothing e = record { refusal = refl; kind = refl; nowhere = λ z. refl }
alike Nothing (Refused x') e = zero_one (cc e)
alike (Refused x) (Own at' n') e = zero_one (cc e)
alike (Refused x) (Held at' n') e = zero_one (cc e)
alike (Refused x) Nothing e = zero_one (cc e)
alike (Refused x) (Refused x') e = record { refusal = cc; kind = refl; nowhere = λ z. refl }

pub fixed_found : FixedFound
fixed_found h d o r s t u =
    let a = hands_back h d o r t in
    let b = hands_back h d o s u in
    let e : placed_answer t.answer ≡ placed_answer u.answer = t.call.answer ∙ sym u.call.answer in
    let same : Alike r s = rw (t.same, u.same) (alike t.answer u.answer e) in
    record {
      refusal = same.refusal;
      kind = same.kind;
      len = a.len ∙ sym b.len;
      bytes = a.bytes ∙ sym b.bytes;
      nowhere = same.nowhere;
    }
