-- Right answers by whether one is demanded, and as a count.
use Rattle.std.proofs.Common.{◌≡◌, Bool, true, false, [], ◌∷◌, length, sym, refl, ◌∙◌, arith}
use mir.Val.{bool_byte}
use Rattle.model.specs.Bytes.{Bytes, order, is_same}
use Rattle.whiteboard_page.specs.Tally.{is_right, one}

pub none_right : (s w : Bytes) → length s ≡ 0 → is_right s w ≡ false
unfolding is_right
none_right [] w e = refl
none_right (b ∷ s) w e = absurd (omega arith)

pub right_same : (s w : Bytes) {b r : Bool} → (length s ≡ 0 → ⊥) → b ≡ is_same (order s w) → b ≡ r → r ≡ is_right s w
unfolding is_right
right_same [] w n e f = absurd (n refl)
right_same (c ∷ s) w n e f = sym f ∙ e

pub as_one : (b : Bool) → bool_byte b ≡ one b
as_one true = refl
as_one false = refl
