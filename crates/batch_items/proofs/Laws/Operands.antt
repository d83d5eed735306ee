-- Texts and transactions: what the decoder makes of what code finds at their places.
-- Assumes nothing.
use mathlib.Core.Path.{◌≡◌, refl, ◌∙◌}
use mathlib.Core.Bool.{true, false, not}
use mathlib.Core.List.{List, [], ◌∷◌}
use Prim.Native.Nat.{ℕ, zero, suc, ◌+◌, ◌-◌, ◌≤◌, ◌<◌}
use native.Mathlib.Omega.{arith}
use lib.Dec.{ltb, eqb}
use lib.ListN.{length, drop, get_or}
use borrow.Author.Tests.{ne_eqb, lt-ltb}
use Rattle.model.specs.Sizes.{number_width, count_width, tag_width}
use Rattle.model.specs.Bytes.{Bytes, part, num}
use Rattle.model.specs.Load.{bind, fault, field}
use Rattle.model.proofs.Cases.{by_bool}
use Rattle.memory.proofs.Laws.Parts.{part_cons, part_none}
use Rattle.model_batch.specs.Items.{place_width, Item, started, placed, is_begin, begins_at}
use Rattle.model_batch.specs.Decoder.{read_text, read_who}
use Rattle.batch_items.specs.Papers.{mark_of, marks_of}
use Rattle.batch_items.specs.Clauses.{Ends, Told, read_start, read_place}
use Rattle.batch_items.proofs.Laws.Fields.{told_bind, told_malformed, ends_give, field_is, number_cut, number_faulty, number_is, bytes_cut}

-- ---- a text

module _ (x : Bytes) (at : ℕ) where
  pub text_unmeasured : length x - at < count_width → Told 18 (read_text at (drop at x))
  unfolding read_text
  text_unmeasured l = told_bind _ _ (number_cut x at count_width _ l)

  module _ (l : count_width ≤ length x - at) {n : ℕ} (e : n ≡ num (part x at count_width)) where
    measured : read_text at (drop at x) ≡ field n (λ b. 0) (at + count_width) (drop (at + count_width) x)
    unfolding read_text bind
    measured = rw (number_is x at count_width (λ n. 0) l e refl)

    pub text_cut : length x - (at + count_width) < n → Told 18 (read_text at (drop at x))
    text_cut k = rw measured (bytes_cut x (at + count_width) n k)

    pub text_whole : n ≤ length x - (at + count_width) → Ends x (read_text at (drop at x)) (part x (at + count_width) n) (at + count_width + n)
    text_whole k = record {
      is = measured ∙ field_is x (at + count_width) n (λ b. 0) k refl;
      inside = omega arith;
    }

-- ---- which earlier records are begins

marked : (is : List Item) (p : ℕ) → begins_at is p ≡ not (eqb (get_or (marks_of is) p 0) 0)
unfolding begins_at marks_of mark_of
marked [] p = refl
marked (i ∷ is) zero = by_bool (is_begin i) (λ e. rw e) (λ e. rw e)
marked (i ∷ is) (suc p) = marked is p

-- there is no mark past the last
pub beyond : (l : Bytes) (p : ℕ) → length l ≤ p → get_or l p 0 ≡ 0
beyond [] p h = refl
beyond (b ∷ l) zero h = absurd (omega arith)
beyond (b ∷ l) (suc p) h = beyond l p (omega arith)

-- ---- a transaction

module _ (x : Bytes) (at : ℕ) where
  pub start_cut : length x - at < number_width → Told 18 (read_start at (drop at x))
  start_cut l = told_bind _ _ (number_cut x at number_width _ l)

  pub start_whole : number_width ≤ length x - at → {t : ℕ} → t ≡ num (part x at number_width)
      → Ends x (read_start at (drop at x)) (started t) (at + number_width)
  start_whole l e = ends_give started (record { is = number_is x at number_width (λ n. 0) l e refl; inside = omega arith })

  module _ (earlier : List Item) where
    pub place_cut : length x - at < place_width → Told 18 (read_place earlier at (drop at x))
    place_cut l = told_bind _ _ (number_cut x at place_width _ l)

    module _ (l : place_width ≤ length x - at) {p : ℕ} (e : p ≡ num (part x at place_width)) {begins : Bytes} (m : begins ≡ marks_of earlier) where
      abbrev unplaced : ℕ → ℕ
      unplaced p = fault ((not (begins_at earlier p), 18) ∷ [])

      pub place_wrong : get_or begins p 0 ≡ 0 → Told 18 (read_place earlier at (drop at x))
      unfolding fault
      place_wrong z =
          let w : begins_at earlier p ≡ false = marked earlier p ∙ rw (← m, z) in
          let f : unplaced p ≡ 18 = rw w in
          told_bind _ _ (told_malformed (number_faulty x at place_width unplaced l e (rw f)) (rw f))

      pub place_whole : (get_or begins p 0 ≡ 0 → ⊥) → Ends x (read_place earlier at (drop at x)) (placed p) (at + place_width)
      unfolding fault
      place_whole z =
          let w : begins_at earlier p ≡ true = marked earlier p ∙ rw (← m, ne_eqb (get_or begins p 0) 0 z) in
          let f : unplaced p ≡ 0 = rw w in
          ends_give placed (record { is = number_is x at place_width unplaced l e f; inside = omega arith })

    pub who_cut : length x - at < tag_width → Told 18 (read_who earlier at (drop at x))
    unfolding read_who
    who_cut l = told_bind _ _ (number_cut x at tag_width _ l)

    module _ (l : tag_width ≤ length x - at) where
      tag_is : get_or x at 0 ≡ num (part x at tag_width)
      unfolding num
      tag_is = rw (part_cons x at 0 (omega arith), part_none x (suc at) 0 refl) (omega arith)

      abbrev mistagged : ℕ → ℕ
      mistagged n = fault ((ltb 1 n, 18) ∷ [])

      pub who_started : get_or x at 0 ≡ 0 → read_who earlier at (drop at x) ≡ read_start (at + tag_width) (drop (at + tag_width) x)
      unfolding read_who bind fault
      who_started z = rw (number_is x at tag_width mistagged l tag_is (rw z), z)

      pub who_placed : get_or x at 0 ≡ 1 → read_who earlier at (drop at x) ≡ read_place earlier (at + tag_width) (drop (at + tag_width) x)
      unfolding read_who bind fault
      who_placed z = rw (number_is x at tag_width mistagged l tag_is (rw z), z)

      pub who_wrong : (get_or x at 0 ≡ 0 → ⊥) → (get_or x at 0 ≡ 1 → ⊥) → Told 18 (read_who earlier at (drop at x))
      unfolding read_who fault
      who_wrong z o =
          let f : mistagged (get_or x at 0) ≡ 18 = rw (lt-ltb 1 (get_or x at 0) (omega arith)) in
          told_bind _ _ (told_malformed (number_faulty x at tag_width mistagged l tag_is (rw f)) (rw f))
