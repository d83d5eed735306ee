-- The decoder: a batch read whole into items, up to the first one that is malformed, reserved or one too many.
use Rattle.std.specs.Prelude.{ℕ, zero, suc, ◌/◌, ◌%◌, not, cond, List, [], ◌∷◌, ◌++◌, ltb, eqb}
use Rattle.model.specs.Sizes.{mark_width, number_width, count_width, tag_width}
use Rattle.model.specs.Bytes.{Bytes}
use Rattle.model.specs.Sound.{within}
use Rattle.model.specs.Load.{Parsed, got, bad, Parser, bind, ◌>>=◌, give, fault, field, number_field}
use Rattle.model.specs.Calls.{Act, read, put, delete, commit, abort}
use Rattle.model_batch.specs.Items.{max_items, place_width, Who, started, placed, Item, begins, acts, sweeps, marker, begins_at}

-- the byte and the kind of a mark, as one number
unfoldable pub mark_fault : ℕ → ℕ
mark_fault n =
    fault
    ((not (eqb (n % 256) marker), 18) ∷ (within 23 31 (n / 256), 19) ∷ (not (within 16 22 (n / 256)), 18) ∷ [])

abbrev pub any_number : (width : ℕ) → Parser ℕ
any_number w = number_field w (λ n. 0)

-- a key or a value of any length
unfoldable pub read_text : Parser Bytes
read_text = do
  n ← any_number count_width
  field n (λ b. 0)

-- a transaction, where the items before are `earlier`
unfoldable pub read_who : (earlier : List Item) → Parser Who
read_who earlier = do
  b ← number_field tag_width (λ n. fault ((ltb 1 n, 18) ∷ []))
  cond (eqb b 0)
      (do
        t ← any_number number_width
        give (started t))
      (do
        p ← number_field place_width (λ p. fault ((not (begins_at earlier p), 18) ∷ []))
        give (placed p))

unfoldable pub read_act : (kind : ℕ) → Parser Act
read_act n =
    cond (eqb n 17) (read_text >>= (λ k. give (read k)))
    (cond (eqb n 18) (read_text >>= (λ k. read_text >>= (λ v. give (put k v))))
    (cond (eqb n 19) (read_text >>= (λ k. give (delete k)))
    (cond (eqb n 20) (give commit) (give abort))))

unfoldable pub read_operands : (earlier : List Item) (kind : ℕ) → Parser Item
read_operands earlier n =
    cond (eqb n 16) (give begins)
    (cond (eqb n 22) (any_number number_width >>= (λ l. give (sweeps l)))
    (read_who earlier >>= (λ w. read_act n >>= (λ a. give (acts w a)))))

unfoldable pub read_item : (earlier : List Item) → Parser Item
read_item earlier = do
  n ← number_field mark_width mark_fault
  read_operands earlier (n / 256)

-- a fault is told at the item's mark: 19, or malformed
abbrev pub malformed : {A : Type 0} → (at : ℕ) → Parsed A → Parsed A
malformed at (got a p r) = got a p r
malformed at (bad n p) = bad (cond (eqb n 19) 19 18) at

-- nothing more, or w
abbrev pub or_end : (at : ℕ) → Bytes → (w : Parsed (List Item)) → Parsed (List Item)
or_end at [] w = got [] at []
or_end at (b ∷ x) w = w

-- at most `left` items, after the earlier ones
unfoldable pub read_items : (left : ℕ) (earlier : List Item) → Parser (List Item)
read_items zero earlier at x = or_end at x (bad 18 at)
read_items (suc n) earlier at x =
    or_end at x
    (bind (malformed at (read_item earlier at x)) (λ i. read_items n (earlier ++ i ∷ []) >>= (λ is. give (i ∷ is))))

unfoldable pub read_batch : Bytes → Parsed (List Item)
read_batch x = read_items max_items [] 0 x
