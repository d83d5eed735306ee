-- What is read at a place of a batch, and what the check of a whole batch says.
use Rattle.std.specs.Prelude.{ℕ, ◌≤◌, ◌≡◌, not, List, [], ◌∷◌, length, drop}
use Rattle.model.specs.Bytes.{Bytes, part}
use Rattle.model.specs.Sizes.{number_width}
use Rattle.model.specs.Load.{Parsed, got, bad, Parser, ◌>>=◌, give, fault, number_field}
use Rattle.model_batch.specs.Items as paper
use Rattle.model_batch.specs.Items.{max_items, place_width}
use Rattle.model_batch.specs.Decoder.{any_number, read_act, read_item, malformed, read_batch}
use Rattle.model_batch.specs.Answers.{answers_width}
use Rattle.batch_items.specs.declared.Who.{Who}
use Rattle.batch_items.specs.declared.operands.Text.{Text}
use Rattle.batch_items.specs.declared.operands.Text.TheVariants as text
use Rattle.batch_items.specs.declared.operands.Named.{Named}
use Rattle.batch_items.specs.declared.operands.Named.TheVariants as named
use Rattle.batch_items.specs.declared.items.Mark.{Mark}
use Rattle.batch_items.specs.declared.items.Mark.TheVariants as mark
use Rattle.batch_items.specs.declared.Decoded.{Decoded}
use Rattle.batch_items.specs.declared.Decoded.TheVariants as decoded
use Rattle.batch_items.specs.declared.Checked.{Checked}
use Rattle.batch_items.specs.declared.Checked.TheVariants as checked
use Rattle.batch_items.specs.Papers.{text_of, Within, paper_who, paper_item, Spans, paper_fault, marks_of}

-- ---- one item

-- a was read, up to `end`
pub record Ends {A : Type 0} (x : Bytes) (m : Parsed A) (a : A) (end : ℕ) : Type 0 where
  pub is : m ≡ got a end (drop end x)
  pub inside : end ≤ length x

-- a fault that is told as n at the record's mark
abbrev pub Told : {A : Type 0} → (n : ℕ) → Parsed A → Type 0
Told n m = (at : ℕ) → malformed at m ≡ bad n at

-- what a parser, or what is left of it, comes to
abbrev pub Reads : (x : Bytes) → Parsed Bytes → Text → Type 0
Reads x m (text.Whole s end) = Ends x m (text_of x s) end × Within x s
Reads x m text.Cut = Told 18 m

abbrev pub Names : (x : Bytes) → Parsed paper.Who → Named → Type 0
Names x m (named.As w end) = Ends x m (paper_who w) end
Names x m named.Malformed = Told 18 m

-- the refusal of a mark, 0 where it has none
abbrev pub paper_mark : Mark → ℕ
paper_mark mark.Kind = 0
paper_mark (mark.Wrong f) = paper_fault f

-- it ends in the batch, whatever the earlier records are
abbrev pub Stops : (x : Bytes) → Named → Type 0
Stops x (named.As w end) = end ≤ length x
Stops x named.Malformed = Unit {0}

abbrev pub Decodes : (x : Bytes) → Parsed paper.Item → Decoded → Type 0
Decodes x m (decoded.Item i end) = Ends x m (paper_item x i) end × Spans x i
Decodes x m (decoded.Wrong f) = Told (paper_fault f) m

-- what stands behind the byte of a transaction
abbrev pub read_start : Parser paper.Who
read_start = any_number number_width >>= (λ t. give (paper.started t))

abbrev pub read_place : (earlier : List paper.Item) → Parser paper.Who
read_place earlier =
    number_field place_width (λ p. fault ((not (paper.begins_at earlier p), 18) ∷ [])) >>= (λ p. give (paper.placed p))

-- what stands behind a transaction
abbrev pub read_act_of : Who → (kind : ℕ) → Parser paper.Item
read_act_of w n = read_act n >>= (λ a. give (paper.acts (paper_who w) a))

-- so it is behind any earlier records of which `begins` marks the begins
abbrev pub Behind : (begins : Bytes) → (List paper.Item → Type 0) → Type 0
Behind begins P = (earlier : List paper.Item) → begins ≡ marks_of earlier → P earlier

abbrev pub DecodesAt : (x : Bytes) (at : ℕ) (begins : Bytes) → Decoded → Type 0
DecodesAt x at begins r = Behind begins (λ earlier. Decodes x (read_item earlier at (drop at x)) r)

-- ---- the whole batch

-- it is n items, whose answers have w bytes, and `begins` has their marks at its front
pub record Accepted (x begins : Bytes) (n w : ℕ) : Type 0 where
  pub items : List paper.Item
  pub is : read_batch x ≡ got items (length x) []
  pub count : n ≡ length items
  pub few : n ≤ max_items
  pub width : w ≡ answers_width items
  pub marked : part begins 0 n ≡ marks_of items

abbrev pub Checks : (x begins : Bytes) → Checked → Type 0
Checks x begins (checked.Items n w) = Accepted x begins n w
Checks x begins (checked.Wrong f at) = read_batch x ≡ bad (paper_fault f) at
