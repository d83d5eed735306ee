-- Items as the bytes that say them, and which items a batch may have.
use Rattle.std.specs.Prelude.{◌^◌, ◌≤◌, ◌<◌, ◌≡◌, Bool, true, ◌&&◌, List, [], ◌∷◌, ◌++◌, length, None}
use Rattle.model.specs.Sizes.{number_width, count_width, tag_width}
use Rattle.model.specs.Bytes.{Bytes, bytes}
use Rattle.model.specs.Calls.{Act, read, put, delete, commit_to, abort}
use Rattle.model.specs.History.{act_in_bytes}
use Rattle.model_batch.specs.Items.{max_items, place_width, Who, started, placed, Item, begins, acts, sweeps, marker, item_kind, begins_at}

-- ---- the bytes

unfoldable pub dump_who : Who → Bytes
dump_who (started t) = bytes tag_width 0 ++ bytes number_width t
dump_who (placed p) = bytes tag_width 1 ++ bytes place_width p

-- a key or a value behind its length
unfoldable pub dump_text : Bytes → Bytes
dump_text b = bytes count_width (length b) ++ b

unfoldable pub dump_act : Act → Bytes
dump_act (read k) = dump_text k
dump_act (put k v) = dump_text k ++ dump_text v
dump_act (delete k) = dump_text k
dump_act (commit_to j) = []
dump_act abort = []

unfoldable pub dump_operands : Item → Bytes
dump_operands begins = []
dump_operands (acts w a) = dump_who w ++ dump_act a
dump_operands (sweeps l) = bytes number_width l

unfoldable pub dump_item : Item → Bytes
dump_item i = marker ∷ item_kind i ∷ dump_operands i

unfoldable pub dump_items : List Item → Bytes
dump_items [] = []
dump_items (i ∷ is) = dump_item i ++ dump_items is

-- ---- which items a batch may have

-- a place is that of an earlier begin
unfoldable pub is_placed : (earlier : List Item) → Item → Bool
is_placed earlier begins = true
is_placed earlier (acts (started t) a) = true
is_placed earlier (acts (placed p) a) = begins_at earlier p
is_placed earlier (sweeps l) = true

unfoldable pub all_placed : (earlier : List Item) → List Item → Bool
all_placed earlier [] = true
all_placed earlier (i ∷ is) = is_placed earlier i && all_placed (earlier ++ i ∷ []) is

-- numbers and lengths fit their fields, whatever they are, and no commit has a journal
abbrev pub WhoFits : Who → Type 0
WhoFits (started t) = t < 256 ^ number_width
WhoFits (placed p) = p < 256 ^ place_width

abbrev pub TextFits : Bytes → Type 0
TextFits b = length b < 256 ^ count_width

abbrev pub ActFits : Act → Type 0
ActFits (read k) = TextFits k
ActFits (put k v) = TextFits k × TextFits v
ActFits (delete k) = TextFits k
ActFits (commit_to j) = j ≡ None
ActFits abort = Unit {0}

abbrev pub ItemFits : Item → Type 0
ItemFits begins = Unit {0}
ItemFits (acts w a) = WhoFits w × ActFits a
ItemFits (sweeps l) = l < 256 ^ number_width

abbrev pub AllFit : List Item → Type 0
AllFit [] = Unit {0}
AllFit (i ∷ is) = ItemFits i × AllFit is

-- the items of a batch: each place that of an earlier begin, numbers that fit, and not too many
pub record Proper (is : List Item) : Type 0 where
  pub places : all_placed [] is ≡ true
  pub fit : AllFit is
  pub few : length is ≤ max_items

-- keys and values are bytes
unfoldable pub item_in_bytes : Item → Bool
item_in_bytes begins = true
item_in_bytes (acts w a) = act_in_bytes a
item_in_bytes (sweeps l) = true

unfoldable pub items_in_bytes : List Item → Bool
items_in_bytes [] = true
items_in_bytes (i ∷ is) = item_in_bytes i && items_in_bytes is
