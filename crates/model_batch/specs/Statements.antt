-- What holds of batches: each sentence of the request, then what it says. The proofs have the same names.
use Rattle.std.specs.Prelude.{ℕ, suc, ◌+◌, ◌-◌, ◌*◌, ◌^◌, ◌≤◌, ◌<◌, ◌≡◌, ◌⊎◌, true, false, List, [], ◌∷◌, ◌++◌, map, length, take, replicate, Some}
use Rattle.model.specs.Sizes.{number_width}
use Rattle.model.specs.Bytes.{Bytes, are_bytes, num, bytes, part}
use Rattle.model.specs.State.{Store, is_some, writes_of}
use Rattle.model.specs.Sound.{sound}
use Rattle.model.specs.Load.{Parsed, got, bad}
use Rattle.model.specs.Calls.{commit, Call, on, Clashes, Answer, refused, conflict, faulty, done, dumped, refusal, answer, next}
use Rattle.model.specs.Runs.{Creation, created, run, response, responses}
use Rattle.model.specs.History.{all_in_bytes, creates_in_bytes, Run}
use Rattle.model.specs.Demands.{Listed, claim_held}
use Rattle.model_batch.specs.Encoder.{dump_item, dump_items, is_placed, all_placed, ItemFits, Proper, items_in_bytes}
use Rattle.model_batch.specs.Items.{place_width, Who, Item, acts, marker, item_kind, begins_at, start_of, call_of, start_at}
use Rattle.model_batch.specs.Decoder.{read_batch}
use Rattle.model_batch.specs.Answers.{head_width, head, heads, clashes_bytes, detail_of, detail_width, detail, details, answers_width}
use Rattle.model_batch.specs.Reader.{read_answer, read_answers}
use Rattle.model_batch.specs.Batch.{batch_calls, answers_to, made, turned_away, batch, Turn, turns, all_seen, singles, turns_in_bytes}

-- ---- which bytes are a batch

-- an item stands at the front of x, its place that of an earlier begin
pub record Fronts (earlier : List Item) (x : Bytes) : Type 0 where
  pub item : Item
  pub rest : Bytes
  pub placed : is_placed earlier item ≡ true
  pub fits : ItemFits item
  pub whole : x ≡ dump_item item ++ rest

-- "23 to 31 are reserved"
pub record Reserves (x : Bytes) : Type 0 where
  pub kind : ℕ
  pub rest : Bytes
  pub from : 23 ≤ kind
  pub up_to : kind ≤ 31
  pub whole : x ≡ marker ∷ kind ∷ rest

-- what may be wrong where the next item should stand, and its refusal: "a malformed record, or a 4,097th of any kind,
-- is new refusal 18, a reserved kind new refusal 19"
pub data Wrong (earlier : List Item) : Bytes → ℕ → Type 0 where
  too_many : {b : ℕ} {x : Bytes} → length earlier ≡ 4096 → Wrong earlier (b ∷ x) 18
  reserved : {b : ℕ} {x : Bytes} → length earlier < 4096 → Reserves (b ∷ x) → Wrong earlier (b ∷ x) 19
  no_item : {b : ℕ} {x : Bytes} → length earlier < 4096 → are_bytes (b ∷ x) ≡ true
      → (Fronts earlier (b ∷ x) → ⊥) → (Reserves (b ∷ x) → ⊥) → Wrong earlier (b ∷ x) 18

-- x is a batch, or items and then something wrong
pub data Judged : Bytes → Type 0 where
  whole : (is : List Item) → Proper is → Judged (dump_items is)
  spoilt : (is : List Item) (x : Bytes) (n : ℕ) → Proper is → Wrong is x n → Judged (dump_items is ++ x)

-- what a decoder has to say of it: "both with its offset, whichever stands first"
abbrev pub verdict : {x : Bytes} → Judged x → Parsed (List Item)
verdict (whole is p) = got is (length (dump_items is)) []
verdict (spoilt is x n p w) = bad n (length (dump_items is))

-- all bytes are one of these, and there is no third case
abbrev pub BatchJudged : Type 0
BatchJudged = (x : Bytes) → are_bytes x ≡ true → Judged x

-- in one way only: whichever way x is judged, the decoder says the same
abbrev pub BatchVerdict : Type 0
BatchVerdict = (x : Bytes) (j : Judged x) → read_batch x ≡ verdict j

-- what is accepted is the bytes of the items that it is accepted as
abbrev pub BatchExact : Type 0
BatchExact =
    (x : Bytes) (is : List Item) (q : ℕ) (r : Bytes) → are_bytes x ≡ true → read_batch x ≡ got is q r
    → (dump_items is ≡ x) × Proper is × (items_in_bytes is ≡ true)

-- item by item: what a pass over a batch finds in front of it is one item more
pub record ItemMore (is : List Item) (i : Item) : Type 0 where
  pub proper : Proper (is ++ i ∷ [])
  pub bytes : dump_items (is ++ i ∷ []) ≡ dump_items is ++ dump_item i
  pub width : answers_width (is ++ i ∷ []) ≡ answers_width is + (head_width + detail_width i)

abbrev pub ItemsGrow : Type 0
ItemsGrow =
    (is : List Item) (i : Item) → Proper is → length is < 4096 → is_placed is i ≡ true → ItemFits i → ItemMore is i

-- and each item of a batch is one more behind those before it
abbrev pub ItemsFront : Type 0
ItemsFront =
    (is : List Item) (i : Item) (js : List Item) → Proper (is ++ i ∷ js)
    → Proper is × (length is < 4096) × (is_placed is i ≡ true) × ItemFits i

-- ---- malformed items: room for another, and no item in front

-- "A cut record .. is malformed", after any byte but the first
abbrev pub CutMalformed : Type 0
CutMalformed =
    (earlier : List Item) (i : Item) (n : ℕ) → length earlier < 4096 → is_placed earlier i ≡ true → ItemFits i
    → are_bytes (dump_item i) ≡ true → 1 ≤ n → n < length (dump_item i) → Wrong earlier (take n (dump_item i)) 18

-- "such a byte over 1", of the kinds that have a transaction
abbrev pub ByteMalformed : Type 0
ByteMalformed =
    (earlier : List Item) (k b : ℕ) (x : Bytes) → length earlier < 4096 → 17 ≤ k → k ≤ 21 → 1 < b
    → are_bytes (b ∷ x) ≡ true → Wrong earlier (marker ∷ k ∷ b ∷ x) 18

-- "or a place that isn't an earlier begin"
abbrev pub PlaceMalformed : Type 0
PlaceMalformed =
    (earlier : List Item) (k p : ℕ) (x : Bytes) → length earlier < 4096 → 17 ≤ k → k ≤ 21
    → p < 256 ^ place_width → begins_at earlier p ≡ false → are_bytes (bytes place_width p ++ x) ≡ true
    → Wrong earlier (marker ∷ k ∷ 1 ∷ (bytes place_width p ++ x)) 18

-- "and any other is malformed": a kind that is neither one of the seven nor reserved, and a mark of another byte
abbrev pub KindMalformed : Type 0
KindMalformed =
    (earlier : List Item) (b k : ℕ) (x : Bytes) → length earlier < 4096 → are_bytes (b ∷ k ∷ x) ≡ true
    → (b ≡ marker → ⊥) ⊎ ((k < 16) ⊎ (31 < k)) → Wrong earlier (b ∷ k ∷ x) 18

-- ---- what a batch does

-- items whose answers have room are made singly
abbrev pub BatchMade : Type 0
BatchMade =
    (s : Store) (room : ℕ) (is : List Item) → Proper is → answers_width is ≤ room
    → batch s room (dump_items is) ≡ made s is

-- "The answers and both memories are those of the calls made singly": each item's call, with the start that the begin
-- at its place answered in this very run
abbrev pub BatchSingles : Type 0
BatchSingles =
    (s : Store) (is : List Item) → all_placed [] is ≡ true
    → batch_calls s is ≡ map (call_of (answers_to s (batch_calls s is))) is

-- item by item: one more is one call more, on the store and by the answers so far; its head comes behind the heads, and
-- its detail behind the details
pub record OneMore (s : Store) (is : List Item) (i : Item) (c : Call) (r : Answer × Bytes) : Type 0 where
  pub calls : batch_calls s (is ++ i ∷ []) ≡ batch_calls s is ++ c ∷ []
  pub answered : responses s (batch_calls s (is ++ i ∷ [])) ≡ responses s (batch_calls s is) ++ r ∷ []
  pub store : (made s (is ++ i ∷ [])).store ≡ next (made s is).store c
  pub bytes : (made s (is ++ i ∷ [])).bytes
      ≡ (heads (responses s (batch_calls s is)) ++ head r.0)
      ++ (details is (responses s (batch_calls s is)) ++ detail i r)

abbrev pub BatchGrows : Type 0
BatchGrows =
    (s : Store) (is : List Item) (i : Item)
    → let c = call_of (answers_to s (batch_calls s is)) i in OneMore s is i c (response (made s is).store c)

-- "a begin that was refused counts as no open transaction": its start is zero, which none has
abbrev pub ZeroClosed : Type 0
ZeroClosed = (s : Store) → sound s ≡ true → is_some (writes_of 0 s.desks) ≡ false

abbrev pub RefusedClosed : Type 0
RefusedClosed =
    (s : Store) → sound s ≡ true → (n : ℕ) → is_some (writes_of (start_of (refused n)) s.desks) ≡ false

-- what is wrong is told before anything is done, whatever the room
abbrev pub BatchWrong : Type 0
BatchWrong =
    (s : Store) (room : ℕ) (is : List Item) (x : Bytes) (n : ℕ) → Proper is → Wrong is x n
    → batch s room (dump_items is ++ x) ≡ turned_away s (faulty n (length (dump_items is)))

-- "and then too little space for the answers 12"
abbrev pub BatchShort : Type 0
BatchShort =
    (s : Store) (room : ℕ) (is : List Item) → Proper is → room < answers_width is
    → batch s room (dump_items is) ≡ turned_away s (refused 12)

-- "all before anything is done"
abbrev pub BatchRefused : Type 0
BatchRefused =
    (s : Store) (room : ℕ) (x : Bytes) (n : ℕ) → refusal (batch s room x).answer ≡ suc n
    → ((batch s room x).store ≡ s) × ((batch s room x).bytes ≡ [])

-- "In demand 3 a batch counts as those single calls, a refused batch as none": a run with batches is the run of the
-- single calls, to which every demand applies
abbrev pub TurnsAsCalls : Type 0
TurnsAsCalls =
    (s : Store) (ts : List Turn)
    → (turns s ts ≡ run s (singles s ts)) × (turns_in_bytes ts ≡ true → all_in_bytes (singles s ts) ≡ true)

abbrev pub TurnsRun : Type 0
TurnsRun =
    (o : Creation) (s : Store) (ts : List Turn) → created o ≡ (done, Some s) → creates_in_bytes o ≡ true
    → turns_in_bytes ts ≡ true → Run o s (singles s ts)

-- and its callers see what those of the single calls do
abbrev pub TurnsSeen : Type 0
TurnsSeen =
    (s : Store) → sound s ≡ true → (ts : List Turn) → turns_in_bytes ts ≡ true
    → all_seen s ts ≡ responses s (singles s ts)

-- ---- the answers

-- "Answers have a fixed length per kind", which is that of all of them, whatever the store
abbrev pub AnswersLong : Type 0
AnswersLong =
    (s : Store) (is : List Item)
    → (length (made s is).bytes ≡ answers_width is) × ((made s is).answer ≡ dumped (answers_width is))

-- no detail of a sound store's answer is cut: zeros come after it
abbrev pub DetailWhole : Type 0
DetailWhole =
    (s : Store) → sound s ≡ true → (l : List Answer) (i : Item) → ItemFits i
    → let r = response s (call_of l i) in
    detail i r ≡ detail_of i r ++ replicate (detail_width i - length (detail_of i r)) 0

-- a commit's detail holds all clashing keys with their newest numbers, ascending
abbrev pub ClashesWhole : Type 0
ClashesWhole =
    (s : Store) → sound s ≡ true → (w : Who) (t : ℕ) (cs : Clashes) → answer s (on t commit) ≡ conflict cs
    → Listed (claim_held s t) t cs
    × (detail (acts w commit) (response s (on t commit))
    ≡ clashes_bytes cs ++ replicate (detail_width (acts w commit) - length (clashes_bytes cs)) 0)

-- an item's head and detail say what its call answered, and the value it handed back
abbrev pub AnswerRead : Type 0
AnswerRead =
    (s : Store) → sound s ≡ true → (l : List Answer) (i : Item) → ItemFits i
    → let r = response s (call_of l i) in read_answer (item_kind i) (head r.0) (detail i r) ≡ r

-- so two answers to items of one kind that differ have different bytes
abbrev pub AnswerTold : Type 0
AnswerTold =
    (s s' : Store) → sound s ≡ true → sound s' ≡ true → (l l' : List Answer) (i j : Item) → ItemFits i → ItemFits j
    → item_kind i ≡ item_kind j
    → let r = response s (call_of l i) in
    let r' = response s' (call_of l' j) in
    head r.0 ≡ head r'.0 → detail i r ≡ detail j r' → r ≡ r'

-- the answers of a whole batch
abbrev pub AnswersRead : Type 0
AnswersRead =
    (s : Store) → sound s ≡ true → (is : List Item) → Proper is → items_in_bytes is ≡ true
    → read_answers (map item_kind is) (made s is).bytes ≡ responses s (batch_calls s is)

-- so two batches of the same kinds on two stores have the same bytes only where all single answers are the same
abbrev pub AnswersTold : Type 0
AnswersTold =
    (s s' : Store) → sound s ≡ true → sound s' ≡ true → (is js : List Item) → Proper is → Proper js
    → items_in_bytes is ≡ true → items_in_bytes js ≡ true → map item_kind is ≡ map item_kind js
    → (made s is).bytes ≡ (made s' js).bytes → responses s (batch_calls s is) ≡ responses s' (batch_calls s' js)

-- the start that a place stands for is the first number of the head there, as soon as that begin is answered
abbrev pub PlaceFound : Type 0
PlaceFound =
    (s : Store) → sound s ≡ true → (is : List Item) → Proper is → items_in_bytes is ≡ true → (p : ℕ)
    → begins_at is p ≡ true → (x : Bytes)
    → num (part (heads (responses s (batch_calls s is)) ++ x) (p * head_width) number_width)
    ≡ start_at (answers_to s (batch_calls s is)) p
