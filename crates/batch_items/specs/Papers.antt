-- The paper of each item that code reads: its key and its value are parts of the batch.
use Rattle.std.specs.Prelude.{ℕ, ◌+◌, ◌≤◌, cond, List, map, length}
use Rattle.model.specs.Bytes.{Bytes, part}
use Rattle.model.specs.Calls as calls
use Rattle.model_batch.specs.Items as paper
use Rattle.batch_items.specs.declared.Who.{Who}
use Rattle.batch_items.specs.declared.Who.TheVariants.{Start, Place}
use Rattle.batch_items.specs.declared.Span.{Span}
use Rattle.batch_items.specs.declared.Item.{Item}
use Rattle.batch_items.specs.declared.Item.TheVariants.{Begin, Read, Put, Delete, Commit, Abort, Sweep}
use Rattle.batch_items.specs.declared.Fault.{Fault}
use Rattle.batch_items.specs.declared.Fault.TheVariants.{Malformed, Reserved}

abbrev pub paper_who : Who → paper.Who
paper_who (Start t) = paper.started t
paper_who (Place p) = paper.placed p

abbrev pub text_of : (batch : Bytes) → Span → Bytes
text_of x s = part x s.at s.len

abbrev pub paper_item : (batch : Bytes) → Item → paper.Item
paper_item x Begin = paper.begins
paper_item x (Read w k) = paper.acts (paper_who w) (calls.read (text_of x k))
paper_item x (Put w k v) = paper.acts (paper_who w) (calls.put (text_of x k) (text_of x v))
paper_item x (Delete w k) = paper.acts (paper_who w) (calls.delete (text_of x k))
paper_item x (Commit w) = paper.acts (paper_who w) calls.commit
paper_item x (Abort w) = paper.acts (paper_who w) calls.abort
paper_item x (Sweep l) = paper.sweeps l

-- the batch has those bytes
abbrev pub Within : (batch : Bytes) → Span → Type 0
Within x s = s.at + s.len ≤ length x

abbrev pub Spans : (batch : Bytes) → Item → Type 0
Spans x Begin = Unit {0}
Spans x (Read w k) = Within x k
Spans x (Put w k v) = Within x k × Within x v
Spans x (Delete w k) = Within x k
Spans x (Commit w) = Unit {0}
Spans x (Abort w) = Unit {0}
Spans x (Sweep l) = Unit {0}

-- the refusal that a fault is told as
abbrev pub paper_fault : Fault → ℕ
paper_fault Malformed = 18
paper_fault Reserved = 19

-- ---- which records are begins: a byte for each, 1 or 0

unfoldable pub mark_of : paper.Item → ℕ
mark_of i = cond (paper.is_begin i) 1 0

unfoldable pub marks_of : List paper.Item → Bytes
marks_of is = map mark_of is
