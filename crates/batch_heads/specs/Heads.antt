-- The head of a record's answer in the output of a batch.
use Rattle.std.specs.Prelude.{ℕ, ◌+◌, ◌*◌, ◌≤◌, ◌≡◌, ◌++◌, length}
use Rattle.std.proofs.lemmas.List.Edits.{sets}
use Rattle.model.specs.Sizes.{number_width}
use Rattle.model.specs.Bytes.{Bytes, bytes}
use Rattle.model.specs.Calls.{Clashes, Answer}
use Rattle.model_batch.specs.Answers.{code_width, head_width, head}
use Rattle.answers.specs.declared.Committed.{Committed}
use Rattle.answers.specs.Paper.{paper_committed, Counts}

-- the four fields of a head
unfoldable pub fields : (first second refusal flag : ℕ) → Bytes
fields a b n f = bytes number_width a ++ (bytes number_width b ++ (bytes code_width n ++ bytes code_width f))

-- the output has the head of record i
abbrev pub HasHead : (out : Bytes) (i : ℕ) → Type 0
HasHead out i = head_width * i + head_width ≤ length out

-- the output with the head of record i for the answer a
abbrev pub headed : (out : Bytes) (i : ℕ) → Answer → Bytes
headed out i a = sets out (head_width * i) (head a)

-- `before` became `after`, with the head of record i for a commit's answer, whichever clashes it counts
abbrev pub CommitHeaded : (before after : Bytes) (i : ℕ) → Committed → Type 0
CommitHeaded before after i a = (cs : Clashes) → Counts cs a → after ≡ headed before i (paper_committed cs a)
