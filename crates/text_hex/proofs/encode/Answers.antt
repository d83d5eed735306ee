-- No bytes are a dash, others two digits each; a text without room for them stays as it is.
use native.Mathlib.Omega.{arith}
use borrow.Author.Rules.{rules}
use Rattle.text_words.proofs.Laws.Words.{no_room_lem}
use Rattle.text_hex.proofs.Laws.Hex.{text_none, length_text, encoded}
use Rattle.text_hex.proofs.encode.Goals as goal

pub returns-then-n-eq0 : goal.returns-then-n-eq0
returns-then-n-eq0 c = search (rules, text_none)

pub returns-then-text-at : goal.returns-then-text-at
returns-then-text-at c = no_room_lem _ _ _ (omega arith)

pub returns-then-text-at-2 : goal.returns-then-text-at-2
returns-then-text-at-2 c = no_room_lem _ _ _ (rw (length_text _ c.if-n-eq0.false) (omega arith))

pub returns : goal.returns
returns c = encoded _ _ _ (search rules) (omega arith) c.encode_pairs.ensures
