-- Mark, length and body in turn: the first that is not there is a cut, the first that is wrong spoils the record.
use Rattle.std.proofs.Common.{◌≡◌, true, arith}
use Rattle.model.specs.Bytes.{are_bytes}
use Rattle.memory.proofs.Laws.Numbers.{are_bytes_of}
use Rattle.journal_check.proofs.Laws.Frames.{cut_mark, unmarked, marked, cut_length, measured, cut_body, spoiled, whole}
use Rattle.journal_check.proofs.judge.Goals as goal

pub returns-then-left-lt-MARK_WIDTH : goal.returns-then-left-lt-MARK_WIDTH
returns-then-left-lt-MARK_WIDTH c = cut_mark _ c.args.x.now c.args.at c.if-left-lt-MARK_WIDTH.true

pub returns-then-read16-ne-MARK : goal.returns-then-read16-ne-MARK
returns-then-read16-ne-MARK c = unmarked _ _ _ (omega arith) c.read16.ensures c.if-read16-ne-MARK.true

pub returns-then-left-lt-BODY_PLACE : goal.returns-then-left-lt-BODY_PLACE
returns-then-left-lt-BODY_PLACE c =
    let known : are_bytes c.args.x.now ≡ true = are_bytes_of _ (λ i. omega (arith, c.type_inv.x i)) in
    cut_length _ _ _ (marked _ _ known (omega arith) c.read16.ensures c.if-read16-ne-MARK.false) c.if-left-lt-BODY_PLACE.true

pub returns-then-left-n : goal.returns-then-left-n
returns-then-left-n c =
    let known : are_bytes c.args.x.now ≡ true = are_bytes_of _ (λ i. omega (arith, c.type_inv.x i)) in
    let mark = marked _ _ known (omega arith) c.read16.ensures c.if-read16-ne-MARK.false in
    cut_body _ _ _ (measured _ _ known mark (omega arith) c.read32-n.ensures) c.if-left-n.true

pub returns-in-Some : goal.returns-in-Some
returns-in-Some c =
    let known : are_bytes c.args.x.now ≡ true = are_bytes_of _ (λ i. omega (arith, c.type_inv.x i)) in
    let mark = marked _ _ known (omega arith) c.read16.ensures c.if-read16-ne-MARK.false in
    whole _ _ _ (measured _ _ known mark (omega arith) c.read32-n.ensures) (omega arith) c.piece.ensures c.in-Some.ensures

pub returns-in-None : goal.returns-in-None
returns-in-None c =
    let known : are_bytes c.args.x.now ≡ true = are_bytes_of _ (λ i. omega (arith, c.type_inv.x i)) in
    let mark = marked _ _ known (omega arith) c.read16.ensures c.if-read16-ne-MARK.false in
    spoiled _ _ _ (measured _ _ known mark (omega arith) c.read32-n.ensures) (omega arith) c.piece.ensures c.in-None.ensures
