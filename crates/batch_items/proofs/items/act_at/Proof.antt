-- By the kind, as the decoder goes.
use mathlib.Core.Path.{subst}
use borrow.Author.Rules.{rules}
use Rattle.model.specs.Load.{Parsed}
use Rattle.model_batch.specs.Items.{Item}
use Rattle.batch_items.specs.Clauses.{Decodes}
use Rattle.batch_items.proofs.Laws.Results.{text_cut, text_whole}
use Rattle.batch_items.proofs.Laws.Items.{read_cut, read_whole, put_kind, delete_cut, delete_whole, commit_whole, abort_whole}
use Rattle.batch_items.proofs.items.act_at.Statement.{statement}
use Rattle.batch_items.proofs.items.act_at.Tie as tie

returns : tie.Need-returns-in-Cut
returns c =
    let args = c.args in
    let x = args.x.now in
    read_cut x args.at args.who c.if-kind-eq-READ.true (text_cut x _ c.text_at.ensures c.in-Cut.is)

returns_2 : tie.Need-returns-in-Whole
returns_2 c =
    let args = c.args in
    let x = args.x.now in
    let key = text_whole x _ c.text_at.ensures c.in-Whole.is in
    (read_whole x args.at args.who c.if-kind-eq-READ.true key.0, key.1)

returns_3 : tie.Need-returns-then-kind-eq-PUT
returns_3 c =
    let args = c.args in
    let x = args.x.now in
    subst (λ (m : Parsed Item). Decodes x m c.put_at.result) (put_kind x args.at args.who c.if-kind-eq-PUT.true) c.put_at.ensures

returns_4 : tie.Need-returns-in-Cut-text_at
returns_4 c =
    let args = c.args in
    let x = args.x.now in
    delete_cut x args.at args.who c.if-kind-eq-DELETE.true (text_cut x _ c.text_at-then-kind-eq-DELETE.ensures c.in-Cut-text_at.is)

returns_5 : tie.Need-returns-in-Whole-text_at
returns_5 c =
    let args = c.args in
    let x = args.x.now in
    let key = text_whole x _ c.text_at-then-kind-eq-DELETE.ensures c.in-Whole-text_at.is in
    (delete_whole x args.at args.who c.if-kind-eq-DELETE.true key.0, key.1)

returns_6 : tie.Need-returns-then-kind-eq-COMMIT
returns_6 c =
    let args = c.args in
    (commit_whole args.x.now args.at args.who c.if-kind-eq-COMMIT.true c.requires, tt)

returns_7 : tie.Need-returns
returns_7 c =
    let args = c.args in
    (abort_whole args.x.now args.at args.who c.if-kind-eq-READ.false c.if-kind-eq-PUT.false c.if-kind-eq-DELETE.false c.if-kind-eq-COMMIT.false c.requires, tt)

pub act_at_spec : {M : Type 1} → statement M
act_at_spec =
    tie.close
    (tie.spec
    (λ c κs. search rules)
    (λ c. search rules)
    (λ c. search rules)
    returns
    returns_2
    (λ c κs. search rules)
    returns_3
    (λ c κs. search rules)
    (λ c. search rules)
    (λ c. search rules)
    returns_4
    returns_5
    returns_6
    returns_7)
