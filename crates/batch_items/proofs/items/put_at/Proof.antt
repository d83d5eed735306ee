-- A key, and a value where it ends.
use borrow.Author.Rules.{rules}
use Rattle.batch_items.proofs.Laws.Results.{text_cut, text_whole}
use Rattle.batch_items.proofs.Laws.Items.{put_keyless, put_valueless, put_whole}
use Rattle.batch_items.proofs.items.put_at.Statement.{statement}
use Rattle.batch_items.proofs.items.put_at.Tie as tie

text_at_requires_2 : tie.Need-text_at-requires-in-Whole
text_at_requires_2 c κs =
    (text_whole c.args.x.now _ c.text_at.ensures c.in-Whole.is).0.inside

returns : tie.Need-returns-in-Cut
returns c =
    let args = c.args in
    let x = args.x.now in
    put_keyless x args.at args.who (text_cut x _ c.text_at.ensures c.in-Cut.is)

returns_2 : tie.Need-returns-in-Cut-text_at
returns_2 c =
    let args = c.args in
    let x = args.x.now in
    put_valueless x args.at args.who (text_whole x _ c.text_at.ensures c.in-Whole.is).0
    (text_cut x _ c.text_at-in-Whole.ensures c.in-Cut-text_at.is)

returns_3 : tie.Need-returns-in-Whole-text_at
returns_3 c =
    let args = c.args in
    let x = args.x.now in
    let key = text_whole x _ c.text_at.ensures c.in-Whole.is in
    let val = text_whole x _ c.text_at-in-Whole.ensures c.in-Whole-text_at.is in
    (put_whole x args.at args.who key.0 val.0, (key.1, val.1))

pub put_at_spec : {M : Type 1} → statement M
put_at_spec =
    tie.close
    (tie.spec
    (λ c κs. search rules)
    (λ c. search rules)
    (λ c. search rules)
    text_at_requires_2
    (λ c. search rules)
    (λ c. search rules)
    returns
    returns_2
    returns_3)
