-- A place lies inside the memory that it is in, so `piece` lends what stands there; other answers lend no byte.
use mathlib.Core.Path.{sym, ap, ◌∙◌, subst}
use borrow.Author.Rules.{rules}
use Rattle.model.specs.Bytes.{part}
use Rattle.hall_values.specs.declared.Placed.{Placed}
use Rattle.hall_values.specs.Places.{placed_bytes, Inside}
use Rattle.hall_values.proofs.lent.Statement.{statement}
use Rattle.hall_values.proofs.lent.Tie as tie

piece_requires_2 : tie.Need-piece-requires-in-Own
piece_requires_2 c κs =
    subst (λ (p : Placed). Inside c.args.hall.now c.args.desk.now p) c.in-Own.is
    c.requires

piece_requires_3 : tie.Need-piece-requires-in-Held
piece_requires_3 c κs =
    subst (λ (p : Placed). Inside c.args.hall.now c.args.desk.now p) c.in-Held.is
    c.requires

returns : tie.Need-returns-in-Refused
unfolding part
returns c =
    let args = c.args in
    c.piece.ensures ∙ sym (ap (λ (p : Placed). placed_bytes args.hall.now args.desk.now p)
    c.in-Refused.is)

returns_2 : tie.Need-returns-in-Own
returns_2 c =
    let args = c.args in
    c.piece-in-Own.ensures ∙ sym (ap (λ (p : Placed). placed_bytes args.hall.now args.desk.now p)
    c.in-Own.is)

returns_3 : tie.Need-returns-in-Held
returns_3 c =
    let args = c.args in
    c.piece-in-Held.ensures ∙ sym (ap (λ (p : Placed). placed_bytes args.hall.now args.desk.now p)
    c.in-Held.is)

returns_4 : tie.Need-returns-in-Nothing
unfolding part
returns_4 c =
    let args = c.args in
    c.piece-in-Nothing.ensures ∙ sym (ap (λ (p : Placed). placed_bytes args.hall.now args.desk.now p)
    c.in-Nothing.is)

pub lent_spec : {M : Type 1} → statement M
lent_spec =
    tie.close
    (tie.spec
    (λ c. search rules)
    (λ c κs. search rules)
    (λ c. search rules)
    piece_requires_2
    (λ c. search rules)
    piece_requires_3
    (λ c. search rules)
    (λ c κs. search rules)
    returns
    returns_2
    returns_3
    returns_4)
