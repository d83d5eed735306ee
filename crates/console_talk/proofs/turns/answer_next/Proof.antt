-- What `answer` says behind `said` is within what is left of the output; without a whole line nothing is used.
use Prim.Native.Nat.{ℕ, ◌+◌, ◌-◌, ◌≤◌}
use native.Mathlib.Omega.{arith}
use borrow.Author.Rules.{rules}
use lib.ListN.{length, take, drop, length-take, length-drop}
use Rattle.model.specs.Bytes.{Bytes}
use Rattle.console_talk.proofs.turns.answer_next.Statement.{statement}
use Rattle.console_talk.proofs.turns.answer_next.Tie as tie

abbrev answered : tie.After-slice_known-8-1 → tie.After-answer-more
answered c = c.before.before.before.before.before.before.before.before

-- what is said behind `said`, within what is left, is within the room
behind : (out : Bytes) (said n more : ℕ) → said ≤ length out → more ≤ length (take n (drop said out))
    → said + more ≤ length out
behind out said n more h k = omega (arith, simp (length-take, length-drop) at k)

line_at_requires : tie.Need-line_at-place-requires
line_at_requires c κs = search rules

returns : tie.Need-returns-then-place-used
returns c = search rules

sub_line : tie.Need-slice_bounds-line-count
sub_line c = search rules

part_line_start : tie.Need-slice_bounds-line-start
part_line_start c = search rules

part_line_end : tie.Need-slice_bounds-line-end
part_line_end c = search rules

asks_for_end_requires : tie.Need-asks_for_end-requires
asks_for_end_requires c κs = search rules

returns_2 : tie.Need-returns-then-asks_for_end
returns_2 c = search rules

sub_answer : tie.Need-slice_bounds-answer-count
sub_answer c = search rules

part_answer_start : tie.Need-slice_bounds-answer-start
part_answer_start c = search rules

part_answer_end : tie.Need-slice_bounds-answer-end
part_answer_end c = search rules

answer_requires : tie.Need-answer-more-requires
answer_requires c κs = search rules

add_t15 : tie.Need-overflow_add-result
add_t15 c = search rules

same_length : tie.Need-shape_of-hall
same_length c = (answered c).answer-more.auto.hall

same_length_2 : tie.Need-shape_of-desk
same_length_2 c = (answered c).answer-more.auto.desk

same_length_3 : tie.Need-shape_of-spare
same_length_3 c = (answered c).answer-more.auto.spare

same_length_4 : tie.Need-shape_of-out
same_length_4 c = search rules

returns_3 : tie.Need-returns
returns_3 c =
    let at-line-at = (answered c).before.before.before.before.before.before.before.before.before.before in (
      at-line-at.line_at-place.ensures.next,
      record {
        used = at-line-at.line_at-place.ensures.rest;
        said = behind at-line-at.args.out.now
            at-line-at.args.done.said (length at-line-at.args.out.now - at-line-at.args.done.said) _
            at-line-at.requires.said (answered c).answer-more.ensures;
      },
    )

pub answer_next_spec : {M : Type 1} → statement M
answer_next_spec =
    tie.close
    (tie.spec
    line_at_requires
    returns
    sub_line
    part_line_start
    part_line_end
    asks_for_end_requires
    returns_2
    sub_answer
    part_answer_start
    part_answer_end
    answer_requires
    add_t15
    same_length
    same_length_2
    same_length_3
    same_length_4
    returns_3)
