-- Testing the keys from row i on after the last one comes to testing all.
use Rattle.std.proofs.Common.{◌≡◌, [], drop}
use Rattle.cells.specs.Keys.{all_follow}
use Rattle.cells.specs.Rows.{keys_at}
use Rattle.cells.proofs.rows.all_follow.Given as goal

abbrev pub invariant-loop-i : goal.invariant-loop-i
invariant-loop-i l = all_follow l.last (drop l.i (keys_at l.m l.at l.w l.n)) ≡ all_follow [] (keys_at l.m l.at l.w l.n)
