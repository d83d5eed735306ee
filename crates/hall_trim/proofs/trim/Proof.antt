-- The first i keys are trimmed, their older versions packed up to end w; from end `from` on all is as it was.
use mathlib.Core.Path.{sym, ◌∙◌}
use Prim.Native.Nat.{◌-◌}
use native.Mathlib.Omega.{arith}
use Rattle.model.specs.Sweeps.{goes}
use Rattle.hall.proofs.Laws.Sound.{sound_shaped}
use Rattle.hall_rows.proofs.Laws.Held.{holds_length}
use Rattle.hall_trim.proofs.Laws.Walk.{Walking, walk_start, walk_shaped, count_now, walk_row, walk_fits, walk_step, cut_fits, walk_end}
use Rattle.hall_trim.proofs.trim.Statement.{statement}
use Rattle.hall_trim.proofs.trim.Tie as tie

abbrev invariant_loop : tie.invariant-loop-i
invariant_loop m₀ cutoff clear starts n from₀ w₀ i₀ m from w i = Walking m₀ (goes cutoff starts) n m from w i

abbrev decreases_loop : tie.decreases-loop-i
decreases_loop m₀ cutoff clear starts n from₀ w₀ i₀ m from w i = n - i

sweep_key_requires : tie.Need-sweep_key-w-requires invariant_loop decreases_loop
sweep_key_requires c κs =
    let g = c.loop-i.invariant in
    record {
      fits = walk_fits g (omega arith) _ c.end_at-to.ensures;
      count = sym (count_now g (omega arith));
      readers = c.requires.1;
    }

loop_again : tie.Need-loop-i-preserved invariant_loop decreases_loop
loop_again c =
    walk_step c.loop-i.invariant (omega arith) _ c.end_at-to.ensures c.sweep_key-w.ensures

add_cut : tie.Need-overflow_add-n invariant_loop decreases_loop
add_cut c =
    let g = c.loop-i.invariant in
    let s = (walk_shaped g).good in
    omega (arith, cut_fits g, s.versions_fit, s.few_versions)

same_length : tie.Need-shape_of-m invariant_loop decreases_loop
same_length c =
    let g = c.loop-i.invariant in
    holds_length _ (walk_shaped g) c.cut.ensures ∙ holds_length _ (sound_shaped _ g.sound) g.holds

pub trim_spec : {M : Type 1} → statement M
trim_spec =
    tie.close
    (tie.spec
    invariant_loop
    decreases_loop
    (λ c κs. sound_shaped _ c.requires.0)
    (λ c. walk_start c.requires.0 c.key_count-n.ensures)
    (λ c κs. let g = c.loop-i.invariant in (walk_shaped g, walk_row g (omega arith)))
    sweep_key_requires
    (λ c. omega arith)
    (λ c. omega arith)
    loop_again
    add_cut
    (λ c κs. let g = c.loop-i.invariant in (walk_shaped g, omega (arith, cut_fits g)))
    same_length
    (λ c. walk_end c.loop-i.invariant (omega arith) c.cut.ensures))
