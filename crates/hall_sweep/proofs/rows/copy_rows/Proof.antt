-- Keys and newest versions are copied by the same rows, so they stay in step.
use borrow.Author.Rules.{rules}
use Rattle.hall_sweep.proofs.Laws.Rows.{run_next, run_stored}
use Rattle.hall_sweep.proofs.rows.copy_rows.Statement.{statement}
use Rattle.hall_sweep.proofs.rows.copy_rows.Tie as tie

copy_keys_requires : tie.Need-copy_keys-requires
copy_keys_requires c κs =
    let f = c.requires in
    record { shaped = f.rows.shaped; low = f.low; start = f.start; end = f.end }

copy_versions_requires : tie.Need-copy_versions-requires
copy_versions_requires c κs =
    run_next c.requires c.copy_keys.ensures

returns : tie.Need-returns
returns c =
    run_stored c.requires c.copy_keys.ensures c.copy_versions.ensures

pub copy_rows_spec : {M : Type 1} → statement M
copy_rows_spec = tie.close (tie.spec copy_keys_requires copy_versions_requires (λ c. search rules) returns)
