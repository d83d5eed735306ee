-- The rows that stay are the first ones; the older versions move down behind them, and both tables are cut.
use borrow.Author.Rules.{rules}
use Rattle.hall_sweep.proofs.Laws.Rows.{rows_fit_lem, kept_shaped, move_fits, keys_cuttable, versions_cuttable, all_closed}
use Rattle.hall_sweep.proofs.rows.close.Statement.{statement}
use Rattle.hall_sweep.proofs.rows.close.Tie as tie

keep_rows_requires : tie.Need-keep_rows-kept-requires
keep_rows_requires c κs = rows_fit_lem c.requires c.key_count-n.ensures

version_count_requires : tie.Need-version_count-count-requires
version_count_requires c κs =
    kept_shaped (rows_fit_lem c.requires c.key_count-n.ensures) c.keep_rows-kept.ensures

copy_versions_requires : tie.Need-copy_versions-left-requires
copy_versions_requires c κs =
    move_fits (rows_fit_lem c.requires c.key_count-n.ensures) c.keep_rows-kept.ensures
    c.version_count-count.ensures

keys_cut_requires : tie.Need-cut-requires
keys_cut_requires c κs =
    keys_cuttable (rows_fit_lem c.requires c.key_count-n.ensures) c.keep_rows-kept.ensures
    c.version_count-count.ensures c.copy_versions-left.ensures

versions_cut_requires : tie.Need-cut-requires-2
versions_cut_requires c κs =
    versions_cuttable (rows_fit_lem c.requires c.key_count-n.ensures) c.keep_rows-kept.ensures
    c.version_count-count.ensures c.copy_versions-left.ensures c.cut.ensures

returns : tie.Need-returns
returns c =
    all_closed (rows_fit_lem c.requires c.key_count-n.ensures) c.keep_rows-kept.ensures
    c.version_count-count.ensures c.copy_versions-left.ensures c.cut.ensures c.cut-2.ensures

pub close_spec : {M : Type 1} → statement M
close_spec =
    tie.close
    (tie.spec
    (λ c κs. c.requires.shaped)
    keep_rows_requires
    version_count_requires
    copy_versions_requires
    keys_cut_requires
    versions_cut_requires
    (λ c. search rules)
    returns)
