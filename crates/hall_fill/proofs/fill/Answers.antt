-- An accepted dump is the dump of the hall that it says, and its fields stored over zeros are that hall's bytes.
use Rattle.std.proofs.Common.{rules, arith}
use Rattle.memory.proofs.Laws.Numbers.{are_bytes_of}
use Rattle.hall.proofs.Laws.Halls.{few_rooms}
use Rattle.hall_fill.proofs.Laws.Loaded.{load_filled}
use Rattle.hall_fill.proofs.fill.Goals as goal

pub needed_length-n-requires : goal.needed_length-n-requires
needed_length-n-requires c = search (rules, few_rooms)

pub fill_rows-requires : goal.fill_rows-requires
fill_rows-requires c = omega (arith, few_rooms _ _ _ c.requires.0)

pub returns : goal.returns
returns c =
    λ h q r e.
    load_filled _ _ _ _ _ h q r (are_bytes_of _ (λ i. omega (arith, c.type_inv.dump i)))
    c.requires.0 e c.requires.1 c.needed_length-n.ensures c.clear.ensures c.fill_rows.ensures
