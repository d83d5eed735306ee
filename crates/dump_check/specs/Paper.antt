-- What the check's answers say: the refusal's number and offset (docs/RULES.md, 7).
use Rattle.std.specs.Prelude.{Result, Ok, Err}
use Rattle.model.specs.Calls.{Answer, faulty, done}
use Rattle.dump_fields.specs.Machine.{fault_number}
use Rattle.dump_check.specs.declared.Faulty.{Faulty}

abbrev pub paper_checked : Result (Unit {0}) Faulty → Answer
paper_checked (Ok u) = done
paper_checked (Err f) = faulty (fault_number f.fault) f.at
