-- Hall memory filled with a dump's fields, each at its place as it comes, and the header last.
use Rattle.std.specs.Prelude.{ℕ, ◌-◌, [], Ok}
use Rattle.std.proofs.lemmas.List.Edits.{sets}
use Rattle.model.specs.Bytes.{Bytes}
use Rattle.hall.specs.Layout.{head_numbers}
use Rattle.dump_fields.specs.Drive.{Taker, drive}
use Rattle.dump_fields.specs.Machine.{said, width_of, known_after, phase_after, begun}
use Rattle.dump_fields.specs.declared.machine.Phase.{Phase}
use Rattle.dump_fields.specs.declared.machine.Phase.TheVariants.{Magic}
use Rattle.dump_fields.specs.declared.machine.Loader.{Loader}
use Rattle.hall_place.specs.declared.Rows.{Rows}
use Rattle.hall_place.specs.Placing.{rows_by, end_of, target_of, stored}

pub record Filling : Type 0 where
  pub phase : Phase
  pub known : Loader
  pub rows : Rows
  pub memory : Bytes

-- after a field f that says n
abbrev pub after : (key_rooms : ℕ) → Filling → (n : ℕ) → (f : Bytes) → Filling
after ks x n f =
    let p : Phase = x.phase in
    let s : Loader = known_after p x.known n in
    let g : Rows = rows_by p x.rows in
    record {
      phase = phase_after p s n;
      known = s;
      rows = g;
      memory = stored (target_of ks p s g) (end_of g n) x.memory f;
    }

abbrev pub filler : (key_rooms version_rooms desks : ℕ) → Taker Filling Bytes
filler ks vs ds = record {
  width = λ x. width_of x.phase;
  takes = λ x f. Ok (after ks x (said f) f);
  ends = λ x. sets x.memory 0
      (head_numbers ks vs (x.known.next - 1) x.rows.keys x.rows.versions (x.known.next - 1) ds);
}

-- the memory m filled with the dump x
unfoldable pub filled : (key_rooms version_rooms desks : ℕ) → (m x : Bytes) → Bytes
filled ks vs ds m x =
    drive (filler ks vs ds) (record {
      phase = Magic;
      known = begun ks vs;
      rows = record { keys = 0; versions = 0 };
      memory = m;
    }) [] x
