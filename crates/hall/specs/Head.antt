-- The header's numbers, as code reads them all at once.
use Rattle.std.specs.Prelude.{◌≡◌}
use Rattle.model.specs.Bytes.{Bytes}
use Rattle.hall.specs.declared.header.Head.{Head}
use Rattle.hall.specs.Layout.{key_rooms_in, version_rooms_in, counter_in, key_count_in, version_count_in, floor_in, desk_count_in}

-- h has the numbers in the header of m
pub record HeadIn (m : Bytes) (h : Head) : Type 0 where
  pub key_rooms : h.key_rooms ≡ key_rooms_in m
  pub version_rooms : h.version_rooms ≡ version_rooms_in m
  pub counter : h.counter ≡ counter_in m
  pub key_count : h.key_count ≡ key_count_in m
  pub version_count : h.version_count ≡ version_count_in m
  pub floor : h.floor ≡ floor_in m
  pub desk_count : h.desk_count ≡ desk_count_in m
