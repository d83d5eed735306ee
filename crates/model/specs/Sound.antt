-- Sound states (docs/RULES.md, 3.2 and 3.3).
use Rattle.std.specs.Prelude.{ℕ, Bool, true, false, not, ◌&&◌, ◌||◌, List, [], ◌∷◌, length, leb, ltb, eqb}
use Rattle.model.specs.Sizes.{max_key, first_printable, last_printable, max_value, max_key_rooms, max_version_rooms, max_desks, max_writes, last_number}
use Rattle.model.specs.Bytes.{Bytes, are_bytes, order, is_less}
use Rattle.model.specs.State.{Payload, deletion, content, Chain, Entry, Hall, Writes, Desk, free, taken, Store, is_some, version_count, writes_of}

abbrev pub within : (lo hi x : ℕ) → Bool
within lo hi x = leb lo x && leb x hi

-- every test of a list holds
unfoldable pub every : List Bool → Bool
every [] = true
every (b ∷ bs) = b && every bs

-- a printable byte, the space left out
abbrev pub is_printable : ℕ → Bool
is_printable b = within first_printable last_printable b

unfoldable pub are_printable : Bytes → Bool
are_printable [] = true
are_printable (b ∷ bs) = is_printable b && are_printable bs

-- a good key: its length, then its bytes
unfoldable pub key_fits : Bytes → Bool
key_fits k = within 1 max_key (length k) && are_printable k

-- a value's length
unfoldable pub value_fits : Bytes → Bool
value_fits v = leb (length v) max_value

unfoldable pub sizes_fit : (key_rooms version_rooms desks : ℕ) → Bool
sizes_fit ks vs ds = within 1 max_key_rooms ks && (within 1 max_version_rooms vs && within 1 max_desks ds)

unfoldable pub sound_payload : Payload → Bool
sound_payload deletion = true
sound_payload (content b) = value_fits b && are_bytes b

-- ---- the hall

-- numbers strictly ascend, above `last` and at most `top`
unfoldable pub sound_chain : (last top : ℕ) → Chain → Bool
sound_chain last top [] = true
sound_chain last top (v ∷ vs) =
    every (ltb last v.number ∷ leb v.number top ∷ sound_payload v.payload ∷ sound_chain v.number top vs ∷ [])

-- keys strictly ascend, above `last`, and each has a version
unfoldable pub sound_entries : (last : Bytes) (top : ℕ) → List Entry → Bool
sound_entries last top [] = true
sound_entries last top (e ∷ es) =
    every
    (is_less (order last e.key) ∷ key_fits e.key ∷ leb 1 (length e.chain) ∷ sound_chain 0 top e.chain
    ∷ sound_entries e.key top es ∷ [])

unfoldable pub sound_hall : Hall → Bool
sound_hall h =
    every
    (sizes_fit h.key_rooms h.version_rooms h.desk_count ∷ leb h.counter last_number
    ∷ sound_entries [] h.counter h.entries ∷ leb (length h.entries) h.key_rooms
    ∷ leb (version_count h.entries) h.version_rooms ∷ leb h.floor h.counter ∷ [])

-- ---- the desks beside a hall

-- some version has the number t
unfoldable pub in_chain : ℕ → Chain → Bool
in_chain t [] = false
in_chain t (v ∷ vs) = eqb v.number t || in_chain t vs

unfoldable pub is_number : ℕ → List Entry → Bool
is_number t [] = false
is_number t (e ∷ es) = in_chain t e.chain || is_number t es

-- writes strictly ascend by key, above `last`
unfoldable pub sound_writes : (last : Bytes) → Writes → Bool
sound_writes last [] = true
sound_writes last (w ∷ ws) =
    every (is_less (order last w.key) ∷ key_fits w.key ∷ sound_payload w.payload ∷ sound_writes w.key ws ∷ [])

-- each open desk's start is from 1 to the counter, no version's number, and no later desk's start
unfoldable pub sound_open : Hall → List Desk → Bool
sound_open h [] = true
sound_open h (free ∷ ds) = sound_open h ds
sound_open h (taken x ∷ ds) =
    every
    (within 1 h.counter x.start ∷ not (is_number x.start h.entries) ∷ not (is_some (writes_of x.start ds))
    ∷ leb (length x.writes) max_writes ∷ sound_writes [] x.writes ∷ sound_open h ds ∷ [])

unfoldable pub sound_desks : Hall → List Desk → Bool
sound_desks h ds = eqb (length ds) h.desk_count && sound_open h ds

unfoldable pub sound : Store → Bool
sound s = sound_hall s.hall && sound_desks s.hall s.desks
