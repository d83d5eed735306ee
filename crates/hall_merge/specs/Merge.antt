-- Hall memory midway in a commit: the known keys' writes are in it, then the new keys' too.
use Rattle.std.specs.Prelude.{ℕ, suc, ◌+◌, ◌-◌, ◌≤◌, ◌<◌, ◌≡◌, Bool, true, false, cond, List, [], ◌∷◌, ◌++◌, length, take, drop, replicate}
use Rattle.std.proofs.lemmas.List.Edits.{sets}
use Rattle.model.specs.Sizes.{max_key, last_number}
use Rattle.model.specs.Bytes.{Bytes}
use Rattle.model.specs.State.{Version, Entry, Write, Writes, version_count, add}
use Rattle.model.specs.Sound.{sound_writes}
use Rattle.model.specs.Calls.{new_keys}
use Rattle.memory.specs.Rows.{insert_at}
use Rattle.cells.specs.Rows.{place_of}
use Rattle.cells.specs.declared.rows.Place.{Place}
use Rattle.cells.specs.declared.rows.Place.TheVariants.{At, Before}
use Rattle.hall.specs.Layout.{Row, rows_of, newests_of, olders_of, keys_in, versions_in, key_rooms_in, version_rooms_in, hall_in, Sound}
use Rattle.hall.specs.Tables.{Shaped, no_version, row_keys, end_before}
use Rattle.desk.specs.Layout.{desks_in}
use Rattle.desk.specs.Shape as desk
use Rattle.hall_rows.specs.Held.{Holds}
use Rattle.hall_rows.specs.Runs.{Cell}
use Rattle.hall_sought.specs.Sought.{writes_in, Ready, Sought}

abbrev pub version_of : (number : ℕ) → Write → Version
version_of x w = record { number = x; payload = w.payload }

abbrev pub is_at : Place → Bool
is_at (At p) = true
is_at (Before p) = false

-- is the key of a write among ks?
abbrev pub is_known : (ks : List Bytes) → Write → Bool
is_known ks w = is_at (place_of w.key 0 ks)

unfoldable pub count_of : (Write → Bool) → Writes → ℕ
count_of f [] = 0
count_of f (w ∷ ws) = cond (f w) (suc (count_of f ws)) (count_of f ws)

-- the writes of which f holds, each as a version numbered x, from the last to the first
unfoldable pub adds : (Write → Bool) → (x : ℕ) → Writes → List Entry → List Entry
adds f x [] es = es
adds f x (w ∷ ws) es = cond (f w) (add w.key (version_of x w) (adds f x ws es)) (adds f x ws es)

-- what f makes of a write, put in before its place
abbrev pub insert_by : {A : Type 0} → Place → (f : (p : ℕ) → A) → List A → List A
insert_by (At p) f xs = xs
insert_by (Before p) f xs = insert_at p (f p) xs

-- for each write whose key is not among ks, from the last to the first
unfoldable pub inserts : {A : Type 0} → (ks : List Bytes) → (f : Write → (p : ℕ) → A) → Writes → List A → List A
inserts ks f [] xs = xs
inserts ks f (w ∷ ws) xs = insert_by (place_of w.key 0 ks) (f w) (inserts ks f ws xs)

abbrev pub row_for : List Row → Write → (p : ℕ) → Row
row_for rs w p = record { key = w.key; end = end_before 0 p rs }

-- ---- places that rise

abbrev pub row_by : Place → ℕ
row_by (At p) = p
row_by (Before p) = p

-- the first row after what is at a place
abbrev pub next_by : Place → ℕ
next_by (At p) = suc p
next_by (Before p) = p

-- the row of the first write, of n rows
abbrev pub start_of : (ks : List Bytes) → (n : ℕ) → Writes → ℕ
start_of ks n [] = n
start_of ks n (w ∷ ws) = row_by (place_of w.key 0 ks)

abbrev pub PlacesRise : (ks : List Bytes) → (n : ℕ) → Writes → Type 0
PlacesRise ks n [] = Unit {0}
PlacesRise ks n (w ∷ ws) = (next_by (place_of w.key 0 ks) ≤ start_of ks n ws) × PlacesRise ks n ws

-- ---- the two passes

-- what both ask of a hall memory m, of which only the form is known, and of desk d of n: r keys are new
pub record Passing (m n : Bytes) (d : ℕ) (at : List ℕ) (r : ℕ) : Type 0 where
  pub shaped : Shaped m
  pub desks : desk.Shaped n
  pub below : d < length (desks_in n)
  pub sought : Sought (row_keys (keys_in m)) (writes_in n d) at
  pub rising : PlacesRise (row_keys (keys_in m)) (length (keys_in m)) (writes_in n d)
  pub known : count_of (is_known (row_keys (keys_in m))) (writes_in n d) + r ≡ length (writes_in n d)

-- the pass of known keys begins in a sound memory, with room for all the writes
pub record PassingKnown (m n : Bytes) (d : ℕ) (at : List ℕ) (r : ℕ) : Type 0 where
  pub sound : Sound m
  pub pass : Passing m n d at r
  pub room : length (versions_in m) + length (writes_in n d) ≤ version_rooms_in m
  pub writes : sound_writes [] (writes_in n d) ≡ true

-- the pass of new keys has room for their rows, and finds their version rows free
pub record PassingNew (m n : Bytes) (d : ℕ) (at : List ℕ) (r : ℕ) : Type 0 where
  pub pass : Passing m n d at r
  pub key_room : length (keys_in m) + r ≤ key_rooms_in m
  pub rows : length (keys_in m) + r ≤ length (versions_in m)

-- version row p may take a cell c: its key's older rows end at `end`, and rows `end` up to `top` may go up by u
pub record Renewable (m : Bytes) (p end top u : ℕ) (c : Bytes) : Type 0 where
  pub shaped : Shaped m
  pub newest : p < end
  pub within : end ≤ top
  pub some : 1 ≤ u
  pub rows : top + u ≤ length (versions_in m)
  pub cell : Cell c

-- a key k with a cell c may go in before row p of both tables: rows p up to `top` may go up by u
pub record Enterable (m : Bytes) (p top u : ℕ) (k c : Bytes) : Type 0 where
  pub shaped : Shaped m
  pub within : p ≤ top
  pub some : 1 ≤ u
  pub key_rows : top + u ≤ length (keys_in m)
  pub rows : top + u ≤ length (versions_in m)
  pub key : length k ≤ max_key
  pub cell : Cell c

-- the entries of a sound hall memory m, with the writes of known keys
abbrev pub renewed : (m n : Bytes) (d x : ℕ) → List Entry
renewed m n d x = adds (is_known (row_keys (keys_in m))) x (writes_in n d) (hall_in m).entries

-- m became m₁: the known keys' writes are in it, and r rows are free before the older versions
abbrev pub Renewed : (m n : Bytes) (d x r : ℕ) (m₁ : Bytes) → Type 0
Renewed m n d x r m₁ =
    Holds m (rows_of 0 (renewed m n d x))
    (newests_of (renewed m n d x)
    ++ sets (olders_of (hall_in m).entries ++ replicate (length (writes_in n d)) no_version) r
    (olders_of (renewed m n d x))) m₁

-- m became m₁: the rows and versions of r new keys are in it
abbrev pub Entered : (m n : Bytes) (d x r : ℕ) (m₁ : Bytes) → Type 0
Entered m n d x r m₁ =
    Holds m (inserts (row_keys (keys_in m)) (row_for (keys_in m)) (writes_in n d) (keys_in m))
    (inserts (row_keys (keys_in m)) (λ w p. version_of x w) (writes_in n d) (take (length (keys_in m)) (versions_in m))
    ++ drop (length (keys_in m) + r) (versions_in m)) m₁

-- the writes of desk d may be published under number x, the next or a later one
pub record Publishable (m n : Bytes) (d x : ℕ) : Type 0 where
  pub ready : Ready m n d
  pub later : (hall_in m).counter < x
  pub low : x ≤ last_number
  pub writes : sound_writes [] (writes_in n d) ≡ true
  pub key_room : new_keys (writes_in n d) (hall_in m).entries ≤ (hall_in m).key_rooms - length (hall_in m).entries
  pub version_room : length (writes_in n d) ≤ (hall_in m).version_rooms - version_count (hall_in m).entries
