-- Sweeps: the rule by which versions go, and what a rule leaves.
use Rattle.std.specs.Prelude.{ℕ, Bool, false, not, ◌&&◌, ◌||◌, cond, List, [], ◌∷◌, leb, ltb}
use Rattle.model.specs.Bytes.{Bytes}
use Rattle.model.specs.State.{Version, Chain, Entry, is_deletion}

-- does a version go that has these after it in its chain?
abbrev pub Rule : Type 0
Rule = Version → (later : Chain) → Bool

-- is some reader at or above lo and below hi?
unfoldable pub is_read : (lo hi : ℕ) → (readers : List ℕ) → Bool
is_read lo hi [] = false
is_read lo hi (t ∷ ts) = (leb lo t && ltb t hi) || is_read lo hi ts

-- is hi at or below c, with no reader at or above lo and below hi?
unfoldable pub is_clear : (c : ℕ) → (readers : List ℕ) → (lo hi : ℕ) → Bool
is_clear c ts lo hi = not (is_read lo hi ts) && leb hi c

-- is all clear from a version to the next?
unfoldable pub is_covered : (c : ℕ) → (readers : List ℕ) → Rule
is_covered c ts v [] = false
is_covered c ts v (w ∷ ws) = is_clear c ts v.number w.number

-- up to c, and sparing these readers, a version goes if the next covers it, or if it is a deletion and all is clear
-- below it: the versions before it are covered then. A cutoff has no open start below it: its sweep spares none by name
unfoldable pub goes : (c : ℕ) → (readers : List ℕ) → Rule
goes c ts v vs = is_covered c ts v vs || (is_deletion v.payload && is_clear c ts 0 v.number)

-- what a rule leaves of a chain; it goes by the chain before the sweep
unfoldable pub trim : Rule → Chain → Chain
trim g [] = []
trim g (v ∷ vs) = cond (g v vs) (trim g vs) (v ∷ trim g vs)

-- a key and its versions before others: "a key left with no version goes"
unfoldable pub with_chain : Bytes → Chain → List Entry → List Entry
with_chain k [] es = es
with_chain k (v ∷ vs) es = record { key = k; chain = v ∷ vs } ∷ es

unfoldable pub trim_all : Rule → List Entry → List Entry
trim_all g [] = []
trim_all g (e ∷ es) = with_chain e.key (trim g e.chain) (trim_all g es)
