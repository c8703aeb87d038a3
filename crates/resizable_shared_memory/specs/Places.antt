-- The places of a table.
use Rattle.std.specs.Prelude.{◌≡◌, ℕ, ◌+◌, ◌<◌, ◌≤◌, true, false, List, [], ◌∷◌, is_some, Some, None, Option, ◌≢◌, slice_index_or}
use Rattle.resizable_shared_memory.specs.declared.table.Place.{Place}
use Rattle.resizable_shared_memory.specs.declared.table.Table.{Table}

-- The place of an id.
abbrev pub place_of : Table → ℕ → Option Place
place_of t k = slice_index_or t.places k None

-- The handles of the mapped places, in the order of their ids.
abbrev pub handles : List (Option Place) → List ℕ
handles [] = []
handles (None ∷ ps) = handles ps
handles (Some p ∷ ps) = p.handle ∷ handles ps

-- How many places are mapped.
abbrev pub active : List (Option Place) → ℕ
active [] = 0
active (None ∷ ps) = active ps
active (Some p ∷ ps) = active ps + 1

-- The numbers of a mapped place.
abbrev pub Numbers : Place → ℕ → ℕ → ℕ → ℕ → Type 0
Numbers p handle address bucket count = (p.handle ≡ handle) × (p.address ≡ address) × (p.bucket_size ≡ bucket) × (p.count ≡ count)

-- The count of a place, 0 where it is empty.
abbrev pub count_of : Option Place → ℕ
count_of None = 0
count_of (Some p) = p.count

-- Nothing is mapped above the id k.
abbrev pub Ahead : Table → ℕ → Type 0
Ahead t k = (j : ℕ) → k < j → is_some (place_of t j) ≡ false

-- A mapped place that is not that of the id k counts something.
abbrev pub Busy : Table → ℕ → Type 0
Busy t k = (j : ℕ) → (j ≢ k) × (is_some (place_of t j) ≡ true) → 1 ≤ count_of (place_of t j)

-- The table u is t, but for the place of the id k, which is p.
pub record Put (t : Table) (k : ℕ) (p : Option Place) (u : Table) : Type 0 where
  pub here : place_of u k ≡ p
  pub others : (j : ℕ) → (j ≢ k) → place_of u j ≡ place_of t j
