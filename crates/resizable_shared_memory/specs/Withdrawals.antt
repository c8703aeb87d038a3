-- What becomes of the segments of a table that are needed no further.
use Rattle.std.specs.Prelude.{◌≡◌, ℕ, ◌-◌, ◌<◌, ◌≤◌, Bool, ◌⊎◌, List, [], ◌∷◌, Some, None, Option, Result, ◌≢◌}
use Rattle.shared_memory.specs.declared.fault.BadHandle.{BadHandle}
use Rattle.shared_memory.specs.Meaning.{Store, Withdraws}
use Rattle.resizable_shared_memory.specs.Places.{place_of, Numbers}
use Rattle.resizable_shared_memory.specs.declared.table.Place.{Place}
use Rattle.resizable_shared_memory.specs.declared.table.Table.{Table}

-- The segment under a handle was withdrawn, or was not there to withdraw.
abbrev pub Withdrawn : Store → ℕ → Store → Type 0
Withdrawn s h t = (r : Result Bool BadHandle) × Withdraws s h r t

-- The mapped place `old` was left, and is now p: without a chunk its segment is withdrawn, with one it stays.
abbrev pub Vacates : Place → Option Place → Store → Store → Type 0
Vacates old p s t = ((old.count ≡ 0) × (p ≡ None) × Withdrawn s old.handle t) ⊎ ((1 ≤ old.count) × (p ≡ Some old) × (t ≡ s))

-- The place of the id k was left.
pub record Leaves (t : Table) (k : ℕ) (s : Store) (u : Table) (r : Store) : Type 0 where
  pub old : Place
  pub was : place_of t k ≡ Some old
  pub vacates : Vacates old (place_of u k) s r
  pub others : (j : ℕ) → (j ≢ k) → place_of u j ≡ place_of t j

-- A mapped place after a chunk of its segment came back: withdrawn with the last chunk, unless it is current, or
-- with a count that is one less.
abbrev pub Lowered : Place → Type 0 → Option Place → Store → Store → Type 0
Lowered old IsCurrent p s t =
    ((old.count ≡ 1) × (IsCurrent → ⊥) × (p ≡ None) × Withdrawn s old.handle t)
    ⊎ (((1 < old.count) ⊎ IsCurrent) × (t ≡ s) × ((q : Place) × (p ≡ Some q) × Numbers q old.handle old.address old.bucket_size (old.count - 1)))

-- A chunk of the segment of the id k came back, while the segment of the id c is current.
pub record Lowers (t : Table) (c k : ℕ) (s : Store) (u : Table) (r : Store) : Type 0 where
  pub old : Place
  pub was : place_of t k ≡ Some old
  pub lowered : Lowered old (k ≡ c) (place_of u k) s r
  pub others : (j : ℕ) → (j ≢ k) → place_of u j ≡ place_of t j

-- What is done to one handle after the other.
pub data InTurn (Does : Store → ℕ → Store → Type 0) : List ℕ → Store → Store → Type 0 where
  none_left : {s : Store} → InTurn Does [] s s
  next : {h : ℕ} {hs : List ℕ} {s t u : Store} → Does s h t → InTurn Does hs t u → InTurn Does (h ∷ hs) s u

-- The segments under a list of handles are withdrawn, one after the other.
abbrev pub WithdrawsAll : List ℕ → Store → Store → Type 0
WithdrawsAll = InTurn Withdrawn
