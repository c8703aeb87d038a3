-- What a memory's tables do in one step.
use Rattle.std.specs.Prelude.{◌≡◌, ℕ, ◌+◌, List, [], ◌∷◌, ◌++◌, Some, None, Option, ◌≢◌}
use Rattle.pointer_offset.specs.Packing.{packed, id_of}
use Rattle.shared_memory.specs.Meaning.{Store}
use Rattle.shared_memory.specs.Names.{text}
use Rattle.shm_allocator.specs.declared.AllocationStrategy.{AllocationStrategy}
use Rattle.resizable_shared_memory.specs.Entries.{Entry, entry, find, without}
use Rattle.resizable_shared_memory.specs.Ledgers.{entries_of}
use Rattle.resizable_shared_memory.specs.Places.{place_of, Numbers}
use Rattle.resizable_shared_memory.specs.Withdrawals.{Vacates, Lowers}
use Rattle.resizable_shared_memory.specs.declared.ledger.Held.{Held}
use Rattle.resizable_shared_memory.specs.declared.memory.Chunk.{Chunk}
use Rattle.resizable_shared_memory.specs.declared.memory.Tables.{Tables}
use Rattle.resizable_shared_memory.specs.declared.table.Place.{Place}

-- What no step changes.
pub record Kept (m n : Tables) : Type 0 where
  pub base : n.base ≡ m.base
  pub strategy : n.strategy ≡ m.strategy
  pub management : n.management ≡ m.management

-- The tables of a memory of that name with one segment, of the id 0 and at that place, and no chunk.
pub record Begins (name : List ℕ) (way : AllocationStrategy) (management : ℕ) (place : Place) (n : Tables) : Type 0 where
  pub name_is : text n.base ≡ name
  pub strategy : n.strategy ≡ way
  pub management_is : n.management ≡ management
  pub first : n.current.0 ≡ 0
  pub is : place_of n.table 0 ≡ Some place
  pub others : (k : ℕ) → (k ≢ 0) → place_of n.table k ≡ None
  pub none_held : entries_of n.ledger ≡ []
  pub none_given : n.given ≡ 0

-- The start o in the current segment became a chunk, for which `size` bytes were asked.
pub record Enters (m : Tables) (o size : ℕ) (c : Chunk) (n : Tables) : Type 0 where
  pub there : Place
  pub was : place_of m.table m.current.0 ≡ Some there
  pub value : c.claim.offset.0 ≡ packed o m.current.0
  pub address : c.address ≡ there.address + o
  pub grant : c.claim.grant ≡ m.given + 1
  pub grants : n.given ≡ m.given + 1
  pub ledger : entries_of n.ledger ≡ entries_of m.ledger ++ ((record { value = c.claim.offset.0; grant = c.claim.grant; size = size }) ∷ [])
  pub counted : Place
  pub is_counted : place_of n.table m.current.0 ≡ Some counted
  pub numbers : Numbers counted there.handle there.address there.bucket_size (there.count + 1)
  pub others : (k : ℕ) → (k ≢ m.current.0) → place_of n.table k ≡ place_of m.table k
  pub stays : n.current.0 ≡ m.current.0
  pub kept : Kept m n

-- The next segment, which is at that place, became current, and the one before was left.
pub record Advances (m : Tables) (s : Store) (place : Place) (n : Tables) (t : Store) : Type 0 where
  pub next : n.current.0 ≡ m.current.0 + 1
  pub old : Place
  pub old_there : place_of m.table m.current.0 ≡ Some old
  pub leaves : Vacates old (place_of n.table m.current.0) s t
  pub new_there : place_of n.table n.current.0 ≡ Some place
  pub others : (k : ℕ) → (k ≢ m.current.0) → (k ≢ n.current.0) → place_of n.table k ≡ place_of m.table k
  pub ledger : entries_of n.ledger ≡ entries_of m.ledger
  pub grants : n.given ≡ m.given
  pub kept : Kept m n

-- The chunk c, which was held, left the ledger, and its segment counts one less.
pub record Releases (m : Tables) (s : Store) (c : Entry) (n : Tables) (t : Store) : Type 0 where
  pub lowers : Lowers m.table m.current.0 (id_of c.value) s n.table t
  pub ledger : entries_of n.ledger ≡ without c.value c.grant (entries_of m.ledger)
  pub grants : n.given ≡ m.given
  pub stays : n.current.0 ≡ m.current.0
  pub kept : Kept m n

-- What the wish to release a chunk comes to.
abbrev pub ReleasesHeld : ℕ → ℕ → Tables → Store → Option Held → Tables → Store → Type 0
ReleasesHeld value grant m s None n t = (find value grant (entries_of m.ledger) ≡ None) × (n ≡ m) × (t ≡ s)
ReleasesHeld value grant m s (Some h) n t = (find value grant (entries_of m.ledger) ≡ Some (entry h)) × Releases m s (entry h) n t

-- A held chunk with the place of its segment, or that there is none.
abbrev pub Reaches : ℕ → ℕ → Tables → Option (Held × Place) → Type 0
Reaches value grant m None = find value grant (entries_of m.ledger) ≡ None
Reaches value grant m (Some f) = (find value grant (entries_of m.ledger) ≡ Some (entry f.0)) × (place_of m.table (id_of value) ≡ Some f.1)
