-- The numbers of the denials of a new store.
use Rattle.std.specs.Prelude.{ℕ, Some, None, Option}
use Rattle.shared_memory.specs.declared.fault.NotEmpty.{NotEmpty}
use Rattle.shared_memory.specs.declared.fault.StoreError.{StoreError}
use Rattle.shared_memory.specs.declared.fault.StoreError.TheVariants.{BadStore, OutOfMemory}

-- The number of a bad store; want of memory has none.
abbrev pub store_number : StoreError → Option ℕ
store_number BadStore = Some 6
store_number OutOfMemory = None

-- The number of a store that is not empty.
abbrev pub not_empty_number : {S : Type 0} → NotEmpty S → ℕ
not_empty_number e = 6

-- Why a store that owns its memory is not made: its shape is not good, or it is and memory is wanting.
abbrev pub StoreDenied : Type 0 → StoreError → Type 0
StoreDenied Good BadStore = Good → ⊥
StoreDenied Good OutOfMemory = Good
