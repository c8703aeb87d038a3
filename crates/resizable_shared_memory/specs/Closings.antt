-- What becomes of the maps of a table that are needed no further.
use Rattle.std.specs.Prelude.{ℕ, Bool, List, Result}
use Rattle.shared_memory.specs.declared.fault.BadHandle.{BadHandle}
use Rattle.shared_memory.specs.Meaning.{Store, Closes}
use Rattle.resizable_shared_memory.specs.Withdrawals.{InTurn}

-- A map of the segment under a handle was taken, or there was none to take.
abbrev pub Closed : Store → ℕ → Store → Type 0
Closed s h t = (r : Result Bool BadHandle) × Closes s h r t

-- A map under each of a list of handles is taken, one after the other.
abbrev pub ClosesAll : List ℕ → Store → Store → Type 0
ClosesAll = InTurn Closed
