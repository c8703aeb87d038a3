-- The parts of a memory, by name.
use Rattle.std.specs.Prelude.{ℕ, List, Option}
use Rattle.shared_memory.specs.Names.{text}
use Rattle.resizable_shared_memory.specs.Entries.{Entry}
use Rattle.resizable_shared_memory.specs.Ledgers.{entries_of}
use Rattle.resizable_shared_memory.specs.Places.{place_of}
use Rattle.resizable_shared_memory.specs.declared.memory.DynamicMemory.{DynamicMemory}
use Rattle.resizable_shared_memory.specs.declared.table.Place.{Place}

module _ {A : Type 0} where
  -- The id of the current segment.
  abbrev pub current : DynamicMemory A → ℕ
  current m = m.tables.current.0

  -- The place of an id.
  abbrev pub place : DynamicMemory A → ℕ → Option Place
  place m k = place_of m.tables.table k

  -- The chunks that are held, the oldest first.
  abbrev pub chunks : DynamicMemory A → List Entry
  chunks m = entries_of m.tables.ledger

  -- How many allocations were accepted.
  abbrev pub given : DynamicMemory A → ℕ
  given m = m.tables.given

  -- The base name.
  abbrev pub base : DynamicMemory A → List ℕ
  base m = text m.tables.base
