-- What a ledger lists, and what its counts say of a table.
use Rattle.std.specs.Prelude.{◌≡◌, ℕ, ◌<◌, List, map, length, Some}
use Rattle.std.specs.List.{remove}
use Rattle.resizable_shared_memory.specs.Entries.{Entry, entry, entry_at, find, without, tally}
use Rattle.resizable_shared_memory.specs.Places.{place_of, count_of}
use Rattle.resizable_shared_memory.specs.declared.ledger.Held.{Held}
use Rattle.resizable_shared_memory.specs.declared.ledger.Ledger.{Ledger}
use Rattle.resizable_shared_memory.specs.declared.table.Table.{Table}

-- The chunks in a ledger, the oldest first.
abbrev pub entries_of : Ledger → List Entry
entries_of l = map entry l.entries.items

-- The chunk h, which has this value and this grant, stands at a place of a ledger.
pub record Lists (l : Ledger) (value grant at : ℕ) (h : Held) : Type 0 where
  pub within : at < length (entries_of l)
  pub here : entry_at (entries_of l) at ≡ entry h
  pub value_is : (entry h).value ≡ value
  pub grant_is : (entry h).grant ≡ grant
  pub found : find value grant (entries_of l) ≡ Some (entry h)
  pub rest : without value grant (entries_of l) ≡ remove (entries_of l) at

-- Each place counts the chunks of its segment.
abbrev pub Counted : Table → Ledger → Type 0
Counted t l = (k : ℕ) → count_of (place_of t k) ≡ tally k (entries_of l)
