-- Held chunks, as a ledger lists them.
use Rattle.std.specs.Prelude.{ℕ, ◌+◌, ◌<◌, ◌≤◌, Bool, cond, ◌&&◌, List, [], ◌∷◌, length, Some, None, Option, ◌==◌, slice_index_or}
use Rattle.pointer_offset.specs.Packing.{packed, id_of}
use Rattle.resizable_shared_memory.specs.declared.ledger.Held.{Held}

-- A held chunk: its packed value, its grant and the size that was asked.
pub record Entry : Type 0 where
  pub value : ℕ
  pub grant : ℕ
  pub size : ℕ

-- A held chunk as an entry.
abbrev pub entry : Held → Entry
entry c = record { value = packed c.start c.segment.0; grant = c.grant; size = c.size }

-- What is read past the last entry.
abbrev pub no_entry : Entry
no_entry = record { value = 0; grant = 0; size = 0 }

-- The entry at a place of a list.
abbrev pub entry_at : List Entry → ℕ → Entry
entry_at es i = slice_index_or es i no_entry

-- The grants rise from each entry to the next.
abbrev pub Rises : List Entry → Type 0
Rises es = (i j : ℕ) → (i < j) × (j < length es) → (entry_at es i).grant < (entry_at es j).grant

-- No entry has a grant above g.
abbrev pub GrantedUpTo : List Entry → ℕ → Type 0
GrantedUpTo es g = (i : ℕ) → i < length es → (entry_at es i).grant ≤ g

-- Whether an entry has this value and this grant.
abbrev pub matches : ℕ → ℕ → Entry → Bool
matches value grant c = c.value == value && c.grant == grant

-- The entry with this value and this grant, if there is one.
abbrev pub find : ℕ → ℕ → List Entry → Option Entry
find value grant [] = None
find value grant (c ∷ cs) = cond (matches value grant c) (Some c) (find value grant cs)

-- The entries without the one of this value and this grant.
abbrev pub without : ℕ → ℕ → List Entry → List Entry
without value grant [] = []
without value grant (c ∷ cs) = cond (matches value grant c) cs (c ∷ without value grant cs)

-- How many of the chunks lie in the segment of the id k.
abbrev pub tally : ℕ → List Entry → ℕ
tally k [] = 0
tally k (c ∷ cs) = cond (id_of c.value == k) 1 0 + tally k cs
