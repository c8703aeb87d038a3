-- What a way of placing segments keeps to.
use Rattle.std.specs.Prelude.{◌≡◌, ℕ, Some, None, slice_set}
use Rattle.shared_memory.specs.declared.table.Place.{Place}
use Rattle.shared_memory.specs.Extents.{Extents, Rule, occupied, Lie, FreePlace, Monotone, StillLeave}

-- `rule p` is the rule of placing of p, and `lays p es n` says that segments which were all placed by it lie as es in a
-- memory of n bytes. Then room is not lost when a segment ceases, and what is left lies so; the place that the rule chooses
-- is free; with a segment there what lies there lies so, and no segment is kept from leaving room when it ceases.
pub record Lawful {P : Type 0} (rule : P → Rule) (lays : P → Extents → ℕ → Type 0) : Type 0 where
  pub monotone : (p : P) → Monotone (rule p)
  pub ceased : (p : P) (es : Extents) (n h : ℕ) → ∥ lays p es n ∥₁ → ∥ lays p (slice_set es h None) n ∥₁
  pub free : (p : P) (es : Extents) (n size : ℕ) (q : Place) → ∥ lays p es n ∥₁ → rule p es size ≡ Some q → FreePlace es n q size
  pub placed : (p : P) (es : Extents) (n size : ℕ) (q : Place) → ∥ lays p es n ∥₁ → rule p es size ≡ Some q → ∥ lays p (occupied es q size) n ∥₁
  pub leaves : (p : P) (es : Extents) (n size : ℕ) (q : Place) → ∥ lays p es n ∥₁ → Lie es n → rule p es size ≡ Some q → StillLeave (rule p) es (occupied es q size)
