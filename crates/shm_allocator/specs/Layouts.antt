-- Requests that are looked at.
use Rattle.std.specs.Prelude.{◌≡◌, ℕ, Result, MatchResult}
use Rattle.shm_allocator.specs.Numbers.{Valid}
use Rattle.shm_allocator.specs.declared.layout.Layout.{Layout}
use Rattle.shm_allocator.specs.declared.layout.ValidLayout.{ValidLayout}
use Rattle.shm_allocator.specs.declared.layout.validation.BadLayout.{BadLayout}

-- The number of a request that breaks the rules.
abbrev pub bad_layout_number : BadLayout → ℕ
bad_layout_number e = 1

-- A request is accepted with its own numbers exactly where it keeps the rules.
abbrev pub Validates : Layout → Result ValidLayout BadLayout → Type 0
Validates l r = MatchResult r (λ v. Valid l.size l.align × (v.size ≡ l.size) × (v.align ≡ l.align)) (λ _. Valid l.size l.align → ⊥)
