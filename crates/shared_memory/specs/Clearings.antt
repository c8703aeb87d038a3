-- Which bytes of a memory no segment has.
use Rattle.std.specs.Prelude.{◌≡◌, ℕ, ◌+◌, ◌<◌, Bool, true, not, ◌&&◌, [], ◌∷◌, Some, None, Option, MatchOption, nat_lt}
use Rattle.shared_memory.specs.Extents.{Extent, Extents, extent_at}

-- Whether no segment has one of the bytes from `from` on and before `to`.
abbrev pub clear : Extents → ℕ → ℕ → Bool
clear [] from to = true
clear (None ∷ es) from to = clear es from to
clear (Some e ∷ es) from to = not (nat_lt e.start to && nat_lt from (e.start + e.size)) && clear es from to

-- A segment has one of those bytes, and ends at `end`.
pub record Blocked (es : Extents) (from to end : ℕ) : Type 0 where
  pub handle : ℕ
  pub extent : Extent
  pub lies : extent_at es handle ≡ Some extent
  pub begins : extent.start < to
  pub lasts : from < extent.start + extent.size
  pub ends : end ≡ extent.start + extent.size

-- Where a segment ends that has one of those bytes, or nothing where none does.
abbrev pub Blocks : Extents → ℕ → ℕ → Option ℕ → Type 0
Blocks es from to r = MatchOption r (clear es from to ≡ true) (Blocked es from to)
