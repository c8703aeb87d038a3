-- How many flags of a list are set.
use Rattle.std.specs.Prelude.{ℕ, zero, suc, Bool, true, false, List, [], ◌∷◌}

-- The number of flags that are set.
unfoldable pub trues : List Bool → ℕ
trues [] = zero
trues (true ∷ t) = suc (trues t)
trues (false ∷ t) = trues t
