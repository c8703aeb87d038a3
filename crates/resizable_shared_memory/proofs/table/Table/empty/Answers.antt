-- Every place of a table made of empty places is empty, past its end too.
use Rattle.std.proofs.Common.{◌≡◌, ℕ, zero, suc, get_or, replicate, None, refl}
use Rattle.resizable_shared_memory.proofs.table.Table.empty.Goals as goal

get_or_same : {X : Type 0} (n k : ℕ) (d : X) → get_or (replicate n d) k d ≡ d
get_or_same zero k d = refl
get_or_same (suc n) zero d = refl
get_or_same (suc n) (suc k) d = get_or_same n k d

pub returns : goal.returns
returns c k = get_or_same 256 k None
