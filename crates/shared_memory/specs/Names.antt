-- How segments are named, and that their names are apart.
use Rattle.std.specs.Prelude.{◌≡◌, ℕ, ◌<◌, ◌≤◌, List, ◌++◌, length, codes, decimal, ◌≢◌}
use Rattle.shared_memory.specs.declared.name.BadName.{BadName}
use Rattle.shared_memory.specs.declared.name.BaseName.{BaseName}
use Rattle.shared_memory.specs.declared.name.SegmentName.{SegmentName}
use Rattle.shared_memory.specs.BaseNames.{GoodBase}

-- The text of a base name.
abbrev pub text : BaseName → List ℕ
text b = b.text.bytes

-- The text of a segment's name.
abbrev pub written : SegmentName → List ℕ
written n = n.text.bytes

-- The number of the denial of a base name.
abbrev pub name_number : BadName → ℕ
name_number e = 2

-- The name of a base's segment of an id, which is written in decimal without leading zeros.
abbrev pub segment_name : List ℕ → ℕ → List ℕ
segment_name base id = base ++ (codes "__" ++ decimal id)

-- The name of a base's management segment.
abbrev pub management_name : List ℕ → List ℕ
management_name base = base ++ codes "__mgmt"

-- No two segments of one base share a name, none has the management segment's, and every name fits 32 bytes.
pub record NamesApart : Type 0 where
  pub fits : (base : List ℕ) (id : ℕ) → GoodBase base → id < 256 → (1 ≤ length (segment_name base id)) × (length (segment_name base id) ≤ 32)
  pub management_fits : (base : List ℕ) → GoodBase base → (1 ≤ length (management_name base)) × (length (management_name base) ≤ 32)
  pub ids_apart : (base : List ℕ) (i j : ℕ) → i < 256 → j < 256 → segment_name base i ≡ segment_name base j → i ≡ j
  pub management_apart : (base : List ℕ) (id : ℕ) → id < 256 → segment_name base id ≢ management_name base
