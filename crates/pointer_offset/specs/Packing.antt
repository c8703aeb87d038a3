-- How an offset and a segment id travel as one value.
use Rattle.std.specs.Prelude.{◌≡◌, ℕ, ◌+◌, ◌*◌, ◌/◌, ◌%◌, ◌^◌, ◌<◌, cond, nat_lt}
use Rattle.pointer_offset.specs.declared.OffsetTooLarge.{OffsetTooLarge}

-- The one value of an offset and a segment id.
abbrev pub packed : ℕ → ℕ → ℕ
packed offset id = offset * 256 + id

-- The offset in a value.
abbrev pub offset_of : ℕ → ℕ
offset_of value = value / 256

-- The segment id in a value.
abbrev pub id_of : ℕ → ℕ
id_of value = value % 256

-- A value with another segment id and the same offset.
abbrev pub with_id : ℕ → ℕ → ℕ
with_id value id = packed (offset_of value) id

-- The largest segment id.
abbrev pub max_id : ℕ
max_id = 255

-- The number of the denial of an offset.
abbrev pub offset_number : OffsetTooLarge → ℕ
offset_number e = 3

-- What packing answers: a value, or the number of a denial.
pub data Packing : Type 0 where
  packs : ℕ → Packing
  denied : ℕ → Packing

-- The answer to an offset and a segment id: offsets from 2^56 on leave no room for the id.
abbrev pub packing : ℕ → ℕ → Packing
packing offset id = cond (nat_lt offset (2 ^ 56)) (packs (packed offset id)) (denied 3)

-- Packing and unpacking lose nothing, in either direction, and a packed value has at most 64 bits.
pub record Lossless : Type 0 where
  pub offset_back : (o i : ℕ) → o < 2 ^ 56 → i < 256 → offset_of (packed o i) ≡ o
  pub id_back : (o i : ℕ) → o < 2 ^ 56 → i < 256 → id_of (packed o i) ≡ i
  pub fits : (o i : ℕ) → o < 2 ^ 56 → i < 256 → packed o i < 2 ^ 64
  pub value_back : (v : ℕ) → v < 2 ^ 64 → packed (offset_of v) (id_of v) ≡ v
