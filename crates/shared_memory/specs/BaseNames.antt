-- The rule of a base name, on the codes of its bytes.
use Rattle.std.specs.List.{list_all}
use Rattle.std.specs.Prelude.{◌≡◌, ℕ, ◌≤◌, Bool, true, ◌&&◌, ◌||◌, List, length, codes, ◌==◌, ◌≢◌, nat_le}

-- Whether a byte is a letter, a digit, '-', '.' or '_'.
abbrev pub name_byte : ℕ → Bool
name_byte c = (nat_le 48 c && nat_le c 57) || ((nat_le 65 c && nat_le c 90) || ((nat_le 97 c && nat_le c 122) || (c == 45 || (c == 46 || c == 95))))

-- Whether each byte of a text is one of those.
abbrev pub name_bytes : List ℕ → Bool
name_bytes cs = list_all name_byte cs

-- A text is a base name: 1 to 24 such bytes, but neither "." nor "..".
abbrev pub GoodBase : List ℕ → Type 0
GoodBase n = (1 ≤ length n) × (length n ≤ 24) × (name_bytes n ≡ true) × (n ≢ codes ".") × (n ≢ codes "..")
