-- Rounding up, powers of two, and the requests that keep the rules.
use Rattle.std.specs.Prelude.{◌≡◌, ℕ, zero, suc, ◌+◌, ◌-◌, ◌*◌, ◌/◌, ◌^◌, ◌≤◌, Bool, cond, ◌&&◌, ◌==◌, nat_le}

-- n is a power of two.
abbrev pub IsPowerOfTwo : ℕ → Type 0
IsPowerOfTwo n = ∥ ((k : ℕ) × (n ≡ 2 ^ k)) ∥₁

-- A request keeps the rules: 1 to 16,777,216 bytes, on a boundary that is a power of two up to 65,536.
pub record Valid (size align : ℕ) : Type 0 where
  pub some : 1 ≤ size
  pub few : size ≤ 16777216
  pub power : IsPowerOfTwo align
  pub low : align ≤ 65536

-- The least multiple of a that is no less than n.
unfoldable pub rounded_up : ℕ → ℕ → ℕ
rounded_up n a = (n + (a - 1)) / a * a

-- q, or its double where q is less than n.
abbrev pub at_least : ℕ → ℕ → ℕ
at_least n q = cond (nat_le n q) q (2 * q)

-- The least power of two that is no less than n: the one for the number before n, or its double.
unfoldable pub next_power : ℕ → ℕ
next_power zero = 1
next_power (suc n) = at_least (suc n) (next_power n)

-- The same rules as a test: a power of two is the least from itself on.
abbrev pub valid : ℕ → ℕ → Bool
valid size align = (nat_le 1 size && nat_le size 16777216) && (next_power align == align && nat_le align 65536)
