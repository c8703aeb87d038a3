-- The rule of placing of a store whose memory is cut into pages.
use Rattle.std.specs.Prelude.{◌≡◌, ℕ, zero, suc, ◌+◌, ◌*◌, ◌/◌, ◌≤◌, Bool, false, cond, ◌&&◌, ◌||◌, length, Some, None, Option, nat_le}
use Rattle.std.specs.Option.{option_map as over}
use Rattle.shared_memory.specs.declared.table.Place.{Place}
use Rattle.shared_memory.specs.Extents.{Extents, Rule, first_free}
use Rattle.shared_memory.specs.Clearings.{clear}

-- How many pages a payload takes.
abbrev pub pages_of : ℕ → ℕ
pages_of size = (size + 4095) / 4096

-- Whether the n pages from page p on are pages of the store, and no segment has a byte in them.
abbrev pub free_run : Extents → ℕ → ℕ → ℕ → Bool
free_run es pages n p = nat_le (p + n) pages && clear es (p * 4096) ((p + n) * 4096)

-- Whether a test holds of some number below a bound.
unfoldable pub some_below : (ℕ → Bool) → ℕ → Bool
some_below f zero = false
some_below f (suc k) = some_below f k || f k

-- What is there, or else the other.
abbrev pub or_else : Option ℕ → Option ℕ → Option ℕ
or_else None o = o
or_else (Some n) o = Some n

-- The first number below a bound of which a test holds, if there is one.
unfoldable pub first_below : (ℕ → Bool) → ℕ → Option ℕ
first_below f zero = None
first_below f (suc k) = or_else (first_below f k) (cond (f k) (Some k) None)

-- Whether n free pages lie side by side.
abbrev pub fits : Extents → ℕ → ℕ → Bool
fits es pages n = some_below (free_run es pages n) (pages + 1)

-- The first page from which n free pages lie side by side, if there is one.
abbrev pub first_run : Extents → ℕ → ℕ → Option ℕ
first_run es pages n = first_below (free_run es pages n) (pages + 1)

-- The place under a handle that starts with a page, if both are there.
abbrev pub span_place : Option ℕ → Option ℕ → Option Place
span_place None p = None
span_place (Some h) p = over (λ p. record { handle = h; start = p * 4096 }) p

-- The first free handle, and the first free pages that are enough for the size.
abbrev pub span_rule : ℕ → Rule
span_rule pages es size = span_place (first_free es) (first_run es pages (pages_of size))

-- How many pages a store may have: all together at most 4 GiB.
abbrev pub GoodPages : ℕ → Type 0
GoodPages pages = (1 ≤ pages) × (pages * 4096 ≤ 4294967296)

-- The segments lie under 320 handles, in a memory of m bytes that are so many pages.
abbrev pub Spanned : Extents → ℕ → ℕ → Type 0
Spanned es m pages = (length es ≡ 320) × (m ≡ pages * 4096)
