-- Where the segments of a store lie, and what its rule of placing makes of that.
use Rattle.std.specs.Prelude.{◌≡◌, ℕ, suc, ◌+◌, ◌%◌, ◌<◌, ◌≤◌, Bool, true, false, List, [], ◌∷◌, length, is_some, Some, None, Option, slice_index_or, slice_set}
use Rattle.std.specs.Option.{option_map as over}
use Rattle.shared_memory.specs.Meaning.{Segment, Store}
use Rattle.shared_memory.specs.declared.table.Place.{Place}

-- Where a segment lies: its first byte in the store's memory, and its payload size.
pub record Extent : Type 0 where
  pub start : ℕ
  pub size : ℕ

-- What lies under each handle.
abbrev pub Extents : Type 0
Extents = List (Option Extent)

-- What lies under one handle, which is nothing past the last.
abbrev pub extent_at : Extents → ℕ → Option Extent
extent_at es h = slice_index_or es h None

-- What lies there once the segments under some handles have ceased.
abbrev pub vacated : Extents → List ℕ → Extents
vacated es [] = es
vacated es (h ∷ hs) = vacated (slice_set es h None) hs

-- Where a segment lies that was made at a place.
abbrev pub laid : Place → ℕ → Extent
laid p size = record { start = p.start; size = size }

-- What lies there once a segment of a size was made at a place.
abbrev pub occupied : Extents → Place → ℕ → Extents
occupied es p size = slice_set es p.handle (Some (laid p size))

-- What lies there once a segment of a size was made at a place, if there was one.
abbrev pub filled_in : Extents → ℕ → Option Place → Extents
filled_in es size None = es
filled_in es size (Some p) = occupied es p size

-- A rule of placing: where the next segment of a size would lie, if there is room for it.
abbrev pub Rule : Type 0
Rule = Extents → ℕ → Option Place

-- What lies there once a segment of a size has been made, if there was room for it.
abbrev pub with_one : Rule → Extents → ℕ → Extents
with_one rule es made = filled_in es made (rule es made)

-- A store whose room is what its rule of placing says.
abbrev pub ruled : Rule → (ℕ → Option Segment) → Extents → Store
ruled rule at es = record {
  at = at;
  room_without = λ hs size. is_some (rule (vacated es hs) size);
  room_with = λ made size. is_some (rule (with_one rule es made) size);
}

-- Whether a handle is free.
abbrev pub free : Extents → Bool
free [] = false
free (None ∷ es) = true
free (Some e ∷ es) = free es

-- The first free handle, if there is one.
abbrev pub first_free : Extents → Option ℕ
first_free [] = None
first_free (None ∷ es) = Some 0
first_free (Some e ∷ es) = over suc (first_free es)

-- Each segment starts on a page.
abbrev pub Paged : Extents → Type 0
Paged es = (h : ℕ) (e : Extent) → extent_at es h ≡ Some e → e.start % 4096 ≡ 0

-- Each segment lies within a memory of n bytes.
abbrev pub Within : Extents → ℕ → Type 0
Within es n = (h : ℕ) (e : Extent) → extent_at es h ≡ Some e → e.start + e.size ≤ n

-- Each of two segments begins before the other ends.
abbrev pub Meet : Extent → Extent → Type 0
Meet d e = (d.start < e.start + e.size) × (e.start < d.start + d.size)

-- The segments under two handles meet.
abbrev pub Overlap : Extents → ℕ → ℕ → Type 0
Overlap es h k = (d : Extent) × (e : Extent) × (extent_at es h ≡ Some d) × (extent_at es k ≡ Some e) × Meet d e

-- No two segments meet: only one and the same do.
abbrev pub Disjoint : Extents → Type 0
Disjoint es = (h k : ℕ) → Overlap es h k → h ≡ k

-- The segments lie in a memory of n bytes as they may.
pub record Lie (es : Extents) (n : ℕ) : Type 0 where
  pub paged : Paged es
  pub within : Within es n
  pub disjoint : Disjoint es

-- A place that a segment of a size may have in a memory of n bytes.
pub record FreePlace (es : Extents) (n : ℕ) (p : Place) (size : ℕ) : Type 0 where
  pub handle : p.handle < length es
  pub free : extent_at es p.handle ≡ None
  pub paged : p.start % 4096 ≡ 0
  pub within : p.start + size ≤ n
  pub apart : (k : ℕ) (e : Extent) → extent_at es k ≡ Some e → Meet (laid p size) e → ⊥

-- A rule that finds room keeps finding it when a segment has ceased.
abbrev pub Monotone : Rule → Type 0
Monotone rule = (es : Extents) (h z : ℕ) → is_some (rule es z) ≡ true → is_some (rule (slice_set es h None) z) ≡ true

-- Each segment that would leave room for its size in es would do so in ds too.
abbrev pub StillLeave : Rule → Extents → Extents → Type 0
StillLeave rule es ds = (k : ℕ) (e : Extent) → extent_at es k ≡ Some e → is_some (rule (slice_set es k None) e.size) ≡ true → is_some (rule (slice_set ds k None) e.size) ≡ true
