-- The rule of placing of a store whose memory is cut into equal frames.
use Rattle.std.specs.Prelude.{◌≡◌, ℕ, ◌*◌, ◌%◌, ◌^◌, ◌<◌, ◌≤◌, cond, length, Some, None, nat_le}
use Rattle.std.specs.Option.{option_map as over}
use Rattle.shared_memory.specs.declared.table.Place.{Place}
use Rattle.shared_memory.specs.Extents.{Extent, Extents, Rule, extent_at, first_free}

-- The place in the frame of a handle, where frames have fs bytes.
abbrev pub frame_place : ℕ → ℕ → Place
frame_place fs h = record { handle = h; start = h * fs }

-- The first free frame, if the size fits it.
abbrev pub frame_rule : ℕ → Rule
frame_rule fs es size = cond (nat_le size fs) (over (frame_place fs) (first_free es)) None

-- How many frames of which size a store may have.
abbrev pub GoodShape : ℕ → ℕ → Type 0
GoodShape frames fs = (1 ≤ frames) × (frames ≤ 320) × (1 ≤ fs) × (fs % 4096 ≡ 0) × (frames * fs < 2 ^ 63)

-- Each segment starts with the frame of its handle.
abbrev pub Aligned : Extents → ℕ → Type 0
Aligned es fs = (h : ℕ) (e : Extent) → extent_at es h ≡ Some e → e.start ≡ h * fs

-- No segment is larger than a frame.
abbrev pub Fitting : Extents → ℕ → Type 0
Fitting es fs = (h : ℕ) (e : Extent) → extent_at es h ≡ Some e → e.size ≤ fs

-- The segments lie in frames of fs bytes that fill a memory of m bytes.
pub record Framed (es : Extents) (m fs : ℕ) : Type 0 where
  pub whole : m ≡ length es * fs
  pub aligned : Aligned es fs
  pub fitting : Fitting es fs
