-- What a new FrameStore means.
use Rattle.std.specs.Prelude.{◌≡◌, ℕ, ◌&&◌, length, is_some, nat_le}
use Rattle.shared_memory.specs.declared.table.SegmentTable.{SegmentTable}
use Rattle.shared_memory.specs.Extents.{Extents, free}
use Rattle.shared_memory.specs.Frames.{frame_rule, GoodShape}
use Rattle.shared_memory.specs.Meaning.{Sound, Empty}
use Rattle.shared_memory.specs.Tables.{extents, under}

-- A new store of so many frames of fs bytes: its frames have `size` bytes and its table is t. Whatever stands later, there
-- is room exactly when a frame is free and the size fits it.
pub record NewFrames (frames fs size : ℕ) (t : SegmentTable) : Type 0 where
  pub shape : GoodShape frames fs
  pub empty : Empty (under (frame_rule size) t)
  pub sound : Sound (under (frame_rule size) t)
  pub count : length (extents t) ≡ frames
  pub frame_size : size ≡ fs
  pub room : (es : Extents) (asked : ℕ) → is_some (frame_rule size es asked) ≡ (free es && nat_le asked size)
