-- What a new SpanStore means.
use Rattle.std.specs.Prelude.{◌≡◌, ℕ, ◌&&◌, length, is_some}
use Rattle.shared_memory.specs.declared.table.SegmentTable.{SegmentTable}
use Rattle.shared_memory.specs.Extents.{Extents, free}
use Rattle.shared_memory.specs.Meaning.{Sound, Empty}
use Rattle.shared_memory.specs.Spans.{pages_of, fits, span_rule, GoodPages}
use Rattle.shared_memory.specs.Tables.{extents, under}

-- A new store of so many pages: it has `count` of them and its table is t. Whatever stands later, there is room exactly
-- when one of the 320 handles is free and enough free pages lie side by side.
pub record NewSpans (pages count : ℕ) (t : SegmentTable) : Type 0 where
  pub shape : GoodPages pages
  pub empty : Empty (under (span_rule count) t)
  pub sound : Sound (under (span_rule count) t)
  pub handles : length (extents t) ≡ 320
  pub count_is : count ≡ pages
  pub room : (es : Extents) (size : ℕ) → is_some (span_rule count es size) ≡ (free es && fits es count (pages_of size))
