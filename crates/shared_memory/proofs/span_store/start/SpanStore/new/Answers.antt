use Rattle.std.proofs.Common.{length, None, Option, refl, ap, ◌∙◌, arith}
use Rattle.std.proofs.lemmas.List.{length-replicate}
use Rattle.shared_memory.specs.Extents.{Extent}
use Rattle.shared_memory.specs.Spanning.{span_room}
use Rattle.shared_memory.specs.Spans.{span_rule}
use Rattle.shared_memory.specs.Tables.{under}
use Rattle.shared_memory.proofs.Sounds.{empty_sound}
use Rattle.shared_memory.proofs.Tabled.{free_empty}
use Rattle.shared_memory.proofs.span_store.start.SpanStore.new.Goals as goal

pub returns : goal.returns
returns c =
    let t = c.in_ok-table.table in
    let pages = c.args.pages in
    let (laid, long) = c.in_ok-table.ensures in
    let empty = free_empty t 320 laid (span_rule pages) in
    record {
      shape = (omega arith, omega arith);
      empty = empty;
      sound = empty_sound (under (span_rule pages) t) empty;
      handles = ap length laid ∙ length-replicate {A = Option Extent} 320 None;
      count_is = refl;
      room = span_room pages;
    }
