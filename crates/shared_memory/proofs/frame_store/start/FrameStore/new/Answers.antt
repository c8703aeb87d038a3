use Rattle.std.proofs.Common.{length, None, Option, ap, refl, ◌∙◌}
use Rattle.std.proofs.lemmas.List.{length-replicate}
use Rattle.shared_memory.specs.Extents.{Extent}
use Rattle.shared_memory.specs.Frames.{frame_rule}
use Rattle.shared_memory.specs.Framing.{frame_room}
use Rattle.shared_memory.specs.Tables.{under}
use Rattle.shared_memory.proofs.Sounds.{empty_sound}
use Rattle.shared_memory.proofs.Tabled.{free_empty}
use Rattle.shared_memory.proofs.frame_store.start.FrameStore.new.Goals as goal

pub returns : goal.returns
returns c =
    let t = c.in_ok-table.table in
    let fs = c.args.frame_size in
    let (shape, total) = c.in_ok-size.ensures in
    let (laid, long) = c.in_ok-table.ensures in
    let empty = free_empty t c.args.frames laid (frame_rule fs) in
    record {
      shape = shape;
      empty = empty;
      sound = empty_sound (under (frame_rule fs) t) empty;
      count = ap length laid ∙ length-replicate {A = Option Extent} c.args.frames None;
      frame_size = refl;
      room = frame_room fs;
    }
