use Rattle.std.proofs.Common.{sym, ◌∙◌, arith}
use Rattle.shared_memory.specs.Framing.{frame_within, framed}
use Rattle.shared_memory.specs.Laying.{first_free_is}
use Rattle.shared_memory.specs.Tables.{memory, extents}
use Rattle.shared_memory.proofs.frame_store.placing.FramesPlacing.place.Goals as goal

pub overflow_mul-result : goal.overflow_mul-result
overflow_mul-result c =
    let t = c.args.table.now in
    let fs = c.args.self.now.size in
    let h = c.in_ok-handle.handle in
    let (lt, none) = first_free_is (extents t) h (sym c.vacancy.ensures ∙ c.in_ok-handle.was) in
    omega (arith, frame_within (extents t) (memory t) fs (framed (extents t) (memory t) fs c.requires) h lt, t.small)
