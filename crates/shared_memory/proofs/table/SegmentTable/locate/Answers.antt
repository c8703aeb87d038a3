use Rattle.std.proofs.Common.{sym, ap, ◌∙◌, arith}
use Rattle.std.specs.Result.{result_ok}
use Rattle.shared_memory.proofs.Tabled.{within_memory}
use Rattle.shared_memory.proofs.table.SegmentTable.locate.Goals as goal

pub overflow_add-result : goal.overflow_add-result
overflow_add-result c =
    let e = sym c.slot.ensures ∙ c.ok_or.ensures.ok_part ∙ ap result_ok c.in_ok-slot.was in
    omega (arith, within_memory c.args.self.now c.args.handle c.in_ok-slot.slot e)
