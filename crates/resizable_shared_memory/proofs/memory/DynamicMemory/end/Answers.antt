-- Each turn withdraws one segment; the management segment comes after those of the table.
use Rattle.std.proofs.Common.{refl, ◌∙◌}
use Rattle.resizable_shared_memory.specs.Withdrawals.{Withdrawn}
use Rattle.resizable_shared_memory.proofs.Turning.{turn_here, turn_last, turned}
use Rattle.resizable_shared_memory.proofs.memory.DynamicMemory.end.Goals as goal

pub loop-handle-preserved : goal.loop-handle-preserved
loop-handle-preserved g c u rest =
    c.loop-handle.invariant u (turn_here Withdrawn c.as_slice-handle-items.result.now c.loop-handle.handle-index u _ _ _ c.loop-handle-test.true refl (c.withdraw.result, c.withdraw.ensures) rest)

pub returns : goal.returns
returns g c =
    let listed = c.as_slice-handle-items.ensures.value ∙ c.handles-handles.ensures in
    turn_last Withdrawn c.args.self.tables.management _ (turned Withdrawn c.as_slice-handle-items.result.now c.loop-handle.handle-index _ _ _ c.loop-handle-test.false (c.loop-handle.invariant _) listed) (c.withdraw-2.result, c.withdraw-2.ensures)
