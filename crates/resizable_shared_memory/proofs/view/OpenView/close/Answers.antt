-- Each turn takes one map; the management segment's is taken after all others.
use Rattle.std.proofs.Common.{refl, ◌∙◌}
use Rattle.resizable_shared_memory.specs.Closings.{Closed}
use Rattle.resizable_shared_memory.proofs.Turning.{turn_here, turn_last, turned}
use Rattle.resizable_shared_memory.proofs.view.OpenView.close.Goals as goal

pub loop-handle-preserved : goal.loop-handle-preserved
loop-handle-preserved g c u rest =
    c.loop-handle.invariant u (turn_here Closed c.as_slice-handle-items.result.now c.loop-handle.handle-index u _ _ _ c.loop-handle-test.true refl (c.close.result, c.close.ensures) rest)

pub returns : goal.returns
returns g c =
    let listed = c.as_slice-handle-items.ensures.value ∙ c.handles-handles.ensures in
    turn_last Closed _ _ (turned Closed c.as_slice-handle-items.result.now c.loop-handle.handle-index _ _ _ c.loop-handle-test.false (c.loop-handle.invariant _) listed) (c.close-2.result, c.close-2.ensures)
