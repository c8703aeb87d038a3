-- A map of another allocator's segment is taken again, and the store is the same.
use Rattle.std.proofs.lemmas.Result.{err_from_is_err_and}
use Rattle.resizable_shared_memory.specs.Viewer.OpenForDenied.{by_store, other_allocator}
use Rattle.resizable_shared_memory.proofs.Reopening.{reopened}
use Rattle.resizable_shared_memory.proofs.view.opening.open_for.Goals as goal

pub returns-in_err-opened : goal.returns-in_err-opened
returns-in_err-opened g c =
    let p = err_from_is_err_and c.from_residual.result c.from_residual.ensures.1 in
    rw (p.1, p.2) (by_store c.in_err-opened.ensures.0, c.in_err-opened.ensures.1)

pub returns-then-opened-allocator_id : goal.returns-then-opened-allocator_id
returns-then-opened-allocator_id g c =
    let opens = c.in_ok-opened.ensures in (
      other_allocator c.in_ok-opened.opened (g.S.SegmentStore.means c.open.new.self) opens c.if-opened-allocator_id.true,
      reopened _ _ _ _ _ opens.1 c.close.result c.close.ensures,
    )
