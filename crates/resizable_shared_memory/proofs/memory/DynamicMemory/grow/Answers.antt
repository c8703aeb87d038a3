-- A growth makes the next segment from the hint; one that is refused leaves the memory as it was.
use Rattle.std.proofs.Common.{Ok, Err, refl, ap, ◌∙◌, subst}
use Rattle.std.proofs.lemmas.Option.{MatchOption-at_none, MatchOption-at_some}
use Rattle.std.proofs.lemmas.Result.{err_from_is_err_and}
use Rattle.std.specs.Result.{result_ok}
use Rattle.shared_memory.specs.Optional.{ok_or_err}
use Rattle.shared_memory.specs.Names.{segment_name, text}
use Rattle.shm_allocator.specs.declared.SharedMemorySetupHint.{SharedMemorySetupHint}
use Rattle.resizable_shared_memory.specs.Memory.GrowthRefused.{no_id, no_segment}
use Rattle.resizable_shared_memory.proofs.Storing.{made_as}
use Rattle.resizable_shared_memory.proofs.memory.DynamicMemory.grow.Goals as goal

pub returns-in_err-next : goal.returns-in_err-next
returns-in_err-next g c =
    let p = err_from_is_err_and c.from_residual.result c.from_residual.ensures.1 in
    let (none, why) = ok_or_err c.successor.result c.ok_or.ensures.value c.in_err-next.was in
    rw (p.1, p.2, why) (refl, no_id refl (MatchOption-at_none _ _ none c.successor.ensures))

pub returns-in_err-opened : goal.returns-in_err-opened
returns-in_err-opened g c =
    let p = err_from_is_err_and c.from_residual-in_err-opened.result c.from_residual-in_err-opened.ensures.1 in
    let named = segment_name (text c.args.self.now.tables.base) in
    let next = MatchOption-at_some _ _ c.in_ok-next.next (c.ok_or.ensures.ok_part ∙ ap result_ok c.in_ok-next.was) c.successor.ensures in
    let name = c.segment-name.ensures ∙ ap named next.1 in
    rw (p.1, p.2) (refl, no_segment next.0 (made_as g.A.ShmAllocator.means _ _ (Err c.in_err-opened.field-0.0) name c.resize_hint-hint.ensures c.in_err-opened.ensures))

pub returns : goal.returns
returns g c =
    let α = g.A.ShmAllocator.means in
    let made = c.in_ok-opened.ensures in
    let named = segment_name (text c.args.self.now.tables.base) in
    let next = MatchOption-at_some _ _ c.in_ok-next.next (c.ok_or.ensures.ok_part ∙ ap result_ok c.in_ok-next.was) c.successor.ensures in
    let name = c.segment-name.ensures ∙ ap named next.1 in
    let hinted = c.resize_hint-hint.ensures in
    let between = g.S.SegmentStore.means c.make_segment.new.store in
    record {
      below = next.0;
      opened = c.in_ok-opened.opened;
      between = between;
      made = made_as α _ _ (Ok c.in_ok-opened.opened) name hinted made;
      fresh = subst (λ (h : SharedMemorySetupHint g.row.A-Configuration.Denot). α.fresh h.config h.payload_size c.set_up.result) hinted (c.set_up.ensures made.1);
      place = c.of-place.result;
      numbers = let n = c.of-place.ensures in (n.0, n.1, n.2 ∙ c.bucket.ensures, n.3);
      tables = c.advance.ensures;
    }
