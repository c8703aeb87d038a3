use Rattle.std.proofs.Common.{◌+◌, refl, ap, arith}
use Rattle.shared_memory.specs.Clearing.{clear_all}
use Rattle.shared_memory.specs.Optional.{inside}
use Rattle.shared_memory.specs.Slots.{extent}
use Rattle.shared_memory.specs.Tables.{slots_of, extents}
use Rattle.shared_memory.proofs.Slotted.{met, extent_some, extent_back}
use Rattle.shared_memory.proofs.Tabled.{within_memory}
use Rattle.shared_memory.proofs.table.SegmentTable.blocker.Goals as goal

pub overflow_add-end : goal.overflow_add-end
overflow_add-end c =
    let s = c.args.self.now in
    let h = c.loop-slot.slot-index in
    let x = c.in-Some.slot in
    omega (arith, within_memory s h x (met (slots_of s) c.deref-slot-items.result.now h c.slot-item.result x c.deref-slot-items.ensures.value c.loop-slot-test.true c.slot-item.is c.in-Some.is))

pub returns-then-from-end : goal.returns-then-from-end
returns-then-from-end c =
    let s = c.args.self.now in
    let h = c.loop-slot.slot-index in
    let x = c.in-Some.slot in
    record {
      handle = h;
      extent = extent x;
      lies = extent_some (slots_of s) h x (met (slots_of s) c.deref-slot-items.result.now h c.slot-item.result x c.deref-slot-items.ensures.value c.loop-slot-test.true c.slot-item.is c.in-Some.is);
      begins = c.if-slot-to.true;
      lasts = c.if-from-end.true;
      ends = refl;
    }

pub returns : goal.returns
returns c =
    let s = c.args.self.now in
    clear_all (extents s) c.args.from c.args.to λ k u q lo hi.
    let (x, p, same) = extent_back (slots_of s) k u q in
    c.loop-slot.invariant k x (omega (arith, inside (slots_of s) k p)) p (omega (arith, ap (λ u. u.start) same)) (omega (arith, ap (λ u. u.start + u.size) same))
