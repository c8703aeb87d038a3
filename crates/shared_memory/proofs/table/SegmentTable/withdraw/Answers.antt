use Rattle.std.proofs.Common.{None, sym, ap, ◌∙◌, subst}
use Rattle.shared_memory.specs.Meaning.{Left}
use Rattle.shared_memory.specs.Slots.{stored}
use Rattle.shared_memory.specs.Tables.{segment_of, under}
use Rattle.std.specs.Result.{result_ok}
use Rattle.std.specs.Option.{option_map as over}
use Rattle.shared_memory.specs.Optional.{is_some}
use Rattle.shared_memory.proofs.Tabled.{at_slot}
use Rattle.shared_memory.proofs.table.SegmentTable.withdraw.Goals as goal

pub returns : goal.returns
returns c =
    let s = c.args.self.now in
    let t = c.settle.new.self in
    let h = c.args.handle in
    let x = c.in_ok-slot.slot in
    let e = sym c.slot.ensures ∙ c.ok_or.ensures.ok_part ∙ ap result_ok c.in_ok-slot.was in
    let (name, is) = is_some x.name c.if-is_none.ensures in
    record {
      does = λ rule mono. (
        segment_of s x,
        stored name,
        at_slot s h x e,
        ap (over stored) is,
        subst
            (λ m. Left (under rule s) h (segment_of s (record { name = None; allocator_id = x.allocator_id; start = x.start; size = x.size; maps = m })) (under rule t) c.settle.result)
            c.saturating_sub-maps.ensures
            (c.settle.ensures.left rule mono),
      );
      relaid = c.settle.ensures.relaid;
    }
