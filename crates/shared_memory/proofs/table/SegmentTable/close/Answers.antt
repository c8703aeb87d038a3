use Rattle.std.proofs.Common.{sym, ap, ◌∙◌, subst}
use Rattle.std.specs.Result.{result_ok}
use Rattle.shared_memory.specs.Meaning.{Left}
use Rattle.shared_memory.specs.Optional.{some_iff_some}
use Rattle.shared_memory.specs.Tables.{segment_of, under}
use Rattle.shared_memory.proofs.Tabled.{at_slot}
use Rattle.shared_memory.proofs.table.SegmentTable.close.Goals as goal

pub returns : goal.returns
returns c =
    let s = c.args.self.now in
    let h = c.args.handle in
    let x = c.in_ok-slot.slot in
    let e = sym c.slot.ensures ∙ c.ok_or.ensures.ok_part ∙ ap result_ok c.in_ok-slot.was in
    let (some, less) = some_iff_some c.checked_sub.result c.checked_sub.ensures (c.ok_or-2.ensures.ok_part ∙ ap result_ok c.in_ok-maps.was) in
    record {
      does = λ rule mono. (
        segment_of s x,
        at_slot s h x e,
        some,
        subst
            (λ n. Left (under rule s) h (segment_of s (record { name = x.name; allocator_id = x.allocator_id; start = x.start; size = x.size; maps = n })) (under rule c.settle.new.self) c.settle.result)
            less
            (c.settle.ensures.left rule mono),
      );
      relaid = c.settle.ensures.relaid;
    }
