use Rattle.std.proofs.Common.{length, ap, arith}
use Rattle.shared_memory.proofs.Tabled.{place_inside, lie_made, relaid_made, made_at}
use Rattle.shared_memory.proofs.table.SegmentTable.occupy.Goals as goal

pub put-requires : goal.put-requires
put-requires c =
    let s = c.args.self.now in
    let p = c.args.place in
    let n = c.of.result in
    record {
      inside = omega (arith, place_inside s p n c.args.size c.args.allocator_id c.requires.vacant, ap length c.clear.ensures.slots);
      lie = lie_made s p n c.args.size c.args.allocator_id c.requires.vacant c.clear.new.self c.clear.ensures;
    }

pub invariant_of-result : goal.invariant_of-result
invariant_of-result c = record { low = omega (arith, place_inside c.args.self.now c.args.place c.of.result c.args.size c.args.allocator_id c.requires.vacant) }

pub returns : goal.returns
returns c =
    let s = c.args.self.now in
    let m = c.clear.new.self in
    let t = c.put.new.self in
    let p = c.args.place in
    record {
      made = made_at s p c.of.result c.args.size c.args.allocator_id c.requires.vacant m c.clear.ensures t c.put.ensures _ c.args.name.now c.of.ensures c.requires.fresh.0 c.requires.fresh.1 c.requires.sized;
      relaid = relaid_made s p c.of.result c.args.size c.args.allocator_id c.requires.vacant m c.clear.ensures t c.put.ensures;
    }
