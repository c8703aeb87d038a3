use Rattle.shared_memory.proofs.Tabled.{lie_freed, relaid_freed, follows_inside, lie_follows, relaid_follows, left_stands, left_ceased}
use Rattle.shared_memory.proofs.table.SegmentTable.settle.Goals as goal

pub put-requires : goal.put-requires
put-requires c =
    let s = c.args.self.now in
    record { inside = follows_inside s c.args.handle c.args.slot c.requires; lie = lie_freed s c.args.handle }

pub returns-then-slot-eq0 : goal.returns-then-slot-eq0
returns-then-slot-eq0 c =
    let s = c.args.self.now in
    let t = c.put.new.self in
    record {
      left = left_ceased s c.args.handle c.args.slot c.requires t c.put.ensures c.if-is_none.ensures c.if-slot-eq0.true;
      relaid = relaid_freed s c.args.handle t c.put.ensures;
    }

pub put-requires-2 : goal.put-requires-2
put-requires-2 c =
    let s = c.args.self.now in
    record { inside = follows_inside s c.args.handle c.args.slot c.requires; lie = lie_follows s c.args.handle c.args.slot c.requires }

pub returns : goal.returns
returns c =
    let s = c.args.self.now in
    let t = c.put-2.new.self in
    record {
      left = λ rule mono. left_stands s c.args.handle c.args.slot c.requires t c.put-2.ensures c.is_none.result c.is_none.ensures c.else-is_none.either rule;
      relaid = relaid_follows s c.args.handle c.args.slot c.requires t c.put-2.ensures;
    }
