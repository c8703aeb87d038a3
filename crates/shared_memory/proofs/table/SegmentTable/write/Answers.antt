use Rattle.std.proofs.Common.{length, arith}
use Rattle.std.proofs.lemmas.Result.{err_from_is_err_and}
use Rattle.shared_memory.specs.Tables.{segment_of, under}
use Rattle.shared_memory.proofs.Sounds.{same}
use Rattle.shared_memory.proofs.Tabled.{at_slot, within_memory, segment_length, unmoved, relaid_patched, changes_patched, not_located}
use Rattle.shared_memory.proofs.table.SegmentTable.write.Goals as goal

pub returns-in_err-at : goal.returns-in_err-at
returns-in_err-at c =
    let s = c.args.self.now in
    let p = err_from_is_err_and c.from_residual.result c.from_residual.ensures.1 in
    record {
      does = λ rule. rw (p.1, p.2) (not_located s c.args.handle c.args.from (length c.args.bytes.now) c.in_err-at.field-0.0 c.in_err-at.ensures rule, same (under rule s));
      relaid = unmoved s;
    }

pub overwrite-requires : goal.overwrite-requires
overwrite-requires c =
    let (x, e, le, at) = c.in_ok-at.ensures in
    omega (arith, within_memory c.args.self.now c.args.handle x e, le, at)

pub returns : goal.returns
returns c =
    let s = c.args.self.now in
    let t = c.overwrite.new.self in
    let h = c.args.handle in
    let (x, e, le, at) = c.in_ok-at.ensures in
    let new = c.args.bytes.now in
    record {
      does = λ rule. (segment_of s x, at_slot s h x e, omega (arith, segment_length s h x e, le), changes_patched s h t x c.in_ok-at.at c.args.from new e at le c.overwrite.ensures rule);
      relaid = relaid_patched s h t x c.in_ok-at.at c.args.from new e at le c.overwrite.ensures;
    }
