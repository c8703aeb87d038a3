use Rattle.std.proofs.Common.{length, refl, ap, ◌∙◌, arith}
use Rattle.std.proofs.lemmas.Result.{err_from_is_err_and}
use Rattle.shared_memory.specs.Meaning.{part}
use Rattle.shared_memory.specs.Tables.{segment_of}
use Rattle.shared_memory.proofs.Tabled.{at_slot, within_memory, segment_length, part_at, not_located}
use Rattle.shared_memory.proofs.table.SegmentTable.read.Goals as goal

pub returns-in_err-at : goal.returns-in_err-at
returns-in_err-at c rule =
    let p = err_from_is_err_and c.from_residual.result c.from_residual.ensures.1 in
    rw (p.1, p.2) (not_located c.args.self.now c.args.handle c.args.from (length c.args.buffer.now) c.in_err-at.field-0.0 c.in_err-at.ensures rule, refl)

pub copy_out-requires : goal.copy_out-requires
copy_out-requires c =
    let (x, e, le, at) = c.in_ok-at.ensures in
    omega (arith, within_memory c.args.self.now c.args.handle x e, le, at, ap length c.as_slice.ensures.value)

pub returns : goal.returns
returns c rule =
    let s = c.args.self.now in
    let h = c.args.handle in
    let (x, e, le, at) = c.in_ok-at.ensures in
    let n = length c.args.buffer.now in (
      segment_of s x,
      at_slot s h x e,
      omega (arith, segment_length s h x e, le),
      c.copy_out.ensures ∙ (ap (λ xs. part xs c.in_ok-at.at n) c.as_slice.ensures.value ∙ part_at s h x c.in_ok-at.at c.args.from n at le),
    )
