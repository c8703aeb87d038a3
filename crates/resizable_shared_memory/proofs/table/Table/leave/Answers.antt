-- A place without a chunk is emptied, another stays.
use Rattle.std.proofs.Common.{refl, inl, inr, arith}
use Rattle.resizable_shared_memory.proofs.table.Table.leave.Goals as goal

pub returns-then-place-eq0 : goal.returns-then-place-eq0
returns-then-place-eq0 g c = record {
  old = c.mapped-place.result;
  was = c.mapped-place.ensures;
  vacates = inl (c.if-place-eq0.true, c.put.ensures.here, (c.withdraw.result, c.withdraw.ensures));
  others = c.put.ensures.others;
}

pub returns-else-place-eq0 : goal.returns-else-place-eq0
returns-else-place-eq0 g c = record {
  old = c.mapped-place.result;
  was = c.mapped-place.ensures;
  vacates = inr (omega (arith, c.if-place-eq0.false), c.mapped-place.ensures, refl);
  others = λ j n. refl;
}
