-- The checks before the rounds, in their order.
use Rattle.std.proofs.Common.{refl, arith}
use Rattle.std.proofs.lemmas.Result.{err_from_is_err_and}
use Rattle.resizable_shared_memory.specs.Memory.Allocates.{bad_layout, ledger_full, grants_spent, in_rounds}
use Rattle.resizable_shared_memory.proofs.memory.DynamicMemory.allocate.Goals as goal

pub returns-in_err-valid : goal.returns-in_err-valid
returns-in_err-valid g c =
    let p = err_from_is_err_and c.from_residual.result c.from_residual.ensures.1 in
    rw (p.1, p.2) (bad_layout refl c.in_err-valid.ensures)

pub returns-then-is_full : goal.returns-then-is_full
returns-then-is_full g c = ledger_full refl c.in_ok-valid.ensures.0 c.if-is_full.ensures

pub returns-then-self : goal.returns-then-self
returns-then-self g c = grants_spent refl c.in_ok-valid.ensures.0 c.if-is_full.ensures c.if-self.true

pub returns : goal.returns
returns g c = in_rounds c.in_ok-valid.valid c.in_ok-valid.ensures.1 c.in_ok-valid.ensures.2 c.if-is_full.ensures (omega arith) c.allocate_in_rounds.ensures
