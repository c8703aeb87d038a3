-- Each way out of the loop ends the rounds, and each turn adds one to those that went before.
use Rattle.std.proofs.Common.{ℕ, length, ap, subst, arith}
use Rattle.std.proofs.lemmas.Result.{err_from_is_err_and}
use Rattle.shm_allocator.specs.Meaning.{refusal_number}
use Rattle.resizable_shared_memory.specs.Memory.Rounds.{answered, again}
use Rattle.resizable_shared_memory.specs.Moves.{Enters}
use Rattle.resizable_shared_memory.proofs.Rounding.{ends, grown_by}
use Rattle.resizable_shared_memory.proofs.memory.DynamicMemory.allocate_in_rounds.Goals as goal

pub loop-start-preserved : goal.loop-start-preserved
loop-start-preserved g c =
    let refusal = c.in-Err.ensures in
    let grown = grown_by g.A.ShmAllocator.means c.args.layout c.loop-start.self _ c.allocate.new.self c.in-Err.refusal refusal.0 refusal.1 _ _ c.in_ok-make_room-in-Err.ensures in (
      (λ r n t rest. c.loop-start.invariant.0 r n t (again (refusal_number c.in-Err.refusal) refusal.0 grown.0 grown.1 rest)),
      omega (arith, ap length grown.1.tables.ledger, c.loop-start.invariant.1),
      omega (arith, grown.1.tables.grants, c.loop-start.invariant.2),
    )

pub returns-in_err-make_room-in-Err : goal.returns-in_err-make_room-in-Err
returns-in_err-make_room-in-Err g c =
    let p = err_from_is_err_and c.from_residual.result c.from_residual.ensures.1 in
    let refusal = c.in-Err.ensures in
    rw (p.1, p.2) (c.loop-start.invariant.0 _ _ _ (ends g.A.ShmAllocator.means c.args.layout c.loop-start.self _ c.allocate.new.self c.in-Err.refusal refusal.0 refusal.1 _ _ _ c.in_err-make_room-in-Err.ensures))

pub returns : goal.returns
returns g c =
    let answer = c.in-Ok.ensures in
    let entered = subst (λ (size : ℕ). Enters c.loop-start.self.tables c.in-Ok.start size c.enter.result c.enter.new.self) c.size.ensures.value c.enter.ensures in
    c.loop-start.invariant.0 _ _ _ (answered c.in-Ok.start answer.0 (record { gave = answer.1; tables = entered }))
