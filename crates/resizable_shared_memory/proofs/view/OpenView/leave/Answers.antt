-- The current place is mapped, and is emptied if nothing is registered there.
use Rattle.std.proofs.Common.{sym, refl, inl, arith}
use Rattle.resizable_shared_memory.proofs.view.OpenView.leave.Goals as goal

pub returns : goal.returns
returns g c =
    let id = c.in-Some.id in
    record {
      leaves = inl (id.0, c.mapped-place.result, (id, c.in-Some.is, refl), c.mapped-place.ensures, omega arith, c.put.ensures.here, (c.close.result, c.close.ensures));
      others = λ k no. c.put.ensures.others k (λ e. no (id, c.in-Some.is, sym e));
      kept = refl;
    }
