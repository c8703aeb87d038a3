-- Each turn counts one more at most, and there are few places.
use Rattle.std.proofs.Common.{rules, true}
use Rattle.std.proofs.lemmas.Iterator.{YieldsList-from_slice}
use Rattle.std.proofs.lemmas.Iterator.Adapters.{serves_from_total}
use Rattle.std.proofs.lemmas.List.Sums.{count_by-le-length}
use Rattle.resizable_shared_memory.proofs.table.access.number_of_some.Goals as goal

pub fold-requires-clause-callable : goal.fold-requires-clause-callable
fold-requires-clause-callable c =
    let few = count_by-le-length (λ _. true) c.args.places.now in
    serves_from_total (YieldsList-from_slice c.args.places.now cc) (λ _. 1) (λ n x q k. search rules) (λ n x h. search rules)
