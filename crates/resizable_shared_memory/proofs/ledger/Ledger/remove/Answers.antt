-- The entries are those before without one.
use Rattle.std.proofs.Common.{map, sym, ap, ◌∙◌, subst}
use Rattle.resizable_shared_memory.specs.Entries.{entry, Rises}
use Rattle.resizable_shared_memory.specs.Ledgers.{entries_of}
use Rattle.resizable_shared_memory.proofs.Listing.{entries_removed, rises_removed}
use Rattle.resizable_shared_memory.proofs.ledger.Ledger.remove.Goals as goal

pub invariant_of-self : goal.invariant_of-self
invariant_of-self c =
    let l = c.args.self.now in
    let closed = ap (map entry) c.remove.ensures.items ∙ entries_removed l.entries.items c.args.at in
    record { rising = subst (λ es. Rises es) (sym closed) (rises_removed (entries_of l) c.args.at c.requires l.rising) }

pub returns : goal.returns
returns c = ap (map entry) c.remove.ensures.items ∙ entries_removed c.args.self.now.entries.items c.args.at
