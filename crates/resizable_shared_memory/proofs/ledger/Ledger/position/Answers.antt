-- The search looks at the grants in the order in which they rise.
use Rattle.std.proofs.Common.{◌≡◌, ℕ, ◌<◌, List, length, Option, sym, subst}
use Rattle.std.specs.Option.{MatchOption}
use Rattle.std.specs.Ordering.{nat_cmp}
use Rattle.std.specs.List.Sorted.{IsBinarySearchResult, IsSearchInRange}
use Rattle.resizable_shared_memory.specs.declared.ledger.Held.{Held}
use Rattle.resizable_shared_memory.specs.Entries.{entry_at}
use Rattle.resizable_shared_memory.specs.Ledgers.{entries_of}
use Rattle.resizable_shared_memory.proofs.Searching.{position_of}
use Rattle.resizable_shared_memory.proofs.ledger.Ledger.position.Goals as goal

pub returns : goal.returns
returns c =
    let l = c.args.self.now in
    let g = c.args.grant in
    let es = entries_of l in
    let r = c.search_grant.result in
    let read = c.deref.ensures.0 in
    subst (λ (o : Option ℕ). MatchOption o ((j : ℕ) → j < length es → (entry_at es j).grant ≡ g → ⊥) (λ i. (i < length es) × ((entry_at es i).grant ≡ g))) (sym c.ok.ensures.value)
    (position_of l.entries.items g l.rising r (subst (λ (cs : List Held). IsSearchInRange r (length cs)) read c.search_grant.ensures.bound)
    (subst (λ (cs : List Held). IsBinarySearchResult (λ (h : Held). nat_cmp h.grant g) cs r) read c.search_grant.ensures.found))
