use Rattle.std.proofs.Common.{rules}
use Rattle.std.proofs.lemmas.List.Sorted.{answers_always}
use Rattle.resizable_shared_memory.proofs.ledger.search.search_grant.Goals as goal

pub returns : goal.returns
returns c = record { bound = c.binary_search_by_key.ensures.bound; found = c.binary_search_by_key.ensures.position (λ h. h.grant) (answers_always _ _ _ (λ f a r q k. search rules)) }
