use Rattle.std.proofs.Common.{MatchBool, subst, arith, rules}
use Rattle.shared_memory.specs.Meaning.{Named, MakeDenied}
use Rattle.shared_memory.proofs.requests.check_request.Goals as goal

pub returns-then-not-is_good_name : goal.returns-then-not-is_good_name
returns-then-not-is_good_name c s w = MakeDenied.bad_name (search rules)

pub returns-then-size-eq0 : goal.returns-then-size-eq0
returns-then-size-eq0 c s w = MakeDenied.size_zero (c.is_good_name.ensures.0 c.if-not-is_good_name.false) c.if-size-eq0.true

pub returns-then-stands : goal.returns-then-stands
returns-then-stands c s w =
    let n = c.args.name.now in
    MakeDenied.name_stands (c.is_good_name.ensures.0 c.if-not-is_good_name.false) (omega arith) (subst (λ b. MatchBool b (Named s n) (Named s n → ⊥)) c.if-stands.true w)
