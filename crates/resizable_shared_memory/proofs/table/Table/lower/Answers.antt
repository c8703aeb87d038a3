-- The last chunk of a segment that is not current empties its place.
use Rattle.std.proofs.Common.{◌≡◌, ◌<◌, ◌⊎◌, sym, refl, ap, inl, inr, arith}
use Rattle.std.proofs.lemmas.Bool.{both_ways, eq-eqb, eqb-true}
use Rattle.resizable_shared_memory.specs.Places.{count_of}
use Rattle.resizable_shared_memory.proofs.table.Table.lower.Goals as goal
use Rattle.resizable_shared_memory.proofs.table.Table.lower.Goals.{then-place-gt1-via-then-place-gt1, then-place-gt1-via-else-place-gt1+then-eq}

pub returns-then-place-gt1 : goal.returns-then-place-gt1
returns-then-place-gt1 g c =
    let stays : (1 < c.mapped-place.result.count) ⊎ (c.args.id.0 ≡ c.args.current.0) =
    elim c.then-place-gt1.branch [
      | then-place-gt1-via-then-place-gt1 w ↦ inl w.if-place-gt1.true
      | then-place-gt1-via-else-place-gt1+then-eq w ↦ inr (eqb-true c.args.id.0 c.args.current.0 (sym w.if-eq.ensures))
    ] in
    record {
      old = c.mapped-place.result;
      was = c.mapped-place.ensures;
      lowered = inr (stays, refl, (c.with_count.result, c.put.ensures.here, c.with_count.ensures));
      others = c.put.ensures.others;
    }

pub returns : goal.returns
returns g c = record {
  old = c.mapped-place.result;
  was = c.mapped-place.ensures;
  lowered = inl (
    omega (arith, ap count_of c.mapped-place.ensures, c.requires),
    (λ e. both_ways _ (sym c.if-eq.ensures) (eq-eqb c.args.id.0 c.args.current.0 e)),
    c.put-2.ensures.here,
    (c.withdraw.result, c.withdraw.ensures),
  );
  others = c.put-2.ensures.others;
}
