use Rattle.std.proofs.Common.{sym, arith}
use Rattle.std.proofs.lemmas.Bool.{eq-eqb, eqb-true, both_ways}
use Rattle.shm_allocator.specs.Powers.{ones_power, power_ones}
use Rattle.shm_allocator.proofs.layout.validation.ValidLayoutTryFromLayout.try_from.Goals as goal

pub returns-then-not-is_power_of_two : goal.returns-then-not-is_power_of_two
returns-then-not-is_power_of_two c = λ v. both_ways _ (sym c.if-not-is_power_of_two.ensures) (eq-eqb _ 1 (power_ones c.args.layout.align v.power))

pub invariant_of-result : goal.invariant_of-result
invariant_of-result c =
    let e = ones_power c.args.layout.align (eqb-true _ 1 (sym c.if-not-is_power_of_two.ensures)) in
    record { sized = (omega arith, omega arith); aligned = (∣ e ∣₁, omega arith) }
