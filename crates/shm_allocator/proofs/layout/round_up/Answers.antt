use Rattle.std.proofs.Common.{refl, arith}
use Rattle.shm_allocator.specs.Numbers.{rounded_up}
use Rattle.shm_allocator.specs.Rounding.{round_low, round_high}
use Rattle.shm_allocator.proofs.layout.round_up.Goals as goal

pub returns : goal.returns
unfolding rounded_up
returns c = let l = round_low c.args.x c.args.a (omega arith) in let h = round_high c.args.x c.args.a (omega arith) in record { value = refl; bound = (l, h) }
