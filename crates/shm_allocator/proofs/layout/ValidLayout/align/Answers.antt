use Rattle.std.proofs.Common.{refl}
use Rattle.shm_allocator.specs.Powers.{power_pos}
use Rattle.shm_allocator.proofs.layout.ValidLayout.align.Goals as goal

pub returns : goal.returns
returns c = record { value = refl; bound = (power_pos c.args.self.now.align c.args.self.now.aligned.0, c.args.self.now.aligned.1) }
