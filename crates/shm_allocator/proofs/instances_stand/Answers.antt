use Rattle.shm_allocator.proofs.Stories.{instances}
use Rattle.shm_allocator.proofs.instances_stand.Goals as goal

pub returns : goal.returns
returns c = instances
