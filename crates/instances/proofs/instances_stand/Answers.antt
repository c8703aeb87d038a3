use Rattle.instances.proofs.Stories.{instances}
use Rattle.instances.proofs.instances_stand.Goals as goal

pub returns : goal.returns
returns c = instances
