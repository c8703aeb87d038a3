-- The bucket size is told of the place that was found.
use Rattle.std.proofs.Common.{sym, refl, ap, ◌∙◌}
use Rattle.std.specs.Result.{result_ok}
use Rattle.resizable_shared_memory.proofs.memory.DynamicMemory.bucket_size.Goals as goal

pub returns : goal.returns
returns g c = (c.in_ok-place.place, sym c.get.ensures ∙ c.ok_or.ensures.ok_part ∙ ap result_ok c.in_ok-place.was, refl)
