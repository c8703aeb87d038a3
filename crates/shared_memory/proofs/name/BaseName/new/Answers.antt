use Rattle.std.proofs.Common.{refl}
use Rattle.shared_memory.proofs.Naming.{base_is_text}
use Rattle.shared_memory.proofs.name.BaseName.new.Goals as goal

pub unreachable-requires : goal.unreachable-requires
unreachable-requires c = c.in_default.ensures.cases.0 (base_is_text _ (c.if-not-is_base_name.ensures.0 refl))
