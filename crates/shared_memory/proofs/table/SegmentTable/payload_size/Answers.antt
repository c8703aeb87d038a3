use Rattle.std.proofs.Common.{rules, sym, ap, ◌∙◌}
use Rattle.std.specs.Option.{option_map as over}
use Rattle.shared_memory.specs.Optional.{mapped}
use Rattle.shared_memory.proofs.Tabled.{slot_size}
use Rattle.shared_memory.proofs.table.SegmentTable.payload_size.Goals as goal

pub returns : goal.returns
returns c rule = mapped (λ x. x.size) c.slot.result c.map.result c.map.ensures.cases (λ x y q. search rules) ∙ (ap (over (λ x. x.size)) c.slot.ensures ∙ sym (slot_size c.args.self.now c.args.handle rule))
