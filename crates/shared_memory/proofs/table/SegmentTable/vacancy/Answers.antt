use Rattle.std.proofs.Common.{rules, is_none, ap, ◌∙◌}
use Rattle.std.specs.List.{position}
use Rattle.std.proofs.lemmas.Iterator.Adapters.{option_map_id}
use Rattle.shared_memory.specs.Optional.{mapped}
use Rattle.shared_memory.specs.Tables.{slots_of}
use Rattle.shared_memory.proofs.Slotted.{vacant_free}
use Rattle.shared_memory.proofs.table.SegmentTable.vacancy.Goals as goal

pub returns : goal.returns
returns c =
    mapped (λ h. h) c.first_vacant.result c.map.result c.map.ensures.cases (λ x y q. search rules)
    ∙ (option_map_id c.first_vacant.result ∙ (c.first_vacant.ensures ∙ (ap (position is_none) c.deref.ensures.value ∙ vacant_free (slots_of c.args.self.now))))
