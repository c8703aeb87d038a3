-- Only the place of the id 0 is mapped.
use Rattle.std.proofs.Common.{sym, refl, ap, ◌∙◌}
use Rattle.resizable_shared_memory.specs.Places.{place_of}
use Rattle.resizable_shared_memory.proofs.memory.Tables.new.Goals as goal

pub returns : goal.returns
returns c =
    let put = c.put.ensures in
    record {
      name_is = refl;
      strategy = refl;
      management_is = refl;
      first = c.new-2.ensures;
      is = ap (place_of c.put.new.self) (sym c.new.ensures) ∙ put.here;
      others = λ k n. put.others k (λ z. n (z ∙ c.new.ensures)) ∙ c.empty-table.ensures k;
      none_held = c.empty.ensures;
      none_given = refl;
    }
