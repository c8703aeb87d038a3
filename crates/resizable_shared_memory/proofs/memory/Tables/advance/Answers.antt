-- The next segment's place was empty before, and counts nothing yet.
use Rattle.std.proofs.Common.{◌≡◌, Option, sym, refl, ◌∙◌, subst, arith}
use Rattle.resizable_shared_memory.specs.Withdrawals.{Vacates}
use Rattle.resizable_shared_memory.specs.declared.table.Place.{Place}
use Rattle.resizable_shared_memory.proofs.memory.Tables.advance.Goals as goal

pub returns : goal.returns
returns g c =
    let m = c.args.self.now in
    let i = m.current.0 in
    let left = c.leave.ensures in
    let apart : i ≡ c.args.next.0 → ⊥ = omega arith in
    record {
      next = omega arith;
      old = left.old;
      old_there = left.was;
      leaves = subst (λ (p : Option Place). Vacates left.old p (g.S.SegmentStore.means c.args.store.now) (g.S.SegmentStore.means c.leave.new.store)) (sym (c.put.ensures.others i apart)) left.vacates;
      new_there = c.put.ensures.here;
      others = λ k o n. c.put.ensures.others k n ∙ left.others k o;
      ledger = refl;
      grants = refl;
      kept = record { base = refl; strategy = refl; management = refl };
    }
