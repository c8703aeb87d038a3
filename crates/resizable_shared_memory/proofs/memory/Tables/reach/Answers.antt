-- A held chunk is counted in its segment, which so has a place.
use Rattle.std.proofs.Common.{sym, ap, ◌∙◌}
use Rattle.resizable_shared_memory.specs.Places.{place_of}
use Rattle.resizable_shared_memory.proofs.Withdrawing.{counted_there, counted_some}
use Rattle.resizable_shared_memory.proofs.memory.Tables.reach.Goals as goal

pub mapped-place-requires : goal.mapped-place-requires
mapped-place-requires c =
    let m = c.args.self.now in
    counted_some _ (counted_there m.ledger _ _ _ _ c.in_ok-held.ensures m.table _ c.segment_id.ensures m.counted)

pub returns : goal.returns
returns c = (c.in_ok-held.ensures.found, ap (place_of c.args.self.now.table) (sym c.segment_id.ensures) ∙ c.mapped-place.ensures)
