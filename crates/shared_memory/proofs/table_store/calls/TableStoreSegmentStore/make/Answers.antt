use Rattle.std.proofs.Common.{sym, ap, ◌∙◌}
use Rattle.std.specs.Result.{result_ok}
use Rattle.std.proofs.lemmas.Result.{err_from_is_err_and}
use Rattle.shared_memory.specs.Optional.{ok_or_err}
use Rattle.shared_memory.specs.Tables.{memory, extents, under}
use Rattle.shared_memory.proofs.Tabled.{unplaced}
use Rattle.shared_memory.proofs.table_store.calls.TableStoreSegmentStore.make.Goals as goal

pub returns-in_err-place : goal.returns-in_err-place
returns-in_err-place g c =
    let s = c.args.self.now in
    let rule = g.P.Placing.rule s.placing in
    let p = err_from_is_err_and c.from_residual-in_err-place.result c.from_residual-in_err-place.ensures.1 in
    let (none, why) = ok_or_err c.place.result c.ok_or.ensures.value c.in_err-place.was in
    rw (p.1, p.2, why) (unplaced s.table rule c.args.size c.args.name.now (c.in_ok-check_request.ensures (under rule s.table) (c.is_named.ensures rule)) (sym none ∙ c.place.ensures))

pub occupy-requires : goal.occupy-requires
occupy-requires g c =
    let s = c.args.self.now in
    let p = c.in_ok-place.place in
    let rule = g.P.Placing.rule s.placing in
    let wanted = c.in_ok-check_request.ensures (under rule s.table) (c.is_named.ensures rule) in
    let chosen = sym c.place.ensures ∙ c.ok_or.ensures.ok_part ∙ ap result_ok c.in_ok-place.was in
    record {
      vacant = g.met.P.Placing.lawful.free s.placing (extents s.table) (memory s.table) c.args.size p s.laid chosen;
      fresh = (wanted.0, λ other. wanted.2);
      sized = wanted.1;
    }
