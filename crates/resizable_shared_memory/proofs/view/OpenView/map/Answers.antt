-- The segment of a first registration becomes current, and the one before is left.
use Rattle.std.proofs.Common.{◌+◌, is_some, Some, Ok, Err, refl, ap, ◌∙◌, inr}
use Rattle.std.proofs.lemmas.Result.{err_from_is_err_and}
use Rattle.pointer_offset.specs.Packing.{id_of}
use Rattle.shared_memory.specs.Names.{text, segment_name}
use Rattle.resizable_shared_memory.specs.Viewer.RegisterDenied.{not_opened}
use Rattle.resizable_shared_memory.specs.declared.view.OpenView.{OpenView}
use Rattle.resizable_shared_memory.proofs.Reopening.{known_as}
use Rattle.resizable_shared_memory.proofs.Viewing.{put_at, carried}
use Rattle.resizable_shared_memory.proofs.view.OpenView.map.Goals as goal

pub returns-in_err-opened : goal.returns-in_err-opened
returns-in_err-opened g c =
    let p = err_from_is_err_and c.from_residual.result c.from_residual.ensures.1 in
    let v = c.args.self.now in
    let denied = known_as (segment_name (text v.record.base)) _ _ (Err c.in_err-opened.field-0.0) c.as_bytes.ensures c.segment-name.ensures c.segment_id-id.ensures refl c.in_err-opened.ensures in
    rw (p.1, p.2) (not_opened v refl c.requires denied.0, refl, denied.1)

pub returns : goal.returns
returns g c =
    let v = c.args.self.now in
    let x = c.leave.new.self in
    let o = c.in_ok-opened.opened in
    let id = c.segment_id-id.ensures in
    let put = put_at id c.put.ensures in
    let left = c.leave.ensures in
    let w : OpenView = record { «record» = x.record; table = c.put.new.self; current = Some c.segment_id-id.result; mapped = ap is_some c.put.ensures.here } in (
      v,
      _,
      refl,
      refl,
      inr (record {
        absent = c.requires;
        opened = o;
        between = g.S.SegmentStore.means c.open_for.new.store;
        opens = known_as (segment_name (text v.record.base)) _ _ (Ok o) c.as_bytes.ensures c.segment-name.ensures id refl c.in_ok-opened.ensures;
        counted = c.with_count.result;
        is = put.here;
        numbers = let n = c.with_count.ensures in let o = c.of.ensures in (n.0 ∙ o.0, n.1 ∙ o.1, n.2 ∙ o.2, n.3);
        told = ap (λ n. o.address + n) c.offset.ensures;
        current = (c.segment_id-id.result, refl, id);
        leaves = carried v x w _ _ (id_of c.args.offset.0) c.requires put.others left.leaves;
        others = λ k ne no. put.others k ne ∙ left.others k no;
        kept = left.kept;
      }),
    )
