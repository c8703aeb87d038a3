-- The last registration in a segment that is not current empties its place.
use Rattle.std.proofs.Common.{◌<◌, ◌⊎◌, refl, inl, inr, arith, tests}
use Rattle.std.proofs.lemmas.Result.{err_from_is_err_and}
use Rattle.pointer_offset.specs.Packing.{id_of}
use Rattle.shared_memory.specs.Optional.{ok_or_err}
use Rattle.resizable_shared_memory.specs.Viewer.{IsCurrent}
use Rattle.resizable_shared_memory.specs.Viewer.UnregisterDenied.{not_mapped, not_registered}
use Rattle.resizable_shared_memory.proofs.Viewing.{put_at}
use Rattle.resizable_shared_memory.proofs.view.OpenView.unregister.Goals as goal
use Rattle.resizable_shared_memory.proofs.view.OpenView.unregister.Goals.{then-place-gt1-via-then-place-gt1, then-place-gt1-via-else-place-gt1+then-is_current}

pub returns-in_err-place : goal.returns-in_err-place
returns-in_err-place g c =
    let v = c.args.self.now in
    let p = err_from_is_err_and c.from_residual.result c.from_residual.ensures.1 in
    let why = (ok_or_err c.get.result c.ok_or.ensures.value c.in_err-place.was).1 in
    rw (p.1, p.2, why) (not_mapped v refl (grind arith), refl, refl)

pub returns-then-place-eq0 : goal.returns-then-place-eq0
returns-then-place-eq0 g c =
    let v = c.args.self.now in
    (not_registered v c.in_ok-place.place refl (grind arith) c.if-place-eq0.true, refl, refl)

pub returns-then-place-gt1 : goal.returns-then-place-gt1
returns-then-place-gt1 g c =
    let v = c.args.self.now in
    let id = c.segment_id-id.ensures in
    let put = put_at id c.put.ensures in
    let stays : (1 < c.in_ok-place.place.count) ⊎ IsCurrent v (id_of c.args.offset.0) =
    elim c.then-place-gt1.branch [
      | then-place-gt1-via-then-place-gt1 w ↦ inl w.if-place-gt1.true
      | then-place-gt1-via-else-place-gt1+then-is_current w ↦ inr (grind (arith, tests))
    ] in (
      v,
      _,
      refl,
      refl,
      record {
        there = c.in_ok-place.place;
        was = grind arith;
        some = omega arith;
        lowered = inr (stays, refl, (c.with_count.result, put.here, c.with_count.ensures));
        others = put.others;
        current = refl;
        kept = refl;
      },
    )

pub returns : goal.returns
returns g c =
    let v = c.args.self.now in
    let id = c.segment_id-id.ensures in
    let put = put_at id c.put-2.ensures in (
      v,
      _,
      refl,
      refl,
      record {
        there = c.in_ok-place.place;
        was = grind arith;
        some = omega arith;
        lowered = inl (omega arith, grind (arith, tests), put.here, (c.close.result, c.close.ensures));
        others = put.others;
        current = refl;
        kept = refl;
      },
    )
