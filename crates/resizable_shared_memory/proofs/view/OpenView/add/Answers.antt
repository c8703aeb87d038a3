-- A place that is mapped counts one registration more, as long as it can be counted.
use Rattle.std.proofs.Common.{◌+◌, refl, ap, inl, arith}
use Rattle.resizable_shared_memory.specs.Viewer.RegisterDenied.{registrations_full}
use Rattle.shared_memory.proofs.Sounds.{same}
use Rattle.resizable_shared_memory.proofs.Viewing.{put_at}
use Rattle.resizable_shared_memory.proofs.view.OpenView.add.Goals as goal

pub returns-then-place-eq4294967295 : goal.returns-then-place-eq4294967295
returns-then-place-eq4294967295 c s = (registrations_full c.args.self.now c.args.place refl c.requires c.if-place-eq4294967295.true, refl, same s)

pub returns : goal.returns
returns c s =
    let put = put_at c.segment_id.ensures c.put.ensures in (
      c.args.self.now,
      _,
      refl,
      refl,
      inl (
        record {
          there = c.args.place;
          was = c.requires;
          few = omega (arith, c.if-place-eq4294967295.false);
          counted = c.with_count-counted.result;
          is = put.here;
          numbers = c.with_count-counted.ensures;
          told = ap (λ o. c.args.place.address + o) c.offset.ensures;
          others = put.others;
          current = refl;
          kept = refl;
        },
        refl,
      ),
    )
