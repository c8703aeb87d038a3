-- Each denial comes in its order, and leaves the store as it was.
use Rattle.std.proofs.Common.{ℕ, List, Ok, Err, refl, ap}
use Rattle.std.proofs.lemmas.Result.{err_from_is_err_and}
use Rattle.shared_memory.specs.Names.{management_name, segment_name}
use Rattle.shm_allocator.specs.declared.SharedMemorySetupHint.{SharedMemorySetupHint}
use Rattle.resizable_shared_memory.specs.Creation.CreationDenied.{bad_name, bad_layout, no_management, no_segment}
use Rattle.resizable_shared_memory.proofs.Creating.{same_room, undone}
use Rattle.shared_memory.proofs.Sounds.{same}
use Rattle.resizable_shared_memory.proofs.Storing.{made_as}
use Rattle.resizable_shared_memory.proofs.builder.DynamicMemoryBuilder.create.Goals as goal

pub returns-in_err-base : goal.returns-in_err-base
returns-in_err-base g c =
    let p = err_from_is_err_and c.from_residual.result c.from_residual.ensures.1 in
    rw (p.1, p.2) (bad_name c.in_err-base.ensures.0, same_room (same _))

pub returns-in_err-layout : goal.returns-in_err-layout
returns-in_err-layout g c =
    let p = err_from_is_err_and c.from_residual-in_err-layout.result c.from_residual-in_err-layout.ensures.1 in
    rw (p.1, p.2) (bad_layout c.in_ok-base.ensures.0 c.in_err-layout.ensures, same_room (same _))

pub returns-in_err-management : goal.returns-in_err-management
returns-in_err-management g c =
    let p = err_from_is_err_and c.from_residual-in_err-management.result c.from_residual-in_err-management.ensures.1 in
    let α = g.A.ShmAllocator.means in
    let s = g.S.SegmentStore.means c.args.store.now in
    let base = c.in_ok-base.ensures in
    let denied = made_as α s _ (Err c.in_err-management.field-0.0) (ap management_name base.1) refl c.in_err-management.ensures in
    rw (p.1, p.2) (
      no_management base.0 c.in_ok-layout.ensures.0 denied.0,
      same_room denied.1,
    )

pub returns-in_err-segment : goal.returns-in_err-segment
returns-in_err-segment g c =
    let p = err_from_is_err_and c.from_residual-in_err-segment.result c.from_residual-in_err-segment.ensures.1 in
    let α = g.A.ShmAllocator.means in
    let s = g.S.SegmentStore.means c.args.store.now in
    let between = g.S.SegmentStore.means c.make_management.new.store in
    let base = c.in_ok-base.ensures in
    let o = c.in_ok-management.management in
    let made = made_as α s between (Ok o) (ap management_name base.1) refl c.in_ok-management.ensures in
    let denied = c.in_err-segment.ensures in
    let first = made_as α between denied.0 (Err c.in_err-segment.field-0.0) (ap (λ (n : List ℕ). segment_name n 0) base.1) c.initial_setup_hint-hint.ensures denied.1 in
    rw (p.1, p.2) (
      no_segment c.in_ok-layout.layout base.0 c.in_ok-layout.ensures.1 c.in_ok-layout.ensures.2 made first.0,
      undone s between denied.0 _ _ _ _ o made.2 first.1 denied.2,
    )

pub returns : goal.returns
returns g c =
    let α = g.A.ShmAllocator.means in
    let s = g.S.SegmentStore.means c.args.store.now in
    let between = g.S.SegmentStore.means c.make_management.new.store in
    let t = g.S.SegmentStore.means c.make_first.new.store in
    let base = c.in_ok-base.ensures in
    let v = c.in_ok-layout.layout in
    let o = c.in_ok-management.management in
    let q = c.in_ok-segment.segment in
    let hinted = c.initial_setup_hint-hint.ensures in (
      v,
      o,
      q,
      record {
        good = base.0;
        size = c.in_ok-layout.ensures.1;
        align = c.in_ok-layout.ensures.2;
        between = between;
        management = made_as α s between (Ok o) (ap management_name base.1) refl c.in_ok-management.ensures;
        first = made_as α between t (Ok q) (ap (λ (n : List ℕ). segment_name n 0) base.1) hinted c.in_ok-segment.ensures;
      },
      record {
        name = base.1;
        strategy = refl;
        management = refl;
        segment = refl;
        payload = ap (λ (h : SharedMemorySetupHint g.row.A-Configuration.Denot). h.payload_size) hinted;
        config = ap (λ (h : SharedMemorySetupHint g.row.A-Configuration.Denot). h.config) hinted;
      },
    )
