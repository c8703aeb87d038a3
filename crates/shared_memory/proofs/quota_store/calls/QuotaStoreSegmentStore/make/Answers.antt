use Rattle.shared_memory.specs.Quotas.{limited}
use Rattle.shared_memory.proofs.Limits.{makes_limited, fits_quota, passes_quota}
use Rattle.shared_memory.proofs.Sounds.{roomless}
use Rattle.shared_memory.proofs.quota_store.calls.QuotaStoreSegmentStore.make.Goals as goal

pub returns-then-is_within : goal.returns-then-is_within
returns-then-is_within g c =
    let means = g.S.SegmentStore.means in
    let s = c.args.self.now in
    makes_limited (means s.below) (means c.make.new.self) s.quota c.args.name.now c.args.size c.args.allocator_id c.make.result (fits_quota (means s.below) c.args.size s.quota c.if-is_within.ensures) c.make.ensures

pub returns : goal.returns
returns g c =
    let below = g.S.SegmentStore.means c.args.self.now.below in
    let q = c.args.self.now.quota in
    roomless (limited below q) c.args.name.now c.args.size (c.in_ok-check_request.ensures (limited below q) c.is_named.ensures) (passes_quota below c.args.size q c.if-is_within.ensures)
