use Rattle.shared_memory.proofs.Limits.{opens_limited}
use Rattle.shared_memory.proofs.quota_store.calls.QuotaStoreSegmentStore.open.Goals as goal

pub returns : goal.returns
returns g c =
    let means = g.S.SegmentStore.means in
    let s = c.args.self.now in
    opens_limited (means s.below) (means c.open.new.self) s.quota c.args.name.now c.open.result c.open.ensures
