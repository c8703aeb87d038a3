use Rattle.shared_memory.proofs.Limits.{closes_limited}
use Rattle.shared_memory.proofs.quota_store.calls.QuotaStoreSegmentStore.close.Goals as goal

pub returns : goal.returns
returns g c =
    let means = g.S.SegmentStore.means in
    let s = c.args.self.now in
    closes_limited (means s.below) (means c.close.new.self) s.quota c.args.handle c.close.result c.close.ensures
