use Rattle.shared_memory.proofs.Limits.{withdraws_limited}
use Rattle.shared_memory.proofs.quota_store.calls.QuotaStoreSegmentStore.withdraw.Goals as goal

pub returns : goal.returns
returns g c =
    let means = g.S.SegmentStore.means in
    let s = c.args.self.now in
    withdraws_limited (means s.below) (means c.withdraw.new.self) s.quota c.args.handle c.withdraw.result c.withdraw.ensures
