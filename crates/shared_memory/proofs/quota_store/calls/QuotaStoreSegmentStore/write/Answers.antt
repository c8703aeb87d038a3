use Rattle.shared_memory.proofs.Limits.{writes_limited}
use Rattle.shared_memory.proofs.quota_store.calls.QuotaStoreSegmentStore.write.Goals as goal

pub returns : goal.returns
returns g c =
    let means = g.S.SegmentStore.means in
    let s = c.args.self.now in
    writes_limited (means s.below) (means c.write.new.self) s.quota c.args.handle c.args.from c.args.bytes.now c.write.result c.write.ensures
