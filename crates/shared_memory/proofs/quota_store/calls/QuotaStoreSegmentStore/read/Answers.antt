use Rattle.shared_memory.proofs.Limits.{reads_limited}
use Rattle.shared_memory.proofs.quota_store.calls.QuotaStoreSegmentStore.read.Goals as goal

pub returns : goal.returns
returns g c =
    let s = c.args.self.now in
    reads_limited (g.S.SegmentStore.means s.below) s.quota c.args.handle c.args.from c.args.buffer.now c.read.new.buffer c.read.result c.read.ensures
