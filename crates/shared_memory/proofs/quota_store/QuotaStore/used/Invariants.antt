use Rattle.std.proofs.Common.{◌≡◌, ◌*◌, ◌^◌, ◌≤◌}
use Rattle.shared_memory.specs.Quotas.{total, bytes_under}
use Rattle.shared_memory.proofs.quota_store.QuotaStore.used.Given as goal

abbrev pub invariant-loop-handle : goal.invariant-loop-handle
invariant-loop-handle g l = (l.sum ≡ total (bytes_under (g.S.SegmentStore.means l.self.below)) l.handle) × (l.sum ≤ l.handle * 2 ^ 64)
