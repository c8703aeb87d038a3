use Rattle.std.proofs.Common.{refl}
use Rattle.shared_memory.specs.Quotas.{limited, QuotaDenied}
use Rattle.shared_memory.proofs.Sounds.{empty_sound}
use Rattle.shared_memory.proofs.quota_store.QuotaStore.new.Goals as goal

pub returns-then-not-is_empty : goal.returns-then-not-is_empty
returns-then-not-is_empty g c = (refl, QuotaDenied.not_empty c.if-not-is_empty.ensures)

pub returns : goal.returns
returns g c =
    let empty = c.if-not-is_empty.ensures in
    record { over = refl; limit = refl; empty = empty; sound = empty_sound (limited (g.S.SegmentStore.means c.args.below) c.args.quota) empty; within = λ size. refl }
