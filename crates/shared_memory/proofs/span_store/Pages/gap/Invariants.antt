use Rattle.std.proofs.Common.{◌≡◌, ℕ, ◌-◌, ◌<◌, ◌≤◌, false}
use Rattle.shared_memory.specs.Spans.{free_run}
use Rattle.shared_memory.specs.Tables.{extents}
use Rattle.shared_memory.proofs.span_store.Pages.gap.Given as goal

abbrev pub invariant-loop-page : goal.invariant-loop-page
invariant-loop-page l = (l.page ≤ l.self.count) × ((q : ℕ) → q < l.page → free_run (extents l.table) l.self.count l.n q ≡ false)

abbrev pub decreases-loop-page : goal.decreases-loop-page
decreases-loop-page l = l.self.count - l.page
