use Rattle.std.proofs.Common.{sym, ◌∙◌, arith}
use Rattle.shared_memory.specs.Spanning.{run_bound, spanned}
use Rattle.shared_memory.specs.Spans.{pages_of}
use Rattle.shared_memory.specs.Tables.{memory, extents}
use Rattle.shared_memory.proofs.span_store.placing.PagesPlacing.place.Goals as goal

pub gap-requires : goal.gap-requires
gap-requires c = (spanned (extents c.args.table.now) (memory c.args.table.now) c.args.self.now.count c.requires).1

pub overflow_mul-result : goal.overflow_mul-result
overflow_mul-result c =
    let t = c.args.table.now in
    let pages = c.args.self.now.count in
    let e = (spanned (extents t) (memory t) pages c.requires).1 in
    omega (arith, run_bound (extents t) pages (pages_of c.args.size) c.in_ok-page.page (sym c.in_ok-page.was ∙ c.gap.ensures), e, t.small)
