use Rattle.std.proofs.Common.{◌≡◌, ℕ, ◌*◌, sym, ap, ◌∙◌, subst, ⊎_elim, arith}
use Rattle.std.proofs.lemmas.Bool.{cases_lt}
use Rattle.shared_memory.specs.Extents.{Within}
use Rattle.shared_memory.specs.Spans.{first_run}
use Rattle.shared_memory.specs.Tables.{memory, extents}
use Rattle.shared_memory.specs.declared.table.SegmentTable.{SegmentTable}
use Rattle.shared_memory.specs.Spanning.{passed, goes_on, run_found, run_none}
use Rattle.shared_memory.proofs.span_store.Pages.gap.Goals as goal

within : (t : SegmentTable) (pages : ℕ) → memory t ≡ pages * 4096 → Within (extents t) (pages * 4096)
within t pages e = subst (Within (extents t)) e t.within

pub returns-in_default : goal.returns-in_default
returns-in_default c =
    let es = extents c.args.table.now in
    let pages = c.args.self.now.count in
    sym (ap (first_run es pages) (sym c.pages_of-n.ensures) ∙ run_found es pages c.pages_of-n.result c.loop-page.page c.loop-page-test.true c.in_default.ensures c.loop-page.invariant.1)

pub loop-page-smaller : goal.loop-page-smaller
loop-page-smaller c =
    let t = c.args.table.now in
    let pages = c.args.self.now.count in
    omega (arith, goes_on (extents t) pages c.pages_of-n.result (within t pages c.requires) c.loop-page.page c.in-Some.end c.in-Some.ensures, c.pages_of-page.ensures)

pub loop-page-preserved : goal.loop-page-preserved
loop-page-preserved c =
    let t = c.args.table.now in
    let es = extents t in
    let pages = c.args.self.now.count in
    let n = c.pages_of-n.result in
    let page = c.loop-page.page in
    let end = c.in-Some.end in
    let b = c.in-Some.ensures in (
      omega (arith, goes_on es pages n (within t pages c.requires) page end b, c.pages_of-page.ensures),
      λ q lt. ⊎_elim (c.loop-page.invariant.1 q) (λ le. passed es pages n page end b q le (omega (arith, c.pages_of-page.ensures))) (cases_lt q page),
    )

pub returns : goal.returns
returns c =
    let es = extents c.args.table.now in
    let pages = c.args.self.now.count in
    sym (ap (first_run es pages) (sym c.pages_of-n.ensures) ∙ run_none es pages c.pages_of-n.result c.loop-page.page c.loop-page-test.false c.loop-page.invariant.1)
