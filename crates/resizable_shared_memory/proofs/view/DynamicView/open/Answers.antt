-- Each denial comes in its order: the name, the store's own, then the other allocator.
use Rattle.std.proofs.Common.{Ok, Err, refl}
use Rattle.std.proofs.lemmas.Result.{err_from_is_err_and}
use Rattle.shared_memory.specs.Names.{management_name}
use Rattle.resizable_shared_memory.specs.Viewer.OpenViewDenied.{bad_base_name, no_management}
use Rattle.resizable_shared_memory.proofs.Reopening.{known_as}
use Rattle.shared_memory.proofs.Sounds.{same}
use Rattle.resizable_shared_memory.proofs.view.DynamicView.open.Goals as goal

pub returns-in_err-base : goal.returns-in_err-base
returns-in_err-base g c =
    let p = err_from_is_err_and c.from_residual.result c.from_residual.ensures.1 in
    rw (p.1, p.2) (bad_base_name c.in_err-base.ensures.0, same _)

pub returns-in_err-opened : goal.returns-in_err-opened
returns-in_err-opened g c =
    let p = err_from_is_err_and c.from_residual-in_err-opened.result c.from_residual-in_err-opened.ensures.1 in
    let base = c.in_ok-base.ensures in
    let denied = known_as management_name _ _ (Err c.in_err-opened.field-0.0) c.as_bytes.ensures c.management.ensures base.1 c.unique_id-allocator_id.ensures c.in_err-opened.ensures in
    rw (p.1, p.2) (no_management base.0 denied.0, denied.1)

pub returns : goal.returns
returns g c =
    let base = c.in_ok-base.ensures in
    let o = c.in_ok-opened.opened in
    let opened = known_as management_name _ _ (Ok o) c.as_bytes.ensures c.management.ensures base.1 c.unique_id-allocator_id.ensures c.in_ok-opened.ensures in
    (base.0, (o, opened, record { base = base.1; kind_is = c.unique_id-allocator_id.ensures; management = refl }))
