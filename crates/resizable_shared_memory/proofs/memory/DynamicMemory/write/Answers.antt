-- A chunk that is held and has room is written in its segment.
use Rattle.std.proofs.Common.{◌≡◌, ℕ, ◌+◌, ◌-◌, ◌<◌, ◌≤◌, length, Some, Ok, ap, ◌∙◌, subst, arith}
use Rattle.std.specs.Result.{result_ok}
use Rattle.std.proofs.lemmas.Result.{err_from_is_err_and}
use Rattle.shared_memory.specs.Meaning.{AccessDenied, Writes, access_number}
use Rattle.pointer_offset.specs.Packing.{id_of}
use Rattle.shared_memory.specs.Optional.{ok_or_err}
use Rattle.resizable_shared_memory.specs.Entries.{entry, find}
use Rattle.resizable_shared_memory.specs.Memory.{Reached}
use Rattle.resizable_shared_memory.specs.Moves.{Reaches}
use Rattle.resizable_shared_memory.specs.Memory.WriteDenied.{not_held, outside, by_store}
use Rattle.resizable_shared_memory.specs.Parts.{chunks, place as IsPlace-in}
use Rattle.resizable_shared_memory.specs.declared.ledger.Held.{Held}
use Rattle.resizable_shared_memory.specs.declared.memory.DynamicMemory.{DynamicMemory}
use Rattle.resizable_shared_memory.specs.declared.table.Place.{Place}
use Rattle.shared_memory.proofs.Sounds.{same}
use Rattle.resizable_shared_memory.proofs.memory.DynamicMemory.write.Goals as goal
use Rattle.resizable_shared_memory.proofs.memory.DynamicMemory.write.Goals.{then-from-size-via-then-from-size, then-from-size-via-else-from-size+then-bytes-size}

pub returns-in_err-held : goal.returns-in_err-held
returns-in_err-held g c =
    let p = err_from_is_err_and c.from_residual.result c.from_residual.ensures.1 in
    let (none, why) = ok_or_err c.reach.result c.ok_or.ensures.value c.in_err-held.was in
    rw (p.1, p.2, why) (not_held (subst (Reaches c.args.claim.offset.0 c.args.claim.grant c.args.self.now.tables) none c.reach.ensures), same _)

pub returns-then-from-size : goal.returns-then-from-size
returns-then-from-size g c =
    let past : c.in_ok-held.held.size < c.args.from + length c.args.bytes.now =
    elim c.then-from-size.branch [ then-from-size-via-then-from-size w ↦ omega arith | then-from-size-via-else-from-size+then-bytes-size w ↦ omega arith ] in
    let found = subst (Reaches _ _ c.args.self.now.tables) (c.ok_or.ensures.ok_part ∙ ap result_ok c.in_ok-held.was) c.reach.ensures in
    (outside (entry c.in_ok-held.held) found.0 past, same _)

reached : {A : Type 0} (m : DynamicMemory A) (h : Held) (p : Place) (v g from size : ℕ) → (find v g (chunks m) ≡ Some (entry h)) × (IsPlace-in m (id_of v) ≡ Some p) → from ≤ h.size → size ≤ h.size - from
    → Reached m v g from size p
reached m h p v g from size held low few = record { chunk = entry h; found = held.0; fits = omega arith; there = held.1 }

pub returns-in_err-write : goal.returns-in_err-write
returns-in_err-write g c =
    let p = err_from_is_err_and c.from_residual-in_err-write.result c.from_residual-in_err-write.ensures.1 in
    let s = g.S.SegmentStore.means c.args.store.now in
    let place = c.in_ok-held.place in
    let found = subst (Reaches _ _ c.args.self.now.tables) (c.ok_or.ensures.ok_part ∙ ap result_ok c.in_ok-held.was) c.reach.ensures in
    let denied = subst (λ (o : ℕ). AccessDenied s place.handle (o + c.args.from) (length c.args.bytes.now) (access_number c.in_err-write.field-0.0)) c.offset.ensures c.in_err-write.ensures.0 in
    rw (p.1, p.2) (by_store place (reached c.args.self.now c.in_ok-held.held place _ _ _ _ found c.if-from-size.false c.if-bytes-size.false) denied, c.in_err-write.ensures.1)

pub returns : goal.returns
returns g c =
    let s = g.S.SegmentStore.means c.args.store.now in
    let t = g.S.SegmentStore.means c.write.new.self in
    let found = subst (Reaches _ _ c.args.self.now.tables) (c.ok_or.ensures.ok_part ∙ ap result_ok c.in_ok-held.was) c.reach.ensures in
    let place = c.in_ok-held.place in (
      place,
      reached c.args.self.now c.in_ok-held.held place _ _ _ _ found c.if-from-size.false c.if-bytes-size.false,
      subst (λ (o : ℕ). Writes s place.handle (o + c.args.from) c.args.bytes.now (Ok tt) t) c.offset.ensures c.in_ok-write.ensures,
    )
