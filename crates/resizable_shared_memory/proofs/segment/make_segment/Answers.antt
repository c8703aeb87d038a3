-- Each denial comes in its order, and the store's own can only be want of room.
use Rattle.std.proofs.Common.{ℕ, List, sym, ◌∙◌, subst, arith}
use Rattle.shared_memory.specs.Meaning.{Named, Makes}
use Rattle.resizable_shared_memory.specs.Segments.SegmentDenied.{size_zero, name_stands, too_large, impossible}
use Rattle.shared_memory.proofs.Sounds.{same}
use Rattle.resizable_shared_memory.proofs.Storing.{made_or_denied}
use Rattle.resizable_shared_memory.proofs.segment.make_segment.Goals as goal

pub returns-then-hint-eq0 : goal.returns-then-hint-eq0
returns-then-hint-eq0 g c = (size_zero c.if-hint-eq0.true, same _)

pub returns-then-is_named : goal.returns-then-is_named
returns-then-is_named g c =
    let stands = Named (g.S.SegmentStore.means c.args.store.now) in
    (name_stands (omega (arith, c.if-hint-eq0.false)) (subst stands c.as_bytes.ensures c.if-is_named.ensures), same _)

pub returns-then-hint : goal.returns-then-hint
returns-then-hint g c =
    let stands = Named (g.S.SegmentStore.means c.args.store.now) in
    (too_large c.if-hint.true (λ n. c.if-is_named.ensures (subst stands (sym c.as_bytes.ensures) n)), same _)

pub returns-then-not-can_set_up : goal.returns-then-not-can_set_up
returns-then-not-can_set_up g c =
    let stands = Named (g.S.SegmentStore.means c.args.store.now) in
    (impossible (omega (arith, c.if-hint-eq0.false)) (λ n. c.if-is_named.ensures (subst stands (sym c.as_bytes.ensures) n)) (sym c.can_set_up.ensures ∙ c.if-not-can_set_up.true), same _)

pub returns : goal.returns
returns g c =
    let s = g.S.SegmentStore.means c.args.store.now in
    let t = g.S.SegmentStore.means c.make.new.self in
    made_or_denied g.A.ShmAllocator.means s t _ c.args.hint c.args.name.now.good (omega (arith, c.if-hint-eq0.false))
    (λ n. c.if-is_named.ensures (subst (Named s) (sym c.as_bytes.ensures) n)) c.unique_id.result c.make.result c.unique_id.ensures (omega (arith, c.if-hint.false))
    (sym c.can_set_up.ensures ∙ c.if-not-can_set_up.false)
    (subst (λ (n : List ℕ). Makes s n c.args.hint.payload_size c.unique_id.result c.make.result t) c.as_bytes-2.ensures c.make.ensures)
