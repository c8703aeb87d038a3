-- A denial of the first segment is followed by the withdrawal of the management segment.
use Rattle.std.proofs.Common.{◌≡◌, ℕ, true, false, List, is_err, Ok, Err, Result, sym, refl, ap, ◌∙◌, rules}
use Rattle.std.proofs.lemmas.Bool.{both_ways}
use Rattle.shared_memory.specs.declared.opened.Opened.{Opened}
use Rattle.shared_memory.specs.declared.fault.SharedMemoryCreateError.{SharedMemoryCreateError}
use Rattle.shared_memory.specs.Meaning.{Store}
use Rattle.shared_memory.specs.Names.{segment_name, text}
use Rattle.shm_allocator.specs.declared.SharedMemorySetupHint.{SharedMemorySetupHint}
use Rattle.shm_allocator.specs.Meaning.{Meaning}
use Rattle.resizable_shared_memory.specs.Creation.{MakesFirst}
use Rattle.resizable_shared_memory.specs.Segments.{MakesSegment}
use Rattle.resizable_shared_memory.specs.Withdrawals.{Withdrawn}
use Rattle.resizable_shared_memory.proofs.Storing.{made_as}
use Rattle.resizable_shared_memory.proofs.builder.creating.make_first.Goals as goal

module _ {A C : Type 0} (α : Meaning A C) (s t : Store) (n : List ℕ) (h : SharedMemorySetupHint C) (o : ℕ) where
  made : (r : Result Opened SharedMemoryCreateError) → is_err r ≡ false → MakesSegment α s (segment_name n 0) h r t → MakesFirst α s n h o r t
  made (Ok q) is first = first
  made (Err e) is first = absurd (both_ways true is refl)

  denied : (r : Result Opened SharedMemoryCreateError) (u : Store) → is_err r ≡ true → MakesSegment α s (segment_name n 0) h r t → Withdrawn t o u → MakesFirst α s n h o r u
  denied (Ok q) u is first gone = absurd (both_ways false refl is)
  denied (Err e) u is first gone = (t, first, gone)

pub returns-then-is_err : goal.returns-then-is_err
returns-then-is_err g c =
    let name = c.segment.ensures ∙ ap (segment_name (text c.args.base.now)) c.new.ensures in
    denied g.A.ShmAllocator.means _ (g.S.SegmentStore.means c.make_segment-made.new.store) (text c.args.base.now) c.args.hint c.args.management c.make_segment-made.result _ (sym c.if-is_err.ensures.value)
    (made_as g.A.ShmAllocator.means _ _ c.make_segment-made.result name refl c.make_segment-made.ensures) (search rules)

pub returns-else-is_err : goal.returns-else-is_err
returns-else-is_err g c =
    let name = c.segment.ensures ∙ ap (segment_name (text c.args.base.now)) c.new.ensures in
    made g.A.ShmAllocator.means _ _ (text c.args.base.now) c.args.hint c.args.management c.make_segment-made.result (sym c.if-is_err.ensures.value)
    (made_as g.A.ShmAllocator.means _ _ c.make_segment-made.result name refl c.make_segment-made.ensures)
