use Rattle.std.proofs.Common.{◌≡◌, ℕ, List, Some, Ok, Option, Result, ap, subst, ◌∙◌, refl, arith, rules}
use Rattle.std.specs.Result.{result_ok}
use Rattle.std.proofs.lemmas.Option.{MatchOption-at_none, MatchOption-at_some}
use Rattle.std.proofs.lemmas.Result.{err_from_is_err_and}
use Rattle.shared_memory.specs.Meaning.{Changes, OpenDenied}
use Rattle.shared_memory.specs.Optional.{some_iff_some, some_iff_none, ok_or_err}
use Rattle.shared_memory.specs.Slots.{name_of, slot_at}
use Rattle.shared_memory.specs.Tables.{slots_of, segment_of, under, Follows, Finds}
use Rattle.shared_memory.specs.declared.fault.SharedMemoryOpenError.{SharedMemoryOpenError}
use Rattle.shared_memory.specs.declared.table.SegmentTable.{SegmentTable}
use Rattle.shared_memory.specs.declared.table.Slot.{Slot}
use Rattle.shared_memory.proofs.Sounds.{same}
use Rattle.shared_memory.proofs.Tabled.{at_slot, good_start, no_name, unmoved, follows_inside, lie_follows, relaid_follows, changes_follows}
use Rattle.shared_memory.proofs.table.SegmentTable.open.Goals as goal

-- a slot with so many maps
abbrev counted : Slot → ℕ → Slot
counted x n = record { name = x.name; allocator_id = x.allocator_id; start = x.start; size = x.size; maps = n }

-- the slot that has the name
found : (s : SegmentTable) (n : List ℕ) (h : ℕ) (x : Slot) (o : Option (ℕ × Slot)) {r : Result (ℕ × Slot) SharedMemoryOpenError} → o ≡ result_ok r → r ≡ Ok (h, x) → Finds s n o → (slot_at (slots_of s) h ≡ Some x) × (name_of x ≡ Some n)
found s n h x o ok is f = MatchOption-at_some {o = o} _ _ (h, x) (ok ∙ ap result_ok is) f

pub returns-then-not-is_good_name : goal.returns-then-not-is_good_name
returns-then-not-is_good_name c =
    let s = c.args.self.now in record { does = λ rule. (OpenDenied.bad_name (search rules), same (under rule s)); relaid = unmoved s }

pub returns-in_err-handle : goal.returns-in_err-handle
returns-in_err-handle c =
    let s = c.args.self.now in
    let good = c.is_good_name.ensures.0 c.if-not-is_good_name.false in
    let p = err_from_is_err_and c.from_residual.result c.from_residual.ensures.1 in
    let (absent, why) = ok_or_err c.find.result c.ok_or.ensures.value c.in_err-handle.was in
    let none = MatchOption-at_none {o = c.find.result} _ _ absent c.find.ensures in
    record {
      does = λ rule. rw (p.1, p.2, why) (OpenDenied.no_such_name good (no_name s c.args.name.now none rule), same (under rule s));
      relaid = unmoved s;
    }

pub returns-in_err-maps : goal.returns-in_err-maps
returns-in_err-maps c =
    let s = c.args.self.now in
    let h = c.in_ok-handle.handle in
    let x = c.in_ok-handle.slot in
    let good = c.is_good_name.ensures.0 c.if-not-is_good_name.false in
    let f = found s c.args.name.now h x c.find.result c.ok_or.ensures.ok_part c.in_ok-handle.was c.find.ensures in
    let (none, why) = ok_or_err c.checked_add.result c.ok_or-2.ensures.value c.in_err-maps.was in
    let full = some_iff_none _ c.checked_add.result c.checked_add.ensures none in
    let p = err_from_is_err_and c.from_residual-in_err-maps.result c.from_residual-in_err-maps.ensures.1 in
    record {
      does = λ rule. rw (p.1, p.2, why) (OpenDenied.all_mapped good h (segment_of s x) (at_slot s h x f.0) f.1 (omega (arith, full)), same (under rule s));
      relaid = unmoved s;
    }

pub put-requires : goal.put-requires
put-requires c =
    let s = c.args.self.now in
    let h = c.in_ok-handle.handle in
    let x = c.in_ok-handle.slot in
    let y = counted x c.in_ok-maps.maps in
    let e = found s c.args.name.now h x c.find.result c.ok_or.ensures.ok_part c.in_ok-handle.was c.find.ensures in
    let f : Follows s h y = (x, e.0, refl) in
    record { inside = follows_inside s h y f; lie = lie_follows s h y f }

pub invariant_of-result : goal.invariant_of-result
invariant_of-result c =
    let h = c.in_ok-handle.handle in
    let x = c.in_ok-handle.slot in
    let e = found c.args.self.now c.args.name.now h x c.find.result c.ok_or.ensures.ok_part c.in_ok-handle.was c.find.ensures in
    record { low = (good_start c.args.self.now h x e.0).1 }

pub returns : goal.returns
returns c =
    let s = c.args.self.now in
    let t = c.put.new.self in
    let h = c.in_ok-handle.handle in
    let x = c.in_ok-handle.slot in
    let y = counted x c.in_ok-maps.maps in
    let e = found s c.args.name.now h x c.find.result c.ok_or.ensures.ok_part c.in_ok-handle.was c.find.ensures in
    let f : Follows s h y = (x, e.0, refl) in
    let (few, more) = some_iff_some c.checked_add.result c.checked_add.ensures (c.ok_or-2.ensures.ok_part ∙ ap result_ok c.in_ok-maps.was) in
    record {
      does = λ rule. (
        c.is_good_name.ensures.0 c.if-not-is_good_name.false,
        record {
          segment = segment_of s x;
          found = at_slot s h x e.0;
          name = e.1;
          few = omega (arith, few);
          address = refl;
          good_address = good_start s h x e.0;
          kind = refl;
          changes = subst (λ n. Changes (under rule s) h (segment_of s (counted x n)) (under rule t)) more (changes_follows s h y f t c.put.ensures rule);
        },
      );
      relaid = relaid_follows s h y f t c.put.ensures;
    }
