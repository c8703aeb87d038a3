-- A management segment that is undone leaves nothing, and a record becomes the memory that was created.
use Rattle.std.proofs.Common.{◌≡◌, ℕ, Bool, true, List, ◌∷◌, replicate, Some, Ok, Err, Result, sym, refl, ap, ◌∙◌, subst₂, ⊎_elim, arith}
use Rattle.std.proofs.lemmas.Bool.{cases_eq}
use Rattle.shared_memory.specs.declared.fault.BadHandle.{BadHandle}
use Rattle.shared_memory.specs.declared.opened.Opened.{Opened}
use Rattle.shared_memory.specs.Meaning.{Store, Segment, Same, SameSegmentsAndRoom, Made, Left, Withdraws, nameless}
use Rattle.shared_memory.specs.Meaning.Left.{stands, ceased}
use Rattle.shared_memory.specs.Optional.{same_some}
use Rattle.shm_allocator.specs.Meaning.{Meaning}
use Rattle.resizable_shared_memory.specs.Creation.{Becomes, Completes}
use Rattle.resizable_shared_memory.specs.Withdrawals.{Withdrawn}
use Rattle.resizable_shared_memory.specs.declared.memory.DynamicMemory.{DynamicMemory}
use Rattle.resizable_shared_memory.specs.declared.record.CreationRecord.{CreationRecord}

pub same_room : {s t : Store} → Same s t → SameSegmentsAndRoom s t
same_room same = record { at = same.at; room_without = same.room_without }

-- A segment was made, something was denied after that, and the segment is withdrawn.
module _ (s between b t : Store) (n : List ℕ) (size kind : ℕ) (o : Opened) (made : Made s n size kind o between) (denied : Same between b) where
  abbrev new : Segment
  new = record { name = Some n; kind = kind; bytes = replicate size 0; address = o.address; maps = 1 }

  here : b.at o.handle ≡ Some new
  here = denied.at o.handle ∙ made.here

  gone_again : {still : Bool} (g : Segment) → g ≡ new → Left b o.handle (nameless g) t still → SameSegmentsAndRoom s t
  gone_again g is (stands some changes) = absurd (some (refl, let one : g.maps ≡ 1 = ap (λ (x : Segment). x.maps) is in omega arith))
  gone_again g is (ceased none zero gone) = record {
    at = λ k. ⊎_elim
        (λ (e : k ≡ o.handle). ap t.at e ∙ (gone.here ∙ (sym made.was_free ∙ ap s.at (sym e))))
        (λ (d : k ≡ o.handle → ⊥). gone.others k d ∙ (denied.at k ∙ made.others k d))
        (cases_eq k o.handle);
    room_without = λ hs z. gone.room_without hs z ∙ (denied.room_without (o.handle ∷ hs) z ∙ made.undone hs z);
  }

  withdrawn : (r : Result Bool BadHandle) → Withdraws b o.handle r t → SameSegmentsAndRoom s t
  withdrawn (Err e) x = absurd (x.1 (new, n, here, refl))
  withdrawn (Ok still) x = gone_again x.0 (same_some x.2 here) x.4

  pub undone : Withdrawn b o.handle t → SameSegmentsAndRoom s t
  undone w = withdrawn w.0 w.1

pub joined : {A C : Type 0} (α : Meaning A C) (x : CreationRecord C) (m : DynamicMemory A) → Becomes α x m → Completes α x m
joined {A} {C} α x m becomes n l count way s t (v, o, q, both, noted) =
    let h = α.initial v count in
    let begins = becomes.tables in
    let numbers = becomes.numbers in
    let possible = subst₂ (λ (c : C) (p : ℕ). α.possible c p ≡ true) (sym noted.config) (sym noted.payload) both.first.1 in (
      v,
      o,
      q,
      both,
      record {
        fresh = subst₂ (λ (c : C) (p : ℕ). α.fresh c p m.allocator) noted.config noted.payload (becomes.fresh possible);
        place = becomes.place;
        numbers = (numbers.0 ∙ ap (λ (p : Opened). p.handle) noted.segment, numbers.1 ∙ ap (λ (p : Opened). p.address) noted.segment, numbers.2, numbers.3);
        tables = record {
          name_is = begins.name_is ∙ noted.name;
          strategy = begins.strategy ∙ noted.strategy;
          management_is = begins.management_is ∙ noted.management;
          first = begins.first;
          is = begins.is;
          others = begins.others;
          none_held = begins.none_held;
          none_given = begins.none_given;
        };
      },
    )
