-- A segment that is opened and closed again leaves its store the same.
use Rattle.std.proofs.Common.{◌≡◌, ℕ, ◌+◌, ◌-◌, Bool, List, Some, Ok, Err, Result, sym, ap, ◌∙◌, subst₂, ⊎_elim, arith}
use Rattle.std.proofs.lemmas.Bool.{cases_eq}
use Rattle.shared_memory.specs.Optional.{none_some, same_some}
use Rattle.shared_memory.specs.declared.opened.Opened.{Opened}
use Rattle.shared_memory.specs.declared.fault.BadHandle.{BadHandle}
use Rattle.shared_memory.specs.Meaning.{Store, Segment, Same, Changes, MapsMore, Closes, Left, mapped, unmapped}
use Rattle.shared_memory.specs.Meaning.Left.{stands, ceased}
use Rattle.resizable_shared_memory.specs.Viewer.{OpensFor}
use Rattle.resizable_shared_memory.specs.declared.view.fault.OpenForError.{OpenForError}

back_again : (g : Segment) → unmapped (mapped g) ≡ g
back_again g =
    let e : g.maps + 1 - 1 ≡ g.maps = omega arith in
    ap (λ (n : ℕ). record { name = g.name; kind = g.kind; bytes = g.bytes; address = g.address; maps = n }) e

module _ (s between t : Store) (n : List ℕ) (o : Opened) (m : MapsMore s n o between) where
  still_there : (g : Segment) → g ≡ mapped m.segment → Changes between o.handle (unmapped g) t → Same s t
  still_there g is changes = record {
    at = λ k. ⊎_elim
        (λ (e : k ≡ o.handle). ap t.at e ∙ (changes.here ∙ (ap (λ (x : Segment). Some (unmapped x)) is ∙ (ap Some (back_again m.segment) ∙ (sym m.found ∙ ap s.at (sym e))))))
        (λ (d : k ≡ o.handle → ⊥). changes.others k d ∙ m.changes.others k d)
        (cases_eq k o.handle);
    room_without = λ hs z. changes.room_without hs z ∙ m.changes.room_without hs z;
    room_with = λ k z. changes.room_with k z ∙ m.changes.room_with k z;
  }

  -- It has its name still, so it does not cease.
  left_again : {b : Bool} (g : Segment) → g ≡ mapped m.segment → Left between o.handle (unmapped g) t b → Same s t
  left_again g is (stands some changes) = still_there g is changes
  left_again g is (ceased none zero gone) = absurd (none_some none (ap (λ (x : Segment). x.name) is ∙ m.name))

  pub reopened : (r : Result Bool BadHandle) → Closes between o.handle r t → Same s t
  reopened (Err e) x = absurd (x.1 (mapped m.segment, m.changes.here, omega arith))
  reopened (Ok b) x = left_again x.0 (same_some x.1 m.changes.here) x.3

-- What came of an opening, where its name and its allocator are known otherwise.
module _ {X : Type 0} (naming : X → List ℕ) (s t : Store) (r : Result Opened OpenForError) where
  pub known_as : {bytes name : List ℕ} {x y : X} {j k : ℕ} → bytes ≡ name → name ≡ naming x → x ≡ y → j ≡ k → OpensFor s bytes j r t → OpensFor s (naming y) k r t
  known_as bytes name same = subst₂ (λ n i. OpensFor s n i r t) (bytes ∙ (name ∙ ap naming same))
