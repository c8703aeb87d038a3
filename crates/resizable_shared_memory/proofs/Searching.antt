-- The search for an entry by its grant, where grants rise, and what it says of `find` and `without`.
use Rattle.std.proofs.Common.{◌≡◌, ℕ, zero, suc, ◌<◌, ◌≤◌, true, false, eqb, List, [], ◌∷◌, map, length, get_or, Some, None, Ok, Err, Result, sym, refl, ap, ◌∙◌, ⊎_elim, arith}
use Rattle.std.specs.Option.{MatchOption}
use Rattle.std.specs.Result.{result_ok}
use Rattle.std.specs.declared.cmp.Ordering.TheVariants.{Less, Equal, Greater}
use Rattle.std.specs.Ordering.{ordering_index, nat_cmp}
use Rattle.std.specs.List.Sorted.{IsBinarySearchResult, IsSearchInRange}
use Rattle.std.proofs.lemmas.Cmp.{ranked}
use Rattle.std.proofs.lemmas.List.{get_or-map, length-map}
use Rattle.std.proofs.lemmas.Bool.Decides.{nat_tests}
use Rattle.std.proofs.lemmas.Bool.{cases_lt, cases_order, cond-true, cond-false, and_from, and_left, and_right, eq-eqb, ne_eqb}
use Rattle.std.specs.List.{remove}
use Rattle.resizable_shared_memory.specs.declared.ledger.Held.{Held}
use Rattle.resizable_shared_memory.specs.Entries.{Entry, entry, no_entry, entry_at, Rises, matches, find, without}

-- What is read past the end of some held chunks.
abbrev blank : Held
blank = record { segment = record { 0 = 0 }; start = 0; grant = 0; size = 0 }

-- What a binary search by grants, which rise, comes to.
module _ (cs : List Held) (g : ℕ) (rises : Rises (map entry cs)) where
  grant_at : (i : ℕ) (d : Held) → i < length cs → (entry_at (map entry cs) i).grant ≡ (get_or cs i d).grant
  grant_at i d h = ap (λ (e : Entry). e.grant) (get_or-map entry cs i d no_entry h)

  up : (i j : ℕ) (d : Held) → i ≤ j → j < length cs → (get_or cs i d).grant ≤ (get_or cs j d).grant
  up i j d le h =
      ⊎_elim
      (λ (lt : i < j). omega (arith, rises i j (lt, omega (arith, length-map cs entry)), grant_at i d (omega arith), grant_at j d h))
      (λ (ge : j ≤ i). let e : i ≡ j = omega arith in omega (arith, ap (λ (k : ℕ). (get_or cs k d).grant) e))
      (cases_lt i j)

  higher : (a b : ℕ) → a ≤ b → ordering_index (nat_cmp a g) ≤ ordering_index (nat_cmp b g)
  higher a b le = grind (arith, nat_tests)

  pub position_of : (r : Result ℕ ℕ) → IsSearchInRange r (length cs) → IsBinarySearchResult (λ (h : Held). nat_cmp h.grant g) cs r
      → MatchOption (result_ok r) ((j : ℕ) → j < length (map entry cs) → (entry_at (map entry cs) j).grant ≡ g → ⊥) (λ i. (i < length (map entry cs)) × ((entry_at (map entry cs) i).grant ≡ g))
  position_of (Ok i) bound h =
      let d = blank in
      (omega (arith, bound, length-map cs entry), grant_at i d bound ∙ ranked (get_or cs i d).grant g Equal (sym (h d)))
  position_of (Err i) bound h = λ j lt e.
      let d = blank in
      let within : j < length cs = omega (arith, length-map cs entry) in
      let parted = h (λ a b d le l. higher (get_or cs a d).grant (get_or cs b d).grant (up a b d le l)) in
      ⊎_elim
      (λ (l : j < i). omega (arith, grant_at j d within, ranked (get_or cs j d).grant g Less (sym (parted.0 j d (omega arith) l))))
      (λ (l : i ≤ j). omega (arith, grant_at j d within, ranked (get_or cs j d).grant g Greater (sym (parted.1 j d l within))))
      (cases_lt j i)

-- Grants are apart.
pub other_grant : (es : List Entry) → Rises es → (i j : ℕ) → i < length es → j < length es → (j ≡ i → ⊥) → (entry_at es j).grant ≡ (entry_at es i).grant → ⊥
other_grant es rises i j hi hj apart same =
    ⊎_elim (λ e. apart e) (λ o. ⊎_elim (λ lt. omega (arith, rises j i (lt, hi))) (λ gt. omega (arith, rises i j (gt, hj))) o) (cases_order j i)

module _ (v g : ℕ) where
  pub find_none : (es : List Entry) → ((j : ℕ) → j < length es → matches v g (entry_at es j) ≡ false) → find v g es ≡ None
  find_none [] none = refl
  find_none (c ∷ cs) none =
      cond-false (matches v g c) (Some c) (find v g cs) (none zero (omega arith)) ∙ find_none cs (λ j h. none (suc j) (omega arith))

  -- The first entry that matches is found, and taken out.
  pub find_at : (es : List Entry) (i : ℕ) → i < length es → ((j : ℕ) → j < i → matches v g (entry_at es j) ≡ false) → matches v g (entry_at es i) ≡ true
      → (find v g es ≡ Some (entry_at es i)) × (without v g es ≡ remove es i)
  find_at [] i h none here = absurd (omega arith)
  find_at (c ∷ cs) zero h none here = (cond-true (matches v g c) (Some c) (find v g cs) here, cond-true (matches v g c) cs (c ∷ without v g cs) here)
  find_at (c ∷ cs) (suc i) h none here =
      let rest = find_at cs i (omega arith) (λ j lt. none (suc j) (omega arith)) here in
      let first = none zero (omega arith) in (
        cond-false (matches v g c) (Some c) (find v g cs) first ∙ rest.0,
        cond-false (matches v g c) cs (c ∷ without v g cs) first ∙ ap (λ x. c ∷ x) rest.1,
      )

  pub not_granted : (es : List Entry) (j : ℕ) → ((entry_at es j).grant ≡ g → ⊥) → matches v g (entry_at es j) ≡ false
  not_granted es j other = and_right (eqb (entry_at es j).value v) (eqb (entry_at es j).grant g) (ne_eqb (entry_at es j).grant g other)

  module _ (es : List Entry) (rises : Rises es) (i : ℕ) (within : i < length es) (granted : (entry_at es i).grant ≡ g) where
    pub find_hit : (entry_at es i).value ≡ v → (find v g es ≡ Some (entry_at es i)) × (without v g es ≡ remove es i)
    find_hit same =
        find_at es i within
        (λ j lt. not_granted es j (λ e. other_grant es rises i j within (omega arith) (omega arith) (e ∙ sym granted)))
        (and_from (eqb (entry_at es i).value v) (eqb (entry_at es i).grant g) (eq-eqb (entry_at es i).value v same) (eq-eqb (entry_at es i).grant g granted))

    pub find_other : ((entry_at es i).value ≡ v → ⊥) → find v g es ≡ None
    find_other other =
        find_none es (λ j h. not_both j h)
      where
        at_place : (j : ℕ) → j ≡ i → matches v g (entry_at es j) ≡ false
        at_place j e = and_left (eqb (entry_at es j).value v) (eqb (entry_at es j).grant g) (ne_eqb (entry_at es j).value v (λ s. other (ap (λ k. (entry_at es k).value) (sym e) ∙ s)))

        not_both : (j : ℕ) → j < length es → matches v g (entry_at es j) ≡ false
        not_both j h =
            ⊎_elim (at_place j) (λ o. not_granted es j (λ s. other_grant es rises i j within h (⊎_elim (λ lt. omega arith) (λ gt. omega arith) o) (s ∙ sym granted))) (cases_order j i)
