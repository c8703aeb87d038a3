-- What is left of a table's invariant when a place is put, left or lowered.
use Rattle.std.proofs.Common.{◌≡◌, ℕ, ◌+◌, ◌<◌, ◌≤◌, true, List, [], ◌∷◌, ◌++◌, is_some, Some, None, Option, sym, refl, ap, ◌∙◌, subst, ⊎_elim, arith}
use Rattle.std.proofs.lemmas.List.{get_or_past}
use Rattle.std.proofs.lemmas.Bool.{cases_eq, cases_lt, both_ways}
use Rattle.std.specs.List.{remove}
use Rattle.shared_memory.specs.Meaning.{Store}
use Rattle.shared_memory.specs.Optional.{is_none}
use Rattle.pointer_offset.specs.Packing.{id_of}
use Rattle.resizable_shared_memory.specs.Entries.{Entry, entry, tally}
use Rattle.resizable_shared_memory.specs.Ledgers.{entries_of, Lists, Counted}
use Rattle.resizable_shared_memory.specs.Places.{place_of, count_of, Ahead, Busy, Put}
use Rattle.resizable_shared_memory.specs.Withdrawals.{Leaves, Lowers}
use Rattle.resizable_shared_memory.specs.declared.ledger.Held.{Held}
use Rattle.resizable_shared_memory.specs.declared.ledger.Ledger.{Ledger}
use Rattle.resizable_shared_memory.specs.declared.table.Place.{Place}
use Rattle.resizable_shared_memory.specs.declared.table.Table.{Table}
use Rattle.resizable_shared_memory.proofs.Listing.{length_of}
use Rattle.resizable_shared_memory.proofs.Tallying.{one, one_here, none_here, tally_push, tally_removed}

-- What counts something is there.
pub counted_some : (o : Option Place) → 1 ≤ count_of o → is_some o ≡ true
counted_some None h = absurd (omega arith)
counted_some (Some p) h = refl

-- A mapped place has an id below 256.
pub mapped_below : (t : Table) (k : ℕ) → is_some (place_of t k) ≡ true → k < 256
mapped_below t k is =
    ⊎_elim (λ (h : k < 256). h) (λ (h : 256 ≤ k). absurd (both_ways (is_some (place_of t k)) (ap is_some (get_or_past t.places k None (omega arith))) is)) (cases_lt k 256)

-- The counts of a table follow a list of chunks.
abbrev pub Follows : Table → List Entry → Type 0
Follows t es = (k : ℕ) → count_of (place_of t k) ≡ tally k es

-- A chunk that stands in a ledger is one of those of its segment, and is counted there.
module _ (l : Ledger) (v g at : ℕ) (h : Held) (lists : Lists l v g at h) where
  pub tally_less : (k : ℕ) → tally k (entries_of l) ≡ tally k (remove (entries_of l) at) + one k (entry h)
  tally_less k =
      tally_removed k (entries_of l) at (omega (arith, length_of l, lists.within)) ∙ ap (λ (x : Entry). tally k (remove (entries_of l) at) + one k x) lists.here

  pub counted_there : (t : Table) (k : ℕ) → k ≡ id_of v → Counted t l → 1 ≤ count_of (place_of t k)
  counted_there t k id counts = omega (arith, counts k, tally_less k, one_here k (entry h) (ap id_of lists.value_is ∙ sym id))

-- Only the place of the id i may differ.
abbrev pub Others : Table → ℕ → Table → Type 0
Others t i u = (j : ℕ) → (j ≡ i → ⊥) → place_of u j ≡ place_of t j

-- A place at an id is one that the id is not past.
pub within_ahead : (t : Table) (i c : ℕ) → 1 ≤ count_of (place_of t i) → Ahead t c → i ≤ c
within_ahead t i c some ahead =
    ⊎_elim (λ (h : c < i). absurd (omega (arith, ap count_of (is_none (place_of t i) (ahead i h))))) (λ (h : i ≤ c). h) (cases_lt c i)

pub ahead_others : (t u : Table) (i c : ℕ) → i ≤ c → Others t i u → Ahead t c → Ahead u c
ahead_others t u i c le others ahead j lt = ap is_some (others j (omega arith)) ∙ ahead j lt

-- A fact of each place that holds at i, and that held of the others before.
module _ (P : ℕ → Option Place → Type 0) (t u : Table) (i : ℕ) (others : Others t i u) where
  pub at_each : P i (place_of u i) → ((j : ℕ) → (j ≡ i → ⊥) → P j (place_of t j)) → (j : ℕ) → P j (place_of u j)
  at_each here before j =
      ⊎_elim (λ (e : j ≡ i). subst (λ (k : ℕ). P k (place_of u k)) (sym e) here) (λ (n : j ≡ i → ⊥). subst (P j) (sym (others j n)) (before j n)) (cases_eq j i)

-- One chunk more in the segment i.
pub counted_more : (t u : Table) (es fs : List Entry) (i : ℕ) (p q : Place) (c : Entry) → fs ≡ es ++ (c ∷ []) → id_of c.value ≡ i
    → place_of t i ≡ Some p → Put t i (Some q) u → q.count ≡ p.count + 1 → Follows t es → Follows u fs
counted_more t u es fs i p q c grown id was put more counts =
    let grow : (k : ℕ) → tally k fs ≡ tally k es + one k c = λ k. ap (tally k) grown ∙ tally_push k es c in
    at_each (λ k o. count_of o ≡ tally k fs) t u i put.others
    (omega (arith, ap count_of put.here, ap count_of was, more, counts i, grow i, one_here i c id))
    (λ k n. omega (arith, counts k, grow k, none_here k c (λ z. n (sym z ∙ id))))

pub busy_put : (t u : Table) (c : ℕ) → Others t c u → Busy t c → Busy u c
busy_put t u c others busy =
    λ j h. subst (λ (o : Option Place). 1 ≤ count_of o) (sym (others j h.0)) (busy j (h.0, sym (ap is_some (others j h.0)) ∙ h.1))

-- A mapped place was left: it counts as before, and is mapped only with a chunk.
module _ (t u : Table) (k : ℕ) (s r : Store) (leaves : Leaves t k s u r) where
  pub left_count : count_of (place_of u k) ≡ count_of (place_of t k)
  left_count = ⊎_elim (λ h. ap count_of h.1 ∙ (sym h.0 ∙ sym (ap count_of leaves.was))) (λ h. ap count_of h.1 ∙ sym (ap count_of leaves.was)) leaves.vacates

  pub left_busy : is_some (place_of u k) ≡ true → 1 ≤ count_of (place_of u k)
  left_busy is = ⊎_elim (λ h. absurd (both_ways (is_some (place_of u k)) (ap is_some h.1) is)) (λ h. subst (λ (n : ℕ). 1 ≤ n) (sym (ap count_of h.1)) h.0) leaves.vacates

-- A place was lowered, and had a chunk: it counts one less, is mapped only with a chunk unless it is current, and stays mapped if it is.
module _ (t u : Table) (c k : ℕ) (s r : Store) (lowers : Lowers t c k s u r) (some : 1 ≤ count_of (place_of t k)) where
  pub lowered_count : count_of (place_of u k) + 1 ≡ count_of (place_of t k)
  lowered_count =
      let was = ap count_of lowers.was in
      ⊎_elim (λ h. omega (arith, h.0, ap count_of h.2)) (λ h. omega (arith, ap count_of h.2.1, h.2.2.3)) lowers.lowered

  pub lowered_mapped : k ≡ c → is_some (place_of u k) ≡ true
  lowered_mapped e = ⊎_elim (λ h. absurd (h.1 e)) (λ h. ap is_some h.2.1) lowers.lowered

  pub lowered_busy : (k ≡ c → ⊥) → is_some (place_of u k) ≡ true → 1 ≤ count_of (place_of u k)
  lowered_busy n is =
      ⊎_elim
      (λ h. absurd (both_ways (is_some (place_of u k)) (ap is_some h.2) is))
      (λ h. ⊎_elim (λ (many : 1 < lowers.old.count). omega (arith, ap count_of h.2.1, h.2.2.3)) (λ e. absurd (n e)) h.0)
      lowers.lowered

  pub mapped_lowered : is_some (place_of t c) ≡ true → is_some (place_of u c) ≡ true
  mapped_lowered was =
      ⊎_elim (λ (e : c ≡ k). subst (λ (j : ℕ). is_some (place_of u j) ≡ true) (sym e) (lowered_mapped (sym e))) (λ n. ap is_some (lowers.others c n) ∙ was) (cases_eq c k)

  pub busy_lowered : Busy t c → Busy u c
  busy_lowered busy = at_each (λ j o. (j ≡ c → ⊥) × (is_some o ≡ true) → 1 ≤ count_of o) t u k lowers.others (λ h. lowered_busy h.0 h.1) (λ j n. busy j)

  pub counted_lowered : (es fs : List Entry) (x : Entry) → ((j : ℕ) → tally j es ≡ tally j fs + one j x) → id_of x.value ≡ k → Follows t es → Follows u fs
  counted_lowered es fs x less id counts =
      at_each (λ j o. count_of o ≡ tally j fs) t u k lowers.others
      (omega (arith, lowered_count, counts k, less k, one_here k x id))
      (λ j n. omega (arith, counts j, less j, none_here j x (λ z. n (sym z ∙ id))))
