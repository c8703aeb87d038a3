-- The entries of a ledger: how many, which, and what a push and a removal make of them.
use Rattle.std.proofs.Common.{◌≡◌, ℕ, suc, ◌+◌, ◌<◌, ◌≤◌, List, [], ◌∷◌, ◌++◌, map, length, get_or, take, drop, sym, ap, ◌∙◌, subst, ap₂, ⊎_elim, arith}
use mathlib.Core.List.{map-append}
use Rattle.std.proofs.lemmas.List.Edits.{length-remove, get_or-remove_below, get_or-remove_above}
use Rattle.std.proofs.lemmas.List.{get_or_append_left, get_or-map, get_or_push, length-map, length_push, take-map, drop-map}
use Rattle.std.proofs.lemmas.Bool.{cases_lt}
use Rattle.std.specs.List.{remove}
use Rattle.resizable_shared_memory.specs.Entries.{Entry, entry, entry_at, no_entry, Rises}
use Rattle.resizable_shared_memory.specs.declared.ledger.Held.{Held}
use Rattle.resizable_shared_memory.specs.declared.ledger.Ledger.{Ledger}
use Rattle.resizable_shared_memory.specs.Ledgers.{entries_of}

pub length_of : (l : Ledger) → length (entries_of l) ≡ length l.entries.items
length_of l = length-map l.entries.items entry

pub entry_of : (l : Ledger) (i : ℕ) (d : Held) → i < length l.entries.items → entry_at (entries_of l) i ≡ entry (get_or l.entries.items i d)
entry_of l i d below = get_or-map entry l.entries.items i d no_entry below

pub entries_removed : (cs : List Held) (at : ℕ) → map entry (remove cs at) ≡ remove (map entry cs) at
entries_removed cs at = map-append entry (take at cs) (drop (suc at) cs) ∙ ap₂ ◌++◌ (sym (take-map entry at cs)) (sym (drop-map entry (suc at) cs))

-- What holds of each entry.
abbrev pub Each : (Entry → Type 0) → List Entry → Type 0
Each P es = (i : ℕ) → i < length es → P (entry_at es i)

module _ (es : List Entry) (c : Entry) where
  front : (i : ℕ) → i < length es → entry_at (es ++ (c ∷ [])) i ≡ entry_at es i
  front i h = get_or_append_left es (c ∷ []) no_entry i h

  last : (i : ℕ) → length es ≤ i → i < length (es ++ (c ∷ [])) → entry_at (es ++ (c ∷ [])) i ≡ c
  last i ge lt = get_or_push es c no_entry i (omega (arith, length_push es c))

  pub each_push : (P : Entry → Type 0) → Each P es → P c → Each P (es ++ (c ∷ []))
  each_push P all new i h = ⊎_elim (λ lt. subst P (sym (front i lt)) (all i lt)) (λ ge. subst P (sym (last i ge h)) new) (cases_lt i (length es))

  pub rises_push : Rises es → Each (λ e. e.grant < c.grant) es → Rises (es ++ (c ∷ []))
  rises_push rises all i j h =
      let low : i < length es = omega (arith, length_push es c, h) in
      ⊎_elim
      (λ (lt : j < length es). omega (arith, ap (λ (e : Entry). e.grant) (front i low), ap (λ (e : Entry). e.grant) (front j lt), rises i j (h.0, lt)))
      (λ (ge : length es ≤ j). omega (arith, ap (λ (e : Entry). e.grant) (front i low), ap (λ (e : Entry). e.grant) (last j ge h.1), all i low))
      (cases_lt j (length es))

module _ (es : List Entry) (at : ℕ) (within : at < length es) where
  before : (i : ℕ) → i < at → entry_at (remove es at) i ≡ entry_at es i
  before i lt = get_or-remove_below es at no_entry i lt within

  after : (i : ℕ) → at ≤ i → entry_at (remove es at) i ≡ entry_at es (i + 1)
  after i ge = get_or-remove_above es at no_entry i ge within

  pub each_removed : (P : Entry → Type 0) → Each P es → Each P (remove es at)
  each_removed P all i h =
      let fewer = length-remove es at within in
      ⊎_elim (λ lt. subst P (sym (before i lt)) (all i (omega arith))) (λ ge. subst P (sym (after i ge)) (all (i + 1) (omega arith))) (cases_lt i at)

  pub rises_removed : Rises es → Rises (remove es at)
  rises_removed rises i j h =
      let fewer = length-remove es at within in
      let grant : Entry → ℕ = λ e. e.grant in
      ⊎_elim
      (λ (lt : j < at). omega (arith, ap grant (before i (omega (arith, h))), ap grant (before j lt), rises i j (h.0, omega arith)))
      (λ (ge : at ≤ j).
      ⊎_elim
      (λ (low : i < at). omega (arith, ap grant (before i low), ap grant (after j ge), rises i (j + 1) (omega (arith, h), omega (arith, h))))
      (λ (up : at ≤ i). omega (arith, ap grant (after i up), ap grant (after j ge), rises (i + 1) (j + 1) (omega (arith, h), omega (arith, h))))
      (cases_lt i at))
      (cases_lt j at)
