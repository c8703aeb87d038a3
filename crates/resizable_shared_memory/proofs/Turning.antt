-- Handles that something is done to in turn.
use Rattle.std.proofs.Common.{◌≡◌, ℕ, ◌+◌, ◌<◌, ◌≤◌, List, [], ◌∷◌, ◌++◌, length, get_or, drop, sym, ap, ◌∙◌, subst}
use Rattle.std.proofs.lemmas.List.{at_drop_more, at_drop_all}
use Rattle.shared_memory.specs.Meaning.{Store}
use Rattle.resizable_shared_memory.specs.Withdrawals.{InTurn}
use Rattle.resizable_shared_memory.specs.Withdrawals.InTurn.{none_left, next}

module _ (Does : Store → ℕ → Store → Type 0) where
  -- One handle more at the end.
  pub turn_last : {hs : List ℕ} {s t : Store} (h : ℕ) (u : Store) → InTurn Does hs s t → Does t h u → InTurn Does (hs ++ (h ∷ [])) s u
  turn_last h u none_left last = next last none_left
  turn_last h u (next first rest) last = next first (turn_last h u rest last)

  -- The handles from i on: the one at hand has its turn, and then the rest.
  module _ (hs : List ℕ) (i : ℕ) (u : Store) where
    pub turn_here : (s t : Store) (h : ℕ) → i < length hs → get_or hs i 0 ≡ h → Does s h t → InTurn Does (drop (i + 1) hs) t u → InTurn Does (drop i hs) s u
    turn_here s t h within is first rest =
        subst (λ (ks : List ℕ). InTurn Does ks s u) (sym (at_drop_more (λ ks. ks) hs i 0 within ∙ ap (λ (k : ℕ). k ∷ drop (i + 1) hs) is)) (next first rest)

    -- With no handle left, all had their turn.
    pub turned : (s : Store) (ks : List ℕ) → length hs ≤ i → (InTurn Does (drop i hs) u u → InTurn Does hs s u) → hs ≡ ks → InTurn Does ks s u
    turned s ks past all is = subst (λ (js : List ℕ). InTurn Does js s u) is (all (subst (λ (js : List ℕ). InTurn Does js u u) (sym (at_drop_all (λ js. js) hs i past)) none_left))
