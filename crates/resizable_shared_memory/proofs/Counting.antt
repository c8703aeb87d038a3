-- How many places are mapped, and their handles one by one.
use Rattle.std.proofs.Common.{◌≡◌, ℕ, ◌+◌, ◌<◌, cond, List, [], ◌∷◌, ◌++◌, length, get_or, drop, is_some, Some, None, Option, sym, refl, ap, ◌∙◌, append_assoc, arith}
use Rattle.std.specs.List.{count_by}
use Rattle.std.proofs.lemmas.List.{at_drop_more}
use Rattle.std.proofs.lemmas.List.Recursion.{is_count_by}
use Rattle.resizable_shared_memory.specs.Places.{active, handles}
use Rattle.resizable_shared_memory.specs.declared.table.Place.{Place}

active_first : (o : Option Place) (ps : List (Option Place)) → active (o ∷ ps) ≡ cond (is_some o) (1 + active ps) (active ps)
active_first None ps = refl
active_first (Some p) ps = omega arith

pub active_is : (ps : List (Option Place)) → count_by is_some ps ≡ active ps
active_is ps = sym (is_count_by active is_some refl active_first ps)

-- What is left from a place on, once that place was looked at.
module _ (ps : List (Option Place)) (i : ℕ) (o : Option Place) (within : i < length ps) (is : get_or ps i None ≡ o) where
  here : handles (drop i ps) ≡ handles (o ∷ drop (i + 1) ps)
  here = at_drop_more handles ps i None within ∙ ap (λ (p : Option Place). handles (p ∷ drop (i + 1) ps)) is

  pub passed_empty : o ≡ None → (hs : List ℕ) → hs ++ handles (drop i ps) ≡ handles ps → hs ++ handles (drop (i + 1) ps) ≡ handles ps
  passed_empty none hs e = ap (λ (r : List ℕ). hs ++ r) (sym (here ∙ ap (λ (p : Option Place). handles (p ∷ drop (i + 1) ps)) none)) ∙ e

  pub passed_mapped : (p : Place) → o ≡ Some p → (hs ks : List ℕ) → ks ≡ hs ++ (p.handle ∷ []) → hs ++ handles (drop i ps) ≡ handles ps → ks ++ handles (drop (i + 1) ps) ≡ handles ps
  passed_mapped p some hs ks more e =
      ap (λ (k : List ℕ). k ++ handles (drop (i + 1) ps)) more
      ∙ (append_assoc hs (p.handle ∷ []) (handles (drop (i + 1) ps))
      ∙ (ap (λ (r : List ℕ). hs ++ r) (sym (here ∙ ap (λ (q : Option Place). handles (q ∷ drop (i + 1) ps)) some)) ∙ e))
