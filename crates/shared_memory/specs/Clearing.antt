-- Which bytes no segment has, by the segments that stand.
use Rattle.std.proofs.Common.{◌≡◌, ℕ, zero, suc, ◌+◌, ◌<◌, Bool, true, false, ◌&&◌, ltb, [], ◌∷◌, set, Some, None, sym, refl, subst}
use Rattle.std.proofs.lemmas.Bool.{ltb-true, lt-ltb, both_ways, and_from, and_left, and_right, not_from_true, not_from_false}
use Rattle.shared_memory.specs.Clearings.{clear}
use Rattle.shared_memory.specs.Extents.{Extent, Extents, extent_at}
use Rattle.shared_memory.specs.Laying.{by_put}
use Rattle.shared_memory.specs.Optional.{none_some, same_some}

pub clear_all : (es : Extents) (from to : ℕ) → ((k : ℕ) (e : Extent) → extent_at es k ≡ Some e → e.start < to → from < e.start + e.size → ⊥) → clear es from to ≡ true
clear_all [] from to f = refl
clear_all (None ∷ es) from to f = clear_all es from to (λ k. f (suc k))
clear_all (Some x ∷ es) from to f =
    and_from _ _ (not_from_false _ (apart (ltb x.start to) (ltb from (x.start + x.size)) refl refl)) (clear_all es from to (λ k. f (suc k)))
  where
    apart : (a b : Bool) → ltb x.start to ≡ a → ltb from (x.start + x.size) ≡ b → (a && b) ≡ false
    apart false b u v = refl
    apart true false u v = refl
    apart true true u v = absurd (f 0 x refl (ltb-true _ _ u) (ltb-true _ _ v))

pub clear_met : (es : Extents) (from to k : ℕ) (e : Extent) → extent_at es k ≡ Some e → e.start < to → from < e.start + e.size → clear es from to ≡ false
clear_met [] from to k e q a b = absurd (none_some refl q)
clear_met (None ∷ es) from to zero e q a b = absurd (none_some refl q)
clear_met (Some x ∷ es) from to zero e q a b =
    and_left _ _
    (not_from_true _
    (subst (λ e. (ltb e.start to && ltb from (e.start + e.size)) ≡ true) (sym (same_some refl q)) (and_from _ _ (lt-ltb _ _ a) (lt-ltb _ _ b))))
clear_met (None ∷ es) from to (suc k) e q a b = clear_met es from to k e q a b
clear_met (Some x ∷ es) from to (suc k) e q a b = and_right _ _ (clear_met es from to k e q a b)

pub clear_back : (es : Extents) (from to : ℕ) → clear es from to ≡ true → (k : ℕ) (e : Extent) → extent_at es k ≡ Some e → e.start < to → from < e.start + e.size → ⊥
clear_back es from to c k e q a b = both_ways (clear es from to) (clear_met es from to k e q a b) c

pub clear_still : (es : Extents) (h from to : ℕ) → clear es from to ≡ true → clear (set es h None) from to ≡ true
clear_still es h from to c =
    clear_all (set es h None) from to (by_put es h None (λ k e. e.start < to → from < e.start + e.size → ⊥) (λ e p. absurd (none_some refl p)) (λ k e ne. clear_back es from to c k e))
