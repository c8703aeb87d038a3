-- Where the segments lie, as one ceases or is made, and which handles are free.
use Rattle.std.proofs.Common.{◌≡◌, ℕ, zero, suc, ◌+◌, ◌%◌, ◌<◌, ◌≤◌, true, ◌⊎◌, [], ◌∷◌, length, set, replicate, is_some, Some, None, Option, sym, refl, ap, ◌∙◌, subst, inl, inr, ⊎_elim, arith}
use Rattle.std.proofs.lemmas.List.{get_or-set_same, get_or-set_other, length-set, set-set, set-get_or}
use Rattle.std.proofs.lemmas.Bool.{cases_lt, cases_eq}
use Rattle.shared_memory.specs.declared.table.Place.{Place}
use Rattle.shared_memory.specs.Extents.{Extent, Extents, extent_at, laid, occupied, free, first_free, Meet, Lie, FreePlace}
use Rattle.shared_memory.specs.Optional.{inside, none_some, same_some, over_some, some_over}

pub meet_turned : (d e : Extent) → Meet d e → Meet e d
meet_turned d e m = (m.1, m.0)

-- what does not meet ends before the other begins
pub away : (d e : Extent) → (Meet d e → ⊥) → (d.start + d.size ≤ e.start) ⊎ (e.start + e.size ≤ d.start)
away d e f =
    ⊎_elim (λ lt. ⊎_elim (λ less. absurd (f (lt, less))) inl (cases_lt e.start (d.start + d.size))) inr (cases_lt d.start (e.start + e.size))

module _ (es : Extents) (h : ℕ) (o : Option Extent) where
  -- what lies there once o was put under h is o, or lay there before
  pub by_put : (P : ℕ → Extent → Type 0) → ((e : Extent) → o ≡ Some e → P h e) → ((k : ℕ) (e : Extent) → (k ≡ h → ⊥) → extent_at es k ≡ Some e → P k e) → (k : ℕ) (e : Extent) → extent_at (set es h o) k ≡ Some e → P k e
  by_put P new old k e p =
      ⊎_elim
      (λ same. subst (λ i. P i e) (sym same) (new e (put_here (ap (extent_at (set es h o)) (sym same) ∙ p))))
      (λ ne. old k e ne (sym (get_or-set_other es h k o None ne) ∙ p))
      (cases_eq k h)
    where
      put_here : {e : Extent} → extent_at (set es h o) h ≡ Some e → o ≡ Some e
      put_here {e = e} q = sym (get_or-set_same es h o None (omega (arith, inside (set es h o) h q, length-set es h o))) ∙ q

  -- the segments lie as they may if what was put does
  lie_put : (n : ℕ) → Lie es n → ((e : Extent) → o ≡ Some e → (e.start % 4096 ≡ 0) × (e.start + e.size ≤ n)) → ((e : Extent) → o ≡ Some e → (k : ℕ) (d : Extent) → (k ≡ h → ⊥) → extent_at es k ≡ Some d → Meet e d → ⊥) → Lie (set es h o) n
  lie_put n l fits apart =
      record {
        paged = by_put (λ k e. e.start % 4096 ≡ 0) (λ e p. (fits e p).0) (λ k e ne p. l.paged k e p);
        within = by_put (λ k e. e.start + e.size ≤ n) (λ e p. (fits e p).1) (λ k e ne p. l.within k e p);
        disjoint = λ i j (d, e, p, q, m).
            by_put (λ i d. Meet d e → i ≡ j)
            (λ d a m. by_put (λ j e. Meet d e → h ≡ j) (λ e b m. refl) (λ k e ne b m. absurd (apart d a k e ne b m)) j e q m)
            (λ k d ne a m. by_put (λ j e. Meet d e → k ≡ j) (λ e b m. absurd (apart e b k d ne a (meet_turned d e m))) (λ j e nj b m. l.disjoint k j (d, e, a, b, m)) j e q m)
            i d p m;
      }

pub all_free : (n h : ℕ) → extent_at (replicate n None) h ≡ None
all_free zero h = refl
all_free (suc n) zero = refl
all_free (suc n) (suc h) = all_free n h

pub lie_free : (n m : ℕ) → Lie (replicate n None) m
lie_free n m =
    record {
      paged = λ h e p. absurd (none_some (all_free n h) p);
      within = λ h e p. absurd (none_some (all_free n h) p);
      disjoint = λ h k (d, e, p, q, m). absurd (none_some (all_free n h) p);
    }

pub lie_vacated : (es : Extents) (h n : ℕ) → Lie es n → Lie (set es h None) n
lie_vacated es h n l = lie_put es h None n l (λ e p. absurd (none_some refl p)) (λ e p. absurd (none_some refl p))

pub lie_occupied : (es : Extents) (n : ℕ) (p : Place) (size : ℕ) → Lie es n → FreePlace es n p size → Lie (occupied es p size) n
lie_occupied es n p size l f =
    lie_put es p.handle (Some (laid p size)) n l
    (λ e q. subst (λ e. (e.start % 4096 ≡ 0) × (e.start + e.size ≤ n)) (same_some refl q) (f.paged, f.within))
    (λ e q. subst (λ e. (k : ℕ) (d : Extent) → (k ≡ p.handle → ⊥) → extent_at es k ≡ Some d → Meet e d → ⊥) (same_some refl q) (λ k d ne. f.apart k d))

-- what was laid on a free handle and ceased is as before
pub undone : (es : Extents) (h : ℕ) (e : Extent) → extent_at es h ≡ None → set (set es h (Some e)) h None ≡ es
undone es h e p = set-set es h (Some e) None ∙ (ap (set es h) (sym p) ∙ set-get_or es h None)

pub first_free_is : (es : Extents) (h : ℕ) → first_free es ≡ Some h → (h < length es) × (extent_at es h ≡ None)
first_free_is [] h e = absurd (none_some refl e)
first_free_is (None ∷ es) h e = subst (λ h. (h < suc (length es)) × (extent_at (None ∷ es) h ≡ None)) (same_some refl e) (omega arith, refl)
first_free_is (Some d ∷ es) h e =
    let (k, p, same) = over_some suc (first_free es) h e in
    let (lt, none) = first_free_is es k p in
    subst (λ h. (h < suc (length es)) × (extent_at (Some d ∷ es) h ≡ None)) same (omega arith, none)

pub free_first : (es : Extents) → is_some (first_free es) ≡ free es
free_first [] = refl
free_first (None ∷ es) = refl
free_first (Some d ∷ es) = some_over suc (first_free es) ∙ free_first es

free_at : (es : Extents) (h : ℕ) → h < length es → extent_at es h ≡ None → free es ≡ true
free_at [] h lt e = absurd (omega arith)
free_at (None ∷ es) h lt e = refl
free_at (Some d ∷ es) zero lt e = absurd (none_some e refl)
free_at (Some d ∷ es) (suc h) lt e = free_at es h (omega arith) e

pub free_vacated : (es : Extents) (h : ℕ) → h < length es → free (set es h None) ≡ true
free_vacated es h lt = free_at (set es h None) h (omega (arith, length-set es h None)) (get_or-set_same es h None None lt)

pub free_still : (es : Extents) (h : ℕ) → free es ≡ true → free (set es h None) ≡ true
free_still [] h e = e
free_still (None ∷ es) zero e = refl
free_still (None ∷ es) (suc h) e = refl
free_still (Some d ∷ es) zero e = refl
free_still (Some d ∷ es) (suc h) e = free_still es h e
