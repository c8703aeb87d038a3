-- The rule of placing of pages, and what it keeps.
use Rattle.std.proofs.Common.{◌≡◌, ℕ, zero, suc, ◌+◌, ◌*◌, ◌/◌, ◌<◌, ◌≤◌, Bool, true, false, cond, ◌&&◌, ◌||◌, leb, set, is_some, Some, None, Option, sym, refl, ap, ◌∙◌, subst, ⊎_elim, arith}
use native.Mathlib.Nat.{mul-mod_left}
use Rattle.std.proofs.Props.{props}
use Rattle.std.proofs.Math.Logic.{∥∥₁_elim}
use Rattle.shared_memory.specs.declared.span_store.Pages.{Pages}
use Rattle.shared_memory.specs.Placings.{Lawful}
use Rattle.std.proofs.lemmas.List.{get_or-set_other, length-set}
use Rattle.std.proofs.lemmas.Bool.{cases_lt, cases_eq, leb-true, le-leb, lt-leb, and_parts, and_from, and_left, and_right, or_left, or_right, or_cases}
use Rattle.shared_memory.specs.declared.table.Place.{Place}
use Rattle.shared_memory.specs.Clearings.{clear, Blocked}
use Rattle.shared_memory.specs.Extents.{Extent, Extents, extent_at, occupied, free, first_free, Within, Lie, FreePlace, Monotone, StillLeave}
use Rattle.shared_memory.specs.Spans.{pages_of, free_run, some_below, or_else, first_below, fits, first_run, span_place, span_rule, Spanned}
use Rattle.shared_memory.specs.Clearing.{clear_all, clear_met, clear_back, clear_still}
use Rattle.shared_memory.specs.Laying.{away, by_put, lie_occupied, first_free_is, free_first, free_vacated, free_still}
use Rattle.shared_memory.specs.Optional.{inside, none_some, same_some, some_over}

-- the first number below a bound, and whether there is one
first_some : (f : ℕ → Bool) (m : ℕ) → is_some (first_below f m) ≡ some_below f m
unfolding first_below some_below
first_some f zero = refl
first_some f (suc k) = go (first_below f k) (f k) ∙ ap (λ b. b || f k) (first_some f k)
  where
    go : (o : Option ℕ) (b : Bool) → is_some (or_else o (cond b (Some k) None)) ≡ (is_some o || b)
    go None true = refl
    go None false = refl
    go (Some n) b = refl

first_none : (f : ℕ → Bool) (m : ℕ) → ((p : ℕ) → p < m → f p ≡ false) → first_below f m ≡ None
unfolding first_below
first_none f zero e = refl
first_none f (suc k) e = ap (λ o. or_else o (cond (f k) (Some k) None)) (first_none f k (λ p lt. e p (omega arith))) ∙ ap (λ b. cond b (Some k) None) (e k (omega arith))

first_found : (f : ℕ → Bool) (m p : ℕ) → p < m → f p ≡ true → ((q : ℕ) → q < p → f q ≡ false) → first_below f m ≡ Some p
unfolding first_below
first_found f zero p lt e before = absurd (omega arith)
first_found f (suc k) p lt e before =
    ⊎_elim
    (λ same.
    ap (λ o. or_else o (cond (f k) (Some k) None)) (first_none f k (λ q less. before q (omega arith)))
    ∙ (ap (λ b. cond b (Some k) None) (ap f (sym same) ∙ e) ∙ ap Some (sym same)))
    (λ ne. ap (λ o. or_else o (cond (f k) (Some k) None)) (first_found f k p (omega arith) e before))
    (cases_eq p k)

first_holds : (f : ℕ → Bool) (m p : ℕ) → first_below f m ≡ Some p → f p ≡ true
unfolding first_below
first_holds f zero p e = absurd (none_some refl e)
first_holds f (suc k) p e = go (first_below f k) (first_holds f k p) (f k) refl e
  where
    go : (o : Option ℕ) → (o ≡ Some p → f p ≡ true) → (b : Bool) → f k ≡ b → or_else o (cond b (Some k) None) ≡ Some p → f p ≡ true
    go None before true b q = ap f (sym (same_some refl q)) ∙ b
    go None before false b q = absurd (none_some refl q)
    go (Some n) before t b q = before q

some_found : (f : ℕ → Bool) (m p : ℕ) → p < m → f p ≡ true → some_below f m ≡ true
unfolding some_below
some_found f zero p lt e = absurd (omega arith)
some_found f (suc k) p lt e =
    ⊎_elim (λ same. or_right (some_below f k) (f k) (ap f (sym same) ∙ e)) (λ ne. or_left (some_below f k) (f k) (some_found f k p (omega arith) e)) (cases_eq p k)

-- what one test implies, some number keeps
some_still : (f g : ℕ → Bool) → ((p : ℕ) → f p ≡ true → g p ≡ true) → (m : ℕ) → some_below f m ≡ true → some_below g m ≡ true
unfolding some_below
some_still f g i zero e = e
some_still f g i (suc k) e =
    ⊎_elim (λ a. or_left (some_below g k) (g k) (some_still f g i k a)) (λ b. or_right (some_below g k) (g k) (i k b)) (or_cases (some_below f k) (f k) e)

-- a payload lies in its pages, and takes no page more than it needs
pages_hold : (z : ℕ) → z ≤ pages_of z * 4096
pages_hold z = omega arith

pages_few : (z p : ℕ) → p < pages_of z → p * 4096 < z
pages_few z p lt = omega arith

-- there is room exactly when a handle is free and enough free pages lie side by side
pub span_room : (pages : ℕ) (es : Extents) (size : ℕ) → is_some (span_rule pages es size) ≡ (free es && fits es pages (pages_of size))
span_room pages es size = go (first_free es) (first_run es pages (pages_of size)) ∙ λ i. free_first es i && first_some (free_run es pages (pages_of size)) (pages + 1) i
  where
    go : (h p : Option ℕ) → is_some (span_place h p) ≡ (is_some h && is_some p)
    go None p = refl
    go (Some h) p = some_over _ p

fits_at : (es : Extents) (pages n p : ℕ) → p + n ≤ pages → clear es (p * 4096) ((p + n) * 4096) ≡ true → fits es pages n ≡ true
fits_at es pages n p le c = some_found (free_run es pages n) (pages + 1) p (omega arith) (and_from _ _ (le-leb _ _ le) c)

pub span_monotone : (pages : ℕ) → Monotone (span_rule pages)
span_monotone pages es h z e =
    let n = pages_of z in
    let (f, l) = and_parts (free es) (fits es pages n) (sym (span_room pages es z) ∙ e) in
    span_room pages (set es h None) z
    ∙ and_from _ _ (free_still es h f)
    (some_still (free_run es pages n) (free_run (set es h None) pages n)
    (λ p t. let (a, b) = and_parts (leb (p + n) pages) (clear es (p * 4096) ((p + n) * 4096)) t in and_from _ _ a (clear_still es h (p * 4096) ((p + n) * 4096) b))
    (pages + 1) l)

-- a segment that ceases leaves its pages
span_leaves : (pages : ℕ) (es : Extents) → Lie es (pages * 4096) → (k : ℕ) (e : Extent) → extent_at es k ≡ Some e → is_some (span_rule pages (set es k None) e.size) ≡ true
span_leaves pages es l k e p =
    span_room pages (set es k None) e.size
    ∙ and_from _ _ (free_vacated es k (inside es k p)) (fits_at (set es k None) pages n page (omega (arith, l.within k e p, start)) clean)
  where
    n : ℕ
    n = pages_of e.size

    page : ℕ
    page = e.start / 4096

    start : e.start ≡ page * 4096
    start = omega (arith, l.paged k e p)

    clean : clear (set es k None) (page * 4096) ((page + n) * 4096) ≡ true
    clean =
        clear_all (set es k None) (page * 4096) ((page + n) * 4096)
        (by_put es k None (λ j u. u.start < (page + n) * 4096 → page * 4096 < u.start + u.size → ⊥) (λ u q. absurd (none_some refl q))
        (λ j u ne q low high.
        ⊎_elim (λ le. omega (arith, l.paged j u q, start)) (λ le. omega (arith, start)) (away e u (λ m. ne (l.disjoint j k (u, e, q, p, (m.1, m.0)))))))

-- the rule's answer is the first free handle, and free pages
abbrev Chosen : ℕ → Extents → ℕ → Place → Type 0
Chosen pages es size p = (h : ℕ) × (q : ℕ) × (first_free es ≡ Some h) × (free_run es pages (pages_of size) q ≡ true) × (◌≡◌ {A = Place} (record { handle = h; start = q * 4096 }) p)

chosen_span : (pages : ℕ) (es : Extents) (size : ℕ) (p : Place) → span_rule pages es size ≡ Some p → Chosen pages es size p
chosen_span pages es size p e = go (first_free es) refl (first_run es pages (pages_of size)) refl e
  where
    go : (a : Option ℕ) → first_free es ≡ a → (b : Option ℕ) → first_run es pages (pages_of size) ≡ b → span_place a b ≡ Some p → Chosen pages es size p
    go None f b r t = absurd (none_some refl t)
    go (Some h) f None r t = absurd (none_some refl t)
    go (Some h) f (Some q) r t = (h, q, f, first_holds (free_run es pages (pages_of size)) (pages + 1) q r, same_some refl t)

module _ (pages : ℕ) (es : Extents) (size : ℕ) (p : Place) (chosen : span_rule pages es size ≡ Some p) where
  pub span_free : FreePlace es (pages * 4096) p size
  span_free =
      let (h, q, first, run, same) = chosen_span pages es size p chosen in
      let (lt, none) = first_free_is es h first in
      let (low, clean) = and_parts (leb (q + pages_of size) pages) (clear es (q * 4096) ((q + pages_of size) * 4096)) run in
      let end = leb-true (q + pages_of size) pages low in
      subst (λ p. FreePlace es (pages * 4096) p size) same
      (record {
        handle = lt;
        free = none;
        paged = mul-mod_left q 4096;
        within = omega (arith, pages_hold size);
        apart = λ k e f m. clear_back es (q * 4096) ((q + pages_of size) * 4096) clean k e f (omega (arith, m.1, pages_hold size)) m.0;
      })

  pub span_still : Lie es (pages * 4096) → StillLeave (span_rule pages) es (occupied es p size)
  span_still l k e f q =
      let ne : k ≡ p.handle → ⊥ = λ same. none_some span_free.free (ap (extent_at es) (sym same) ∙ f) in
      span_leaves pages (occupied es p size) (lie_occupied es (pages * 4096) p size l span_free) k e (get_or-set_other es p.handle k _ None ne ∙ f)

-- the way through the pages
module _ (es : Extents) (pages n : ℕ) where
  -- behind a segment that is in the way
  pub passed : (page end : ℕ) → Blocked es (page * 4096) ((page + n) * 4096) end → (q : ℕ) → page ≤ q → q < pages_of end → free_run es pages n q ≡ false
  passed page end b q low high =
      and_right _ _ (clear_met es (q * 4096) ((q + n) * 4096) b.handle b.extent b.lies (omega (arith, b.begins)) (omega (arith, b.ends, pages_few end q high)))

  pub goes_on : Within es (pages * 4096) → (page end : ℕ) → Blocked es (page * 4096) ((page + n) * 4096) end → (page < pages_of end) × (pages_of end ≤ pages)
  goes_on w page end b = let inner = w b.handle b.extent b.lies in (omega (arith, b.lasts, b.ends), omega (arith, b.ends))

  pub run_bound : (page : ℕ) → Some page ≡ first_run es pages n → page + n ≤ pages
  run_bound page e = leb-true _ _ (and_parts (leb (page + n) pages) _ (first_holds (free_run es pages n) (pages + 1) page (sym e))).0

  pub run_found : (page : ℕ) → page + n ≤ pages → clear es (page * 4096) ((page + n) * 4096) ≡ true → ((q : ℕ) → q < page → free_run es pages n q ≡ false) → first_run es pages n ≡ Some page
  run_found page le c before = first_found (free_run es pages n) (pages + 1) page (omega arith) (and_from _ _ (le-leb _ _ le) c) before

  pub run_none : (page : ℕ) → pages < page + n → ((q : ℕ) → q < page → free_run es pages n q ≡ false) → first_run es pages n ≡ None
  run_none page lt before =
      first_none (free_run es pages n) (pages + 1) λ q less. ⊎_elim (before q) (λ le. and_left _ _ (lt-leb (q + n) pages (omega arith))) (cases_lt q page)

pub spanned : (es : Extents) (m pages : ℕ) → ∥ Spanned es m pages ∥₁ → Spanned es m pages
spanned es m pages l = ∥∥₁_elim l (Prim.hlevel props) (λ f. f)

pub spans_lawful : Lawful (λ (p : Pages). span_rule p.count) (λ p es m. Spanned es m p.count)
spans_lawful = record {
  monotone = λ p. span_monotone p.count;
  ceased = λ p es m h l. let f = spanned es m p.count l in ∣ (length-set es h None ∙ f.0, f.1) ∣₁;
  free = λ p es m size q l e. subst (λ m. FreePlace es m q size) (sym (spanned es m p.count l).1) (span_free p.count es size q e);
  placed = λ p es m size q l e. let f = spanned es m p.count l in ∣ (length-set es _ _ ∙ f.0, f.1) ∣₁;
  leaves = λ p es m size q l lie e. span_still p.count es size q e (subst (Lie es) (spanned es m p.count l).1 lie);
}
