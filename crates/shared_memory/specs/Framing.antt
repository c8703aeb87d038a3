-- The rule of placing of equal frames, and what it keeps.
use Rattle.std.proofs.Common.{◌≡◌, ℕ, ◌+◌, ◌*◌, ◌/◌, ◌%◌, ◌<◌, ◌≤◌, Bool, true, false, cond, ◌&&◌, leb, length, set, is_some, Some, None, Option, sym, refl, ap, ◌∙◌, subst, ⊎_elim, mul-le-mul_right, mul_assoc, add-mul, one-mul, arith}
use native.Mathlib.Nat.{mul-mod_left}
use Rattle.std.proofs.Props.{props}
use Rattle.std.proofs.Math.Logic.{∥∥₁_elim}
use Rattle.std.proofs.lemmas.Nat.{div-add-mod'}
use Rattle.std.proofs.lemmas.List.{length-set}
use Rattle.std.proofs.lemmas.Bool.{cases_order, leb-true, and_parts, and_from, and_right}
use Rattle.std.specs.Option.{option_map as over}
use Rattle.shared_memory.specs.declared.frame_store.Frames.{Frames}
use Rattle.shared_memory.specs.declared.table.Place.{Place}
use Rattle.shared_memory.specs.Extents.{Extent, Extents, extent_at, laid, occupied, free, first_free, Meet, FreePlace, Monotone, StillLeave}
use Rattle.shared_memory.specs.Frames.{frame_place, frame_rule, Framed}
use Rattle.shared_memory.specs.Placings.{Lawful}
use Rattle.shared_memory.specs.Laying.{by_put, first_free_is, free_first, free_vacated, free_still}
use Rattle.shared_memory.specs.Optional.{inside, none_some, same_some, over_some, some_over}

-- there is room exactly when a frame is free and the size fits it
pub frame_room : (fs : ℕ) (es : Extents) (size : ℕ) → is_some (frame_rule fs es size) ≡ (free es && leb size fs)
frame_room fs es size = go (leb size fs)
  where
    right : (b : Bool) → (b && true) ≡ b
    right true = refl
    right false = refl

    go : (b : Bool) → is_some (cond b (over (frame_place fs) (first_free es)) None) ≡ (free es && b)
    go true = some_over (frame_place fs) (first_free es) ∙ (free_first es ∙ sym (right (free es)))
    go false = sym (and_right (free es) false refl)

pub frame_monotone : (fs : ℕ) → Monotone (frame_rule fs)
frame_monotone fs es h z e =
    let (f, l) = and_parts (free es) (leb z fs) (sym (frame_room fs es z) ∙ e) in
    frame_room fs (set es h None) z ∙ and_from _ _ (free_still es h f) l

-- what would leave a frame does so whatever else stands
pub frame_still : (fs : ℕ) (es ds : Extents) → length ds ≡ length es → StillLeave (frame_rule fs) es ds
frame_still fs es ds long k e p q =
    let (f, l) = and_parts (free (set es k None)) (leb e.size fs) (sym (frame_room fs (set es k None) e.size) ∙ q) in
    frame_room fs (set ds k None) e.size ∙ and_from _ _ (free_vacated ds k (omega (arith, inside es k p))) l

-- a frame ends where a later one begins, or before
frame_ends : (h k fs : ℕ) → h < k → h * fs + fs ≤ k * fs
frame_ends h k fs lt = let le : h + 1 ≤ k = omega arith in omega (arith, add-mul h 1 fs, one-mul fs, mul-le-mul_right fs le)

frame_paged : (h fs : ℕ) → fs % 4096 ≡ 0 → h * fs % 4096 ≡ 0
frame_paged h fs e =
    let q : fs ≡ fs / 4096 * 4096 = omega (arith, div-add-mod' fs 4096) in
    ap (λ x. h * x % 4096) q ∙ (ap (λ x. x % 4096) (sym (mul_assoc h (fs / 4096) 4096)) ∙ mul-mod_left (h * (fs / 4096)) 4096)

-- the rule's answer is the first free frame, and the size fits it
abbrev Chosen : ℕ → Extents → ℕ → Place → Type 0
Chosen fs es size p = (size ≤ fs) × (h : ℕ) × (first_free es ≡ Some h) × (frame_place fs h ≡ p)

chosen_frame : (fs : ℕ) (es : Extents) (size : ℕ) (p : Place) → frame_rule fs es size ≡ Some p → Chosen fs es size p
chosen_frame fs es size p e = go (leb size fs) refl e
  where
    go : (b : Bool) → leb size fs ≡ b → cond b (over (frame_place fs) (first_free es)) None ≡ Some p → Chosen fs es size p
    go true l q = let (h, f, same) = over_some (frame_place fs) (first_free es) p q in (leb-true size fs l, h, f, same)
    go false l q = absurd (none_some refl q)

module _ (es : Extents) (m fs : ℕ) (f : Framed es m fs) where
  pub frame_within : (h : ℕ) → h < length es → h * fs + fs ≤ m
  frame_within h lt = omega (arith, frame_ends h (length es) fs lt, f.whole)

  put_frame : (h : ℕ) (o : Option Extent) → ((e : Extent) → o ≡ Some e → (e.start ≡ h * fs) × (e.size ≤ fs)) → Framed (set es h o) m fs
  put_frame h o new =
      record {
        whole = f.whole ∙ ap (λ k. k * fs) (sym (length-set es h o));
        aligned = by_put es h o (λ k e. e.start ≡ k * fs) (λ e p. (new e p).0) (λ k e ne p. f.aligned k e p);
        fitting = by_put es h o (λ k e. e.size ≤ fs) (λ e p. (new e p).1) (λ k e ne p. f.fitting k e p);
      }

  frames_ceased : (h : ℕ) → Framed (set es h None) m fs
  frames_ceased h = put_frame h None (λ e p. absurd (none_some refl p))

  module _ (size : ℕ) (p : Place) (chosen : frame_rule fs es size ≡ Some p) where
    frames_occupied : Framed (occupied es p size) m fs
    frames_occupied =
        let (fits, h, first, same) = chosen_frame fs es size p chosen in
        put_frame p.handle (Some (laid p size)) λ e q.
        subst (λ e. (e.start ≡ p.handle * fs) × (e.size ≤ fs)) (same_some refl q) (subst (λ p. p.start ≡ p.handle * fs) same refl, fits)

    pub frame_free : fs % 4096 ≡ 0 → FreePlace es m p size
    frame_free paged =
        let (fits, h, first, same) = chosen_frame fs es size p chosen in
        let (lt, none) = first_free_is es h first in
        subst (λ p. FreePlace es m p size) same
        (record {
          handle = lt;
          free = none;
          paged = frame_paged h fs paged;
          within = omega (arith, frame_within h lt);
          apart = λ k e q meet. between h none fits k e q (f.aligned k e q) (f.fitting k e q) meet;
        })
      where
        between : (h : ℕ) → extent_at es h ≡ None → size ≤ fs → (k : ℕ) (e : Extent) → extent_at es k ≡ Some e → e.start ≡ k * fs → e.size ≤ fs → Meet (laid (frame_place fs h) size) e → ⊥
        between h none fits k e q start small meet =
            ⊎_elim
            (λ same. none_some (ap (extent_at es) (sym same) ∙ none) q)
            (⊎_elim (λ lt. omega (arith, frame_ends h k fs lt, meet.1)) (λ gt. omega (arith, frame_ends k h fs gt, meet.0)))
            (cases_order h k)

-- it is a fact, so nothing is lost by knowing only that it holds
pub framed : (es : Extents) (m fs : ℕ) → ∥ Framed es m fs ∥₁ → Framed es m fs
framed es m fs l = ∥∥₁_elim l (Prim.hlevel props) (λ f. f)

pub frames_lawful : Lawful (λ (f : Frames). frame_rule f.size) (λ f es m. Framed es m f.size)
frames_lawful = record {
  monotone = λ f. frame_monotone f.size;
  ceased = λ f es m h l. ∣ frames_ceased es m f.size (framed es m f.size l) h ∣₁;
  free = λ f es m size q l e. frame_free es m f.size (framed es m f.size l) size q e f.paged.1;
  placed = λ f es m size q l e. ∣ frames_occupied es m f.size (framed es m f.size l) size q e ∣₁;
  leaves = λ f es m size q l lie e. frame_still f.size es (occupied es q size) (length-set es _ _);
}
