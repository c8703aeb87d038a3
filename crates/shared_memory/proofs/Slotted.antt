-- What the slots of a table mean, as one is put and as bytes are written over.
use Rattle.std.proofs.Common.{◌≡◌, ℕ, zero, suc, ◌+◌, ◌<◌, ◌≤◌, true, false, ◌⊎◌, List, [], ◌∷◌, length, get_or, set, replicate, Some, None, Option, sym, refl, ap, ◌∙◌, inl, inr, ⊎_elim, arith}
use lib.LanesLaws.{map-replicate}
use lib.Seq.{map-set_same}
use Rattle.std.proofs.lemmas.List.{get_or_default, get_or-set_same, get_or-set_other, length-map, map-set}
use Rattle.std.specs.Option.{is_none, option_map as over}
use Rattle.std.specs.List.{position, position_from, list_all}
use Rattle.std.proofs.lemmas.Iterator.Adapters.{position_from-zero}
use Rattle.std.proofs.lemmas.Bool.{both_ways}
use Rattle.shared_memory.specs.declared.table.Slot.{Slot}
use Rattle.shared_memory.specs.Extents.{Extent, extent_at, first_free, Within, Meet}
use Rattle.shared_memory.specs.Meaning.{Segment, patched, filled}
use Rattle.shared_memory.specs.Slots.{segment, extent, slot_at, segments_in, extents_in}
use Rattle.shared_memory.specs.Laying.{away}
use Rattle.shared_memory.specs.Optional.{over_none, over_some}
use Rattle.shared_memory.proofs.Overwriting.{length_part, part_outside, part_around}

extent_over : (slots : List (Option Slot)) (h : ℕ) → extent_at (extents_in slots) h ≡ over extent (slot_at slots h)
extent_over [] h = refl
extent_over (o ∷ os) zero = refl
extent_over (o ∷ os) (suc h) = extent_over os h

pub extents_free : (n : ℕ) → extents_in (replicate n None) ≡ replicate n None
extents_free n = map-replicate (over extent) n None

module _ (slots : List (Option Slot)) where
  pub extent_some : (h : ℕ) (x : Slot) → slot_at slots h ≡ Some x → extent_at (extents_in slots) h ≡ Some (extent x)
  extent_some h x e = extent_over slots h ∙ ap (over extent) e

  pub extent_back : (h : ℕ) (e : Extent) → extent_at (extents_in slots) h ≡ Some e → (x : Slot) × (slot_at slots h ≡ Some x) × (extent x ≡ e)
  extent_back h e p = over_some extent (slot_at slots h) e (sym (extent_over slots h) ∙ p)

  pub extent_none : (h : ℕ) → extent_at (extents_in slots) h ≡ None → slot_at slots h ≡ None
  extent_none h e = over_none extent (slot_at slots h) (sym (extent_over slots h) ∙ e)

  pub length_extents : length (extents_in slots) ≡ length slots
  length_extents = length-map slots (over extent)

  pub extents_kept : (h : ℕ) (x y : Slot) → slot_at slots h ≡ Some x → extent y ≡ extent x → extents_in (set slots h (Some y)) ≡ extents_in slots
  extents_kept h x y e same = map-set_same (over extent) slots h (Some y) None (ap Some same ∙ sym (ap (over extent) e))

  pub extents_put : (h : ℕ) (o : Option Slot) → extents_in (set slots h o) ≡ set (extents_in slots) h (over extent o)
  extents_put h o = map-set (over extent) slots h o

-- the first free handle is the first place at which nothing stands
vacant_from : (slots : List (Option Slot)) (i : ℕ) → position_from is_none i slots ≡ over (λ k. i + k) (first_free (extents_in slots))
vacant_from [] i = refl
vacant_from (None ∷ os) i = let e : i ≡ i + 0 = omega arith in ap Some e
vacant_from (Some x ∷ os) i = vacant_from os (i + 1) ∙ go (first_free (extents_in os))
  where
    go : (o : Option ℕ) → over (λ k. i + 1 + k) o ≡ over (λ k. i + k) (over suc o)
    go None = refl
    go (Some k) = let e : i + 1 + k ≡ i + suc k = omega arith in ap Some e

pub vacant_free : (slots : List (Option Slot)) → position is_none slots ≡ first_free (extents_in slots)
vacant_free slots = position_from-zero is_none slots ∙ (vacant_from slots 0 ∙ go (first_free (extents_in slots)))
  where
    go : (o : Option ℕ) → over (λ k. 0 + k) o ≡ o
    go None = refl
    go (Some k) = let e : 0 + k ≡ k = omega arith in ap Some e

-- what a loop over the slots meets
pub met : (slots seen : List (Option Slot)) (h : ℕ) (o : Option Slot) (x : Slot) → seen ≡ slots → h < length seen → o ≡ get_or seen h o → o ≡ Some x → slot_at slots h ≡ Some x
met slots seen h o x same lt read is = ap (λ (xs : List (Option Slot)). slot_at xs h) (sym same) ∙ (get_or_default seen h None o lt ∙ (sym read ∙ is))

-- nothing stands, or under some handle something does
pub all_vacant : (slots : List (Option Slot)) → list_all is_none slots ≡ true → (h : ℕ) → slot_at slots h ≡ None
all_vacant [] e h = refl
all_vacant (None ∷ os) e zero = refl
all_vacant (None ∷ os) e (suc h) = all_vacant os e h
all_vacant (Some x ∷ os) e h = absurd (both_ways false refl e)

pub not_all_vacant : (slots : List (Option Slot)) → list_all is_none slots ≡ false → (h : ℕ) × (x : Slot) × (slot_at slots h ≡ Some x)
not_all_vacant [] e = absurd (both_ways true e refl)
not_all_vacant (None ∷ os) e = let (h, x, p) = not_all_vacant os e in (suc h, x, p)
not_all_vacant (Some x ∷ os) e = (0, x, refl)

module _ (slots : List (Option Slot)) (bytes : List ℕ) where
  pub at_some : (h : ℕ) (x : Slot) → slot_at slots h ≡ Some x → segments_in slots bytes h ≡ Some (segment bytes x)
  at_some h x e = ap (over (segment bytes)) e

  pub at_none : (h : ℕ) → slot_at slots h ≡ None → segments_in slots bytes h ≡ None
  at_none h e = ap (over (segment bytes)) e

  pub at_back : (h : ℕ) (g : Segment) → segments_in slots bytes h ≡ Some g → (x : Slot) × (slot_at slots h ≡ Some x) × (segment bytes x ≡ g)
  at_back h g e = over_some (segment bytes) (slot_at slots h) g e

  pub put_here : (h : ℕ) (o : Option Slot) → h < length slots → segments_in (set slots h o) bytes h ≡ over (segment bytes) o
  put_here h o lt = ap (over (segment bytes)) (get_or-set_same slots h o None lt)

  pub put_other : (h k : ℕ) (o : Option Slot) → (k ≡ h → ⊥) → segments_in (set slots h o) bytes k ≡ segments_in slots bytes k
  put_other h k o ne = ap (over (segment bytes)) (get_or-set_other slots h k o None ne)

  module _ (within : Within (extents_in slots) (length bytes)) where
    pub slot_within : (h : ℕ) (x : Slot) → slot_at slots h ≡ Some x → x.start + x.size ≤ length bytes
    slot_within h x e = within h (extent x) (extent_some slots h x e)

    pub segment_length : (h : ℕ) (x : Slot) → slot_at slots h ≡ Some x → length (segment bytes x).bytes ≡ x.size
    segment_length h x e = length_part bytes x.start x.size (slot_within h x e)

    -- a segment lies where its slot says
    pub told : (h : ℕ) (g : Segment) → segments_in slots bytes h ≡ Some g → (e : Extent) × (extent_at (extents_in slots) h ≡ Some e) × (e.start ≡ g.address) × (e.size ≡ length g.bytes)
    told h g e =
        let (x, p, same) = at_back h g e in
        (extent x, extent_some slots h x p, ap (λ g. g.address) same, sym (segment_length h x p) ∙ ap (λ g. length g.bytes) same)

  -- bytes are written over within d, and no segment but the one under h meets d
  module _ (h at : ℕ) (new : List ℕ) (d : Extent) (low : d.start ≤ at) (high : at + length new ≤ d.start + d.size) (fit : at + length new ≤ length bytes) (others : (k : ℕ) (e : Extent) → (k ≡ h → ⊥) → extent_at (extents_in slots) k ≡ Some e → Meet d e → ⊥) where
    pub patched_other : (k : ℕ) → (k ≡ h → ⊥) → segments_in slots (patched bytes at new) k ≡ segments_in slots bytes k
    patched_other k ne = go (slot_at slots k) refl
      where
        outside : (x : Slot) → slot_at slots k ≡ Some x → (x.start + x.size ≤ at) ⊎ (at + length new ≤ x.start)
        outside x e = ⊎_elim (λ le. inr (omega arith)) (λ le. inl (omega arith)) (away d (extent x) (others k (extent x) ne (extent_some slots k x e)))

        go : (o : Option Slot) → slot_at slots k ≡ o → over (segment (patched bytes at new)) o ≡ over (segment bytes) o
        go None e = refl
        go (Some x) e = ap (λ b. Some (filled (segment bytes x) b)) (part_outside bytes new at fit x.start x.size (outside x e))

  pub patched_here : (h at from : ℕ) (new : List ℕ) (x : Slot) → slot_at slots h ≡ Some x → at ≡ x.start + from → from + length new ≤ x.size → x.start + x.size ≤ length bytes → segments_in slots (patched bytes at new) h ≡ Some (filled (segment bytes x) (patched (segment bytes x).bytes from new))
  patched_here h at from new x e p q r =
      ap (over (segment (patched bytes at new))) e ∙ ap (λ b. Some (filled (segment bytes x) b)) (part_around bytes new at (omega arith) x.start x.size from p q r)
