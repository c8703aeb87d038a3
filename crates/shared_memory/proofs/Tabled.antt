-- What a table means, as a slot is put, bytes are stored over, or a segment is made.
use Rattle.std.proofs.Common.{◌≡◌, ℕ, ◌+◌, ◌^◌, ◌<◌, ◌≤◌, Bool, true, false, not, ◌⊎◌, List, length, set, replicate, is_some, Some, None, vec_items, Err, MatchBool, Option, sym, refl, ap, ◌∙◌, subst, ⊎_elim, arith}
use borrow.Rule.Slice.PartMut.{put_mid}
use Rattle.std.proofs.lemmas.List.{length-replicate, with_items_is}
use Rattle.std.proofs.lemmas.Bool.{both_ways}
use Rattle.std.specs.Vec.{with_items}
use Rattle.std.specs.Option.{is_none, option_map as over}
use Rattle.std.specs.List.{list_all}
use Rattle.shared_memory.specs.declared.fault.AccessError.{AccessError}
use Rattle.shared_memory.specs.declared.fault.AccessError.TheVariants.{BadHandle, OutsidePayload}
use Rattle.shared_memory.specs.declared.table.stored_name.StoredName.{StoredName}
use Rattle.shared_memory.specs.declared.table.Place.{Place}
use Rattle.shared_memory.specs.declared.table.SegmentTable.{SegmentTable}
use Rattle.shared_memory.specs.declared.table.Slot.{Slot}
use Rattle.shared_memory.specs.Extents.{Extents, extent_at, laid, occupied, Rule, ruled, Paged, Within, Disjoint, Lie, FreePlace, Monotone, StillLeave}
use Rattle.shared_memory.specs.Meaning.{AccessDenied, access_number, Empty, Same, Named, GoodName, MakeDenied, GoodAddress, Changes, Ceases, Left, stands, ceased, size_at, Made, patched, filled, part}
use Rattle.shared_memory.specs.Slots.{stored, name_of, extent, slot_at, segments_in, extents_in}
use Rattle.shared_memory.specs.Tables.{slots_of, bytes_of, memory, segment_of, segments, extents, under, Puts, Patches, Relaid, Follows, Finds, Locates}
use Rattle.shared_memory.specs.Laying.{all_free, lie_free, lie_vacated, lie_occupied, meet_turned}
use Rattle.shared_memory.specs.Optional.{inside, none_some, is_none as none_is, over_none}
use Rattle.shared_memory.proofs.Overwriting.{put_mid_patched, length_patched, part_part, part_written}
use Rattle.shared_memory.proofs.Ruled.{opened, zeroed, changes, ceases, made}
use Rattle.shared_memory.proofs.Slotted as slotted
use Rattle.shared_memory.proofs.Sounds.{roomless, size_of}

pub lies : (s : SegmentTable) → Lie (extents s) (memory s)
lies s = record { paged = s.paged; within = s.within; disjoint = s.disjoint }

-- what a table's ghost fields say
abbrev pub Facts : List (Option Slot) → List ℕ → Type 0
Facts slots bytes = record { few : length slots ≤ 320; small : length bytes < 2 ^ 63; paged : Paged (extents_in slots); within : Within (extents_in slots) (length bytes); disjoint : Disjoint (extents_in slots) }

pub facts : (slots : List (Option Slot)) (bytes : List ℕ) → length slots ≤ 320 → length bytes < 2 ^ 63 → Lie (extents_in slots) (length bytes) → Facts slots bytes
facts slots bytes few small l = record { few = few; small = small; paged = l.paged; within = l.within; disjoint = l.disjoint }

-- bytes were stored over a part of the memory
module _ (s : SegmentTable) (seen ys new : List ℕ) (at k : ℕ) (whole : seen ≡ bytes_of s) (stored : ys ≡ new) (n : length new ≡ k) (fit : at + k ≤ memory s) where
  abbrev all : List ℕ
  all = put_mid at k seen ys

  over_part : all ≡ patched (bytes_of s) at new
  over_part = put_mid_patched seen ys new at k stored n ∙ ap (λ xs. patched xs at new) whole

  as_long : length all ≡ memory s
  as_long = ap length over_part ∙ length_patched (bytes_of s) new at (omega (arith, n, fit))

  pub stored_bytes : vec_items (with_items s.bytes all) ≡ patched (bytes_of s) at new
  stored_bytes = with_items_is s.bytes all (as_long ∙ sym s.bytes.ok.0) ∙ over_part

  pub stored_facts : Facts (slots_of s) (vec_items (with_items s.bytes all))
  stored_facts =
      let long = ap length (with_items_is s.bytes all (as_long ∙ sym s.bytes.ok.0)) ∙ as_long in
      facts (slots_of s) _ s.few (omega (arith, s.small, long)) (subst (Lie (extents s)) (sym long) (lies s))

-- nothing stands
pub free_facts : (n : ℕ) (slots : List (Option Slot)) (bytes : List ℕ) → slots ≡ replicate n None → n ≤ 320 → length bytes < 2 ^ 63 → Facts slots bytes
free_facts n slots bytes e few small =
    subst (λ xs. Facts xs bytes) (sym e)
    (facts (replicate n None) bytes (omega (arith, length-replicate {A = Option Slot} n None)) small
    (subst (λ es. Lie es (length bytes)) (sym (slotted.extents_free n)) (lie_free n (length bytes))))

pub unmoved : (s : SegmentTable) → Relaid s (extents s) s
unmoved s = record { extents = refl; memory = refl }

meant : (rule : Rule) (t : SegmentTable) {slots : List (Option Slot)} {bytes : List ℕ} {es : Extents} → slots_of t ≡ slots → bytes_of t ≡ bytes → extents t ≡ es → ruled rule (segments_in slots bytes) es ≡ under rule t
meant rule t a b c = λ i. ruled rule (segments_in (sym a i) (sym b i)) (sym c i)

-- of what stands under a handle
module _ (s : SegmentTable) (h : ℕ) where
  pub at_slot : (x : Slot) → slot_at (slots_of s) h ≡ Some x → segments s h ≡ Some (segment_of s x)
  at_slot x e = slotted.at_some (slots_of s) (bytes_of s) h x e

  pub at_none : slot_at (slots_of s) h ≡ None → segments s h ≡ None
  at_none e = slotted.at_none (slots_of s) (bytes_of s) h e

  pub within_memory : (x : Slot) → slot_at (slots_of s) h ≡ Some x → (x.start + x.size ≤ memory s) × (memory s < 2 ^ 63)
  within_memory x e = (slotted.slot_within (slots_of s) (bytes_of s) s.within h x e, s.small)

  pub segment_length : (x : Slot) → slot_at (slots_of s) h ≡ Some x → length (segment_of s x).bytes ≡ x.size
  segment_length x e = slotted.segment_length (slots_of s) (bytes_of s) s.within h x e

  pub slot_size : (rule : Rule) → size_at (under rule s) h ≡ over (λ x. x.size) (slot_at (slots_of s) h)
  slot_size rule = go (slot_at (slots_of s) h) refl
    where
      go : (o : Option Slot) → slot_at (slots_of s) h ≡ o → size_at (under rule s) h ≡ over (λ (x : Slot). x.size) o
      go None e = ap size_of (at_none e)
      go (Some x) e = ap size_of (at_slot x e) ∙ ap Some (segment_length x e)

  pub good_start : (x : Slot) → slot_at (slots_of s) h ≡ Some x → GoodAddress x.start
  good_start x e = (s.paged h (extent x) (slotted.extent_some (slots_of s) h x e), omega (arith, within_memory x e))

  pub part_at : (x : Slot) (at from n : ℕ) → at ≡ x.start + from → from + n ≤ x.size → part (bytes_of s) at n ≡ part (segment_of s x).bytes from n
  part_at x at from n e le = ap (λ i. part (bytes_of s) i n) e ∙ part_part (bytes_of s) x.start x.size from n le

  pub lie_freed : Lie (extents_in (set (slots_of s) h None)) (memory s)
  lie_freed = subst (λ es. Lie es (memory s)) (sym (slotted.extents_put (slots_of s) h None)) (lie_vacated (extents s) h (memory s) (lies s))

  pub relaid_freed : (t : SegmentTable) → Puts s h None t → Relaid s (set (extents s) h None) t
  relaid_freed t p = record { extents = ap extents_in p.slots ∙ slotted.extents_put (slots_of s) h None; memory = ap length p.bytes }

  -- y takes the place of a slot that lies where it does
  module _ (y : Slot) (f : Follows s h y) where
    pub follows_inside : h < length (slots_of s)
    follows_inside = inside (slots_of s) h f.1

    same_extents : extents_in (set (slots_of s) h (Some y)) ≡ extents s
    same_extents = slotted.extents_kept (slots_of s) h f.0 y f.1 f.2

    pub lie_follows : Lie (extents_in (set (slots_of s) h (Some y))) (memory s)
    lie_follows = subst (λ es. Lie es (memory s)) (sym same_extents) (lies s)

    module _ (t : SegmentTable) where
      pub relaid_follows : Puts s h (Some y) t → Relaid s (extents s) t
      relaid_follows p = record { extents = ap extents_in p.slots ∙ same_extents; memory = ap length p.bytes }

      pub changes_follows : Puts s h (Some y) t → (rule : Rule) → Changes (under rule s) h (segment_of s y) (under rule t)
      changes_follows p rule =
          subst (Changes (under rule s) h (segment_of s y)) (meant rule t p.slots p.bytes (relaid_follows p).extents)
          (changes rule (segments s) _ (extents s) h
          (λ k ne. slotted.put_other (slots_of s) (bytes_of s) h k (Some y) ne) (segment_of s y)
          (slotted.put_here (slots_of s) (bytes_of s) h (Some y) follows_inside))

      pub left_stands : Puts s h (Some y) t → (r : Bool) → is_some y.name ≡ not r → ((r ≡ true) × (y.maps ≡ 0 → ⊥)) ⊎ (r ≡ false) → (rule : Rule) → Left (under rule s) h (segment_of s y) (under rule t) true
      left_stands p r e either rule =
          stands (λ q. ⊎_elim (λ a. a.1 q.1) (λ b. both_ways (is_some y.name) (ap is_some (over_none stored y.name q.0)) (e ∙ ap not b)) either) (changes_follows p rule)

      pub left_ceased : Puts s h None t → is_some y.name ≡ false → y.maps ≡ 0 → (rule : Rule) → Monotone rule → Left (under rule s) h (segment_of s y) (under rule t) false
      left_ceased p e m rule mono =
          ceased (ap (over stored) (none_is y.name e)) m
          (subst (λ u. Ceases (under rule s) h u) (meant rule t p.slots p.bytes (relaid_freed t p).extents)
          (ceases rule (segments s) _ (extents s) h
          (λ k ne. slotted.put_other (slots_of s) (bytes_of s) h k None ne) mono
          (slotted.put_here (slots_of s) (bytes_of s) h None follows_inside)))

  -- bytes of the segment under h were stored over
  module _ (t : SegmentTable) (x : Slot) (at from : ℕ) (new : List ℕ) (e : slot_at (slots_of s) h ≡ Some x) (p : at ≡ x.start + from) (q : from + length new ≤ x.size) (d : Patches s at new t) where
    fit : at + length new ≤ memory s
    fit = omega (arith, within_memory x e)

    pub relaid_patched : Relaid s (extents s) t
    relaid_patched = record { extents = ap extents_in d.slots; memory = ap length d.bytes ∙ length_patched (bytes_of s) new at fit }

    pub changes_patched : (rule : Rule) → Changes (under rule s) h (filled (segment_of s x) (patched (segment_of s x).bytes from new)) (under rule t)
    changes_patched rule =
        subst (Changes (under rule s) h (filled (segment_of s x) (patched (segment_of s x).bytes from new))) (meant rule t d.slots d.bytes (ap extents_in d.slots))
        (changes rule (segments s) _ (extents s) h
        (slotted.patched_other (slots_of s) (bytes_of s) h at new (extent x) (omega arith) (omega arith) fit
        (λ k u ne found m. ne (s.disjoint k h (u, extent x, found, slotted.extent_some (slots_of s) h x e, meet_turned (extent x) u m))))
        _
        (slotted.patched_here (slots_of s) (bytes_of s) h at from new x e p q (within_memory x e).0))

-- the slot of a segment that is made at a place
abbrev fresh_slot : Place → StoredName → ℕ → ℕ → Slot
fresh_slot p n size kind = record { name = Some n; allocator_id = kind; start = p.start; size = size; maps = 1 }

module _ (s : SegmentTable) (p : Place) (n : StoredName) (size kind : ℕ) (place : FreePlace (extents s) (memory s) p size) where
  abbrev zeros : List ℕ
  zeros = replicate size 0

  long : length zeros ≡ size
  long = length-replicate {A = ℕ} size 0

  fits : p.start + length zeros ≤ memory s
  fits = omega (arith, long, place.within)

  pub place_inside : p.handle < length (slots_of s)
  place_inside = omega (arith, place.handle, slotted.length_extents (slots_of s))

  laid_out : extents_in (set (slots_of s) p.handle (Some (fresh_slot p n size kind))) ≡ occupied (extents s) p size
  laid_out = slotted.extents_put (slots_of s) p.handle (Some (fresh_slot p n size kind))

  -- zeros were stored over, and the slot is put
  module _ (m : SegmentTable) (d : Patches s p.start zeros m) where
    same_size : memory m ≡ memory s
    same_size = ap length d.bytes ∙ length_patched (bytes_of s) zeros p.start fits

    pub lie_made : Lie (extents_in (set (slots_of m) p.handle (Some (fresh_slot p n size kind)))) (memory m)
    lie_made =
        subst (λ xs. Lie (extents_in (set xs p.handle (Some (fresh_slot p n size kind)))) (memory m)) (sym d.slots)
        (subst (λ es. Lie es (memory m)) (sym laid_out)
        (subst (Lie (occupied (extents s) p size)) (sym same_size) (lie_occupied (extents s) (memory s) p size (lies s) place)))

    module _ (t : SegmentTable) (q : Puts m p.handle (Some (fresh_slot p n size kind)) t) where
      slots_made : slots_of t ≡ set (slots_of s) p.handle (Some (fresh_slot p n size kind))
      slots_made = q.slots ∙ ap (λ xs. set xs p.handle (Some (fresh_slot p n size kind))) d.slots

      bytes_made : bytes_of t ≡ patched (bytes_of s) p.start zeros
      bytes_made = q.bytes ∙ d.bytes

      pub relaid_made : Relaid s (occupied (extents s) p size) t
      relaid_made = record { extents = ap extents_in slots_made ∙ laid_out; memory = ap length q.bytes ∙ same_size }

      pub made_at : (low : p.start < 2 ^ 63) (text : List ℕ) → stored n ≡ text → GoodName text → ((rule : Rule) → Named (under rule s) text → ⊥) → 1 ≤ size → (rule : Rule) → rule (extents s) size ≡ Some p → StillLeave rule (extents s) (occupied (extents s) p size) → Made (under rule s) text size kind (opened p kind low) (under rule t)
      made_at low text name good fresh sized rule chosen leave =
          subst (Made (under rule s) text size kind (opened p kind low)) (meant rule t slots_made bytes_made relaid_made.extents)
          (made (segments s) _ (extents s) (slotted.told (slots_of s) (bytes_of s) s.within) (omega (arith, s.few, slotted.length_extents (slots_of s))) (memory s) s.small p text size kind place good sized
          (slotted.at_none (slots_of s) (bytes_of s) p.handle (slotted.extent_none (slots_of s) p.handle place.free))
          here others rule chosen leave low (fresh rule))
        where
          B : List ℕ
          B = patched (bytes_of s) p.start zeros

          bytes_here : part B p.start size ≡ zeros
          bytes_here = ap (part B p.start) (sym long) ∙ part_written (bytes_of s) zeros p.start fits

          here : segments_in (set (slots_of s) p.handle (Some (fresh_slot p n size kind))) B p.handle ≡ Some (zeroed text p size kind)
          here =
              slotted.put_here (slots_of s) B p.handle (Some (fresh_slot p n size kind)) place_inside
              ∙ λ i. Some (record { name = Some (name i); kind = kind; bytes = bytes_here i; address = p.start; maps = 1 })

          others : (k : ℕ) → (k ≡ p.handle → ⊥) → segments_in (set (slots_of s) p.handle (Some (fresh_slot p n size kind))) B k ≡ segments s k
          others k ne =
              slotted.put_other (slots_of s) B p.handle k (Some (fresh_slot p n size kind)) ne
              ∙ slotted.patched_other (slots_of s) (bytes_of s) p.handle p.start zeros (laid p size) (omega arith) (omega (arith, long)) fits (λ k e ne. place.apart k e) k ne

-- what a store with a rule makes of the rule's answer
module _ (s : SegmentTable) (rule : Rule) (size : ℕ) where
  pub unplaced : (n : List ℕ) → GoodName n × (1 ≤ size) × (Named (under rule s) n → ⊥) → None ≡ rule (extents s) size → MakeDenied (under rule s) n size 26 × Same (under rule s) (under rule s)
  unplaced n wanted none = roomless (under rule s) n size wanted (sym (ap is_some none))

  pub placed : (p : Place) → Some p ≡ rule (extents s) size → rule (extents s) size ≡ Some p
  placed p e = sym e

pub no_name : (s : SegmentTable) (n : List ℕ) → ((k : ℕ) (x : Slot) → slot_at (slots_of s) k ≡ Some x → name_of x ≡ Some n → ⊥) → (rule : Rule) → Named (under rule s) n → ⊥
no_name s n f rule (k, g, e, name) = let (x, p, same) = slotted.at_back (slots_of s) (bytes_of s) k g e in f k x p (ap (λ g. g.name) same ∙ name)

pub found_decides : (s : SegmentTable) (n : List ℕ) (r : Option (ℕ × Slot)) (b : Bool) → Finds s n r → b ≡ is_some r → (rule : Rule) → MatchBool b (Named (under rule s) n) (Named (under rule s) n → ⊥)
found_decides s n r b f e rule = subst (λ b. MatchBool b (Named (under rule s) n) (Named (under rule s) n → ⊥)) (sym e) (go r f)
  where
    go : (r : Option (ℕ × Slot)) → Finds s n r → MatchBool (is_some r) (Named (under rule s) n) (Named (under rule s) n → ⊥)
    go None f = no_name s n f rule
    go (Some (h, x)) f = (h, segment_of s x, at_slot s h x f.0, f.1)

pub vacant_decides : (s : SegmentTable) (b : Bool) → b ≡ list_all is_none (slots_of s) → (rule : Rule) → MatchBool b (Empty (under rule s)) (Empty (under rule s) → ⊥)
vacant_decides s b e rule = subst (λ b. MatchBool b (Empty (under rule s)) (Empty (under rule s) → ⊥)) (sym e) (go (list_all is_none (slots_of s)) refl)
  where
    go : (t : Bool) → list_all is_none (slots_of s) ≡ t → MatchBool t (Empty (under rule s)) (Empty (under rule s) → ⊥)
    go true q = λ h. at_none s h (slotted.all_vacant (slots_of s) q h)
    go false q = λ none. let (h, x, p) = slotted.not_all_vacant (slots_of s) q in none_some (none h) (at_slot s h x p)

pub free_empty : (s : SegmentTable) (n : ℕ) → extents s ≡ replicate n None → (rule : Rule) → Empty (under rule s)
free_empty s n e rule h = at_none s h (slotted.extent_none (slots_of s) h (ap (λ es. extent_at es h) e ∙ all_free n h))

-- why no byte is read or stored
pub not_located : (s : SegmentTable) (h from n : ℕ) (e : AccessError) → Locates s h from n (Err e) → (rule : Rule) → AccessDenied (under rule s) h from n (access_number e)
not_located s h from n BadHandle none rule = AccessDenied.bad_handle (at_none s h none)
not_located s h from n OutsidePayload (x, e, lt) rule = AccessDenied.outside (segment_of s x) (at_slot s h x e) (omega (arith, segment_length s h x e))
