-- What a store with a rule of placing means, as a segment changes, ceases or is made.
use Rattle.std.proofs.Common.{◌≡◌, ℕ, ◌^◌, ◌<◌, ◌≤◌, true, List, [], ◌∷◌, length, set, replicate, is_some, Some, None, Option, sym, refl, ap, ◌∙◌, subst, inl, inr, ⊎_elim, arith}
use Rattle.std.proofs.lemmas.List.{length-replicate, set_comm}
use Rattle.shared_memory.specs.declared.opened.Opened.{Opened}
use Rattle.shared_memory.specs.declared.table.Place.{Place}
use Rattle.shared_memory.specs.Extents.{Extent, Extents, extent_at, laid, occupied, filled_in, vacated, Rule, ruled, FreePlace, Monotone, StillLeave}
use Rattle.shared_memory.specs.Meaning.{Segment, Store, Apart, GoodName, GoodAddress, Named, Changes, Ceases, Made}
use Rattle.shared_memory.specs.Laying.{away, undone}
use Rattle.shared_memory.specs.Optional.{none_some, same_some}
use Rattle.shared_memory.proofs.Sounds.{LeavesRoom, fewer_sound, stood, by, joined_sound}

module _ (rule : Rule) (old new : ℕ → Option Segment) (es : Extents) (h : ℕ) (others : (k : ℕ) → (k ≡ h → ⊥) → new k ≡ old k) where
  pub changes : (g : Segment) → new h ≡ Some g → Changes (ruled rule old es) h g (ruled rule new es)
  changes g here = record { here = here; others = others; room_without = λ hs z. refl; room_with = λ m z. refl }

  pub ceases : Monotone rule → new h ≡ None → Ceases (ruled rule old es) h (ruled rule new (set es h None))
  ceases mono here =
      record {
        here = here;
        others = others;
        room_without = λ hs z. refl;
        sound = λ w.
            fewer_sound S T (λ k g e. (stood S T h others here k g e).1)
            (λ k g e.
            let (ne, was) = stood S T h others here k g e in
            ap (λ ds. is_some (rule ds (length g.bytes))) (set_comm es h k None None (λ e. ne (sym e)))
            ∙ mono (set es k None) h (length g.bytes) (w.leaves_room k g was))
            w;
      }
    where
      S : Store
      S = ruled rule old es

      T : Store
      T = ruled rule new (set es h None)

-- what was told of a segment made at a place
abbrev pub opened : (p : Place) → ℕ → p.start < 2 ^ 63 → Opened
opened p kind low = record { handle = p.handle; address = p.start; allocator_id = kind; low = low }

abbrev pub zeroed : List ℕ → Place → ℕ → ℕ → Segment
zeroed n p size kind = record { name = Some n; kind = kind; bytes = replicate size 0; address = p.start; maps = 1 }

-- the segments lie where the extents say
abbrev Told : (ℕ → Option Segment) → Extents → Type 0
Told at es = (k : ℕ) (g : Segment) → at k ≡ Some g → (e : Extent) × (extent_at es k ≡ Some e) × (e.start ≡ g.address) × (e.size ≡ length g.bytes)

-- a segment was made at a free place
module _ (old new : ℕ → Option Segment) (es : Extents) (told : Told old es) (few : length es ≤ 320) (m : ℕ) (small : m < 2 ^ 63) (p : Place) (n : List ℕ) (size kind : ℕ) (place : FreePlace es m p size) (good : GoodName n) (sized : 1 ≤ size) (was : old p.handle ≡ None) (here : new p.handle ≡ Some (zeroed n p size kind)) (others : (k : ℕ) → (k ≡ p.handle → ⊥) → new k ≡ old k) where
  zeros : length (replicate {A = ℕ} size 0) ≡ size
  zeros = length-replicate {A = ℕ} size 0

  low_handle : p.handle < 320
  low_handle = omega (arith, place.handle)

  good_address : GoodAddress p.start
  good_address = (place.paged, omega (arith, place.within))

  apart : (k : ℕ) (f : Segment) → old k ≡ Some f → Apart (zeroed n p size kind) f
  apart k f q =
      let (e, found, start, long) = told k f q in
      ⊎_elim (λ le. inl (omega (arith, zeros))) (λ le. inr (omega arith)) (away (laid p size) e (place.apart k e found))

  module _ (rule : Rule) (chosen : rule es size ≡ Some p) (leave : StillLeave rule es (occupied es p size)) where
    abbrev S : Store
    S = ruled rule old es

    abbrev T : Store
    T = ruled rule new (occupied es p size)

    back : set (occupied es p size) p.handle None ≡ es
    back = undone es p.handle (laid p size) place.free

    leaves_room : LeavesRoom S → LeavesRoom T
    leaves_room room =
        by S T p.handle others (zeroed n p size kind) here (λ k g. T.room_without (k ∷ []) (length g.bytes) ≡ true)
        (ap (λ z. is_some (rule (set (occupied es p size) p.handle None) z)) zeros ∙ (ap (λ ds. is_some (rule ds size)) back ∙ ap is_some chosen))
        (λ k g ne q.
        let (e, found, start, long) = told k g q in
        subst (λ z. is_some (rule (set (occupied es p size) k None) z) ≡ true) long (leave k e found (subst (λ z. is_some (rule (set es k None) z) ≡ true) (sym long) (room k g q))))

    pub made : (low : p.start < 2 ^ 63) → (Named S n → ⊥) → Made S n size kind (opened p kind low) T
    made low fresh =
        record {
          good_name = good;
          sized = sized;
          new_name = fresh;
          had_room = ap is_some chosen;
          was_free = was;
          here = here;
          handle = low_handle;
          address = good_address;
          kind_told = refl;
          others = others;
          undone = λ hs z. ap (λ ds. is_some (rule (vacated ds hs) z)) back;
          next_room = λ z. sym (ap (λ o. is_some (rule (filled_in es size o) z)) chosen);
          sound = λ w.
              joined_sound S T p.handle others (zeroed n p size kind) here
              (record {
                handle = low_handle;
                address = good_address;
                apart = λ k f ne q. apart k f q;
                new_name = λ k f i q x y. fresh (k, f, q, y ∙ sym x);
                good_name = λ i x. subst GoodName (same_some refl x) good;
                lives = λ x. absurd (none_some x refl);
                sized = omega (arith, zeros);
                maps = omega arith;
              })
              (leaves_room w.leaves_room) w;
        }
