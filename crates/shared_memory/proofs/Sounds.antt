-- What keeps a store sound, and what every store means by a denied call.
use Rattle.std.proofs.Common.{◌≡◌, ℕ, ◌<◌, ◌≤◌, true, false, List, [], ◌∷◌, length, Some, None, Option, sym, refl, ap, ◌∙◌, subst, inl, inr, ⊎_elim}
use Rattle.std.proofs.lemmas.Bool.{cases_eq}
use Rattle.shared_memory.specs.Meaning.{Segment, Store, Apart, GoodName, GoodAddress, Sound, Empty, Same, Named, MakeDenied, room, size_at}
use Rattle.shared_memory.specs.Optional.{none_some, same_some}

pub same : (s : Store) → Same s s
same s = record { at = λ h. refl; room_without = λ hs z. refl; room_with = λ m z. refl }

-- a make that only wants room
pub roomless : (s : Store) (n : List ℕ) (size : ℕ) → GoodName n × (1 ≤ size) × (Named s n → ⊥) → room s size ≡ false → MakeDenied s n size 26 × Same s s
roomless s n size (good, sized, fresh) none = (MakeDenied.no_room good sized fresh none, same s)

-- how many bytes what stands has
abbrev pub size_of : Option Segment → Option ℕ
size_of o = elim o as (λ _. Option ℕ) [ None ↦ None | Some g ↦ Some (length g.bytes) ]

pub size_some : (s : Store) (h : ℕ) (g : Segment) → s.at h ≡ Some g → size_at s h ≡ Some (length g.bytes)
size_some s h g e = ap size_of e

pub empty_sound : (s : Store) → Empty s → Sound s
empty_sound s none =
    record {
      handle = λ h g e. absurd (none_some (none h) e);
      address = λ h g e. absurd (none_some (none h) e);
      apart = λ h k g f ne e p. absurd (none_some (none h) e);
      names = λ h k g f n e p a b. absurd (none_some (none h) e);
      good_name = λ h g n e a. absurd (none_some (none h) e);
      lives = λ h g e a. absurd (none_some (none h) e);
      sized = λ h g e. absurd (none_some (none h) e);
      maps = λ h g e. absurd (none_some (none h) e);
      leaves_room = λ h g e. absurd (none_some (none h) e);
    }

-- each segment that stands leaves room for its size
abbrev pub LeavesRoom : Store → Type 0
LeavesRoom s = (h : ℕ) (g : Segment) → s.at h ≡ Some g → s.room_without (h ∷ []) (length g.bytes) ≡ true

-- a store in which nothing stands that did not in a sound one
pub fewer_sound : (s t : Store) → ((h : ℕ) (g : Segment) → t.at h ≡ Some g → s.at h ≡ Some g) → LeavesRoom t → Sound s → Sound t
fewer_sound s t was room w =
    record {
      handle = λ h g e. w.handle h g (was h g e);
      address = λ h g e. w.address h g (was h g e);
      apart = λ h k g f ne e p. w.apart h k g f ne (was h g e) (was k f p);
      names = λ h k g f n e p. w.names h k g f n (was h g e) (was k f p);
      good_name = λ h g n e. w.good_name h g n (was h g e);
      lives = λ h g e. w.lives h g (was h g e);
      sized = λ h g e. w.sized h g (was h g e);
      maps = λ h g e. w.maps h g (was h g e);
      leaves_room = room;
    }

-- a segment that may stand under h beside the others
pub record Joins (s : Store) (h : ℕ) (g : Segment) : Type 0 where
  pub handle : h < 320
  pub address : GoodAddress g.address
  pub apart : (k : ℕ) (f : Segment) → (k ≡ h → ⊥) → s.at k ≡ Some f → Apart g f
  pub new_name : (k : ℕ) (f : Segment) (n : List ℕ) → s.at k ≡ Some f → g.name ≡ Some n → f.name ≡ Some n → ⊥
  pub good_name : (n : List ℕ) → g.name ≡ Some n → GoodName n
  pub lives : g.name ≡ None → 1 ≤ g.maps
  pub sized : 1 ≤ length g.bytes
  pub maps : g.maps ≤ 65535

-- only what stands under h changed
module _ (s t : Store) (h : ℕ) (others : (k : ℕ) → (k ≡ h → ⊥) → t.at k ≡ s.at k) where
  pub stood : t.at h ≡ None → (k : ℕ) (g : Segment) → t.at k ≡ Some g → (k ≡ h → ⊥) × (s.at k ≡ Some g)
  stood none k g e = let ne : k ≡ h → ⊥ = λ same. none_some none (ap t.at (sym same) ∙ e) in (ne, sym (others k ne) ∙ e)

  module _ (g : Segment) (here : t.at h ≡ Some g) where
    pub by : (P : ℕ → Segment → Type 0) → P h g → ((k : ℕ) (f : Segment) → (k ≡ h → ⊥) → s.at k ≡ Some f → P k f) → (k : ℕ) (f : Segment) → t.at k ≡ Some f → P k f
    by P p q k f e =
        ⊎_elim
        (λ same. subst (λ i. P i f) (sym same) (subst (P h) (same_some here (ap t.at (sym same) ∙ e)) p))
        (λ ne. q k f ne (sym (others k ne) ∙ e))
        (cases_eq k h)

    pub joined_sound : Joins s h g → LeavesRoom t → Sound s → Sound t
    joined_sound j room w =
        record {
          handle = by (λ k f. k < 320) j.handle (λ k f ne e. w.handle k f e);
          address = by (λ k f. GoodAddress f.address) j.address (λ k f ne e. w.address k f e);
          apart = λ a b f u ne p q.
              by (λ a f. (a ≡ b → ⊥) → Apart f u)
              (λ nb. by (λ b u. (h ≡ b → ⊥) → Apart g u) (λ nh. absurd (nh refl)) (λ k u nk e nh. j.apart k u nk e) b u q nb)
              (λ k f nk e nb. by (λ b u. (k ≡ b → ⊥) → Apart f u) (λ nh. ⊎_elim inr inl (j.apart k f nk e)) (λ i u ni d nh. w.apart k i f u nh e d) b u q nb)
              a f p ne;
          names = λ a b f u n p q x y.
              by (λ a f. f.name ≡ Some n → a ≡ b)
              (λ x. by (λ b u. u.name ≡ Some n → h ≡ b) (λ y. refl) (λ k u nk e y. absurd (j.new_name k u n e x y)) b u q y)
              (λ k f nk e x. by (λ b u. u.name ≡ Some n → k ≡ b) (λ y. absurd (j.new_name k f n e y x)) (λ i u ni d y. w.names k i f u n e d x y) b u q y)
              a f p x;
          good_name = λ k f n e x. by (λ k f. f.name ≡ Some n → GoodName n) (j.good_name n) (λ k f ne e. w.good_name k f n e) k f e x;
          lives = by (λ k f. f.name ≡ None → 1 ≤ f.maps) j.lives (λ k f ne e. w.lives k f e);
          sized = by (λ k f. 1 ≤ length f.bytes) j.sized (λ k f ne e. w.sized k f e);
          maps = by (λ k f. f.maps ≤ 65535) j.maps (λ k f ne e. w.maps k f e);
          leaves_room = room;
        }
