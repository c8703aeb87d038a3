-- A quota over a store: each call below is the same call within the quota.
use Rattle.std.proofs.Common.{◌≡◌, ℕ, ◌+◌, ◌<◌, ◌≤◌, Bool, true, false, ◌&&◌, leb, List, [], ◌∷◌, length, Some, None, Ok, Err, Option, Result, unwrap_or, sym, refl, ap, ◌∙◌, ⊎_elim, arith}
use Rattle.std.proofs.lemmas.List.{length-replicate}
use Rattle.std.proofs.lemmas.Bool.{cases_eq, le-leb, leb-true, and_parts, and_from, and_left, and_right}
use Rattle.shared_memory.specs.declared.fault.BadHandle.{BadHandle}
use Rattle.shared_memory.specs.declared.opened.Opened.{Opened}
use Rattle.shared_memory.specs.declared.fault.SharedMemoryCreateError.{SharedMemoryCreateError}
use Rattle.shared_memory.specs.declared.fault.SharedMemoryOpenError.{SharedMemoryOpenError}
use Rattle.shared_memory.specs.declared.fault.AccessError.{AccessError}
use Rattle.shared_memory.specs.Meaning.{Segment, Store, Sound, Same, Changes, Ceases, Left, stands, ceased, Made, MakeDenied, Makes, Opens, Withdraws, Closes, Reads, Writes, OpenDenied, AccessDenied, room, size_at}
use Rattle.shared_memory.specs.Quotas.{total, skipping, skipping_all, bytes_under, used, used_without, limited}
use Rattle.shared_memory.proofs.Overwriting.{length_patched}
use Rattle.shared_memory.proofs.Sounds.{size_of, fewer_sound}
use Rattle.shared_memory.proofs.Totals.{by_handle, skipped, total_split, total_skip, some_term}

-- the payload size by what stands
bytes_at : (s : Store) (h : ℕ) {o : Option Segment} → s.at h ≡ o → bytes_under s h ≡ unwrap_or (size_of o) 0
bytes_at s h e = ap (λ o. unwrap_or (size_of o) 0) e

pub bytes_told : (s : Store) (h : ℕ) (o : Option ℕ) (n : ℕ) → n ≡ unwrap_or o 0 → o ≡ size_at s h → n ≡ bytes_under s h
bytes_told s h o n e p = e ∙ ap (λ o. unwrap_or o 0) p

-- what the test of the quota says
pub fits_quota : (s : Store) (size q : ℕ) → true ≡ leb (used s + size) q → used s + size ≤ q
fits_quota s size q e = leb-true (used s + size) q (sym e)

pub passes_quota : (s : Store) (size q : ℕ) → false ≡ leb (used s + size) q → room (limited s q) size ≡ false
passes_quota s size q e = and_right (room s size) (leb (used s + size) q) (sym e)

-- where bytes stand, a segment does
stands_at : (s : Store) (h : ℕ) → 1 ≤ bytes_under s h → (g : Segment) × (s.at h ≡ Some g)
stands_at s h le = go (s.at h) refl
  where
    go : (o : Option Segment) → s.at h ≡ o → (g : Segment) × (s.at h ≡ Some g)
    go None e = absurd (omega (arith, bytes_at s h e))
    go (Some g) e = (g, e)

-- a quota over a sound store, and back
module _ (s : Store) (q : ℕ) where
  sound_below : Sound (limited s q) → Sound s
  sound_below d = fewer_sound (limited s q) s (λ h g e. e) (λ h g e. (and_parts _ _ (d.leaves_room h g e)).0) d

  split : (h : ℕ) (g : Segment) → h < 320 → s.at h ≡ Some g → used s ≡ used_without s (h ∷ []) + length g.bytes
  split h g lt e = total_split (bytes_under s) h 320 lt ∙ ap (λ n. used_without s (h ∷ []) + n) (bytes_at s h e)

  within : Sound (limited s q) → used s ≤ q
  within d = ⊎_elim (λ none. omega arith) (λ (k, lt, one). at k lt (stands_at s k one)) (some_term (bytes_under s) 320)
    where
      at : (k : ℕ) → k < 320 → (g : Segment) × (s.at k ≡ Some g) → used s ≤ q
      at k lt (g, e) =
          let z = length g.bytes in
          let (below, fits) = and_parts (s.room_without (k ∷ []) z) (leb (used_without s (k ∷ []) + z) q) (d.leaves_room k g e) in
          omega (arith, split k g lt e, leb-true _ _ fits)

  sound_limited : Sound s → used s ≤ q → Sound (limited s q)
  sound_limited d le =
      fewer_sound s (limited s q) (λ h g e. e) (λ h g e. and_from _ _ (d.leaves_room h g e) (le-leb _ _ (omega (arith, split h g (d.handle h g e) e)))) d

module _ (s t : Store) (q : ℕ) where
  -- the same payload size under each handle
  module _ (level : bytes_under t ≡ bytes_under s) where
    without_limited : ((hs : List ℕ) (z : ℕ) → t.room_without hs z ≡ s.room_without hs z) → (hs : List ℕ) (z : ℕ) → (limited t q).room_without hs z ≡ (limited s q).room_without hs z
    without_limited d hs z = λ i. d hs z i && leb (total (skipping_all hs (level i)) 320 + z) q

    with_limited : ((made z : ℕ) → t.room_with made z ≡ s.room_with made z) → (made z : ℕ) → (limited t q).room_with made z ≡ (limited s q).room_with made z
    with_limited d made z = λ i. d made z i && leb (total (level i) 320 + made + z) q

  same_limited : Same s t → Same (limited s q) (limited t q)
  same_limited d = record { at = d.at; room_without = without_limited level d.room_without; room_with = with_limited level d.room_with }
    where
      level : bytes_under t ≡ bytes_under s
      level = by_handle λ k. bytes_at t k (d.at k)

  -- of a segment that keeps its size
  changes_limited : (h : ℕ) (f g : Segment) → s.at h ≡ Some f → length g.bytes ≡ length f.bytes → Changes s h g t → Changes (limited s q) h g (limited t q)
  changes_limited h f g e size d =
      record { here = d.here; others = d.others; room_without = without_limited level d.room_without; room_with = with_limited level d.room_with }
    where
      level : bytes_under t ≡ bytes_under s
      level =
          by_handle λ k.
          ⊎_elim
          (λ same. ap (bytes_under t) same ∙ (bytes_at t h d.here ∙ (size ∙ (sym (bytes_at s h e) ∙ ap (bytes_under s) (sym same)))))
          (λ ne. bytes_at t k (d.others k ne))
          (cases_eq k h)

  ceases_limited : (h : ℕ) → Ceases s h t → Ceases (limited s q) h (limited t q)
  ceases_limited h d =
      record {
        here = d.here;
        others = d.others;
        room_without = λ hs z i. d.room_without hs z i && leb (total (skipping_all hs (less i)) 320 + z) q;
        sound = λ w. sound_limited t q (d.sound (sound_below s q w)) (omega (arith, within s q w, ap (λ f. total f 320) less, total_skip (bytes_under s) h 320));
      }
    where
      less : bytes_under t ≡ skipping h (bytes_under s)
      less = skipped (bytes_under s) (bytes_under t) h (bytes_at t h d.here) (λ k ne. bytes_at t k (d.others k ne))

  left_limited : (h : ℕ) (f g : Segment) (b : Bool) → s.at h ≡ Some f → length g.bytes ≡ length f.bytes → Left s h g t b → Left (limited s q) h g (limited t q) b
  left_limited h f g true e size (stands n d) = stands n (changes_limited h f g e size d)
  left_limited h f g false e size (ceased n m d) = ceased n m (ceases_limited h d)

  made_limited : (n : List ℕ) (size kind : ℕ) (o : Opened) → used s + size ≤ q → Made s n size kind o t → Made (limited s q) n size kind o (limited t q)
  made_limited n size kind o le d =
      record {
        good_name = d.good_name;
        sized = d.sized;
        new_name = d.new_name;
        had_room = and_from _ _ d.had_room (le-leb _ _ le);
        was_free = d.was_free;
        here = d.here;
        handle = d.handle;
        address = d.address;
        kind_told = d.kind_told;
        others = d.others;
        undone = λ hs z i. d.undone hs z i && leb (total (skipping_all hs (sym less i)) 320 + z) q;
        next_room = λ z i. d.next_room z i && leb (grown i + z) q;
        sound = λ w. sound_limited t q (d.sound (sound_below s q w)) (omega (arith, grown));
      }
    where
      less : bytes_under s ≡ skipping o.handle (bytes_under t)
      less = skipped (bytes_under t) (bytes_under s) o.handle (bytes_at s o.handle d.was_free) (λ k ne. sym (bytes_at t k (d.others k ne)))

      grown : used t ≡ used s + size
      grown =
          total_split (bytes_under t) o.handle 320 d.handle
          ∙ λ i. total (sym less i) 320 + (bytes_at t o.handle d.here ∙ length-replicate {A = ℕ} size 0) i

  -- a call that is denied below is denied for the same reason
  unmade_limited : (n : List ℕ) (size k : ℕ) → MakeDenied s n size k → MakeDenied (limited s q) n size k
  unmade_limited n size k w =
      elim w as (λ k _. MakeDenied (limited s q) n size k) [
        | MakeDenied.bad_name a ↦ MakeDenied.bad_name a
        | MakeDenied.size_zero a b ↦ MakeDenied.size_zero a b
        | MakeDenied.name_stands a b c ↦ MakeDenied.name_stands a b c
        | MakeDenied.no_room a b c d ↦ MakeDenied.no_room a b c (and_left _ _ d)
      ]

  unopened_limited : (n : List ℕ) (k : ℕ) → OpenDenied s n k → OpenDenied (limited s q) n k
  unopened_limited n k w =
      elim w as (λ k _. OpenDenied (limited s q) n k) [
        | OpenDenied.bad_name a ↦ OpenDenied.bad_name a
        | OpenDenied.no_such_name a b ↦ OpenDenied.no_such_name a b
        | OpenDenied.all_mapped a h g b c d ↦ OpenDenied.all_mapped a h g b c d
      ]

  pub makes_limited : (n : List ℕ) (size kind : ℕ) (r : Result Opened SharedMemoryCreateError) → used s + size ≤ q → Makes s n size kind r t → Makes (limited s q) n size kind r (limited t q)
  makes_limited n size kind (Err e) le d = (unmade_limited n size _ d.0, same_limited d.1)
  makes_limited n size kind (Ok o) le d = made_limited n size kind o le d

  pub opens_limited : (n : List ℕ) (r : Result Opened SharedMemoryOpenError) → Opens s n r t → Opens (limited s q) n r (limited t q)
  opens_limited n (Err e) d = (unopened_limited n _ d.0, same_limited d.1)
  opens_limited n (Ok o) (good, d) = (
    good,
    record {
      segment = d.segment;
      found = d.found;
      name = d.name;
      few = d.few;
      address = d.address;
      good_address = d.good_address;
      kind = d.kind;
      changes = changes_limited o.handle d.segment _ d.found refl d.changes;
    },
  )

  pub withdraws_limited : (h : ℕ) (r : Result Bool BadHandle) → Withdraws s h r t → Withdraws (limited s q) h r (limited t q)
  withdraws_limited h (Err e) (k, a, d) = (k, a, same_limited d)
  withdraws_limited h (Ok b) (g, n, p, m, d) = (g, n, p, m, left_limited h g _ b p refl d)

  pub closes_limited : (h : ℕ) (r : Result Bool BadHandle) → Closes s h r t → Closes (limited s q) h r (limited t q)
  closes_limited h (Err e) (k, a, d) = (k, a, same_limited d)
  closes_limited h (Ok b) (g, p, m, d) = (g, p, m, left_limited h g _ b p refl d)

unread_limited : (s : Store) (q h from size k : ℕ) → AccessDenied s h from size k → AccessDenied (limited s q) h from size k
unread_limited s q h from size k w =
    elim w as (λ k _. AccessDenied (limited s q) h from size k) [
      | AccessDenied.bad_handle e ↦ AccessDenied.bad_handle e
      | AccessDenied.outside g e lt ↦ AccessDenied.outside g e lt
    ]

pub reads_limited : (s : Store) (q h from : ℕ) (before after : List ℕ) (r : Result (Unit {0}) AccessError) → Reads s h from before r after → Reads (limited s q) h from before r after
reads_limited s q h from before after (Err e) (k, d) = (unread_limited s q h from (length before) _ k, d)
reads_limited s q h from before after (Ok _) d = d

pub writes_limited : (s t : Store) (q h from : ℕ) (new : List ℕ) (r : Result (Unit {0}) AccessError) → Writes s h from new r t → Writes (limited s q) h from new r (limited t q)
writes_limited s t q h from new (Err e) (k, d) = (unread_limited s q h from (length new) _ k, same_limited s t q d)
writes_limited s t q h from new (Ok _) (g, p, le, d) = (g, p, le, changes_limited s t q h g _ p (length_patched g.bytes new from le) d)
