-- The list of the free buckets, as it is popped, pushed and made.
use Rattle.std.specs.Prelude.{◌≡◌, ℕ, zero, suc, ◌+◌, ◌-◌, ◌<◌, ◌≤◌, Bool, true, false, ◌≢◌, List, [], ◌∷◌, ◌++◌, reverse, length, get_or, replicate, slice_index, slice_index_or, slice_set, refl}
use Rattle.std.proofs.Common.{sym, ap, ap₂, subst, ◌∙◌, ⊎_elim, le_of_suc-le-suc, not-suc-le-zero, length-append, arith}
use Rattle.std.specs.List.{range_with_len}
use Rattle.std.proofs.Math.Seq.{get_or-append_seam}
use Rattle.std.proofs.lemmas.List.{get_or-set_same, get_or-set_other, get_or_append_left, reverse-append, reverse-reverse, length-reverse, get_or-reverse}
use Rattle.std.proofs.lemmas.List.FromFn.{length-range_with_len, get_or-range_with_len}
use Rattle.std.proofs.lemmas.Bool.{cases_lt, both_ways}
use Rattle.shm_allocator.specs.Flags.{trues}
use Rattle.shm_allocator.specs.declared.buckets.Buckets.{Buckets}
use Rattle.shm_allocator.specs.Buckets.{listed, flag, empty}

-- a flag that is set adds one, and one that is cleared takes one away
pub trues_set : (t : List Bool) (i : ℕ) → i < length t → slice_index_or t i false ≡ false → trues (slice_set t i true) ≡ suc (trues t)
unfolding trues
trues_set [] i h e = absurd (not-suc-le-zero h)
trues_set (true ∷ t) zero h e = absurd (both_ways true e refl)
trues_set (false ∷ t) zero h e = refl
trues_set (true ∷ t) (suc i) h e = ap suc (trues_set t i (le_of_suc-le-suc h) e)
trues_set (false ∷ t) (suc i) h e = trues_set t i (le_of_suc-le-suc h) e

pub trues_clear : (t : List Bool) (i : ℕ) → slice_index_or t i false ≡ true → suc (trues (slice_set t i false)) ≡ trues t
unfolding trues
trues_clear [] i e = absurd (both_ways false refl e)
trues_clear (true ∷ t) zero e = refl
trues_clear (false ∷ t) zero e = absurd (both_ways false refl e)
trues_clear (true ∷ t) (suc i) e = ap suc (trues_clear t i e)
trues_clear (false ∷ t) (suc i) e = trues_clear t i e

pub trues_none : (n : ℕ) → trues (replicate n false) ≡ 0
unfolding trues
trues_none zero = refl
trues_none (suc n) = trues_none n

pub whole_none : (n m : ℕ) → n + trues (replicate m false) ≡ n
whole_none n m = let z = trues_none m in omega arith

pub flag_none : (n i : ℕ) → slice_index_or (replicate n false) i false ≡ false
flag_none zero i = refl
flag_none (suc n) zero = refl
flag_none (suc n) (suc i) = flag_none n i

-- ys is xs with i behind it, which is the front of the free buckets
module _ (xs ys : List ℕ) (i : ℕ) (e : ys ≡ xs ++ i ∷ []) where
  pub one_more : length ys ≡ length xs + 1
  one_more = ap length e ∙ length-append xs (i ∷ [])

  pub at_front : slice_index ys (length xs) ≡ i
  at_front = ap (λ (l : List ℕ). slice_index l (length xs)) e ∙ get_or-append_seam xs i [] 0

  pub at_other : (j : ℕ) → j < length xs → slice_index ys j ≡ slice_index xs j
  at_other j h = ap (λ (l : List ℕ). slice_index l j) e ∙ get_or_append_left xs (i ∷ []) 0 j h

  pub front_listed : reverse ys ≡ i ∷ reverse xs
  front_listed = ap reverse e ∙ reverse-append xs (i ∷ [])

  -- what holds of i, and of each of xs, holds of each of ys
  pub each_of_both : (P : ℕ → Type 0) → P i → ((j : ℕ) → j < length xs → P (slice_index xs j)) → (j : ℕ) → j < length ys → P (slice_index ys j)
  each_of_both P here below j h =
      ⊎_elim
      (λ l. subst P (sym (at_other j l)) (below j l))
      (λ l. let q : length xs ≡ j = omega (arith, one_more) in subst P (sym (ap (λ (k : ℕ). slice_index ys k) (sym q) ∙ at_front)) here)
      (cases_lt j (length xs))

-- The front i of the free buckets is given out, and xs are left.
module _ (f : Buckets) (xs : List ℕ) (i : ℕ) (e : f.free.items ≡ xs ++ i ∷ []) where
  within : (j : ℕ) → j ≤ length xs → j < length f.free.items
  within j h = omega (arith, one_more xs f.free.items i e)

  front : slice_index f.free.items (length xs) ≡ i
  front = at_front xs f.free.items i e

  other : (j : ℕ) → j < length xs → slice_index f.free.items j ≡ slice_index xs j
  other = at_other xs f.free.items i e

  pub pop_low : i < f.count
  pop_low = subst (λ (x : ℕ). x < f.count) front (f.inside (length xs) (within (length xs) (omega arith)))

  pub pop_free : slice_index_or f.taken i false ≡ false
  pop_free = subst (λ (x : ℕ). slice_index_or f.taken x false ≡ false) front (f.untaken (length xs) (within (length xs) (omega arith)))

  pub pop_inside : (j : ℕ) → j < length xs → slice_index xs j < f.count
  pop_inside j h = subst (λ (x : ℕ). x < f.count) (other j h) (f.inside j (within j (omega arith)))

  pub pop_untaken : (j : ℕ) → j < length xs → slice_index_or (slice_set f.taken i true) (slice_index xs j) false ≡ false
  pop_untaken j h =
      get_or-set_other f.taken i (slice_index xs j) true false (λ q. f.apart j (length xs) h (within (length xs) (omega arith)) (other j h ∙ q ∙ sym front))
      ∙ subst (λ (x : ℕ). slice_index_or f.taken x false ≡ false) (other j h) (f.untaken j (within j (omega arith)))

  pub pop_apart : (j k : ℕ) → j < k → k < length xs → slice_index xs j ≢ slice_index xs k
  pop_apart j k l h q = f.apart j k l (within k (omega arith)) (other j (omega arith) ∙ q ∙ sym (other k h))

  pub pop_whole : length xs + trues (slice_set f.taken i true) ≡ f.count
  pop_whole = let l = pop_low in let t = trues_set f.taken i (omega arith) pop_free in omega (arith, one_more xs f.free.items i e)

-- The taken bucket i comes back, and ys are free.
module _ (f : Buckets) (i : ℕ) (low : i < f.count) (is : slice_index_or f.taken i false ≡ true) where
  pub push_room : length f.free.items < f.count
  push_room = let t = trues_clear f.taken i is in omega arith

  cleared : (k : ℕ) → slice_index_or f.taken k false ≡ false → slice_index_or (slice_set f.taken i false) k false ≡ false
  cleared k h = get_or-set_other f.taken i k false false (λ q. both_ways (slice_index_or f.taken i false) (ap (λ (x : ℕ). get_or f.taken x false) (sym q) ∙ h) is) ∙ h

  module _ (ys : List ℕ) (e : ys ≡ f.free.items ++ i ∷ []) where
    pub push_untaken : (j : ℕ) → j < length ys → slice_index_or (slice_set f.taken i false) (slice_index ys j) false ≡ false
    push_untaken = each_of_both f.free.items ys i e (λ k. slice_index_or (slice_set f.taken i false) k false ≡ false) (get_or-set_same f.taken i false false (omega arith)) (λ j h. cleared (slice_index f.free.items j) (f.untaken j h))

    pub push_apart : (j k : ℕ) → j < k → k < length ys → slice_index ys j ≢ slice_index ys k
    push_apart j k l h q =
        ⊎_elim
        (λ u. f.apart j k l u (sym (at_other f.free.items ys i e j (omega arith)) ∙ q ∙ at_other f.free.items ys i e k u))
        (λ u.
        let n : length f.free.items ≡ k = omega (arith, one_more f.free.items ys i e) in
        let z : slice_index f.free.items j ≡ i = sym (at_other f.free.items ys i e j (omega arith)) ∙ q ∙ ap (λ (x : ℕ). slice_index ys x) (sym n) ∙ at_front f.free.items ys i e in
        both_ways (slice_index_or f.taken i false) (ap (λ (x : ℕ). get_or f.taken x false) (sym z) ∙ f.untaken j (omega arith)) is)
        (cases_lt k (length f.free.items))

    pub push_whole : length ys + trues (slice_set f.taken i false) ≡ f.count
    push_whole = let t = trues_clear f.taken i is in omega (arith, one_more f.free.items ys i e)

-- what counts down to k counts down to 0 where k is 0
pub down_all : (n k : ℕ) → k ≤ 0 → (xs : List ℕ) → reverse xs ≡ range_with_len k (n - k) → reverse xs ≡ range_with_len 0 n
down_all n k h xs e = let z : k ≡ 0 = omega arith in let m : n - k ≡ n = omega arith in e ∙ ap₂ range_with_len z m

-- a list that counts down to 0
module _ (xs : List ℕ) (n : ℕ) (e : reverse xs ≡ range_with_len 0 n) where
  pub down_length : length xs ≡ n
  down_length = sym (length-reverse xs) ∙ ap length e ∙ length-range_with_len 0 n

  pub down_at : (j : ℕ) → j < n → slice_index xs j ≡ n - 1 - j
  down_at j h =
      let w = length-range_with_len 0 n in
      let i : ℕ = length (range_with_len 0 n) - 1 - j in
      let q : 0 + i ≡ n - 1 - j = omega arith in
      ap (λ (l : List ℕ). slice_index l j) (sym (reverse-reverse xs) ∙ ap reverse e) ∙ get_or-reverse (range_with_len 0 n) j 0 (omega arith)
      ∙ get_or-range_with_len 0 n i 0 (omega arith) ∙ q

-- a pool that has a free bucket has a bucket
pub some_free : (f : Buckets) → empty (listed f) ≡ false → 0 < f.count
some_free f e = go f.free.items refl
  where
    go : (xs : List ℕ) → f.free.items ≡ xs → 0 < f.count
    go [] q = absurd (both_ways (empty (listed f)) e (ap (λ (l : List ℕ). empty (reverse l)) q))
    go (x ∷ xs) q = let l : length f.free.items ≡ suc (length xs) = ap length q in let w = f.whole in omega arith

-- the first of the list is free
pub front_is : (f : Buckets) (i : ℕ) (r : List ℕ) → listed f ≡ i ∷ r → (i < f.count) × (flag f i ≡ false)
front_is f i r e =
    let q : f.free.items ≡ reverse r ++ i ∷ [] = sym (reverse-reverse f.free.items) ∙ ap reverse e ∙ reverse-append (i ∷ []) r in
    (pop_low f (reverse r) i q, pop_free f (reverse r) i q)
