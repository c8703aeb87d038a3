-- The free buckets as a list, the next one to give out first.
use Rattle.std.specs.Prelude.{◌≡◌, ℕ, Bool, true, false, List, [], ◌∷◌, reverse, slice_index_or, slice_set}
use Rattle.std.specs.List.{range_with_len}
use Rattle.shm_allocator.specs.declared.buckets.Buckets.{Buckets}

-- The free buckets, from the front: they are kept with the front last.
abbrev pub listed : Buckets → List ℕ
listed f = reverse f.free.items

-- Whether bucket i is given out.
abbrev pub flag : Buckets → ℕ → Bool
flag f i = slice_index_or f.taken i false

-- Whether a list has nothing in it.
abbrev pub empty : List ℕ → Bool
empty [] = true
empty (i ∷ is) = false

-- All of n buckets are free, and bucket 0 is the front.
pub record New (n : ℕ) (f : Buckets) : Type 0 where
  pub count : f.count ≡ n
  pub list : listed f ≡ range_with_len 0 n
  pub none : (i : ℕ) → flag f i ≡ false

-- Bucket i was the front, and is given out.
pub record Popped (f : Buckets) (i : ℕ) (g : Buckets) : Type 0 where
  pub count : g.count ≡ f.count
  pub list : listed f ≡ i ∷ listed g
  pub flags : g.taken ≡ slice_set f.taken i true

-- Bucket i is free again, and is the front.
pub record Pushed (f : Buckets) (i : ℕ) (g : Buckets) : Type 0 where
  pub count : g.count ≡ f.count
  pub list : listed g ≡ i ∷ listed f
  pub flags : g.taken ≡ slice_set f.taken i false
