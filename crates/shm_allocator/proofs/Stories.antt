-- Pools by their numbers, and that the worked instances hold.
use Rattle.std.proofs.Common.{◌≡◌, ℕ, ◌+◌, ◌-◌, ◌*◌, ◌/◌, max, Bool, true, false, cond, ◌&&◌, ◌||◌, ltb, leb, List, [], ◌∷◌, sym, refl, ap, ◌∙◌, ap₂, arith}
use Rattle.std.specs.List.{range_with_len}
use Rattle.shm_allocator.specs.declared.layout.ValidLayout.{ValidLayout}
use Rattle.shm_allocator.specs.declared.AllocationStrategy.{AllocationStrategy}
use Rattle.shm_allocator.specs.declared.AllocationStrategy.TheVariants.{BestFit, PowerOfTwo}
use Rattle.shm_allocator.specs.declared.bump_allocator.BumpAllocator.{BumpAllocator}
use Rattle.shm_allocator.specs.declared.pool_allocator.PoolAllocator.{PoolAllocator}
use Rattle.shm_allocator.specs.declared.pool_allocator.Config.{Config}
use Rattle.shm_allocator.specs.Numbers.{rounded_up, next_power}
use Rattle.shm_allocator.specs.Sizes.{grows, raise}
use Rattle.shm_allocator.specs.Buckets.{listed, empty}
use Rattle.shm_allocator.specs.Bump.{hint_payload}
use Rattle.shm_allocator.specs.Pool.{pool, front_answer, PoolGave, PoolFresh, bucket_size_of, bucket_count}
use Rattle.shm_allocator.specs.Instances.{Asks, Holds, Story, Instances, hinted}
use Rattle.shm_allocator.specs.Pools.{served}

-- A pool by its numbers: bucket size and alignment, count, and the free buckets.
pub record At (a : PoolAllocator) (b al n : ℕ) (free : List ℕ) : Type 0 where
  pub size : a.layout.size ≡ b
  pub align : a.layout.align ≡ al
  pub count : a.buckets.count ≡ n
  pub list : listed a.buckets ≡ free

-- A pool that was set up, from the number of its buckets and their size.
pub fresh_at : (set : Config) (p s al b n : ℕ) (a : PoolAllocator) → Holds set s al → rounded_up s al ≡ b → p / b ≡ n → PoolFresh set p a → At a b al n (range_with_len 0 n)
fresh_at set p s al b n a h r d f =
    let size : bucket_size_of set ≡ b = ap₂ rounded_up h.size h.align ∙ r in
    let count : bucket_count set p ≡ n = ap (λ (x : ℕ). p / x) size ∙ d in
    record { size = f.size ∙ size; align = f.align ∙ h.align; count = f.new.count ∙ count; list = f.new.list ∙ ap (range_with_len 0) count }

-- A pool that gave out its first free bucket.
pub gave_at : (a : PoolAllocator) (l : ValidLayout) (b : PoolAllocator) (s al n i : ℕ) (free : List ℕ) → At a s al n (i ∷ free) → PoolGave a l b → At b s al n free
gave_at a l b s al n i free h g =
    let both : g.bucket ∷ listed b.buckets ≡ i ∷ free = sym g.popped.list ∙ h.list in
    record { size = ap (λ (x : ValidLayout). x.size) g.layout ∙ h.size; align = ap (λ (x : ValidLayout). x.align) g.layout ∙ h.align; count = g.popped.count ∙ h.count; list = cc both }

-- A pool that took its first bucket back.
pub took_at : (a : PoolAllocator) (b : PoolAllocator) (s al n : ℕ) (free : List ℕ) → At a s al n free → pool.took_back a 0 s b → At b s al n ((0 / s) ∷ free)
took_at a b s al n free h t = record {
  size = ap (λ (x : ValidLayout). x.size) t.layout ∙ h.size;
  align = ap (λ (x : ValidLayout). x.align) t.layout ∙ h.align;
  count = t.pushed.count ∙ h.count;
  list = t.pushed.list ∙ ap₂ (λ (x : ℕ) (is : List ℕ). (0 / x) ∷ is) h.size h.list;
}

-- A pool answers what its buckets hold from its free buckets.
pub answers_at : (a : PoolAllocator) (l : ValidLayout) (s al n : ℕ) (free : List ℕ) → At a s al n free → Asks l s al → pool.answer a l ≡ front_answer s free
answers_at a l s al n free h q =
    served a l free (omega (arith, h.align, q.align)) (omega (arith, h.size, q.size)) h.list ∙ ap (λ (x : ℕ). front_answer x free) h.size

-- The payload of a pool's hint, from numbers alone.
pub hint_number : (b al n : ℕ) (free : List ℕ) (s m : ℕ) → AllocationStrategy → ℕ
hint_number b al n free s m way =
    cond (grows way && (ltb b s || ltb al m)) (rounded_up (raise way (max b s)) (max al m)) b * cond (grows way && empty free) (raise way (n + 1)) n

pub hint_at : (a : PoolAllocator) (l : ValidLayout) (way : AllocationStrategy) (b al n s m : ℕ) (free : List ℕ) → At a b al n free → Asks l s m → hinted a l way ≡ hint_number b al n free s m way
unfolding hint_number
hint_at a l way b al n s m free h q = λ i. hint_number (h.size i) (h.align i) (h.count i) (h.list i) (q.size i) (q.align i) way

pub best_fit_72 : hint_number 24 8 2 [] 24 8 BestFit ≡ 72
unfolding hint_number
best_fit_72 = refl

pub power_of_two_96 : hint_number 24 8 2 [] 24 8 PowerOfTwo ≡ 96
unfolding hint_number next_power
power_of_two_96 = refl

best_fit_96 : hint_number 24 8 2 (1 ∷ []) 40 16 BestFit ≡ 96
unfolding hint_number rounded_up
best_fit_96 = refl

power_of_two_128 : hint_number 24 8 2 (1 ∷ []) 40 16 PowerOfTwo ≡ 128
unfolding hint_number rounded_up next_power
power_of_two_128 = refl

best_fit_8 : hint_number 8 4 0 [] 5 4 BestFit ≡ 8
unfolding hint_number
best_fit_8 = refl

pub rounded_24 : rounded_up 24 8 ≡ 24
unfolding rounded_up
rounded_24 = refl

rounded_5 : rounded_up 5 4 ≡ 8
unfolding rounded_up
rounded_5 = refl

module _ (l : ValidLayout) (a b c d : PoolAllocator) (s : Story l a b c d) where
  at_none : At a 24 8 2 (0 ∷ (1 ∷ []))
  at_none = fresh_at s.set 48 24 8 24 2 a s.buckets rounded_24 refl s.fresh

  at_one : At b 24 8 2 (1 ∷ [])
  at_one = gave_at a l b 24 8 2 0 (1 ∷ []) at_none s.first

  at_two : At c 24 8 2 []
  at_two = gave_at b l c 24 8 2 1 [] at_one s.second

  at_back : At d 24 8 2 (0 ∷ [])
  at_back = took_at c d 24 8 2 [] at_two s.returned

  -- A pool of this story answers from its free buckets.
  answers : (e : PoolAllocator) (free : List ℕ) → At e 24 8 2 free → pool.answer e l ≡ front_answer 24 free
  answers e free h = answers_at e l 24 8 2 free h s.asks

five : (p n : ℕ) (set : Config) (a : PoolAllocator) → p / 8 ≡ n → Holds set 5 4 → PoolFresh set p a → At a 8 4 n (range_with_len 0 n)
five p n set a d h f = fresh_at set p 5 4 8 n a h rounded_5 d f

-- The payload of a bump's hint, where the mark is at 9 of 16.
bump_stays : (l : ValidLayout) (a : BumpAllocator) (way : AllocationStrategy) → Asks l 5 8 → a.payload ≡ 16 → a.mark ≡ 9 → hint_payload a l way ≡ 16
bump_stays l a way q p m = (λ i. cond (grows way && leb (p i - m i) (q.size i)) (raise way (p i + q.size i)) (p i)) ∙ same (grows way)
  where
    same : (g : Bool) → cond (g && false) (raise way 21) 16 ≡ 16
    same true = refl
    same false = refl

pub instances : Instances
instances = record {
  small = refl;
  largest = refl;
  too_large = λ id. refl;
  first_start = λ l a b c d s. answers l a b c d s a (0 ∷ (1 ∷ [])) (at_none l a b c d s);
  second_start = λ l a b c d s. answers l a b c d s b (1 ∷ []) (at_one l a b c d s);
  both_held = λ l a b c d s. answers l a b c d s c [] (at_two l a b c d s);
  start_again = λ l a b c d s. answers l a b c d s d (0 ∷ []) (at_back l a b c d s);
  best_fit = λ l a b c d s. hint_at c l BestFit 24 8 2 24 8 [] (at_two l a b c d s) s.asks ∙ best_fit_72;
  power_of_two = λ l a b c d s. hint_at c l PowerOfTwo 24 8 2 24 8 [] (at_two l a b c d s) s.asks ∙ power_of_two_96;
  larger_best_fit = λ l m a b c d s q. hint_at b m BestFit 24 8 2 40 16 (1 ∷ []) (at_one l a b c d s) q ∙ best_fit_96;
  larger_power_of_two = λ l m a b c d s q. hint_at b m PowerOfTwo 24 8 2 40 16 (1 ∷ []) (at_one l a b c d s) q ∙ power_of_two_128;
  no_bucket = λ l set a q h f. let e = five 5 0 set a refl h f in (e.count, hint_at a l BestFit 8 4 0 5 4 [] e q ∙ best_fit_8);
  one_bucket = λ l set a q h f. (ap₂ (λ (x y : ℕ). rounded_up x y * 1) q.size q.align ∙ ap (λ (x : ℕ). x * 1) rounded_5, (five 8 1 set a refl h f).count);
  bump_keeps = bump_stays;
}
