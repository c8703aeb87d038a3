-- The meaning of the pool allocator: equal buckets, given out and returned at the front of a list.
use Rattle.std.specs.Prelude.{◌≡◌, ℕ, ◌+◌, ◌*◌, ◌/◌, ◌%◌, Bool, cond, ◌&&◌, ◌||◌, List, [], ◌∷◌, Some, None, ◌==◌, nat_le, nat_lt}
use Rattle.shm_allocator.specs.declared.layout.ValidLayout.{ValidLayout}
use Rattle.shm_allocator.specs.declared.AllocationStrategy.{AllocationStrategy}
use Rattle.shm_allocator.specs.declared.SharedMemorySetupHint.{SharedMemorySetupHint}
use Rattle.shm_allocator.specs.declared.pool_allocator.PoolAllocator.{PoolAllocator}
use Rattle.shm_allocator.specs.declared.pool_allocator.Config.{Config}
use Rattle.shm_allocator.specs.Numbers.{rounded_up, valid}
use Rattle.shm_allocator.specs.Sizes.{grows, raise, rounded_size, grown_size, grown_align}
use Rattle.shm_allocator.specs.Buckets.{listed, flag, empty, New, Popped, Pushed}
use Rattle.shm_allocator.specs.Meaning.{Meaning, Answer, span}
use Rattle.shm_allocator.specs.Meaning.Answer.{start, refused}

-- The start of the front of the free buckets, or 20 where none is free.
abbrev pub front_answer : ℕ → List ℕ → Answer
front_answer size [] = refused 20
front_answer size (i ∷ is) = start (i * size)

-- An alignment above the bucket's is refused by 22, then a size above the bucket's by 21.
abbrev pub pool_answer : PoolAllocator → ValidLayout → Answer
pool_answer a l = cond (nat_lt a.layout.align l.align) (refused 22) (cond (nat_lt a.layout.size l.size) (refused 21) (front_answer a.layout.size (listed a.buckets)))

-- A bucket starts at s, and n bytes fit it.
abbrev pub starts : PoolAllocator → ℕ → ℕ → Bool
starts a s n = (s % a.layout.size == 0 && nat_lt (s / a.layout.size) a.buckets.count) && (nat_le 1 n && nat_le n a.layout.size)

-- A start was given: the front of the free buckets is given out.
pub record PoolGave (a : PoolAllocator) (l : ValidLayout) (b : PoolAllocator) : Type 0 where
  pub payload : b.payload ≡ a.payload
  pub layout : b.layout ≡ a.layout
  pub bucket : ℕ
  pub popped : Popped a.buckets bucket b.buckets

-- A return was accepted: the bucket that starts at s is the front of the free buckets.
pub record PoolTook (a : PoolAllocator) (s n : ℕ) (b : PoolAllocator) : Type 0 where
  pub payload : b.payload ≡ a.payload
  pub layout : b.layout ≡ a.layout
  pub pushed : Pushed a.buckets (s / a.layout.size) b.buckets

-- Set up for a payload of p bytes with n buckets of b bytes and the alignment al, all free.
pub record PoolSetUp (p b al n : ℕ) (a : PoolAllocator) : Type 0 where
  pub payload : a.payload ≡ p
  pub size : a.layout.size ≡ b
  pub align : a.layout.align ≡ al
  pub new : New n a.buckets

-- The size of a bucket: that of its layout, rounded up to a multiple of the alignment.
abbrev pub bucket_size_of : Config → ℕ
bucket_size_of c = rounded_up c.bucket_layout.size c.bucket_layout.align

-- How many buckets a payload of p bytes has.
abbrev pub bucket_count : Config → ℕ → ℕ
bucket_count c p = p / bucket_size_of c

-- Set up with every bucket that the payload has.
abbrev pub PoolFresh : Config → ℕ → PoolAllocator → Type 0
PoolFresh c p a = PoolSetUp p (bucket_size_of c) c.bucket_layout.align (bucket_count c p) a

-- A layout against the rules, an alignment above 4,096 and more than 1,024 buckets are impossible.
abbrev pub pool_possible : Config → ℕ → Bool
pool_possible c p = valid c.bucket_layout.size c.bucket_layout.align && (nat_le c.bucket_layout.align 4096 && nat_le (bucket_count c p) 1024)

-- The strategy grows, and the layout asked does not fit a bucket.
abbrev pub outgrown : PoolAllocator → ValidLayout → AllocationStrategy → Bool
outgrown a l way = grows way && (nat_lt a.layout.size l.size || nat_lt a.layout.align l.align)

-- The bucket size of the hint.
abbrev pub hint_size : PoolAllocator → ValidLayout → AllocationStrategy → ℕ
hint_size a l way = cond (outgrown a l way) (grown_size a.layout l way) a.layout.size

-- The bucket alignment of the hint.
abbrev pub hint_align : PoolAllocator → ValidLayout → AllocationStrategy → ℕ
hint_align a l way = cond (outgrown a l way) (grown_align a.layout l) a.layout.align

-- The number of buckets of the hint: one more, raised, where the strategy grows and no bucket is free.
abbrev pub hint_count : PoolAllocator → AllocationStrategy → ℕ
hint_count a way = cond (grows way && empty (listed a.buckets)) (raise way (a.buckets.count + 1)) a.buckets.count

-- A hint: a payload, and the layout of its buckets.
abbrev pub pool_hint : ℕ → ℕ → ℕ → SharedMemorySetupHint Config
pool_hint p size align = record { payload_size = p; config = record { bucket_layout = record { size = size; align = align } } }

abbrev pub pool : Meaning PoolAllocator Config
pool = record {
  id = 0;
  payload = λ a. a.payload;
  bucket = λ a. a.layout.size;
  taken = λ a k. flag a.buckets (k / a.layout.size);
  block = λ a s n. cond (starts a s n) (Some (span s (s + a.layout.size))) None;
  answer = pool_answer;
  gave = PoolGave;
  took_back = PoolTook;
  hint = λ a l way. pool_hint (hint_size a l way * hint_count a way) (hint_size a l way) (hint_align a l way);
  initial = λ l n. pool_hint (rounded_size l * n) l.size l.align;
  possible = pool_possible;
  fresh = PoolFresh;
}
