-- What an allocator means, and the rules that every one keeps.
use Rattle.std.specs.Prelude.{◌≡◌, ℕ, ◌+◌, ◌*◌, ◌%◌, ◌<◌, ◌≤◌, Bool, true, false, ◌&&◌, ◌⊎◌, Some, Option, ◌≢◌, nat_le, nat_lt}
use Rattle.shm_allocator.specs.Numbers.{rounded_up}
use Rattle.shm_allocator.specs.declared.layout.ValidLayout.{ValidLayout}
use Rattle.shm_allocator.specs.declared.AllocationStrategy.{AllocationStrategy}
use Rattle.shm_allocator.specs.declared.AllocationStrategy.TheVariants.{Static}
use Rattle.shm_allocator.specs.declared.ShmAllocationError.{ShmAllocationError}
use Rattle.shm_allocator.specs.declared.ShmAllocationError.TheVariants.{OutOfMemory, SizeTooLarge, ExceedsMaxSupportedAlignment}
use Rattle.shm_allocator.specs.declared.NotHeld.{NotHeld}
use Rattle.shm_allocator.specs.declared.SharedMemorySetupHint.{SharedMemorySetupHint}

-- The number of each refusal.
abbrev pub refusal_number : ShmAllocationError → ℕ
refusal_number OutOfMemory = 20
refusal_number SizeTooLarge = 21
refusal_number ExceedsMaxSupportedAlignment = 22

-- The number of a denied return.
abbrev pub not_held_number : NotHeld → ℕ
not_held_number e = 11

-- The answer to one layout: a start, or the number of a refusal.
pub data Answer : Type 0 where
  start : ℕ → Answer
  refused : ℕ → Answer

-- A set of payload bytes.
abbrev pub Bytes : Type 0
Bytes = ℕ → Bool

-- The bytes from s up to e, without e.
abbrev pub span : ℕ → ℕ → Bytes
span s e k = nat_le s k && nat_lt k e

-- The block behind a start and a size, where there is one.
abbrev pub Blocks : Type 0
Blocks = ℕ → ℕ → Option Bytes

-- The parts of an allocator's meaning. A is the allocator's type, C its configuration's.
-- `gave a l b` says that a, having given a start for l, is now b; `took_back a s n b` that a, having
-- accepted the return of the start s and the size n, is now b; `fresh c p a` that a is as set up
-- from the configuration c and the payload size p.
pub record Meaning (A C : Type 0) : Type 1 where
  pub id : ℕ
  pub payload : A → ℕ
  pub bucket : A → ℕ
  pub taken : A → Bytes
  pub block : A → Blocks
  pub answer : A → ValidLayout → Answer
  pub gave : A → ValidLayout → A → Type 0
  pub took_back : A → ℕ → ℕ → A → Type 0
  pub hint : A → ValidLayout → AllocationStrategy → SharedMemorySetupHint C
  pub initial : ValidLayout → ℕ → SharedMemorySetupHint C
  pub possible : C → ℕ → Bool
  pub fresh : C → ℕ → A → Type 0

module _ {A C : Type 0} (m : Meaning A C) where
  -- What no call changes.
  pub record Fixed (a b : A) : Type 0 where
    pub payload : m.payload b ≡ m.payload a
    pub bucket : m.bucket b ≡ m.bucket a
    pub block : (s n : ℕ) → m.block b s n ≡ m.block a s n

  -- The block of s and n is there, and each of its bytes is taken.
  pub record Taken (a : A) (s n : ℕ) : Type 0 where
    pub bytes : Bytes
    pub there : m.block a s n ≡ Some bytes
    pub all : (k : ℕ) → bytes k ≡ true → m.taken a k ≡ true

  -- What `allocate` did: the start s was given,
  abbrev pub Answered : A → ValidLayout → A → ℕ → Type 0
  Answered a l b s = (m.answer a l ≡ start s) × m.gave a l b

  -- or the layout was refused and nothing changed.
  abbrev pub Declined : A → ValidLayout → A → ShmAllocationError → Type 0
  Declined a l b e = (m.answer a l ≡ refused (refusal_number e)) × (b ≡ a)

  -- What `deallocate` did: the block was taken and came back,
  abbrev pub Accepted : A → ℕ → ℕ → A → Type 0
  Accepted a s n b = Taken a s n × m.took_back a s n b

  -- or it was not taken and nothing changed.
  abbrev pub Denied : A → ℕ → ℕ → A → Type 0
  Denied a s n b = (Taken a s n → ⊥) × (b ≡ a)

  -- A start s was given for the layout l: it is aligned, and its block lies in the payload, covers the
  -- asked bytes, was free and is taken; no taken byte came free.
  pub record Gives (a : A) (l : ValidLayout) (s : ℕ) (b : A) : Type 0 where
    pub aligned : s % l.align ≡ 0
    pub bytes : Bytes
    pub there : m.block a s l.size ≡ Some bytes
    pub covers : (k : ℕ) → s ≤ k → k < s + l.size → bytes k ≡ true
    pub inside : (k : ℕ) → bytes k ≡ true → k < m.payload a
    pub free : (k : ℕ) → bytes k ≡ true → m.taken a k ≡ false
    pub takes : (k : ℕ) → bytes k ≡ true → m.taken b k ≡ true
    pub keeps : (k : ℕ) → m.taken a k ≡ true → m.taken b k ≡ true
    pub fixed : Fixed a b

  -- A return was accepted: no byte outside the block came free.
  pub record Frees (a : A) (s n : ℕ) (b : A) : Type 0 where
    pub outside : (bytes : Bytes) → m.block a s n ≡ Some bytes → (k : ℕ) → bytes k ≡ false → m.taken a k ≡ true → m.taken b k ≡ true
    pub fixed : Fixed a b

  -- An allocator was set up: it has the payload, and nothing is taken.
  pub record Fresh (c : C) (p : ℕ) (a : A) : Type 0 where
    pub payload : m.payload a ≡ p
    pub none : (k : ℕ) → m.taken a k ≡ false

  -- The layout is answered by a start, or refused for its alignment.
  abbrev pub Helps : ValidLayout → A → Type 0
  Helps l b = ((s : ℕ) × (m.answer b l ≡ start s)) ⊎ (m.answer b l ≡ refused 22)

  -- The rules that every allocator keeps. The last is the law of the hint: a fresh allocator that can be set
  -- up from an allocator's own hint for a layout, under a strategy that grows, helps with that layout.
  pub record Lawful : Type 0 where
    pub refusals : (a : A) (l : ValidLayout) (e : ℕ) → m.answer a l ≡ refused e → (20 ≤ e) × (e ≤ 22)
    pub initial : (l : ValidLayout) (count : ℕ) → (m.initial l count).payload_size ≡ rounded_up l.size l.align * count
    pub gives : (a : A) (l : ValidLayout) (s : ℕ) (b : A) → m.answer a l ≡ start s → m.gave a l b → Gives a l s b
    pub frees : (a : A) (s n : ℕ) (b : A) → Taken a s n → m.took_back a s n b → Frees a s n b
    pub fresh : (c : C) (p : ℕ) (a : A) → m.possible c p ≡ true → m.fresh c p a → Fresh c p a
    pub hint : (a : A) (l : ValidLayout) (way : AllocationStrategy) (b : A) → (way ≢ Static)
        → m.possible (m.hint a l way).config (m.hint a l way).payload_size ≡ true
        → m.fresh (m.hint a l way).config (m.hint a l way).payload_size b → Helps l b
