-- The meaning of the bump allocator: a mark that only rises, and all below it is taken.
use Rattle.std.specs.Prelude.{◌≡◌, ℕ, ◌+◌, ◌-◌, ◌*◌, true, cond, ◌&&◌, Some, nat_le, nat_lt}
use Rattle.shm_allocator.specs.declared.layout.ValidLayout.{ValidLayout}
use Rattle.shm_allocator.specs.declared.AllocationStrategy.{AllocationStrategy}
use Rattle.shm_allocator.specs.declared.SharedMemorySetupHint.{SharedMemorySetupHint}
use Rattle.shm_allocator.specs.declared.bump_allocator.BumpAllocator.{BumpAllocator}
use Rattle.shm_allocator.specs.declared.bump_allocator.Config.{Config}
use Rattle.shm_allocator.specs.Numbers.{rounded_up}
use Rattle.shm_allocator.specs.Sizes.{grows, raise, rounded_size}
use Rattle.shm_allocator.specs.Meaning.{Meaning, Answer, span}
use Rattle.shm_allocator.specs.Meaning.Answer.{start, refused}

-- Where the next chunk would start: the mark, rounded up to the alignment.
abbrev pub bump_start : BumpAllocator → ValidLayout → ℕ
bump_start a l = rounded_up a.mark l.align

-- An alignment above 8 is refused by 22, an end past the payload by 20.
abbrev pub bump_answer : BumpAllocator → ValidLayout → Answer
bump_answer a l = cond (nat_lt 8 l.align) (refused 22) (cond (nat_lt a.payload (bump_start a l + l.size)) (refused 20) (start (bump_start a l)))

-- A start was given: the mark is the chunk's end.
pub record BumpGave (a : BumpAllocator) (l : ValidLayout) (b : BumpAllocator) : Type 0 where
  pub payload : b.payload ≡ a.payload
  pub mark : b.mark ≡ bump_start a l + l.size

-- Set up for a payload of p bytes.
pub record BumpFresh (c : Config) (p : ℕ) (a : BumpAllocator) : Type 0 where
  pub payload : a.payload ≡ p
  pub mark : a.mark ≡ 0

-- The payload of the hint: larger by the asked size, and raised, where the strategy grows and no more than that is left.
abbrev pub hint_payload : BumpAllocator → ValidLayout → AllocationStrategy → ℕ
hint_payload a l way = cond (grows way && nat_le (a.payload - a.mark) l.size) (raise way (a.payload + l.size)) a.payload

-- A hint: a payload and nothing else.
abbrev pub bump_hint : ℕ → SharedMemorySetupHint Config
bump_hint p = record { payload_size = p; config = record {} }

abbrev pub bump : Meaning BumpAllocator Config
bump = record {
  id = 1;
  payload = λ a. a.payload;
  bucket = λ a. 0;
  taken = λ a k. nat_lt k a.mark;
  block = λ a s n. Some (span s (s + n));
  answer = bump_answer;
  gave = BumpGave;
  took_back = λ a s n b. b ≡ a;
  hint = λ a l way. bump_hint (hint_payload a l way);
  initial = λ l n. bump_hint (rounded_size l * n);
  possible = λ c p. true;
  fresh = BumpFresh;
}
