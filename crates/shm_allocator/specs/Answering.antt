-- What both allocators' proofs use: spans of bytes, answers after two tests, and strategies that grow.
use Rattle.std.specs.Prelude.{◌≡◌, ℕ, ◌<◌, ◌≤◌, Bool, true, false, cond, ◌≢◌, nat_le, nat_lt, refl}
use Rattle.std.proofs.Common.{arith}
use Rattle.std.proofs.lemmas.Bool.{ltb-true, leb-true, lt-ltb, le-leb, and_parts, and_from}
use Rattle.shm_allocator.specs.declared.AllocationStrategy.{AllocationStrategy}
use Rattle.shm_allocator.specs.declared.AllocationStrategy.TheVariants.{BestFit, PowerOfTwo, Static}
use Rattle.shm_allocator.specs.Sizes.{grows}
use Rattle.shm_allocator.specs.Meaning.{Answer, span}
use Rattle.shm_allocator.specs.Meaning.Answer.{start, refused}

pub span_in : (s e k : ℕ) → s ≤ k → k < e → span s e k ≡ true
span_in s e k l h = and_from (nat_le s k) (nat_lt k e) (le-leb s k l) (lt-ltb k e h)

pub span_out : (s e k : ℕ) → span s e k ≡ true → (s ≤ k) × (k < e)
span_out s e k h = let p = and_parts (nat_le s k) (nat_lt k e) h in (leb-true s k p.0, ltb-true k e p.1)

-- an answer that is a start passed both tests
pub passed_both : (x y : Bool) (e f : ℕ) (r : Answer) (s : ℕ) → cond x (refused e) (cond y (refused f) r) ≡ start s → (x ≡ false) × (y ≡ false) × (r ≡ start s)
passed_both true y e f r s h = absurd (let z : ◌≡◌ {A = ℕ} 0 1 = cc in omega arith)
passed_both false true e f r s h = absurd (let z : ◌≡◌ {A = ℕ} 0 1 = cc in omega arith)
passed_both false false e f r s h = (refl, refl, h)

-- an answer to which no refusal but these leads has a number of theirs
pub refusal_numbers : (x y : Bool) (e f : ℕ) (r : Answer) (n : ℕ) → (20 ≤ e) × (e ≤ 22) → (20 ≤ f) × (f ≤ 22) → (r ≡ refused n → (20 ≤ n) × (n ≤ 22)) → cond x (refused e) (cond y (refused f) r) ≡ refused n → (20 ≤ n) × (n ≤ 22)
refusal_numbers true y e f r n p q g h = let u : e ≡ n = cc in (omega arith, omega arith)
refusal_numbers false true e f r n p q g h = let u : f ≡ n = cc in (omega arith, omega arith)
refusal_numbers false false e f r n p q g h = g h

pub start_not_refused : (s n : ℕ) → start s ≢ refused n
start_not_refused s n h = let z : ◌≡◌ {A = ℕ} 0 1 = cc in omega arith

pub start_is : (s t : ℕ) → start s ≡ start t → s ≡ t
start_is s t h = cc

pub grows_unless_static : (way : AllocationStrategy) → (way ≢ Static) → grows way ≡ true
grows_unless_static BestFit h = refl
grows_unless_static PowerOfTwo h = refl
grows_unless_static Static h = absurd (h refl)
