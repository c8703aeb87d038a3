-- The bump allocator keeps the rules.
use Rattle.std.specs.Prelude.{◌≡◌, ℕ, ◌+◌, ◌-◌, ◌%◌, ◌<◌, ◌≤◌, Bool, true, false, cond, ◌&&◌, ltb, ◌⊎◌, ◌≢◌, nat_le, nat_lt, refl}
use Rattle.std.proofs.Common.{sym, ap, subst, ◌∙◌, inl, inr, arith}
use Rattle.std.proofs.lemmas.Bool.{ltb-true, ltb-false, leb-false, lt-ltb, le-ltb}
use Rattle.shm_allocator.specs.declared.layout.ValidLayout.{ValidLayout}
use Rattle.shm_allocator.specs.declared.AllocationStrategy.{AllocationStrategy}
use Rattle.shm_allocator.specs.declared.AllocationStrategy.TheVariants.{Static}
use Rattle.shm_allocator.specs.declared.bump_allocator.BumpAllocator.{BumpAllocator}
use Rattle.shm_allocator.specs.declared.bump_allocator.Config.{Config}
use Rattle.shm_allocator.specs.Numbers.{rounded_up}
use Rattle.shm_allocator.specs.Sizes.{raise}
use Rattle.shm_allocator.specs.Meaning.{Answer, Bytes, Gives, Frees, Fresh, Taken, Helps, Lawful, span}
use Rattle.shm_allocator.specs.Meaning.Answer.{start, refused}
use Rattle.shm_allocator.specs.Bump.{bump, bump_start, bump_answer, hint_payload, BumpGave, BumpFresh}
use Rattle.shm_allocator.specs.Rounding.{round_multiple, round_low, round_zero}
use Rattle.shm_allocator.specs.Powers.{power_pos}
use Rattle.shm_allocator.specs.Growing.{raise_low}
use Rattle.shm_allocator.specs.Answering.{span_in, span_out, passed_both, refusal_numbers, start_not_refused, start_is, grows_unless_static}

align_pos : (l : ValidLayout) → 0 < l.align
align_pos l = power_pos l.align l.aligned.0

bump_gives : (a : BumpAllocator) (l : ValidLayout) (s : ℕ) (b : BumpAllocator) → bump_answer a l ≡ start s → BumpGave a l b → Gives bump a l s b
bump_gives a l s b e g =
    let w = passed_both (nat_lt 8 l.align) (nat_lt a.payload (bump_start a l + l.size)) 22 20 (start (bump_start a l)) s e in
    let is : bump_start a l ≡ s = start_is (bump_start a l) s w.2 in
    let room = ltb-false a.payload (bump_start a l + l.size) w.1 in
    let low = round_low a.mark l.align (align_pos l) in
    record {
      aligned = ap (λ (x : ℕ). x % l.align) (sym is) ∙ round_multiple a.mark l.align;
      bytes = span s (s + l.size);
      there = refl;
      covers = λ k h i. span_in s (s + l.size) k h i;
      inside = λ k h. let o = span_out s (s + l.size) k h in omega arith;
      free = λ k h. let o = span_out s (s + l.size) k h in le-ltb k a.mark (omega arith);
      takes = λ k h. let o = span_out s (s + l.size) k h in lt-ltb k b.mark (omega (arith, g.mark));
      keeps = λ k h. let o = ltb-true k a.mark h in lt-ltb k b.mark (omega (arith, g.mark));
      fixed = record { payload = g.payload; bucket = refl; block = λ t n. refl };
    }

bump_frees : (a : BumpAllocator) (s n : ℕ) (b : BumpAllocator) → b ≡ a → Frees bump a s n b
bump_frees a s n b e = record {
  outside = λ bytes h k f t. ap (λ (x : BumpAllocator). ltb k x.mark) e ∙ t;
  fixed = record { payload = ap (λ (x : BumpAllocator). x.payload) e; bucket = refl; block = λ t n. refl };
}

bump_fresh : (c : Config) (p : ℕ) (a : BumpAllocator) → BumpFresh c p a → Fresh bump c p a
bump_fresh c p a f = record { payload = f.payload; none = λ k. le-ltb k a.mark (omega (arith, f.mark)) }

-- a fresh allocator with room for the layout answers it
bump_helps : (l : ValidLayout) (b : BumpAllocator) → b.mark ≡ 0 → l.size ≤ b.payload → Helps bump l b
bump_helps l b m h = go (nat_lt 8 l.align) refl
  where
    zero_start : bump_start b l ≡ 0
    zero_start = ap (λ (x : ℕ). rounded_up x l.align) m ∙ round_zero l.align (align_pos l)

    after : Bool → Answer
    after x = cond x (refused 20) (start (bump_start b l))

    go : (t : Bool) → nat_lt 8 l.align ≡ t → Helps bump l b
    go true e = inr (ap (λ (x : Bool). cond x (refused 22) (after (nat_lt b.payload (bump_start b l + l.size)))) e)
    go false e = inl (
      bump_start b l,
      ap (λ (x : Bool). cond x (refused 22) (after (nat_lt b.payload (bump_start b l + l.size)))) e
          ∙ ap after (le-ltb b.payload (bump_start b l + l.size) (omega (arith, zero_start))),
    )

-- the hint has room for the layout, whichever way its test went
hint_room : (a : BumpAllocator) (l : ValidLayout) (way : AllocationStrategy) → (way ≢ Static) → l.size ≤ hint_payload a l way
hint_room a l way h = subst (λ (g : Bool). l.size ≤ cond (g && nat_le (a.payload - a.mark) l.size) (raise way (a.payload + l.size)) a.payload) (sym (grows_unless_static way h)) (go (nat_le (a.payload - a.mark) l.size) refl)
  where
    go : (t : Bool) → nat_le (a.payload - a.mark) l.size ≡ t → l.size ≤ cond t (raise way (a.payload + l.size)) a.payload
    go true e = let r = raise_low way (a.payload + l.size) in omega arith
    go false e = let r = leb-false (a.payload - a.mark) l.size e in omega arith

pub bump_lawful : Lawful bump
bump_lawful = record {
  refusals = λ a l e h. refusal_numbers (nat_lt 8 l.align) (nat_lt a.payload (bump_start a l + l.size)) 22 20 (start (bump_start a l)) e (omega arith, omega arith) (omega arith, omega arith) (λ r. absurd (start_not_refused (bump_start a l) e r)) h;
  initial = λ l n. refl;
  gives = bump_gives;
  frees = λ a s n b _ e. bump_frees a s n b e;
  fresh = λ c p a _ f. bump_fresh c p a f;
  hint = λ a l way b n _ f. bump_helps l b f.mark (let r = hint_room a l way n in omega (arith, f.payload));
}

-- a return is of taken bytes exactly where there are none, or they end at the mark or before it
pub bump_taken : (a : BumpAllocator) (s n : ℕ) → (n ≡ 0) ⊎ (s + n ≤ a.mark) → Taken bump a s n
bump_taken a s n h = record {
  bytes = span s (s + n);
  there = refl;
  all = λ k e. let o = span_out s (s + n) k e in lt-ltb k a.mark (omega arith);
}

pub bump_untaken : (a : BumpAllocator) (s n : ℕ) → 0 < n → a.mark < s + n → Taken bump a s n → ⊥
bump_untaken a s n some over t =
    let k : ℕ = s + n - 1 in
    let same : span s (s + n) ≡ t.bytes = cc t.there in
    let last : t.bytes k ≡ true = sym (ap (λ (f : Bytes). f k) same) ∙ span_in s (s + n) k (omega arith) (omega arith) in
    let low = ltb-true k a.mark (t.all k last) in
    omega arith
