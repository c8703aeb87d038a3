-- The pool allocator keeps the rules.
use Rattle.std.specs.Prelude.{◌≡◌, ℕ, zero, suc, ◌+◌, ◌*◌, ◌/◌, ◌%◌, ◌<◌, ◌≤◌, max, Bool, true, false, cond, ◌&&◌, ◌||◌, ◌≢◌, List, [], ◌∷◌, get_or, Some, None, ◌==◌, nat_le, nat_lt, slice_index_or, slice_set, refl}
use Rattle.std.proofs.Common.{sym, ap, ap₂, subst, ◌∙◌, inl, ⊎_elim, arith, mul-div_cancel, add-mul, mul-le-mul_right, div-add-mod', div-mul-le_self}
use Rattle.std.proofs.Math.Nat.{mul-mod_left, div-eq_of_lt-le, dvd_trans, dvd_of_mod-eq-zero, mod-eq-zero_of_dvd, dvd-mul_left_of_dvd, mul-div_cancel_left, lt-div-mul-add}
use Rattle.std.specs.List.{range_with_len}
use Rattle.std.proofs.lemmas.List.{get_or-set_same, get_or-set_other}
use Rattle.std.proofs.lemmas.Bool.{ltb-true, ltb-false, leb-true, lt-ltb, le-ltb, le-leb, eq-eqb, eqb-true, and_parts, and_from, or_parts, cases_eq, both_ways}
use Rattle.shm_allocator.specs.declared.layout.ValidLayout.{ValidLayout}
use Rattle.shm_allocator.specs.declared.AllocationStrategy.{AllocationStrategy}
use Rattle.shm_allocator.specs.declared.AllocationStrategy.TheVariants.{Static}
use Rattle.shm_allocator.specs.declared.pool_allocator.PoolAllocator.{PoolAllocator}
use Rattle.shm_allocator.specs.declared.pool_allocator.Config.{Config}
use Rattle.shm_allocator.specs.Numbers.{rounded_up}
use Rattle.shm_allocator.specs.Sizes.{raise, grown_size, grown_align}
use Rattle.shm_allocator.specs.Buckets.{listed, flag, empty}
use Rattle.shm_allocator.specs.Meaning.{Bytes, Gives, Frees, Fresh, Fixed, Taken, Helps, Lawful, span}
use Rattle.shm_allocator.specs.Meaning.Answer.{start, refused}
use Rattle.shm_allocator.specs.Pool.{pool, pool_answer, front_answer, starts, PoolGave, PoolTook, PoolFresh, pool_hint, hint_size, hint_align, hint_count}
use Rattle.shm_allocator.specs.Rounding.{round_multiple, round_low, round_exact}
use Rattle.shm_allocator.specs.Powers.{power_pos, power_divides}
use Rattle.shm_allocator.specs.Growing.{raise_low}
use Rattle.shm_allocator.specs.Answering.{span_in, span_out, passed_both, refusal_numbers, start_not_refused, start_is, grows_unless_static}
use Rattle.shm_allocator.specs.FreeLists.{front_is, some_free}

size_pos : (l : ValidLayout) → 0 < l.size
size_pos l = l.sized.0

-- the bytes of bucket i are those whose quotient is i
quotient : (b i k : ℕ) → i * b ≤ k → k < i * b + b → k / b ≡ i
quotient b i k low high = let e : (i + 1) * b ≡ i * b + 1 * b = add-mul i 1 b in div-eq_of_lt-le b low (omega arith)

bucket_bytes : (b k : ℕ) → 0 < b → (k / b * b ≤ k) × (k < k / b * b + b)
bucket_bytes b k h = (div-mul-le_self k b, lt-div-mul-add h)

starts_from : (a : PoolAllocator) (s n : ℕ) → s % a.layout.size ≡ 0 → s / a.layout.size < a.buckets.count → 1 ≤ n → n ≤ a.layout.size → starts a s n ≡ true
starts_from a s n e c low high =
    and_from _ _ (and_from _ _ (eq-eqb (s % a.layout.size) 0 e) (lt-ltb (s / a.layout.size) a.buckets.count c)) (and_from _ _ (le-leb 1 n low) (le-leb n a.layout.size high))

pub record Starts (a : PoolAllocator) (s n : ℕ) : Type 0 where
  pub even : s % a.layout.size ≡ 0
  pub inside : s / a.layout.size < a.buckets.count
  pub some : 1 ≤ n
  pub few : n ≤ a.layout.size

starts_to : (a : PoolAllocator) (s n : ℕ) → starts a s n ≡ true → Starts a s n
starts_to a s n h =
    let p = and_parts (s % a.layout.size == 0 && nat_lt (s / a.layout.size) a.buckets.count) (nat_le 1 n && nat_le n a.layout.size) h in
    let q = and_parts (s % a.layout.size == 0) (nat_lt (s / a.layout.size) a.buckets.count) p.0 in
    let r = and_parts (nat_le 1 n) (nat_le n a.layout.size) p.1 in
    record { even = eqb-true (s % a.layout.size) 0 q.0; inside = ltb-true (s / a.layout.size) a.buckets.count q.1; some = leb-true 1 n r.0; few = leb-true n a.layout.size r.1 }

-- what no call changes
pool_fixed : (a b : PoolAllocator) → b.payload ≡ a.payload → b.layout ≡ a.layout → b.buckets.count ≡ a.buckets.count → Fixed pool a b
pool_fixed a b p l c = record {
  payload = p;
  bucket = ap (λ (x : ValidLayout). x.size) l;
  block = λ s n. ap₂ (λ (x : ValidLayout) (k : ℕ). cond ((s % x.size == 0 && nat_lt (s / x.size) k) && (nat_le 1 n && nat_le n x.size)) (Some (span s (s + x.size))) None) l c;
}

module _ (a : PoolAllocator) (l : ValidLayout) (s : ℕ) (b : PoolAllocator) (e : pool_answer a l ≡ start s) (g : PoolGave a l b) where
  abbrev size : ℕ
  size = a.layout.size

  abbrev i : ℕ
  i = g.bucket

  passed : (nat_lt a.layout.align l.align ≡ false) × (nat_lt a.layout.size l.size ≡ false) × (front_answer a.layout.size (listed a.buckets) ≡ start s)
  passed = passed_both (nat_lt a.layout.align l.align) (nat_lt a.layout.size l.size) 22 21 (front_answer a.layout.size (listed a.buckets)) s e

  is : i * size ≡ s
  is = start_is (i * size) s (sym (ap (front_answer size) g.popped.list) ∙ passed.2)

  front : (i < a.buckets.count) × (flag a.buckets i ≡ false)
  front = front_is a.buckets i (listed b.buckets) g.popped.list

  at : s / size ≡ i
  at = ap (λ (x : ℕ). x / size) (sym is) ∙ mul-div_cancel i (size_pos a.layout)

  fits : l.size ≤ size
  fits = ltb-false size l.size passed.1

  within : (k : ℕ) → span s (s + size) k ≡ true → k / size ≡ i
  within k h = let o = span_out s (s + size) k h in let q = is in quotient size i k (omega arith) (omega arith)

  flag_is : (k : ℕ) → flag b.buckets (k / b.layout.size) ≡ slice_index_or (slice_set a.buckets.taken i true) (k / size) false
  flag_is k = ap₂ (λ (t : List Bool) (x : ValidLayout). get_or t (k / x.size) false) g.popped.flags g.layout

  same : get_or (slice_set a.buckets.taken i true) i false ≡ true
  same = let f = front in get_or-set_same a.buckets.taken i true false (omega arith)

  keep : (j : ℕ) → flag a.buckets j ≡ true → slice_index_or (slice_set a.buckets.taken i true) j false ≡ true
  keep j h = ⊎_elim (λ q. ap (λ (x : ℕ). get_or (slice_set a.buckets.taken i true) x false) q ∙ same) (λ n. get_or-set_other a.buckets.taken i j true false n ∙ h) (cases_eq j i)

  even : s % l.align ≡ 0
  even =
      let low = ltb-false a.layout.align l.align passed.0 in
      let d = power_divides l.align a.layout.align l.aligned.0 a.layout.aligned.0 low in
      let d' = dvd_trans l.align d (dvd_of_mod-eq-zero a.layout.align a.even) in
      subst (λ (x : ℕ). x % l.align ≡ 0) is (mod-eq-zero_of_dvd l.align (dvd-mul_left_of_dvd l.align d' i))

  pool_gives : Gives pool a l s b
  pool_gives = record {
    aligned = even;
    bytes = span s (s + size);
    there = ap (λ (x : Bool). cond x (Some (span s (s + size))) None) (starts_from a s l.size (subst (λ (x : ℕ). x % size ≡ 0) is (mul-mod_left i size)) (subst (λ (x : ℕ). x < a.buckets.count) (sym at) front.0) (size_pos l) fits);
    covers = λ k h j. let f = fits in span_in s (s + size) k h (omega arith);
    inside = λ k h.
        let o = span_out s (s + size) k h in
        let f = front in
        let q = is in
        let n : i + 1 ≤ a.buckets.count = omega arith in
        let m = mul-le-mul_right size n in
        let d : (i + 1) * size ≡ i * size + 1 * size = add-mul i 1 size in
        omega arith;
    free = λ k h. ap (flag a.buckets) (within k h) ∙ front.1;
    takes = λ k h. flag_is k ∙ ap (λ (x : ℕ). get_or (slice_set a.buckets.taken i true) x false) (within k h) ∙ same;
    keeps = λ k h. flag_is k ∙ keep (k / size) h;
    fixed = pool_fixed a b g.payload g.layout g.popped.count;
  }

-- a block that is there
some_block : (x : Bool) (v w : Bytes) → cond x (Some v) None ≡ Some w → (x ≡ true) × (v ≡ w)
some_block true v w h = (refl, cc)
some_block false v w h = absurd (let z : ◌≡◌ {A = ℕ} 0 1 = cc in omega arith)

module _ (a : PoolAllocator) (s n : ℕ) (b : PoolAllocator) (t : Taken pool a s n) (g : PoolTook a s n b) where
  abbrev room : ℕ
  room = a.layout.size

  abbrev back : ℕ
  back = s / a.layout.size

  there : Starts a s n
  there = starts_to a s n (some_block (starts a s n) (span s (s + room)) t.bytes t.there).0

  now_is : (k : ℕ) → flag b.buckets (k / b.layout.size) ≡ slice_index_or (slice_set a.buckets.taken back false) (k / room) false
  now_is k = ap₂ (λ (v : List Bool) (x : ValidLayout). get_or v (k / x.size) false) g.pushed.flags g.layout

  elsewhere : (k : ℕ) → span s (s + room) k ≡ false → k / room ≢ back
  elsewhere k f q =
      let u = bucket_bytes room k (size_pos a.layout) in
      let d = div-add-mod' s room in
      let h = there in
      let m : k / room * room ≡ back * room = ap (λ (x : ℕ). x * room) q in
      both_ways (span s (s + room) k) f (span_in s (s + room) k (omega arith) (omega arith))

  pool_frees : Frees pool a s n b
  pool_frees = record {
    outside = λ bytes h k f t.
        let v = some_block (starts a s n) (span s (s + room)) bytes h in
        now_is k ∙ get_or-set_other a.buckets.taken back (k / room) false false (elsewhere k (ap (λ (x : Bytes). x k) v.1 ∙ f)) ∙ t;
    fixed = pool_fixed a b g.payload g.layout g.pushed.count;
  }

pool_fresh : (c : Config) (p : ℕ) (a : PoolAllocator) → PoolFresh c p a → Fresh pool c p a
pool_fresh c p a f = record { payload = f.payload; none = λ k. f.new.none (k / a.layout.size) }

-- a bucket that is taken is a taken block
pub pool_taken : (a : PoolAllocator) (s n : ℕ) → Starts a s n → flag a.buckets (s / a.layout.size) ≡ true → Taken pool a s n
pool_taken a s n h f = record {
  bytes = span s (s + a.layout.size);
  there = ap (λ (x : Bool). cond x (Some (span s (s + a.layout.size))) None) (starts_from a s n h.even h.inside h.some h.few);
  all = λ k e.
      let o = span_out s (s + a.layout.size) k e in
      let d = div-add-mod' s a.layout.size in
      ap (flag a.buckets) (quotient a.layout.size (s / a.layout.size) k (omega (arith, h.even)) (omega (arith, h.even))) ∙ f;
}

-- buckets of this size and alignment serve a layout
pub record Serves (size align : ℕ) (l : ValidLayout) : Type 0 where
  pub some : 0 < align
  pub wide : l.align ≤ align
  pub large : l.size ≤ size
  pub even : size % align ≡ 0

grown_serves : (b l : ValidLayout) (way : AllocationStrategy) → Serves (grown_size b l way) (grown_align b l) l
grown_serves b l way =
    let p = power_pos l.align l.aligned.0 in
    let r = raise_low way (max b.size l.size) in
    let u = round_low (raise way (max b.size l.size)) (grown_align b l) (omega arith) in
    record { some = omega arith; wide = omega arith; large = omega arith; even = round_multiple (raise way (max b.size l.size)) (grown_align b l) }

-- the hint's buckets serve the layout asked, whichever way its test went
hint_serves : (a : PoolAllocator) (l : ValidLayout) (way : AllocationStrategy) → (way ≢ Static) → Serves (hint_size a l way) (hint_align a l way) l
hint_serves a l way h = subst (λ (g : Bool). at (g && small)) (sym (grows_unless_static way h)) (go small refl)
  where
    small : Bool
    small = nat_lt a.layout.size l.size || nat_lt a.layout.align l.align

    at : Bool → Type 0
    at t = Serves (cond t (grown_size a.layout l way) a.layout.size) (cond t (grown_align a.layout l) a.layout.align) l

    go : (t : Bool) → small ≡ t → at t
    go true e = grown_serves a.layout l way
    go false e =
        let o = or_parts (nat_lt a.layout.size l.size) (nat_lt a.layout.align l.align) e in
        record { some = power_pos a.layout.align a.layout.aligned.0; wide = ltb-false a.layout.align l.align o.1; large = ltb-false a.layout.size l.size o.0; even = a.even }

-- the hint has a bucket
hint_some : (a : PoolAllocator) (way : AllocationStrategy) → (way ≢ Static) → 1 ≤ hint_count a way
hint_some a way h = subst (λ (g : Bool). 1 ≤ cond (g && empty (listed a.buckets)) (raise way (a.buckets.count + 1)) a.buckets.count) (sym (grows_unless_static way h)) (go (empty (listed a.buckets)) refl)
  where
    go : (t : Bool) → empty (listed a.buckets) ≡ t → 1 ≤ cond t (raise way (a.buckets.count + 1)) a.buckets.count
    go true e = let r = raise_low way (a.buckets.count + 1) in omega arith
    go false e = some_free a.buckets e

-- a pool whose buckets are large enough answers from its free ones
pub served : (b : PoolAllocator) (l : ValidLayout) (free : List ℕ) → l.align ≤ b.layout.align → l.size ≤ b.layout.size → listed b.buckets ≡ free → pool_answer b l ≡ front_answer b.layout.size free
served b l free p q e =
    ap (λ (x : Bool). cond x (refused 22) (cond (nat_lt b.layout.size l.size) (refused 21) (front_answer b.layout.size (listed b.buckets)))) (le-ltb b.layout.align l.align p)
    ∙ ap (λ (x : Bool). cond x (refused 21) (front_answer b.layout.size (listed b.buckets))) (le-ltb b.layout.size l.size q)
    ∙ ap (front_answer b.layout.size) e

pool_helps : (l : ValidLayout) (size align n : ℕ) (b : PoolAllocator) → Serves size align l → 1 ≤ n → PoolFresh (pool_hint (size * n) size align).config (size * n) b → Helps pool l b
pool_helps l size align zero b v some f = absurd (omega arith)
pool_helps l size align (suc n) b v some f =
    let exact : rounded_up size align ≡ size = round_exact size align v.some v.even in
    let pos : 0 < size = let z = size_pos l in omega (arith, v.large) in
    let many : size * suc n / rounded_up size align ≡ suc n = ap (λ (x : ℕ). size * suc n / x) exact ∙ mul-div_cancel_left (suc n) pos in
    let list : listed b.buckets ≡ 0 ∷ range_with_len (0 + 1) n = f.new.list ∙ ap (range_with_len 0) many in
    inl (0 * b.layout.size, served b l (0 ∷ range_with_len (0 + 1) n) (omega (arith, v.wide, f.align)) (omega (arith, v.large, f.size ∙ exact)) list)

front_refuses : (size : ℕ) (is : List ℕ) (e : ℕ) → front_answer size is ≡ refused e → (20 ≤ e) × (e ≤ 22)
front_refuses size [] e h = let q : 20 ≡ e = cc in (omega arith, omega arith)
front_refuses size (i ∷ is) e h = absurd (start_not_refused (i * size) e h)

pub pool_lawful : Lawful pool
pool_lawful = record {
  refusals = λ a l e h. refusal_numbers (nat_lt a.layout.align l.align) (nat_lt a.layout.size l.size) 22 21 (front_answer a.layout.size (listed a.buckets)) e (omega arith, omega arith) (omega arith, omega arith) (front_refuses a.layout.size (listed a.buckets) e) h;
  initial = λ l n. refl;
  gives = pool_gives;
  frees = pool_frees;
  fresh = λ c p a _ f. pool_fresh c p a f;
  hint = λ a l way b n _ f. pool_helps l (hint_size a l way) (hint_align a l way) (hint_count a way) b (hint_serves a l way n) (hint_some a way n) f;
}
