-- The worked instances hold: each call of the story is followed from the pool's free buckets to the chunk's value.
use Rattle.std.proofs.Common.{◌≡◌, ℕ, ◌+◌, ◌*◌, ◌/◌, ◌≤◌, max, false, cond, ◌&&◌, ◌||◌, ltb, List, [], ◌∷◌, ◌++◌, length, Some, None, Ok, Err, Result, sym, refl, ap, ◌∙◌, subst, ap₂, inl, inr, arith, lit≤}
use lib.ListN.{length-replicate}
use Rattle.std.specs.List.{range_with_len}
use Rattle.pointer_offset.specs.Packing.{packed, id_of, offset_of}
use Rattle.shared_memory.specs.Meaning.{Store}
use Rattle.shm_allocator.specs.Instances.{Asks, Holds, hinted}
use Rattle.shm_allocator.specs.Meaning.{Answer, Taken, refusal_number}
use Rattle.shm_allocator.specs.Meaning.Answer.{start, refused}
use Rattle.shm_allocator.specs.Numbers.{rounded_up}
use Rattle.shm_allocator.specs.Pool.{pool}
use Rattle.shm_allocator.specs.Sizes.{grows, raise}
use Rattle.shm_allocator.specs.declared.AllocationStrategy.{AllocationStrategy}
use Rattle.shm_allocator.specs.declared.AllocationStrategy.TheVariants.{BestFit, PowerOfTwo, Static}
use Rattle.shm_allocator.specs.declared.NotHeld.{NotHeld}
use Rattle.shm_allocator.specs.declared.layout.ValidLayout.{ValidLayout}
use Rattle.shm_allocator.specs.declared.pool_allocator.PoolAllocator.{PoolAllocator}
use Rattle.shm_allocator.specs.Pools.{pool_lawful}
use Rattle.shm_allocator.proofs.Stories as pools
use Rattle.resizable_shared_memory.specs.Creation.{Creates}
use Rattle.resizable_shared_memory.specs.Entries.{Entry, find, without, tally}
use Rattle.resizable_shared_memory.specs.Faults.{allocation_number}
use Rattle.resizable_shared_memory.specs.Memory.{Allocates, Deallocates, Grows, Granted, Grown, Rounds, GrowthRefused}
use Rattle.resizable_shared_memory.specs.Memory.Allocates.{bad_layout, ledger_full, grants_spent, in_rounds}
use Rattle.resizable_shared_memory.specs.Memory.GrowthRefused.{no_id, no_segment}
use Rattle.resizable_shared_memory.specs.Memory.Rounds.{answered, static, stuck, again}
use Rattle.resizable_shared_memory.specs.Places.{count_of}
use Rattle.resizable_shared_memory.specs.Parts.{current, place, chunks, given}
use Rattle.resizable_shared_memory.specs.declared.fault.ResizableShmAllocationError.{ResizableShmAllocationError}
use Rattle.resizable_shared_memory.specs.declared.fault.ResizableShmAllocationError.TheVariants as fault
use Rattle.resizable_shared_memory.specs.declared.memory.Chunk.{Chunk}
use Rattle.resizable_shared_memory.specs.declared.table.Place.{Place}
use Rattle.instances.specs.Instances.{PoolMemory, asked, BothTaken, OneBack, Payload, NotHeldAnswer, DeniedBy, Instances}

-- A request as the rounds ask it.
abbrev Asked : PoolMemory → Store → Result Chunk ResizableShmAllocationError → PoolMemory → Store → Type 0
Asked m s r n t = (v : ValidLayout) × Asks v 24 8 × Rounds pool v m s r n t

-- An accepted request went in rounds.
in_rounds_of : {m n : PoolMemory} {s t : Store} {c : Chunk} → Allocates pool asked m s (Ok c) n t → Asked m s (Ok c) n t
in_rounds_of (in_rounds v size align few grants rounds) = (v, record { size = size; align = align }, rounds)

clash : (x : Answer) (o e : ℕ) → x ≡ start o → x ≡ refused e → ⊥
clash x o e p q = let z : ◌≡◌ {A = ℕ} 0 1 = cc in omega arith

-- Rounds whose first question is answered by a start end there.
ends_at : {v : ValidLayout} {m n : PoolMemory} {s t : Store} {r : Result Chunk ResizableShmAllocationError} (o : ℕ) → pool.answer m.allocator v ≡ start o
    → Rounds pool v m s r n t → (c : Chunk) × (r ≡ Ok c) × Granted pool m v o c n × (t ≡ s)
ends_at {v} o q (answered {m = m} {n = n} {c = c} p e g) = let same : p ≡ o = cc in (c, refl, subst (λ (z : ℕ). Granted pool m v z c n) same g, refl)
ends_at o q (static e a w) = absurd (clash _ _ _ q a)
ends_at o q (stuck e a w g) = absurd (clash _ _ _ q a)
ends_at o q (again e a w g r) = absurd (clash _ _ _ q a)

-- Accepted rounds whose first question is refused grow first.
grows_first : {v : ValidLayout} {m n : PoolMemory} {s t : Store} {c : Chunk} (e : ℕ) → pool.answer m.allocator v ≡ refused e
    → Rounds pool v m s (Ok c) n t → (k : PoolMemory) × (u : Store) × Grown pool m s v k u × Rounds pool v k u (Ok c) n t
grows_first e q (answered p a g) = absurd (clash _ _ _ a q)
grows_first e q (again {n = k} {t = u} f a w g r) = (k, u, g, r)

-- A memory of the story: its only segment has two buckets of 24 bytes, of which these are free; it has given so many
-- grants, and holds these chunks.
record Stage (way : AllocationStrategy) (m : PoolMemory) (free : List ℕ) (g : ℕ) (cs : List Entry) : Type 0 where
  buckets : pools.At m.allocator 24 8 2 free
  strategy : m.tables.strategy ≡ way
  first : current m ≡ 0
  grants : given m ≡ g
  ledger : chunks m ≡ cs

chunk : ℕ → ℕ → Entry
chunk i g = record { value = i * 24 * 256; grant = g; size = 24 }

-- A freshly created memory has both buckets free.
created_stage : {n : List ℕ} {way : AllocationStrategy} {s t : Store} {m : PoolMemory} → Creates pool n asked 2 way s (Ok m) t → Stage way m (0 ∷ (1 ∷ [])) 0 []
created_stage {m = m} (v, o, q, both, created) =
    let size : rounded_up v.size v.align ≡ 24 = ap₂ rounded_up both.size both.align ∙ pools.rounded_24 in
    record {
      buckets = pools.fresh_at _ (rounded_up v.size v.align * 2) 24 8 24 2 m.allocator (record { size = both.size; align = both.align }) pools.rounded_24
          (ap (λ (z : ℕ). z * 2 / 24) size) created.fresh;
      strategy = created.tables.strategy;
      first = created.tables.first;
      grants = created.tables.none_given;
      ledger = created.tables.none_held;
    }

-- A chunk is taken from the first free bucket.
record Takes (way : AllocationStrategy) (m : PoolMemory) (c : Chunk) (n : PoolMemory) (i : ℕ) (free : List ℕ) (g : ℕ) (cs : List Entry) : Type 0 where
  layout : ValidLayout
  asks : Asks layout 24 8
  answer : pool.answer m.allocator layout ≡ start (i * 24)
  granted : Granted pool m layout (i * 24) c n
  value : c.claim.offset.0 ≡ i * 24 * 256
  grant : c.claim.grant ≡ g + 1
  stage : Stage way n free (g + 1) (cs ++ (chunk i (g + 1) ∷ []))

takes : {way : AllocationStrategy} {m n : PoolMemory} {s t : Store} {c : Chunk} (i : ℕ) (free : List ℕ) (g : ℕ) (cs : List Entry) → Stage way m (i ∷ free) g cs
    → Allocates pool asked m s (Ok c) n t → Takes way m c n i free g cs
unfolding chunk
takes {way} {m} {n} {s} {t} {c} i free g cs h x =
    let r = in_rounds_of x in
    let v = r.0 in
    let answer = pools.answers_at m.allocator v 24 8 2 (i ∷ free) h.buckets r.1 in
    let e = ends_at (i * 24) answer r.2 in
    let same : e.0 ≡ c = cc e.1 in
    let G : Granted pool m v (i * 24) c n = subst (λ (z : Chunk). Granted pool m v (i * 24) z n) same e.2 in
    let T = G.tables in
    let value : c.claim.offset.0 ≡ i * 24 * 256 = omega (arith, T.value, h.first) in
    let grant : c.claim.grant ≡ g + 1 = omega (arith, T.grant, h.grants) in
    let one : ◌≡◌ {A = Entry} (record { value = c.claim.offset.0; grant = c.claim.grant; size = v.size }) (record { value = i * 24 * 256; grant = g + 1; size = 24 }) =
    λ j. record { value = value j; grant = grant j; size = r.1.size j } in
    record {
      layout = v;
      asks = r.1;
      answer = answer;
      granted = G;
      value = value;
      grant = grant;
      stage = record {
        buckets = pools.gave_at m.allocator v n.allocator 24 8 2 i free h.buckets G.gave;
        strategy = T.kept.strategy ∙ h.strategy;
        first = T.stays ∙ h.first;
        grants = T.grants ∙ ap (λ (z : ℕ). z + 1) h.grants;
        ledger = T.ledger ∙ ap₂ (λ (xs : List Entry) (y : Entry). xs ++ (y ∷ [])) h.ledger one;
      };
    }

-- After both chunks were taken: the chunks, and that the first one's bucket is taken.
record Full (way : AllocationStrategy) (c d : Chunk) (m : PoolMemory) : Type 0 where
  values : (c.claim.offset.0 ≡ 0) × (c.claim.grant ≡ 1) × (d.claim.offset.0 ≡ 24 * 256) × (d.claim.grant ≡ 2)
  stage : Stage way m [] 2 (chunk 0 1 ∷ (chunk 1 2 ∷ []))
  taken : Taken pool m.allocator 0 24

full : {way : AllocationStrategy} {c d : Chunk} {m : PoolMemory} {s : Store} → BothTaken way c d m s → Full way c d m
full {m = m} b =
    let a = takes 0 (1 ∷ []) 0 [] (created_stage b.creates) b.first in
    let e = takes 1 [] 1 (chunk 0 1 ∷ []) a.stage b.second in
    let G = pool_lawful.gives b.none.allocator a.layout 0 b.one.allocator a.answer a.granted.gave in
    let H = pool_lawful.gives b.one.allocator e.layout 24 m.allocator e.answer e.granted.gave in
    record {
      values = (a.value, a.grant, e.value, e.grant);
      stage = e.stage;
      taken = record {
        bytes = G.bytes;
        there = H.fixed.block 0 24 ∙ (G.fixed.block 0 24 ∙ (ap (pool.block b.none.allocator 0) (sym a.asks.size) ∙ G.there));
        all = λ k x. H.keeps k (G.takes k x);
      };
    }

-- What an accepted return of the first chunk leaves.
back_of : {way : AllocationStrategy} {m n : PoolMemory} {s t : Store} → Stage way m [] 2 (chunk 0 1 ∷ (chunk 1 2 ∷ [])) → Taken pool m.allocator 0 24
    → Deallocates pool 0 1 m s (Ok tt) n t → Stage way n (0 ∷ []) 2 (chunk 1 2 ∷ [])
unfolding chunk
back_of {way} {m} {n} h taken (e, found, R) =
    let same : e ≡ chunk 0 1 = (let f = ap (find 0 1) h.ledger in cc) in
    let T = R.tables in
    let none-else : pool.took_back m.allocator (offset_of e.value) e.size n.allocator = elim R.hands_back [
      | inl x ↦ elim x.1 [
        | inl accepted ↦ accepted.1
        | inr denied ↦ absurd (denied.0 (subst (λ (z : Entry). Taken pool m.allocator (offset_of z.value) z.size) (sym same) taken))
      ]
      | inr x ↦ absurd (x.0 (ap (λ (z : Entry). id_of z.value) same ∙ sym h.first))
    ] in
    record {
      buckets = pools.took_at m.allocator n.allocator 24 8 2 [] h.buckets
          (subst (λ (z : Entry). pool.took_back m.allocator (offset_of z.value) z.size n.allocator) same none-else);
      strategy = T.kept.strategy ∙ h.strategy;
      first = T.stays ∙ h.first;
      grants = T.grants ∙ h.grants;
      ledger = T.ledger ∙ (ap (λ (z : Entry). without z.value z.grant (chunks m)) same ∙ ap (without 0 1) h.ledger);
    }

-- The first chunk comes back.
back : {way : AllocationStrategy} {c d : Chunk} {m : PoolMemory} {s : Store} → OneBack way c d m s → Stage way m (0 ∷ []) 2 (chunk 1 2 ∷ [])
back {way} {c} {d} {m = n} {s = t} o =
    let m = o.full in
    let s = o.in_store in
    let F = full o.both in
    let x : Deallocates pool 0 c.claim.grant m s (Ok tt) n t = subst (λ (z : ℕ). Deallocates pool z c.claim.grant m s (Ok tt) n t) F.values.0 o.returns in
    let y : Deallocates pool 0 1 m s (Ok tt) n t = subst (λ (z : ℕ). Deallocates pool 0 z m s (Ok tt) n t) F.values.1 x in
    back_of F.stage F.taken y

-- A return is accepted where the chunk is in the ledger,
accepted_return : (m n : PoolMemory) (s t : Store) (c : Entry) (r : Result (Unit {0}) NotHeld) → find 0 1 (chunks m) ≡ Some c → Deallocates pool 0 1 m s r n t → r ≡ Ok tt
accepted_return m n s t c (Ok u) f x = refl
accepted_return m n s t c (Err e) f x = let g = x.1 in let z : ◌≡◌ {A = ℕ} 0 1 = cc in absurd (omega arith)

-- and denied by 11 where it is not.
denied_return : (m n : PoolMemory) (s t : Store) (r : Result (Unit {0}) NotHeld) → find 0 1 (chunks m) ≡ None → Deallocates pool 0 1 m s r n t → NotHeldAnswer r
denied_return m n s t (Ok u) f x = let g = x.1 in let z : ◌≡◌ {A = ℕ} 0 1 = cc in absurd (omega arith)
denied_return m n s t (Err e) f x = (e, refl, x.0)

-- The hint of a full pool keeps the size and the alignment of its buckets.
same_buckets : (a : PoolAllocator) (v : ValidLayout) (way : AllocationStrategy) → pools.At a 24 8 2 [] → Asks v 24 8 → Holds (pool.hint a v way).config 24 8
same_buckets a v way h q = record {
  size = (λ i. cond (grows way && (ltb (h.size i) (q.size i) || ltb (h.align i) (q.align i))) (rounded_up (raise way (max (h.size i) (q.size i))) (max (h.align i) (q.align i))) (h.size i)) ∙ kept 24 way _;
  align = (λ i. cond (grows way && (ltb (h.size i) (q.size i) || ltb (h.align i) (q.align i))) (max (h.align i) (q.align i)) (h.align i)) ∙ kept 8 way _;
}
  where
    kept : (n : ℕ) (way : AllocationStrategy) (x : ℕ) → cond (grows way && false) x n ≡ n
    kept n BestFit x = refl
    kept n PowerOfTwo x = refl
    kept n Static x = refl

-- A full memory that grows: the new segment has the hinted payload, of which the first bucket is given.
grows_to : {way : AllocationStrategy} {m n : PoolMemory} {s t : Store} {e : Chunk} (p i : ℕ) (is : List ℕ) → Stage way m [] 2 (chunk 0 1 ∷ (chunk 1 2 ∷ []))
    → ((v : ValidLayout) → Asks v 24 8 → hinted m.allocator v way ≡ p) → p / 24 ≡ i → range_with_len 0 i ≡ 0 ∷ is
    → Allocates pool asked m s (Ok e) n t → (e.claim.offset.0 ≡ 1) × Payload n t 1 p
unfolding chunk
grows_to {way} {m} {n} {s} {t} {e} p i is h hint count list x =
    let r = in_rounds_of x in
    let v = r.0 in
    let q = r.1 in
    let g = grows_first 20 (pools.answers_at m.allocator v 24 8 2 [] h.buckets q) r.2 in
    let k = g.0 in
    let u = g.1 in
    let G = g.2 in
    let payload : hinted m.allocator v m.tables.strategy ≡ p = ap (hinted m.allocator v) h.strategy ∙ hint v q in
    let divided : hinted m.allocator v m.tables.strategy / 24 ≡ i = ap (λ (z : ℕ). z / 24) payload ∙ count in
    let fresh : pools.At k.allocator 24 8 i (range_with_len 0 i) = pools.fresh_at _ _ 24 8 24 i k.allocator (same_buckets m.allocator v m.tables.strategy h.buckets q) pools.rounded_24 divided G.fresh in
    let answer = pools.answers_at k.allocator v 24 8 i (0 ∷ is) (subst (λ (z : List ℕ). pools.At k.allocator 24 8 i z) list fresh) q in
    let z = ends_at 0 answer g.3 in
    let same : z.0 ≡ e = cc z.1 in
    let T = z.2.tables in
    let D = G.tables in
    let second : current k ≡ 1 = D.next ∙ ap (λ (y : ℕ). y + 1) h.first in
    let held : 1 ≤ D.old.count = (let c = ap count_of D.old_there in let d = m.tables.counted (current m) in let f = ap₂ tally h.first h.ledger in omega arith) in
    let stays : u ≡ G.between = elim D.leaves [ inl y ↦ absurd (omega arith) | inr y ↦ y.2 ] in
    let there : T.there ≡ G.place = (let a = T.was in let b = D.new_there in cc) in
    let handle : T.counted.handle ≡ G.opened.handle = T.numbers.0 ∙ (ap (λ (y : Place). y.handle) there ∙ G.numbers.0) in (
      ap (λ (y : Chunk). y.claim.offset.0) (sym same) ∙ (T.value ∙ ap (packed 0) second),
      record {
        there = T.counted;
        mapped = ap (place n) (sym second) ∙ T.is_counted;
        segment = _;
        stands = ap (λ (y : Store). y.at T.counted.handle) (z.3 ∙ stays) ∙ (ap G.between.at handle ∙ G.made.2.here);
        sized = length-replicate (hinted m.allocator v m.tables.strategy) 0 ∙ payload;
      },
    )

-- A full memory that must not grow is denied by 20.
refused_static : {m n : PoolMemory} {s t : Store} {v : ValidLayout} {r : Result Chunk ResizableShmAllocationError} → pool.answer m.allocator v ≡ refused 20 → m.tables.strategy ≡ Static
    → Rounds pool v m s r n t → DeniedBy 20 r
refused_static q w (answered o a g) = absurd (clash _ _ _ a q)
refused_static q w (static e a w') = let same : refusal_number e ≡ 20 = cc in (fault.ShmAllocationError e, refl, same)
refused_static q w (stuck e a n g) = absurd (n w)
refused_static q w (again e a n g r) = absurd (n w)

denied_static : {m n : PoolMemory} {s t : Store} {r : Result Chunk ResizableShmAllocationError} → Stage Static m [] 2 (chunk 0 1 ∷ (chunk 1 2 ∷ [])) → Allocates pool asked m s r n t → DeniedBy 20 r
denied_static h (bad_layout x bad) = absurd (bad (record { some = lit≤ tt; few = lit≤ tt; power = ∣ (3, refl) ∣₁; low = lit≤ tt }))
denied_static h (ledger_full x v most) = let few = ap length h.ledger in absurd (omega arith)
denied_static h (grants_spent x v few most) = let g = h.grants in absurd (omega arith)
denied_static {m} h (in_rounds v size align few grants rounds) =
    refused_static (pools.answers_at m.allocator v 24 8 2 [] h.buckets (record { size = size; align = align })) h.strategy rounds

-- With the last id current, a growth is denied by 23.
refused_growth : {m : PoolMemory} {s t : Store} {l : ValidLayout} {f : ResizableShmAllocationError} → current m ≡ 255 → GrowthRefused pool m s l f t → allocation_number f ≡ 23
refused_growth c (no_id x last) = x
refused_growth c (no_segment below x) = absurd (omega arith)

denied_growth : (m n : PoolMemory) (s t : Store) (l : ValidLayout) (r : Result (Unit {0}) ResizableShmAllocationError) → current m ≡ 255 → Grows pool m s l r n t → DeniedBy 23 r
denied_growth m n s t l (Ok u) c g = let below = g.below in absurd (omega arith)
denied_growth m n s t l (Err f) c g = (f, refl, refused_growth c g.1)

pub instances : Instances
unfolding chunk
instances = record {
  allocators = pools.instances;
  values = λ way c d m s b. (full b).values;
  returned = λ way c d m n s t r b x. accepted_return m n s t (chunk 0 1) r (ap (find 0 1) (full b).stage.ledger) x;
  again = λ way c d e m n s t o x. (takes 0 [] 2 (chunk 1 2 ∷ []) (back o) x).value;
  twice = λ way c d m n s t r o x. denied_return m n s t r (ap (find 0 1) (back o).ledger) x;
  late = λ way c d e m n k s t u r o x y. denied_return n k t u r (ap (find 0 1) (takes 0 [] 2 (chunk 1 2 ∷ []) (back o) x).stage.ledger) y;
  best_fit = λ c d e m n s t b x.
      let h = (full b).stage in
      grows_to 72 3 (1 ∷ (2 ∷ [])) h (λ v q. pools.hint_at m.allocator v BestFit 24 8 2 24 8 [] h.buckets q ∙ pools.best_fit_72) refl refl x;
  power_of_two = λ c d e m n s t b x.
      let h = (full b).stage in
      grows_to 96 4 (1 ∷ (2 ∷ (3 ∷ []))) h (λ v q. pools.hint_at m.allocator v PowerOfTwo 24 8 2 24 8 [] h.buckets q ∙ pools.power_of_two_96) refl refl x;
  static = λ c d m n s t r b x. denied_static (full b).stage x;
  no_id_left = denied_growth;
}
