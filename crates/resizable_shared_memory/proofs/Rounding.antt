-- The rounds of a request, where a refusal left an allocator that equals the one before it.
use Rattle.std.proofs.Common.{◌≡◌, ℕ, Ok, Err, Result, sym, ap, subst, subst₂, ⊎_elim, arith}
use Rattle.shared_memory.specs.Meaning.{Store}
use Rattle.shm_allocator.specs.declared.AllocationStrategy.TheVariants.{Static}
use Rattle.shm_allocator.specs.declared.ShmAllocationError.{ShmAllocationError}
use Rattle.shm_allocator.specs.declared.layout.ValidLayout.{ValidLayout}
use Rattle.shm_allocator.specs.Meaning.{Meaning, refusal_number}
use Rattle.shm_allocator.specs.Meaning.Answer.{refused}
use Rattle.resizable_shared_memory.specs.Memory.{Grown, MakesRoom, Rounds}
use Rattle.resizable_shared_memory.specs.Memory.Rounds.{static, stuck}
use Rattle.resizable_shared_memory.specs.declared.fault.ResizableShmAllocationError.{ResizableShmAllocationError}
use Rattle.resizable_shared_memory.specs.declared.fault.ResizableShmAllocationError.TheVariants as fault
use Rattle.resizable_shared_memory.specs.declared.memory.DynamicMemory.{DynamicMemory}
use Rattle.resizable_shared_memory.specs.declared.memory.Tables.{Tables}

-- A memory of an allocator and tables.
abbrev pub memory_of : {A : Type 0} → A → Tables → DynamicMemory A
memory_of a t = record { allocator = a; tables = t }

err_same : {X Y : Type 0} {x y : Y} → ◌≡◌ {A = Result X Y} (Err x) (Err y) → x ≡ y
err_same e = cc

ok_err : {X Y : Type 0} {x : X} {y : Y} → Ok x ≡ Err y → ⊥
ok_err e = let z : ◌≡◌ {A = ℕ} 0 1 = cc in omega arith

module _ {A C : Type 0} (α : Meaning A C) (l : ValidLayout) (m : DynamicMemory A) (s : Store) (a : A) (e : ShmAllocationError)
    (answer : α.answer m.allocator l ≡ refused (refusal_number e)) (unchanged : a ≡ m.allocator) where
  as_before : memory_of a m.tables ≡ m
  as_before = ap (λ (x : A). memory_of x m.tables) unchanged

  -- The round of a refusal: under `Static` it is the last; otherwise what the growth comes to decides.
  pub ends : (f : ResizableShmAllocationError) (n : DynamicMemory A) (t : Store) → MakesRoom α (memory_of a m.tables) s l e (Err f) n t → Rounds α l m s (Err f) n t
  ends f n t room =
      let stood : MakesRoom α m s l e (Err f) n t = subst (λ (k : DynamicMemory A). MakesRoom α k s l e (Err f) n t) as_before room in
      ⊎_elim
      (λ h. let same : f ≡ fault.ShmAllocationError e = err_same h.1 in
      subst₂ (λ (k : DynamicMemory A) (u : Store). Rounds α l m s (Err f) k u) (sym h.2) (sym h.3) (subst (λ (d : ResizableShmAllocationError). Rounds α l m s (Err d) m s) (sym same) (static e answer h.0)))
      (λ h. subst (λ (k : DynamicMemory A). Rounds α l m s (Err f) k t) (sym h.1.0) (stuck (refusal_number e) answer h.0 h.1.1))
      stood

  pub grown_by : (n : DynamicMemory A) (t : Store) → MakesRoom α (memory_of a m.tables) s l e (Ok tt) n t → (m.tables.strategy ≡ Static → ⊥) × Grown α m s l n t
  grown_by n t room =
      ⊎_elim (λ h. absurd (ok_err h.1)) (λ h. h) (let stood : MakesRoom α m s l e (Ok tt) n t = subst (λ (k : DynamicMemory A). MakesRoom α k s l e (Ok tt) n t) as_before room in stood)
