-- The test of a request decides the rules.
use Rattle.std.proofs.Common.{◌≡◌, ℕ, Bool, true, false, ◌&&◌, eqb, leb, sym, refl, subst, arith, pow_pos}
use Rattle.std.specs.Prelude.{Result, Ok, Err, Some, None}
use Rattle.std.specs.Result.{result_ok}
use Rattle.std.proofs.lemmas.Bool.{leb-true, le-leb, eq-eqb, eqb-true, and_parts, and_from}
use Rattle.shm_allocator.specs.Numbers.{IsPowerOfTwo, Valid, valid, next_power}
use Rattle.std.proofs.lemmas.Option.{none-some}
use Rattle.shm_allocator.specs.declared.layout.Layout.{Layout}
use Rattle.shm_allocator.specs.declared.layout.ValidLayout.{ValidLayout}
use Rattle.shm_allocator.specs.declared.layout.validation.BadLayout.{BadLayout}
use Rattle.shm_allocator.specs.Layouts.{Validates}
use Rattle.shm_allocator.specs.Powers.{exponent, next_power_only, next_power_power}

-- a power of two is the least from itself on
own_power : (n : ℕ) → IsPowerOfTwo n → n ≡ next_power n
own_power n p = let e = exponent n p in let z = pow_pos e.0 in next_power_only n n e (omega arith) (omega arith)

pub valid_holds : (s a : ℕ) → Valid s a → valid s a ≡ true
valid_holds s a v =
    and_from _ _ (and_from _ _ (le-leb 1 s v.some) (le-leb s 16777216 v.few))
    (and_from _ _ (eq-eqb (next_power a) a (sym (own_power a v.power))) (le-leb a 65536 v.low))

pub valid_means : (s a : ℕ) → valid s a ≡ true → Valid s a
valid_means s a h =
    let p = and_parts (leb 1 s && leb s 16777216) (eqb (next_power a) a && leb a 65536) h in
    let q = and_parts (leb 1 s) (leb s 16777216) p.0 in
    let r = and_parts (eqb (next_power a) a) (leb a 65536) p.1 in
    record { some = leb-true 1 s q.0; few = leb-true s 16777216 q.1; power = subst IsPowerOfTwo (eqb-true (next_power a) a r.0) (next_power_power a); low = leb-true a 65536 r.1 }

pub valid_fails : (s a : ℕ) → (Valid s a → ⊥) → valid s a ≡ false
valid_fails s a h = go (valid s a) refl
  where
    go : (t : Bool) → valid s a ≡ t → t ≡ false
    go true e = absurd (h (valid_means s a e))
    go false e = refl

-- what a request was turned into, as an option
pub accepted : (l : Layout) (r : Result ValidLayout BadLayout) (v : ValidLayout) → Validates l r → result_ok r ≡ Some v → Valid l.size l.align × (v.size ≡ l.size) × (v.align ≡ l.align)
accepted l (Ok w) v h e = let q : w ≡ v = cc in subst (λ (x : ValidLayout). Valid l.size l.align × (x.size ≡ l.size) × (x.align ≡ l.align)) q h
accepted l (Err b) v h e = absurd (none-some v e)

pub turned_away : (l : Layout) (r : Result ValidLayout BadLayout) → Validates l r → result_ok r ≡ None → valid l.size l.align ≡ false
turned_away l (Ok w) h e = absurd (none-some w (sym e))
turned_away l (Err b) h e = valid_fails l.size l.align h
