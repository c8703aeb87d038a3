-- How many chunks of each segment a list has.
use Rattle.std.proofs.Common.{◌≡◌, ℕ, zero, suc, ◌+◌, ◌<◌, ◌≤◌, Bool, true, false, cond, eqb, List, [], ◌∷◌, ◌++◌, length, ap, arith}
use Rattle.std.proofs.lemmas.Bool.{eq-eqb, ne_eqb}
use Rattle.std.specs.List.{remove}
use Rattle.pointer_offset.specs.Packing.{id_of}
use Rattle.resizable_shared_memory.specs.Entries.{Entry, entry_at, tally}

-- 1 for a chunk of the segment k, else 0.
abbrev pub one : ℕ → Entry → ℕ
one k c = cond (eqb (id_of c.value) k) 1 0

pub one_here : (k : ℕ) (c : Entry) → id_of c.value ≡ k → one k c ≡ 1
one_here k c e = ap (λ b. cond b 1 0) (eq-eqb (id_of c.value) k e)

pub none_here : (k : ℕ) (c : Entry) → (id_of c.value ≡ k → ⊥) → one k c ≡ 0
none_here k c e = ap (λ b. cond b 1 0) (ne_eqb (id_of c.value) k e)

at_most_one : (b : Bool) → cond b 1 0 ≤ 1
at_most_one true = omega arith
at_most_one false = omega arith

pub tally_le : (k : ℕ) (es : List Entry) → tally k es ≤ length es
tally_le k [] = omega arith
tally_le k (c ∷ cs) = omega (arith, tally_le k cs, at_most_one (eqb (id_of c.value) k))

pub tally_push : (k : ℕ) (es : List Entry) (c : Entry) → tally k (es ++ (c ∷ [])) ≡ tally k es + one k c
tally_push k [] c = omega arith
tally_push k (e ∷ es) c = omega (arith, tally_push k es c)

pub tally_removed : (k : ℕ) (es : List Entry) (i : ℕ) → i < length es → tally k es ≡ tally k (remove es i) + one k (entry_at es i)
tally_removed k [] i h = absurd (omega arith)
tally_removed k (c ∷ cs) zero h = omega arith
tally_removed k (c ∷ cs) (suc i) h = omega (arith, tally_removed k cs i (omega arith))
