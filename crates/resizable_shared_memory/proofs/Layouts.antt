-- A valid layout is known by its two numbers.
use Rattle.std.proofs.Common.{◌≡◌, ℕ, ◌≤◌, ap, ◌∙◌, subst}
use mathlib.Core.Logic.{∥∥₁_prop}
use native.Mathlib.Bridge.{le_prop}
use Rattle.shm_allocator.specs.declared.layout.ValidLayout.{ValidLayout}
use Rattle.shm_allocator.specs.Numbers.{IsPowerOfTwo}

-- What a valid layout says of its size, and of its alignment.
abbrev Sized : ℕ → Type 0
Sized n = (1 ≤ n) × (n ≤ 16777216)

abbrev Aligned : ℕ → Type 0
Aligned n = IsPowerOfTwo n × (n ≤ 65536)

sized_same : (n : ℕ) (x y : Sized n) → x ≡ y
sized_same n x y = λ i. (le_prop x.0 y.0 i, le_prop x.1 y.1 i)

aligned_same : (n : ℕ) (x y : Aligned n) → x ≡ y
aligned_same n x y = λ i. (∥∥₁_prop x.0 y.0 i, le_prop x.1 y.1 i)

abbrev layout : (s a : ℕ) → Sized s → Aligned a → ValidLayout
layout s a p q = record { size = s; align = a; sized = p; aligned = q }

pub same_layout : (v w : ValidLayout) → v.size ≡ w.size → v.align ≡ w.align → v ≡ w
same_layout v w size align =
    let resized : (p : Sized w.size) → v ≡ layout w.size v.align p v.aligned =
    subst (λ (s : ℕ). (p : Sized s) → v ≡ layout s v.align p v.aligned) size (λ p. ap (λ (x : Sized v.size). layout v.size v.align x v.aligned) (sized_same v.size v.sized p)) in
    let realigned : (q : Aligned w.align) → layout w.size v.align w.sized v.aligned ≡ layout w.size w.align w.sized q =
    subst (λ (a : ℕ). (q : Aligned a) → layout w.size v.align w.sized v.aligned ≡ layout w.size a w.sized q) align (λ q. ap (λ (x : Aligned v.align). layout w.size v.align w.sized x) (aligned_same v.align v.aligned q)) in
    resized w.sized ∙ realigned w.aligned
