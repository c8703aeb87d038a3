-- Sums over the handles.
use Rattle.std.proofs.Common.{◌≡◌, ℕ, zero, suc, ◌+◌, ◌<◌, ◌≤◌, cond, ◌⊎◌, sym, refl, ap, ◌∙◌, inl, inr, ⊎_elim, arith}
use Rattle.std.proofs.lemmas.Bool.{cases_eq, eq-eqb, ne_eqb}
use Rattle.shared_memory.specs.Quotas.{total, skipping}

pub by_handle : {f g : ℕ → ℕ} → ((k : ℕ) → f k ≡ g k) → f ≡ g
by_handle e = λ i k. e k i

skip_here : (h : ℕ) (f : ℕ → ℕ) (k : ℕ) → k ≡ h → skipping h f k ≡ 0
skip_here h f k e = ap (λ b. cond b 0 (f k)) (eq-eqb k h e)

skip_other : (h : ℕ) (f : ℕ → ℕ) (k : ℕ) → (k ≡ h → ⊥) → skipping h f k ≡ f k
skip_other h f k ne = ap (λ b. cond b 0 (f k)) (ne_eqb k h ne)

-- g is f, but 0 at h
pub skipped : (f g : ℕ → ℕ) (h : ℕ) → g h ≡ 0 → ((k : ℕ) → (k ≡ h → ⊥) → g k ≡ f k) → g ≡ skipping h f
skipped f g h none others =
    by_handle λ k. ⊎_elim (λ same. ap g same ∙ (none ∙ sym (skip_here h f k same))) (λ ne. others k ne ∙ sym (skip_other h f k ne)) (cases_eq k h)

pub total_none : (f : ℕ → ℕ) → total f 0 ≡ 0
unfolding total
total_none f = refl

pub total_more : (f : ℕ → ℕ) (n : ℕ) → total f (n + 1) ≡ total f n + f n
unfolding total
total_more f n = ap (total f) (let e : n + 1 ≡ suc n = omega arith in e)

total_same : (f g : ℕ → ℕ) (n : ℕ) → ((k : ℕ) → k < n → f k ≡ g k) → total f n ≡ total g n
unfolding total
total_same f g zero e = refl
total_same f g (suc n) e = omega (arith, total_same f g n (λ k lt. e k (omega arith)), e n (omega arith))

pub total_split : (f : ℕ → ℕ) (h n : ℕ) → h < n → total f n ≡ total (skipping h f) n + f h
unfolding total
total_split f h zero lt = absurd (omega arith)
total_split f h (suc n) lt =
    ⊎_elim
    (λ same. omega (arith, total_same f (skipping h f) n (λ k less. sym (skip_other h f k (λ e. omega arith))), skip_here h f n same, ap f same))
    (λ ne. omega (arith, total_split f h n (omega arith), skip_other h f n ne))
    (cases_eq n h)

pub total_skip : (f : ℕ → ℕ) (h n : ℕ) → total (skipping h f) n ≤ total f n
unfolding total
total_skip f h zero = omega arith
total_skip f h (suc n) =
    ⊎_elim (λ same. omega (arith, total_skip f h n, skip_here h f n same)) (λ ne. omega (arith, total_skip f h n, skip_other h f n ne)) (cases_eq n h)

-- a sum is 0, or one of its terms is not
pub some_term : (f : ℕ → ℕ) (n : ℕ) → (total f n ≡ 0) ⊎ ((k : ℕ) × (k < n) × (1 ≤ f k))
unfolding total
some_term f zero = inl refl
some_term f (suc n) = by (some_term f n) (cases_eq (f n) 0)
  where
    by : (total f n ≡ 0) ⊎ ((k : ℕ) × (k < n) × (1 ≤ f k)) → (f n ≡ 0) ⊎ (f n ≡ 0 → ⊥) → (total f n + f n ≡ 0) ⊎ ((k : ℕ) × (k < suc n) × (1 ≤ f k))
    by (inl a) (inl b) = inl (omega arith)
    by (inl a) (inr b) = inr (n, omega arith, omega arith)
    by (inr (k, p, q)) b = inr (k, omega arith, q)
