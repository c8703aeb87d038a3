-- What an optional value is, by what is known of it, and where it stands in a list.
use Rattle.std.proofs.Common.{◌≡◌, ℕ, ◌<◌, true, false, List, length, get_or, is_some as option_is_some, Some, None, Err, Option, Result, refl, ap, ◌∙◌, ⊎_elim, arith}
use Rattle.std.proofs.lemmas.List.{get_or_past}
use Rattle.std.proofs.lemmas.Bool.{cases_lt}
use Rattle.std.specs.Option.{MatchOption, IsSomeAnd, SomeIff, ok_or, option_map as over}

pub none_some : {X : Type 0} {o : Option X} {x : X} → o ≡ None → o ≡ Some x → ⊥
none_some {o = o} {x = x} p q = let z : ◌≡◌ {A = ℕ} 0 1 = cc in omega arith

pub same_some : {X : Type 0} {o : Option X} {x y : X} → o ≡ Some x → o ≡ Some y → x ≡ y
same_some {o = o} {x = x} {y = y} p q = cc

pub is_none : {X : Type 0} (o : Option X) → option_is_some o ≡ false → o ≡ None
is_none None e = refl
is_none (Some x) e = let z : ◌≡◌ {A = ℕ} 0 1 = cc in absurd (omega arith)

pub is_some : {X : Type 0} (o : Option X) → option_is_some o ≡ true → (x : X) × (o ≡ Some x)
is_some None e = let z : ◌≡◌ {A = ℕ} 0 1 = cc in absurd (omega arith)
is_some (Some x) e = (x, refl)

pub over_none : {X Y : Type 0} (f : X → Y) (o : Option X) → over f o ≡ None → o ≡ None
over_none f None e = refl
over_none f (Some x) e = absurd (none_some e refl)

pub over_some : {X Y : Type 0} (f : X → Y) (o : Option X) (y : Y) → over f o ≡ Some y → (x : X) × (o ≡ Some x) × (f x ≡ y)
over_some f None y e = absurd (none_some refl e)
over_some f (Some x) y e = (x, refl, same_some refl e)

pub some_over : {X Y : Type 0} (f : X → Y) (o : Option X) → option_is_some (over f o) ≡ option_is_some o
some_over f None = refl
some_over f (Some x) = refl

-- what `map` gave, where each call gave what f does
pub mapped : {X Y : Type 0} (f : X → Y) {P : X → Y → Type 0} (o : Option X) (r : Option Y) → MatchOption o (r ≡ None) (λ x. IsSomeAnd r (P x)) → ((x : X) (y : Y) → P x y → y ≡ f x) → r ≡ over f o
mapped f None r m e = m
mapped f (Some x) (Some y) m e = ap Some (e x y m)
mapped f (Some x) None m e = absurd m

-- what stands in a list stands before its end
pub inside : {X : Type 0} (xs : List (Option X)) (h : ℕ) {x : X} → get_or xs h None ≡ Some x → h < length xs
inside xs h e = ⊎_elim (λ lt. lt) (λ le. absurd (none_some (get_or_past xs h None le) e)) (cases_lt h (length xs))

-- what is there exactly where P holds
pub some_iff_some : {X P : Type 0} {v x : X} (o : Option X) → SomeIff o P v → o ≡ Some x → P × (x ≡ v)
some_iff_some None h e = absurd (none_some refl e)
some_iff_some (Some y) h e = (h.0, same_some e refl ∙ h.1)

pub some_iff_none : {X P : Type 0} (v : X) (o : Option X) → SomeIff o P v → o ≡ None → P → ⊥
some_iff_none v None h e = h
some_iff_none v (Some y) h e = absurd (none_some e refl)

-- what an option with an error in place of nothing came to
pub ok_or_err : {X E : Type 0} {r : Result X E} {d e : E} (o : Option X) → r ≡ ok_or o d → r ≡ Err e → (o ≡ None) × (e ≡ d)
ok_or_err {d = d} {e = e} None a b = (refl, cc)
ok_or_err (Some x) a b = let z : ◌≡◌ {A = ℕ} 0 1 = cc in absurd (omega arith)
