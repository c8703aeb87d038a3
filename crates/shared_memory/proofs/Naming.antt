-- The names of one memory are apart, and each fits.
use Rattle.std.proofs.Common.{◌≡◌, ℕ, ◌<◌, ◌≤◌, true, ◌&&◌, eqb, leb, List, ◌++◌, length, codes, decimal, ap, ⊎_elim, arith}
use Rattle.std.proofs.lemmas.List.{append_cancel_left, length-append}
use Rattle.std.specs.Str.{IsUtf8}
use Rattle.std.proofs.lemmas.Bool.{or_cases, and_parts, leb-true, eqb-true}
use Rattle.std.proofs.lemmas.List.Elements.{All-weaker}
use Rattle.std.proofs.lemmas.List.Sums.{AllPass-from_list_all}
use Rattle.std.proofs.lemmas.Str.{IsUtf8-from_ascii}
use Rattle.std.proofs.lemmas.Str.Ascii.{IsAscii-from_all}
use Rattle.std.proofs.lemmas.Fmt.{decimal_injective, length-decimal-le}
use Rattle.shared_memory.specs.BaseNames.{GoodBase, name_byte}
use Rattle.shared_memory.specs.Names.{segment_name, management_name, NamesApart}

-- a base name is ASCII, and so it is UTF-8
pub base_is_text : (n : List ℕ) → GoodBase n → IsUtf8 n
base_is_text n g = IsUtf8-from_ascii n (IsAscii-from_all n (All-weaker (λ c. name_byte c ≡ true) (λ c. c < 128) ascii n (AllPass-from_list_all name_byte n g.2)))
  where
    up_to : (c low high : ℕ) → high < 128 → (leb low c && leb c high) ≡ true → c < 128
    up_to c low high h e = omega (arith, leb-true c high (and_parts (leb low c) (leb c high) e).1)

    ascii : (c : ℕ) → name_byte c ≡ true → c < 128
    ascii c e =
        ⊎_elim (up_to c 48 57 (omega arith))
        (λ e. ⊎_elim (up_to c 65 90 (omega arith))
        (λ e. ⊎_elim (up_to c 97 122 (omega arith))
        (λ e. ⊎_elim (λ e. omega (arith, eqb-true c 45 e))
        (λ e. ⊎_elim (λ e. omega (arith, eqb-true c 46 e)) (λ e. omega (arith, eqb-true c 95 e)) (or_cases (eqb c 46) (eqb c 95) e))
        (or_cases (eqb c 45) _ e)) (or_cases _ _ e)) (or_cases _ _ e)) (or_cases _ _ e)

-- an id has at most three digits
pub decimal_short : (id : ℕ) → id < 256 → length (decimal id) ≤ 3
decimal_short id h = length-decimal-le 3 id (omega arith) (omega arith) (omega arith)

-- a base name with up to eight bytes more fits
tail_fits : (base tail : List ℕ) → GoodBase base → length tail ≤ 8 → (1 ≤ length (base ++ tail)) × (length (base ++ tail) ≤ 32)
tail_fits base tail g h = let l = length-append base tail in (omega (arith, g.0), omega (arith, g.1))

pub segment_fits : (base : List ℕ) (id : ℕ) → GoodBase base → id < 256 → (1 ≤ length (segment_name base id)) × (length (segment_name base id) ≤ 32)
segment_fits base id g h = tail_fits base (codes "__" ++ decimal id) g (let l = decimal_short id h in omega (arith, length-append (codes "__") (decimal id)))

pub management_fits : (base : List ℕ) → GoodBase base → (1 ≤ length (management_name base)) × (length (management_name base) ≤ 32)
management_fits base g = tail_fits base (codes "__mgmt") g (omega arith)

pub ids_apart : (base : List ℕ) (i j : ℕ) → i < 256 → j < 256 → segment_name base i ≡ segment_name base j → i ≡ j
ids_apart base i j h k e = decimal_injective i j (omega arith) (omega arith) same
  where
    same : decimal i ≡ decimal j
    same = append_cancel_left (codes "__") _ _ (append_cancel_left base _ _ e)

pub management_apart : (base : List ℕ) (id : ℕ) → id < 256 → segment_name base id ≡ management_name base → ⊥
management_apart base id h e =
    let short = decimal_short id h in
    let same = ap length (append_cancel_left base _ _ e) in
    omega (arith, length-append (codes "__") (decimal id))

pub names_apart : NamesApart
names_apart = record {
  fits = segment_fits;
  management_fits = management_fits;
  ids_apart = ids_apart;
  management_apart = management_apart;
}
