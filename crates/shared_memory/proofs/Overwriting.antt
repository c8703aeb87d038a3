-- What is read of bytes that were written over.
use Rattle.std.proofs.Common.{◌≡◌, ℕ, ◌+◌, ◌-◌, ◌<◌, ◌≤◌, ◌⊎◌, List, length, get_or, take, drop, replicate, sym, refl, ap, ◌∙◌, ⊎_elim, arith}
use borrow.Rule.Slice.PartMut.{put_mid}
use Rattle.std.proofs.lemmas.List.{same_lists, places, length-take, length-drop, length-append, get_or-take, get_or-drop}
use Rattle.std.proofs.lemmas.Bool.{cases_lt}
use Rattle.std.proofs.lemmas.Slice.{put_mid-paste}
use Rattle.std.proofs.lemmas.List.Edits.{paste_all}
use Rattle.shared_memory.specs.Meaning.{part, patched}

pub put_mid_patched : (xs ys new : List ℕ) (a k : ℕ) → ys ≡ new → length new ≡ k → put_mid a k xs ys ≡ patched xs a new
put_mid_patched xs ys new a k e n = put_mid-paste a k xs ys new (length new) e n refl ∙ paste_all xs a new (length new) refl

-- a part that was filled with zeros
pub zeros_in : (xs ys : List ℕ) (at n : ℕ) → at + n ≤ length xs → ys ≡ replicate (length (take (at + n - at) (drop at xs))) 0 → ys ≡ replicate n 0
zeros_in xs ys at n fit e =
    let long : length (take (at + n - at) (drop at xs)) ≡ n = simp (length-take, length-drop) (omega arith) in
    e ∙ ap (λ k. replicate {A = ℕ} k 0) long

module _ (xs new : List ℕ) (at : ℕ) (fit : at + length new ≤ length xs) where
  pub length_patched : length (patched xs at new) ≡ length xs
  length_patched = simp (length-append, length-take, length-drop) (omega arith)

  get_or_patched_low : (k d : ℕ) → k < at → get_or (patched xs at new) k d ≡ get_or xs k d
  get_or_patched_low k d lt = grind (arith, places)

  get_or_patched_mid : (k d : ℕ) → at ≤ k → k < at + length new → get_or (patched xs at new) k d ≡ get_or new (k - at) d
  get_or_patched_mid k d le lt = grind (arith, places)

  get_or_patched_high : (k d : ℕ) → at + length new ≤ k → get_or (patched xs at new) k d ≡ get_or xs k d
  get_or_patched_high k d le = grind (arith, places)

pub length_part : (xs : List ℕ) (b n : ℕ) → b + n ≤ length xs → length (part xs b n) ≡ n
length_part xs b n le = simp (length-take, length-drop) (omega arith)

get_or_part : (xs : List ℕ) (b n k d : ℕ) → k < n → get_or (part xs b n) k d ≡ get_or xs (b + k) d
get_or_part xs b n k d lt = get_or-take n (drop b xs) k d lt ∙ get_or-drop b xs k d

module _ (xs new : List ℕ) (at : ℕ) (fit : at + length new ≤ length xs) (b n : ℕ) where
  short : (ys : List ℕ) (k : ℕ) → k < length (part ys b n) → k < n
  short ys k h = omega (arith, length-take n (drop b ys))

  -- a part that lies outside is as it was
  pub part_outside : (b + n ≤ at) ⊎ (at + length new ≤ b) → part (patched xs at new) b n ≡ part xs b n
  part_outside out =
      same_lists _ _ (simp (length-take, length-drop) (rw (length_patched xs new at fit))) λ k d h.
      let kn = short (patched xs at new) k h in
      get_or_part (patched xs at new) b n k d kn
      ∙ (⊎_elim (λ lo. get_or_patched_low xs new at fit (b + k) d (omega arith)) (λ hi. get_or_patched_high xs new at fit (b + k) d (omega arith)) out
      ∙ sym (get_or_part xs b n k d kn))

  -- a part that the new bytes lie in
  pub part_around : (from : ℕ) → at ≡ b + from → from + length new ≤ n → b + n ≤ length xs → part (patched xs at new) b n ≡ patched (part xs b n) from new
  part_around from e lt le =
      same_lists _ _ lengths λ k d h.
      let kn = short (patched xs at new) k h in
      get_or_part (patched xs at new) b n k d kn ∙ here k d kn
    where
      fits : from + length new ≤ length (part xs b n)
      fits = omega (arith, length_part xs b n le)

      lengths : length (part (patched xs at new) b n) ≡ length (patched (part xs b n) from new)
      lengths = length_part (patched xs at new) b n (omega (arith, length_patched xs new at fit)) ∙ sym (length_patched (part xs b n) new from fits ∙ length_part xs b n le)

      here : (k d : ℕ) → k < n → get_or (patched xs at new) (b + k) d ≡ get_or (patched (part xs b n) from new) k d
      here k d kn =
          ⊎_elim
          (λ low. get_or_patched_low xs new at fit (b + k) d (omega arith) ∙ (sym (get_or_part xs b n k d kn) ∙ sym (get_or_patched_low (part xs b n) new from fits k d low)))
          (λ up. ⊎_elim
          (λ mid. get_or_patched_mid xs new at fit (b + k) d (omega arith) (omega arith) ∙ (ap (λ i. get_or new i d) (let i : b + k - at ≡ k - from = omega arith in i) ∙ sym (get_or_patched_mid (part xs b n) new from fits k d up mid)))
          (λ high. get_or_patched_high xs new at fit (b + k) d (omega arith) ∙ (sym (get_or_part xs b n k d kn) ∙ sym (get_or_patched_high (part xs b n) new from fits k d high)))
          (cases_lt k (from + length new)))
          (cases_lt k from)

-- a part of a part
pub part_part : (xs : List ℕ) (b n from size : ℕ) → from + size ≤ n → part xs (b + from) size ≡ part (part xs b n) from size
part_part xs b n from size le =
    same_lists _ _ lengths λ k d h.
    let kn : k < size = omega (arith, length-take size (drop (b + from) xs)) in
    get_or_part xs (b + from) size k d kn
    ∙ (ap (λ i. get_or xs i d) (let i : b + from + k ≡ b + (from + k) = omega arith in i)
    ∙ (sym (get_or_part xs b n (from + k) d (omega arith)) ∙ sym (get_or_part (part xs b n) from size k d kn)))
  where
    lengths : length (part xs (b + from) size) ≡ length (part (part xs b n) from size)
    lengths = simp (length-take, length-drop) (omega arith)

-- the part that was written
pub part_written : (xs new : List ℕ) (at : ℕ) → at + length new ≤ length xs → part (patched xs at new) at (length new) ≡ new
part_written xs new at fit =
    same_lists _ _ lengths λ k d h.
    let kn : k < length new = omega (arith, lengths) in
    get_or_part (patched xs at new) at (length new) k d kn
    ∙ (get_or_patched_mid xs new at fit (at + k) d (omega arith) (omega arith)
    ∙ ap (λ i. get_or new i d) (let i : at + k - at ≡ k = omega arith in i))
  where
    lengths : length (part (patched xs at new) at (length new)) ≡ length new
    lengths = length_part (patched xs at new) at (length new) (omega (arith, length_patched xs new at fit))
