-- The entry of a grant is the only one that can match.
use Rattle.std.proofs.Common.{◌≡◌, ℕ, ◌<◌, Bool, true, false, not, List, length, get_or, Some, sym, refl, ap, ◌∙◌, arith}
use Rattle.std.proofs.lemmas.Bool.{both_ways, and_from, and_parts, eq-eqb, eqb-true}
use Rattle.resizable_shared_memory.specs.declared.ledger.Held.{Held}
use Rattle.resizable_shared_memory.specs.declared.ledger.Ledger.{Ledger}
use Rattle.resizable_shared_memory.specs.Entries.{Entry, entry, entry_at}
use Rattle.resizable_shared_memory.specs.Ledgers.{entries_of}
use Rattle.resizable_shared_memory.proofs.Listing.{entry_of, length_of}
use Rattle.resizable_shared_memory.proofs.Searching.{find_none, not_granted, find_hit, find_other}
use Rattle.resizable_shared_memory.proofs.ledger.Ledger.find.Goals as goal

-- what was read at a place
read_at : (l : Ledger) (cs : List Held) (i : ℕ) (d : Held) → cs ≡ l.entries.items → i < length (entries_of l) → entry_at (entries_of l) i ≡ entry (get_or cs i d)
read_at l cs i d same h = entry_of l i d (omega (arith, length_of l)) ∙ ap (λ (xs : List Held). entry (get_or xs i d)) (sym same)

not_back : (b : Bool) → false ≡ not b → b ≡ true
not_back true e = refl
not_back false e = absurd (both_ways true (sym e) refl)

pub returns-in_err-at : goal.returns-in_err-at
returns-in_err-at c =
    let l = c.args.self.now in
    let v = c.args.claim.offset.0 in
    let g = c.args.claim.grant in
    rw c.from_residual.ensures (find_none v g (entries_of l) (λ j h. not_granted v g (entries_of l) j (c.in_err-at.ensures j h)))

pub returns-then-ne : goal.returns-then-ne
returns-then-ne c =
    let l = c.args.self.now in
    let i = c.in_ok-at.at in
    let found = c.in_ok-at.ensures in
    let is = read_at l c.deref.result.now i _ c.deref.ensures.0 found.0 in
    let granted = eq-eqb c.claim.result.grant c.args.claim.grant (c.claim.ensures.1 ∙ (sym (ap (λ (e : Entry). e.grant) is) ∙ found.1)) in
    find_other c.args.claim.offset.0 c.args.claim.grant (entries_of l) l.rising i found.0 found.1
    (λ e.
    let valued = eq-eqb c.claim.result.offset.0 c.args.claim.offset.0 (c.claim.ensures.0 ∙ (sym (ap (λ (e : Entry). e.value) is) ∙ e)) in
    both_ways true (c.if-ne.ensures ∙ ap not (and_from _ _ valued granted)) refl)

pub returns : goal.returns
returns c =
    let l = c.args.self.now in
    let i = c.in_ok-at.at in
    let found = c.in_ok-at.ensures in
    let is = read_at l c.deref.result.now i _ c.deref.ensures.0 found.0 in
    let same = and_parts _ _ (not_back _ c.if-ne.ensures) in
    let value = sym c.claim.ensures.0 ∙ eqb-true c.claim.result.offset.0 c.args.claim.offset.0 same.0 in
    let hit = find_hit c.args.claim.offset.0 c.args.claim.grant (entries_of l) l.rising i found.0 found.1 (ap (λ (e : Entry). e.value) is ∙ value) in
    record {
      within = found.0;
      here = is;
      value_is = value;
      grant_is = sym c.claim.ensures.1 ∙ eqb-true c.claim.result.grant c.args.claim.grant same.1;
      found = hit.0 ∙ ap Some is;
      rest = hit.1;
    }
