-- The chunk is the last of the ledger, and its segment counts one more.
use Rattle.std.proofs.Common.{ℕ, ◌+◌, ◌≤◌, List, [], ◌∷◌, ◌++◌, is_some, sym, refl, ap, ap₂, ◌∙◌, subst, le_refl, arith}
use Rattle.pointer_offset.specs.Packing.{packed}
use Rattle.resizable_shared_memory.specs.Entries.{Entry, GrantedUpTo}
use Rattle.resizable_shared_memory.specs.Ledgers.{entries_of}
use Rattle.resizable_shared_memory.specs.Places.{count_of}
use Rattle.resizable_shared_memory.proofs.Listing.{each_push}
use Rattle.resizable_shared_memory.proofs.Tallying.{tally_le}
use Rattle.resizable_shared_memory.proofs.Withdrawing.{mapped_below, ahead_others, busy_put, counted_more}
use Rattle.resizable_shared_memory.proofs.memory.Tables.enter.Goals as goal

pub push-requires : goal.push-requires
push-requires c =
    let m = c.args.self.now in
    record { room = c.requires.room; newest = λ i h. omega (arith, m.granted i h) }

pub overflow_add-place : goal.overflow_add-place
overflow_add-place c =
    let m = c.args.self.now in
    let i = m.current.0 in
    omega (arith, m.counted i, ap count_of c.mapped-place.ensures, tally_le i (entries_of m.ledger), c.requires.room)

pub invariant_of-self : goal.invariant_of-self
invariant_of-self c =
    let m = c.args.self.now in
    let i = m.current.0 in
    let es = entries_of m.ledger in
    let new : Entry = record { value = packed c.args.start i; grant = m.given + 1; size = c.args.size } in
    let others = c.put.ensures.others in
    record {
      mapped = ap is_some c.put.ensures.here;
      ahead = ahead_others m.table c.put.new.self i i (le_refl i) others m.ahead;
      busy = busy_put m.table c.put.new.self i others m.busy;
      counted = counted_more m.table c.put.new.self es _ i _ _ new c.push.ensures (omega (arith, mapped_below m.table i m.mapped)) (c.mapped-place.ensures) c.put.ensures c.with_count.ensures.3 m.counted;
      granted = subst (λ fs. GrantedUpTo fs (m.given + 1)) (sym c.push.ensures) (each_push es new (λ e. e.grant ≤ m.given + 1) (λ k h. omega (arith, m.granted k h)) (omega arith));
    }

pub returns : goal.returns
returns c =
    let m = c.args.self.now in
    let with_claim : ℕ → ℕ → List Entry = λ v g. entries_of m.ledger ++ ((record { value = v; grant = g; size = c.args.size }) ∷ []) in
    record {
      there = c.mapped-place.result;
      was = c.mapped-place.ensures;
      value = c.claim.ensures.0;
      address = refl;
      grant = c.claim.ensures.1;
      grants = refl;
      ledger = c.push.ensures ∙ ap₂ with_claim (sym c.claim.ensures.0) (sym c.claim.ensures.1);
      counted = c.with_count.result;
      is_counted = c.put.ensures.here;
      numbers = c.with_count.ensures;
      others = c.put.ensures.others;
      stays = refl;
      kept = record { base = refl; strategy = refl; management = refl };
    }
