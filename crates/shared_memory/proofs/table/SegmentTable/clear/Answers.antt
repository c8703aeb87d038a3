use Rattle.std.proofs.Common.{ℕ, replicate, refl, arith}
use Rattle.std.proofs.lemmas.List.{length-replicate}
use Rattle.shared_memory.proofs.Overwriting.{zeros_in}
use Rattle.shared_memory.proofs.Tabled.{stored_bytes, stored_facts}
use Rattle.shared_memory.proofs.table.SegmentTable.clear.Goals as goal

pub invariant_of-self : goal.invariant_of-self
invariant_of-self c =
    let n = c.args.size in
    let zeros = zeros_in c.deref_mut.result.now c.fill.new.self c.args.at n (omega (arith, c.requires, c.deref_mut.ensures.len)) (c.fill.ensures.after (λ y q. q)) in
    stored_facts c.args.self.now c.deref_mut.result.now c.fill.new.self (replicate n 0) c.args.at _ c.deref_mut.ensures.value zeros (omega (arith, length-replicate {A = ℕ} n 0)) (omega (arith, c.requires))

pub returns : goal.returns
returns c =
    let n = c.args.size in
    let zeros = zeros_in c.deref_mut.result.now c.fill.new.self c.args.at n (omega (arith, c.requires, c.deref_mut.ensures.len)) (c.fill.ensures.after (λ y q. q)) in
    record { slots = refl; bytes = stored_bytes c.args.self.now c.deref_mut.result.now c.fill.new.self (replicate n 0) c.args.at _ c.deref_mut.ensures.value zeros (omega (arith, length-replicate {A = ℕ} n 0)) (omega (arith, c.requires)) }
