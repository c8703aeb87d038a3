use Rattle.std.proofs.Common.{get_or, refl, ap, ◌∙◌, length, arith}
use Rattle.std.proofs.lemmas.List.{length-reverse}
use Rattle.std.proofs.lemmas.List.FromFn.{length-range_with_len}
use Rattle.shm_allocator.specs.FreeLists.{flag_none, trues_none, down_all, down_length, down_at}
use Rattle.shm_allocator.proofs.buckets.Buckets.new.Goals as goal

pub push-requires : goal.push-requires
push-requires c =
    let n = length-reverse c.loop-i.free.items in
    let m = ap length c.loop-i.invariant ∙ length-range_with_len c.loop-i.i _ in
    (omega arith, omega arith)

pub invariant_of-result : goal.invariant_of-result
invariant_of-result c =
    let xs = c.loop-i.free.items in
    let n = c.args.count in
    let e = down_all n c.loop-i.i (omega arith) xs c.loop-i.invariant in
    let l = down_length xs n e in
    let at = down_at xs n e in
    record {
      long = refl;
      few = omega arith;
      inside = λ j h. let d = at j (omega arith) in omega arith;
      untaken = λ j h. flag_none 1024 (get_or xs j 0);
      apart = λ j k m h e. let p = at j (omega arith) in let q = at k (omega arith) in omega arith;
      whole = let z = trues_none 1024 in omega arith;
    }

pub returns : goal.returns
returns c = record { count = refl; list = down_all c.args.count c.loop-i.i (omega arith) c.loop-i.free.items c.loop-i.invariant; none = λ i. flag_none 1024 i }
