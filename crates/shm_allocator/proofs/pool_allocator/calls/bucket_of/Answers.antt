use Rattle.std.proofs.Common.{◌≡◌, ℕ, ◌/◌, Bool, false, ◌&&◌, leb, sym, ap, ◌∙◌, ap₂, arith, rules}
use Rattle.std.proofs.lemmas.Bool.{and_from, le-leb}
use Rattle.shm_allocator.specs.Numbers.{rounded_up}
use Rattle.shm_allocator.specs.Pool.{pool_possible, bucket_size_of, bucket_count}
use Rattle.shm_allocator.proofs.Validity.{valid_holds, accepted, turned_away}
use Rattle.shm_allocator.proofs.pool_allocator.calls.bucket_of.Goals as goal

pub returns-in_err-ok : goal.returns-in_err-ok
returns-in_err-ok c =
    let l = c.args.config.bucket_layout in
    let f : pool_possible c.args.config c.args.payload ≡ false
    = ap (λ (x : Bool). x && (leb l.align 4096 && leb (bucket_count c.args.config c.args.payload) 1024)) (turned_away l c.try_from.result c.try_from.ensures (sym c.ok.ensures.value ∙ c.in_err-ok.was)) in
    search rules

pub returns : goal.returns
returns c =
    let l = c.args.config.bucket_layout in
    let v = accepted l c.try_from.result c.in_ok-ok.field-0 c.try_from.ensures (sym c.ok.ensures.value ∙ c.in_ok-ok.was) in
    let size : c.rounded-bucket.result.size ≡ bucket_size_of c.args.config = c.rounded-bucket.ensures.0 ∙ ap₂ rounded_up v.1 v.2 in
    let align : c.rounded-bucket.result.align ≡ l.align = c.rounded-bucket.ensures.1 ∙ v.2 in
    let few : c.args.payload / c.size.result ≡ bucket_count c.args.config c.args.payload = ap (λ (x : ℕ). c.args.payload / x) (c.size.ensures.value ∙ size) in
    (and_from _ _ (valid_holds l.size l.align v.0) (and_from _ _ (le-leb l.align 4096 (omega arith)) (le-leb (bucket_count c.args.config c.args.payload) 1024 (omega arith))), size, align)
