-- Each turn adds the handle of a place, if it is mapped.
use Rattle.std.proofs.Common.{◌≡◌, ◌<◌, ◌++◌, length, None, ℕ, refl, sym, ap, ◌∙◌, subst, arith}
use Rattle.arrayvec.specs.ArrayVec.{ArrayVec}
use Rattle.std.proofs.lemmas.List.{get_or_default, at_drop_all, append-nil}
use Rattle.resizable_shared_memory.specs.Places.{handles}
use Rattle.resizable_shared_memory.proofs.Counting.{passed_empty, passed_mapped}
use Rattle.resizable_shared_memory.proofs.table.Table.handles.Goals as goal
use Rattle.resizable_shared_memory.proofs.table.Table.handles.Goals.{in-Some, in_default}

pub loop-place-preserved : goal.loop-place-preserved
loop-place-preserved c =
    let ps = c.args.self.now.places in
    let i = c.loop-place.place-index in
    let within : i < length ps = omega arith in
    let same = get_or_default ps i None c.place-item.result within in
    let (so_far, few) = c.loop-place.invariant in
    elim c.match-place.branch [
      | in-Some w ↦
          let items = ap (λ (v : ArrayVec ℕ). v.items) w.handles-is ∙ w.push.ensures.items in
          (passed_mapped ps i _ within refl w.in-Some.place (same ∙ w.in-Some.is) _ _ items so_far, omega (arith, ap (λ (v : ArrayVec ℕ). length v.items) w.handles-is, w.push.ensures.len, few))
      | in_default w ↦
          let items = ap (λ (v : ArrayVec ℕ). v.items) w.handles-is in
          (rw items (passed_empty ps i _ within refl (same ∙ w.in_default.is) _ so_far), omega (arith, ap length items, few))
    ]

pub returns : goal.returns
returns c = sym (append-nil _) ∙ subst (λ hs. c.loop-place.handles.items ++ hs ≡ handles c.args.self.now.places) (at_drop_all handles c.args.self.now.places c.loop-place.place-index (omega arith)) c.loop-place.invariant.0
