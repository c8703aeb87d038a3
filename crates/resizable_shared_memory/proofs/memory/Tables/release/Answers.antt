-- The chunk was counted in its segment, and is no more.
use Rattle.std.proofs.Common.{◌≡◌, ℕ, ◌+◌, ◌≤◌, sym, refl, ap, ◌∙◌, subst, subst₂}
use Rattle.pointer_offset.specs.Packing.{id_of}
use Rattle.resizable_shared_memory.specs.Entries.{entry, without, tally, GrantedUpTo}
use Rattle.resizable_shared_memory.specs.Ledgers.{entries_of}
use Rattle.resizable_shared_memory.specs.Withdrawals.{Lowers}
use Rattle.resizable_shared_memory.proofs.Listing.{each_removed}
use Rattle.resizable_shared_memory.proofs.Tallying.{one}
use Rattle.resizable_shared_memory.proofs.Withdrawing.{tally_less, counted_there, within_ahead, ahead_others, mapped_lowered, busy_lowered, counted_lowered}
use Rattle.resizable_shared_memory.proofs.memory.Tables.release.Goals as goal

pub lower-requires : goal.lower-requires
lower-requires g c =
    let m = c.args.self.now in
    counted_there m.ledger _ _ _ _ c.in_ok-at.ensures m.table _ c.segment_id.ensures m.counted

pub invariant_of-self : goal.invariant_of-self
invariant_of-self g c =
    let m = c.args.self.now in
    let es = entries_of m.ledger in
    let u = c.lower.new.self in
    let k = c.segment_id.result.0 in
    let i = m.current.0 in
    let at = c.in_ok-at.at in
    let x = entry c.in_ok-at.held in
    let lists = c.in_ok-at.ensures in
    let some = counted_there m.ledger _ _ _ _ lists m.table k c.segment_id.ensures m.counted in
    let lowers = c.lower.ensures in
    let rest = c.remove.ensures in
    let less : (j : ℕ) → tally j es ≡ tally j (entries_of c.remove.new.self) + one j x =
    λ j. tally_less m.ledger _ _ _ _ lists j ∙ ap (λ fs. tally j fs + one j x) (sym rest) in
    record {
      mapped = mapped_lowered m.table u i k _ _ lowers some m.mapped;
      ahead = ahead_others m.table u k i (within_ahead m.table k i some m.ahead) lowers.others m.ahead;
      busy = busy_lowered m.table u i k _ _ lowers some m.busy;
      counted = counted_lowered m.table u i k _ _ lowers some es _ x less (ap id_of lists.value_is ∙ sym c.segment_id.ensures) m.counted;
      granted = subst (λ fs. GrantedUpTo fs m.given) (sym rest) (each_removed es at lists.within (λ e. e.grant ≤ m.given) m.granted);
    }

pub returns : goal.returns
returns g c =
    let m = c.args.self.now in
    let es = entries_of m.ledger in
    let lists = c.in_ok-at.ensures in (
      lists.found,
      record {
        lowers = subst (λ (k : ℕ). Lowers m.table m.current.0 k (g.S.SegmentStore.means c.args.store.now) c.lower.new.self (g.S.SegmentStore.means c.lower.new.store))
            (c.segment_id.ensures ∙ ap id_of (sym lists.value_is)) c.lower.ensures;
        ledger = subst₂ (λ (v h : ℕ). entries_of c.remove.new.self ≡ without v h es) (sym lists.value_is) (sym lists.grant_is) (c.remove.ensures ∙ sym lists.rest);
        grants = refl;
        stays = refl;
        kept = record { base = refl; strategy = refl; management = refl };
      },
    )
