-- What stays of an open viewer's places while one of them is put.
use Rattle.std.proofs.Common.{◌≡◌, ℕ, true, is_some, Some, None, Option, sym, ap, ◌∙◌, subst, inl, inr}
use Rattle.std.proofs.lemmas.Bool.{both_ways}
use Rattle.shared_memory.specs.Meaning.{Store}
use Rattle.shared_memory.specs.Optional.{none_some}
use Rattle.resizable_shared_memory.specs.CurrentPlaces.{current_mapped}
use Rattle.resizable_shared_memory.specs.Places.{Put}
use Rattle.resizable_shared_memory.specs.Viewer.{as_open, seen, IsCurrent, Leaves}
use Rattle.resizable_shared_memory.specs.declared.table.Place.{Place}
use Rattle.resizable_shared_memory.specs.declared.table.Table.{Table}
use Rattle.resizable_shared_memory.specs.declared.view.DynamicView.{DynamicView}
use Rattle.resizable_shared_memory.specs.declared.view.OpenView.{OpenView}

-- What is known of a viewer that has o open is known of it as o.
pub opened_as : (v : DynamicView) {o : OpenView} → v.open ≡ Some o → v ≡ as_open o
opened_as v e = ap (λ (x : Option OpenView). let d : DynamicView = record { «open» = x } in d) e

pub put_at : {t u : Table} {i k : ℕ} {p : Option Place} → i ≡ k → Put t i p u → Put t k p u
put_at {t} {u} {i} {k} {p} e put = subst (λ (j : ℕ). Put t j p u) e put

pub current_there : (v : OpenView) (j : ℕ) → IsCurrent v j → is_some (seen v j) ≡ true
current_there v j cur = ap (λ (n : ℕ). is_some (seen v n)) (sym cur.2) ∙ (sym (ap (current_mapped v.table) cur.1) ∙ v.mapped)

-- x left v's current place, and w is x with a place put under k, which v had not mapped.
module _ (v x w : OpenView) (s t : Store) (k : ℕ) (absent : seen v k ≡ None) (others : (j : ℕ) → (j ≡ k → ⊥) → seen w j ≡ seen x j) where
  apart : (j : ℕ) (p : Place) → seen v j ≡ Some p → j ≡ k → ⊥
  apart j p was e = none_some (ap (seen v) e ∙ absent) was

  -- The current place of v is mapped, so it is not the one under k.
  not_current : (j : ℕ) → IsCurrent v j → j ≡ k → ⊥
  not_current j cur e = both_ways (is_some (seen v j)) (ap is_some (ap (seen v) e ∙ absent)) (current_there v j cur)

  pub carried : Leaves v s x t → Leaves v s w t
  carried (inl l) = inl (l.0, l.1, l.2, l.3, l.4, others l.0 (apart l.0 l.1 l.3) ∙ l.5, l.6)
  carried (inr l) = inr ((λ j cur. (others j (not_current j cur) ∙ (l.0 j cur).0, (l.0 j cur).1)), l.1)
