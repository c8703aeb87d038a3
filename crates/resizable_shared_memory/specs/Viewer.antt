-- What each call of a viewer does.
use Rattle.std.specs.Prelude.{◌≡◌, ℕ, ◌+◌, ◌-◌, ◌<◌, ◌≤◌, ◌⊎◌, List, [], ◌∷◌, ◌++◌, Some, None, Ok, Err, Option, Result, ◌≢◌}
use Rattle.pointer_offset.specs.Packing.{offset_of, id_of}
use Rattle.pointer_offset.specs.declared.segment_id.SegmentId.{SegmentId}
use Rattle.shared_memory.specs.BaseNames.{GoodBase}
use Rattle.shared_memory.specs.Meaning.{Store, Same, Opens, OpenDenied}
use Rattle.shared_memory.specs.Names.{text, segment_name, management_name}
use Rattle.shared_memory.specs.declared.opened.Opened.{Opened}
use Rattle.resizable_shared_memory.specs.Closings.{Closed, ClosesAll}
use Rattle.resizable_shared_memory.specs.Places.{place_of, handles, active, Numbers}
use Rattle.resizable_shared_memory.specs.ViewFaults.{open_for_number, view_open_number, register_number, unregister_number, viewer_closed_number, close_number}
use Rattle.resizable_shared_memory.specs.declared.table.Place.{Place}
use Rattle.resizable_shared_memory.specs.declared.view.ClosingMark.{ClosingMark}
use Rattle.resizable_shared_memory.specs.declared.view.DynamicView.{DynamicView}
use Rattle.resizable_shared_memory.specs.declared.view.OpenView.{OpenView}
use Rattle.resizable_shared_memory.specs.declared.view.ViewRecord.{ViewRecord}
use Rattle.resizable_shared_memory.specs.declared.view.fault.OpenForError.{OpenForError}
use Rattle.resizable_shared_memory.specs.declared.view.fault.RegisterError.{RegisterError}
use Rattle.resizable_shared_memory.specs.declared.view.fault.UnregisterError.{UnregisterError}
use Rattle.resizable_shared_memory.specs.declared.view.fault.ViewCloseError.{ViewCloseError}
use Rattle.resizable_shared_memory.specs.declared.view.fault.ViewOpenError.{ViewOpenError}
use Rattle.resizable_shared_memory.specs.declared.view.fault.ViewerClosed.{ViewerClosed}

-- An open viewer, as a viewer.
abbrev pub as_open : OpenView → DynamicView
as_open o = record { «open» = Some o }

-- The place of an id.
abbrev pub seen : OpenView → ℕ → Option Place
seen o k = place_of o.table k

-- The segment of the id k is the current one.
abbrev pub IsCurrent : OpenView → ℕ → Type 0
IsCurrent o k = (i : SegmentId) × (o.current ≡ Some i) × (i.0 ≡ k)

-- The handles of every map, the management segment's last.
abbrev pub every_map : OpenView → List ℕ
every_map o = handles o.table.places ++ (o.record.management ∷ [])

-- Why the segment of the name n was not opened for the allocator of an id, by the number of the denial; a map of another's is taken again.
pub data OpenForDenied (s : Store) (n : List ℕ) (kind : ℕ) : ℕ → Type 0 where
  by_store : {e : ℕ} → OpenDenied s n e → OpenForDenied s n kind e
  other_allocator : (o : Opened) (between : Store) → Opens s n (Ok o) between → (o.allocator_id ≢ kind) → OpenForDenied s n kind 28

-- The segment of the name n was opened for the allocator of an id.
abbrev pub OpenedFor : Store → List ℕ → ℕ → Opened → Store → Type 0
OpenedFor s n kind o t = Opens s n (Ok o) t × (o.allocator_id ≡ kind)

-- What came of the wish for that segment.
abbrev pub OpensFor : Store → List ℕ → ℕ → Result Opened OpenForError → Store → Type 0
OpensFor s n kind (Err e) t = OpenForDenied s n kind (open_for_number e) × Same s t
OpensFor s n kind (Ok o) t = OpenedFor s n kind o t

-- What an opening notes of the memory of the name n, whose management segment it opened.
pub record Noted (n : List ℕ) (kind : ℕ) (o : Opened) (x : ViewRecord) : Type 0 where
  pub base : text x.base ≡ n
  pub kind_is : x.allocator_id ≡ kind
  pub management : x.management ≡ o.handle

-- Why no viewer was opened, by the number of the denial.
pub data OpenViewDenied (s : Store) (n : List ℕ) (kind : ℕ) : ℕ → Type 0 where
  bad_base_name : (GoodBase n → ⊥) → OpenViewDenied s n kind 2
  no_management : {e : ℕ} → GoodBase n → OpenForDenied s (management_name n) kind e → OpenViewDenied s n kind e

-- What an opening does.
abbrev pub OpensView : List ℕ → ℕ → Store → Result (ClosingMark × ViewRecord) ViewOpenError → Store → Type 0
OpensView n kind s (Err e) t = OpenViewDenied s n kind (view_open_number e) × Same s t
OpensView n kind s (Ok x) t = GoodBase n × ((o : Opened) × OpenedFor s (management_name n) kind o t × Noted n kind o x.1)

-- The viewer that is made from a record: it is open, and nothing is mapped yet.
pub record Shows (x : ViewRecord) (w : DynamicView) : Type 0 where
  pub view : OpenView
  pub is_open : w.open ≡ Some view
  pub from : view.record ≡ x
  pub none : (k : ℕ) → seen view k ≡ None
  pub current : view.current ≡ None

-- One registration more at a mapped place, and the address of the registered value.
pub record Adds (v : OpenView) (value address : ℕ) (w : OpenView) : Type 0 where
  pub there : Place
  pub was : seen v (id_of value) ≡ Some there
  pub few : there.count < 4294967295
  pub counted : Place
  pub is : seen w (id_of value) ≡ Some counted
  pub numbers : Numbers counted there.handle there.address there.bucket_size (there.count + 1)
  pub told : address ≡ there.address + offset_of value
  pub others : (k : ℕ) → (k ≢ id_of value) → seen w k ≡ seen v k
  pub current : w.current ≡ v.current
  pub kept : w.record ≡ v.record

-- The current segment was left: closed if nothing is registered in it, and else kept.
abbrev pub Leaves : OpenView → Store → OpenView → Store → Type 0
Leaves v s w t =
    ((j : ℕ) × (p : Place) × IsCurrent v j × (seen v j ≡ Some p) × (p.count ≡ 0) × (seen w j ≡ None) × Closed s p.handle t)
    ⊎ (((j : ℕ) → IsCurrent v j → (seen w j ≡ seen v j) × ((p : Place) → seen v j ≡ Some p → 1 ≤ p.count)) × (t ≡ s))

-- And nothing else was changed.
pub record Leaving (v : OpenView) (s : Store) (w : OpenView) (t : Store) : Type 0 where
  pub leaves : Leaves v s w t
  pub others : (k : ℕ) → (IsCurrent v k → ⊥) → seen w k ≡ seen v k
  pub kept : w.record ≡ v.record

-- A first registration: the segment is opened by name and becomes current, and the one before is left.
pub record Maps (v : OpenView) (s : Store) (value address : ℕ) (w : OpenView) (t : Store) : Type 0 where
  pub absent : seen v (id_of value) ≡ None
  pub opened : Opened
  pub between : Store
  pub opens : OpenedFor s (segment_name (text v.record.base) (id_of value)) v.record.allocator_id opened between
  pub counted : Place
  pub is : seen w (id_of value) ≡ Some counted
  pub numbers : Numbers counted opened.handle opened.address 0 1
  pub told : address ≡ opened.address + offset_of value
  pub current : IsCurrent w (id_of value)
  pub leaves : Leaves v between w t
  pub others : (k : ℕ) → (k ≢ id_of value) → (IsCurrent v k → ⊥) → seen w k ≡ seen v k
  pub kept : w.record ≡ v.record

-- Why a value was not registered, by the number of the denial.
pub data RegisterDenied (value : ℕ) (v : DynamicView) (s : Store) : ℕ → Type 0 where
  viewer_closed : v.open ≡ None → RegisterDenied value v s 18
  registrations_full : (o : OpenView) (p : Place) → v.open ≡ Some o → seen o (id_of value) ≡ Some p → p.count ≡ 4294967295 → RegisterDenied value v s 16
  not_opened : {e : ℕ} (o : OpenView) → v.open ≡ Some o → seen o (id_of value) ≡ None
      → OpenForDenied s (segment_name (text o.record.base) (id_of value)) o.record.allocator_id e → RegisterDenied value v s e

-- What a registration does.
abbrev pub Registers : ℕ → DynamicView → Store → Result ℕ RegisterError → DynamicView → Store → Type 0
Registers value v s (Err e) w t = RegisterDenied value v s (register_number e) × (w ≡ v) × Same s t
Registers value v s (Ok address) w t =
    (o : OpenView) × (n : OpenView) × (v.open ≡ Some o) × (w.open ≡ Some n) × ((Adds o value address n × (t ≡ s)) ⊎ Maps o s value address n t)

-- A registration in the segment of the id k was undone: the last one closes it, unless it is the current one.
pub record Lowers (v : OpenView) (s : Store) (k : ℕ) (w : OpenView) (t : Store) : Type 0 where
  pub there : Place
  pub was : seen v k ≡ Some there
  pub some : 1 ≤ there.count
  pub lowered : ((there.count ≡ 1) × (IsCurrent v k → ⊥) × (seen w k ≡ None) × Closed s there.handle t)
      ⊎ (((1 < there.count) ⊎ IsCurrent v k) × (t ≡ s) × ((q : Place) × (seen w k ≡ Some q) × Numbers q there.handle there.address there.bucket_size (there.count - 1)))
  pub others : (j : ℕ) → (j ≢ k) → seen w j ≡ seen v j
  pub current : w.current ≡ v.current
  pub kept : w.record ≡ v.record

-- Why no registration was undone, by the number of the denial.
pub data UnregisterDenied (value : ℕ) (v : DynamicView) : ℕ → Type 0 where
  viewer_closed : v.open ≡ None → UnregisterDenied value v 18
  not_mapped : (o : OpenView) → v.open ≡ Some o → seen o (id_of value) ≡ None → UnregisterDenied value v 14
  not_registered : (o : OpenView) (p : Place) → v.open ≡ Some o → seen o (id_of value) ≡ Some p → p.count ≡ 0 → UnregisterDenied value v 15

-- What the return of a registration does.
abbrev pub Unregisters : ℕ → DynamicView → Store → Result (Unit {0}) UnregisterError → DynamicView → Store → Type 0
Unregisters value v s (Err e) w t = UnregisterDenied value v (unregister_number e) × (w ≡ v) × (t ≡ s)
Unregisters value v s (Ok done) w t = (o : OpenView) × (n : OpenView) × (v.open ≡ Some o) × (w.open ≡ Some n) × Lowers o s (id_of value) n t

-- How many segments are mapped, or that the viewer was closed.
abbrev pub TellsActive : DynamicView → Result ℕ ViewerClosed → Type 0
TellsActive v (Ok n) = (o : OpenView) × (v.open ≡ Some o) × (n ≡ active o.table.places)
TellsActive v (Err e) = (viewer_closed_number e ≡ 18) × (v.open ≡ None)

-- What a close does: every map is taken, the management segment's last.
abbrev pub ClosesView : DynamicView → Store → Result (Unit {0}) ViewCloseError → DynamicView → Store → Type 0
ClosesView v s (Ok done) w t = (o : OpenView) × (v.open ≡ Some o) × (w.open ≡ None) × ClosesAll (every_map o) s t
ClosesView v s (Err e) w t = (close_number e ≡ 18) × (v.open ≡ None) × (w ≡ v) × (t ≡ s)
