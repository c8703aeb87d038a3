-- What a segment store means, and what each of its calls does.
use Rattle.std.specs.Prelude.{◌≡◌, ℕ, ◌+◌, ◌-◌, ◌%◌, ◌^◌, ◌<◌, ◌≤◌, Bool, true, false, ◌⊎◌, List, [], ◌∷◌, ◌++◌, length, take, drop, replicate, Some, None, Ok, Err, Option, Result, ◌≢◌}
use Rattle.shared_memory.specs.declared.opened.Opened.{Opened}
use Rattle.shared_memory.specs.declared.fault.SharedMemoryCreateError.{SharedMemoryCreateError}
use Rattle.shared_memory.specs.declared.fault.SharedMemoryCreateError.TheVariants as create
use Rattle.shared_memory.specs.declared.fault.SharedMemoryOpenError.{SharedMemoryOpenError}
use Rattle.shared_memory.specs.declared.fault.SharedMemoryOpenError.TheVariants as opening
use Rattle.shared_memory.specs.declared.fault.AccessError.{AccessError}
use Rattle.shared_memory.specs.declared.fault.AccessError.TheVariants as access
use Rattle.shared_memory.specs.declared.fault.BadHandle.{BadHandle}

-- The number of each denial of a make.
abbrev pub create_number : SharedMemoryCreateError → ℕ
create_number create.BadName = 2
create_number create.SizeIsZero = 25
create_number create.AlreadyExists = 24
create_number create.InternalError = 26

-- The number of each denial of an open.
abbrev pub open_number : SharedMemoryOpenError → ℕ
open_number opening.BadName = 2
open_number opening.DoesNotExist = 27
open_number opening.InternalError = 29

-- The number of each denial of a read or a write.
abbrev pub access_number : AccessError → ℕ
access_number access.BadHandle = 17
access_number access.OutsidePayload = 5

-- The number of a handle that is denied.
abbrev pub handle_number : BadHandle → ℕ
handle_number e = 17

-- A segment: its name until that is withdrawn, the id of the allocator it was made for, its payload
-- bytes, its start address and how often it is mapped.
pub record Segment : Type 0 where
  pub name : Option (List ℕ)
  pub kind : ℕ
  pub bytes : List ℕ
  pub address : ℕ
  pub maps : ℕ

-- A store: the segment under each handle, whether there is room for a size once the segments under a list of
-- handles have ceased, one after the other (none: the room there is now), and whether there will be room for a
-- size once a segment of another size has been made.
pub record Store : Type 0 where
  pub at : ℕ → Option Segment
  pub room_without : List ℕ → ℕ → Bool
  pub room_with : ℕ → ℕ → Bool

-- Whether there is room for a size.
abbrev pub room : Store → ℕ → Bool
room s size = s.room_without [] size

-- Two segments have no byte in common, counted from their start addresses.
abbrev pub Apart : Segment → Segment → Type 0
Apart g k = (g.address + length g.bytes ≤ k.address) ⊎ (k.address + length k.bytes ≤ g.address)

-- A segment's name: 1 to 32 bytes.
abbrev pub GoodName : List ℕ → Type 0
GoodName n = (1 ≤ length n) × (length n ≤ 32)

-- A start address: a multiple of 4,096 below 2^63.
abbrev pub GoodAddress : ℕ → Type 0
GoodAddress a = (a % 4096 ≡ 0) × (a < 2 ^ 63)

-- What holds of a store from its construction on: an empty store is sound, and every call keeps it.
pub record Sound (s : Store) : Type 0 where
  pub handle : (h : ℕ) (g : Segment) → s.at h ≡ Some g → h < 320
  pub address : (h : ℕ) (g : Segment) → s.at h ≡ Some g → GoodAddress g.address
  pub apart : (h k : ℕ) (g f : Segment) → (h ≢ k) → s.at h ≡ Some g → s.at k ≡ Some f → Apart g f
  pub names : (h k : ℕ) (g f : Segment) (n : List ℕ) → s.at h ≡ Some g → s.at k ≡ Some f → g.name ≡ Some n → f.name ≡ Some n → h ≡ k
  pub good_name : (h : ℕ) (g : Segment) (n : List ℕ) → s.at h ≡ Some g → g.name ≡ Some n → GoodName n
  pub lives : (h : ℕ) (g : Segment) → s.at h ≡ Some g → g.name ≡ None → 1 ≤ g.maps
  pub sized : (h : ℕ) (g : Segment) → s.at h ≡ Some g → 1 ≤ length g.bytes
  pub maps : (h : ℕ) (g : Segment) → s.at h ≡ Some g → g.maps ≤ 65535
  pub leaves_room : (h : ℕ) (g : Segment) → s.at h ≡ Some g → s.room_without (h ∷ []) (length g.bytes) ≡ true

-- No segment stands.
abbrev pub Empty : Store → Type 0
Empty s = (h : ℕ) → s.at h ≡ None

-- The same segments and the same room.
pub record SameSegmentsAndRoom (s t : Store) : Type 0 where
  pub at : (h : ℕ) → t.at h ≡ s.at h
  pub room_without : (hs : List ℕ) (size : ℕ) → t.room_without hs size ≡ s.room_without hs size

-- And, since nothing was made and nothing ceased, the same room with one segment more: what a denied call leaves.
pub record Same (s t : Store) : Type 0 where
  pub at : (h : ℕ) → t.at h ≡ s.at h
  pub room_without : (hs : List ℕ) (size : ℕ) → t.room_without hs size ≡ s.room_without hs size
  pub room_with : (made size : ℕ) → t.room_with made size ≡ s.room_with made size

-- Nothing was made and nothing ceased: of the segments, only the one under h may have changed, and is now g.
pub record Changes (s : Store) (h : ℕ) (g : Segment) (t : Store) : Type 0 where
  pub here : t.at h ≡ Some g
  pub others : (k : ℕ) → (k ≢ h) → t.at k ≡ s.at k
  pub room_without : (hs : List ℕ) (size : ℕ) → t.room_without hs size ≡ s.room_without hs size
  pub room_with : (made size : ℕ) → t.room_with made size ≡ s.room_with made size

-- The segment under h ceased.
pub record Ceases (s : Store) (h : ℕ) (t : Store) : Type 0 where
  pub here : t.at h ≡ None
  pub others : (k : ℕ) → (k ≢ h) → t.at k ≡ s.at k
  pub room_without : (hs : List ℕ) (size : ℕ) → t.room_without hs size ≡ s.room_without (h ∷ hs) size
  pub sound : Sound s → Sound t

-- A segment of the name n stands.
abbrev pub Named : Store → List ℕ → Type 0
Named s n = (h : ℕ) × (g : Segment) × (s.at h ≡ Some g) × (g.name ≡ Some n)

-- A segment of zeros was made, and mapped once.
pub record Made (s : Store) (n : List ℕ) (size kind : ℕ) (o : Opened) (t : Store) : Type 0 where
  pub good_name : GoodName n
  pub sized : 1 ≤ size
  pub new_name : Named s n → ⊥
  pub had_room : room s size ≡ true
  pub was_free : s.at o.handle ≡ None
  pub here : t.at o.handle ≡ Some (record { name = Some n; kind = kind; bytes = replicate size 0; address = o.address; maps = 1 })
  pub handle : o.handle < 320
  pub address : GoodAddress o.address
  pub kind_told : o.allocator_id ≡ kind
  pub others : (k : ℕ) → (k ≢ o.handle) → t.at k ≡ s.at k
  pub undone : (hs : List ℕ) (z : ℕ) → t.room_without (o.handle ∷ hs) z ≡ s.room_without hs z
  pub next_room : (z : ℕ) → room t z ≡ s.room_with size z
  pub sound : Sound s → Sound t

-- Why a make is denied, by the number of the denial.
pub data MakeDenied (s : Store) (n : List ℕ) (size : ℕ) : ℕ → Type 0 where
  bad_name : (GoodName n → ⊥) → MakeDenied s n size 2
  size_zero : GoodName n → size ≡ 0 → MakeDenied s n size 25
  name_stands : GoodName n → 1 ≤ size → Named s n → MakeDenied s n size 24
  no_room : GoodName n → 1 ≤ size → (Named s n → ⊥) → room s size ≡ false → MakeDenied s n size 26

-- What a make does.
abbrev pub Makes : Store → List ℕ → ℕ → ℕ → Result Opened SharedMemoryCreateError → Store → Type 0
Makes s n size kind (Err e) t = MakeDenied s n size (create_number e) × Same s t
Makes s n size kind (Ok o) t = Made s n size kind o t

-- A segment with a map more.
abbrev pub mapped : Segment → Segment
mapped g = record { name = g.name; kind = g.kind; bytes = g.bytes; address = g.address; maps = g.maps + 1 }

-- A segment with a map less.
abbrev pub unmapped : Segment → Segment
unmapped g = record { name = g.name; kind = g.kind; bytes = g.bytes; address = g.address; maps = g.maps - 1 }

-- A segment without its name, and with a map less where one is left.
abbrev pub nameless : Segment → Segment
nameless g = record { name = None; kind = g.kind; bytes = g.bytes; address = g.address; maps = g.maps - 1 }

-- The segment of the name n has a map more.
pub record MapsMore (s : Store) (n : List ℕ) (o : Opened) (t : Store) : Type 0 where
  pub segment : Segment
  pub found : s.at o.handle ≡ Some segment
  pub name : segment.name ≡ Some n
  pub few : segment.maps < 65535
  pub address : o.address ≡ segment.address
  pub good_address : GoodAddress o.address
  pub kind : o.allocator_id ≡ segment.kind
  pub changes : Changes s o.handle (mapped segment) t

-- Why an open is denied, by the number of the denial.
pub data OpenDenied (s : Store) (n : List ℕ) : ℕ → Type 0 where
  bad_name : (GoodName n → ⊥) → OpenDenied s n 2
  no_such_name : GoodName n → (Named s n → ⊥) → OpenDenied s n 27
  all_mapped : GoodName n → (h : ℕ) (g : Segment) → s.at h ≡ Some g → g.name ≡ Some n → 65535 ≤ g.maps → OpenDenied s n 29

-- What an open does.
abbrev pub Opens : Store → List ℕ → Result Opened SharedMemoryOpenError → Store → Type 0
Opens s n (Err e) t = OpenDenied s n (open_number e) × Same s t
Opens s n (Ok o) t = GoodName n × MapsMore s n o t

-- What stands after a name or a map was taken: the segment g, or nothing where g has neither.
pub data Left (s : Store) (h : ℕ) (g : Segment) (t : Store) : Bool → Type 0 where
  stands : ((g.name ≡ None) × (g.maps ≡ 0) → ⊥) → Changes s h g t → Left s h g t true
  ceased : g.name ≡ None → g.maps ≡ 0 → Ceases s h t → Left s h g t false

-- The segment under h has a name.
abbrev pub HasName : Store → ℕ → Type 0
HasName s h = (g : Segment) × (n : List ℕ) × (s.at h ≡ Some g) × (g.name ≡ Some n)

-- The segment under h is mapped.
abbrev pub HasMap : Store → ℕ → Type 0
HasMap s h = (g : Segment) × (s.at h ≡ Some g) × (1 ≤ g.maps)

-- What a withdraw does.
abbrev pub Withdraws : Store → ℕ → Result Bool BadHandle → Store → Type 0
Withdraws s h (Err e) t = (handle_number e ≡ 17) × (HasName s h → ⊥) × Same s t
Withdraws s h (Ok still) t = (g : Segment) × (n : List ℕ) × (s.at h ≡ Some g) × (g.name ≡ Some n) × Left s h (nameless g) t still

-- What a close does.
abbrev pub Closes : Store → ℕ → Result Bool BadHandle → Store → Type 0
Closes s h (Err e) t = (handle_number e ≡ 17) × (HasMap s h → ⊥) × Same s t
Closes s h (Ok still) t = (g : Segment) × (s.at h ≡ Some g) × (1 ≤ g.maps) × Left s h (unmapped g) t still

-- So many of the bytes, from a place on.
abbrev pub part : List ℕ → ℕ → ℕ → List ℕ
part bytes from size = take size (drop from bytes)

-- The bytes, with new ones set from a place on.
abbrev pub patched : List ℕ → ℕ → List ℕ → List ℕ
patched bytes from new = take from bytes ++ (new ++ drop (from + length new) bytes)

-- A segment with other bytes.
abbrev pub filled : Segment → List ℕ → Segment
filled g bytes = record { name = g.name; kind = g.kind; bytes = bytes; address = g.address; maps = g.maps }

-- Why a read or a write of `size` bytes from a place on is denied, by the number of the denial.
pub data AccessDenied (s : Store) (h from size : ℕ) : ℕ → Type 0 where
  bad_handle : s.at h ≡ None → AccessDenied s h from size 17
  outside : (g : Segment) → s.at h ≡ Some g → length g.bytes < from + size → AccessDenied s h from size 5

-- What a read does; `before` and `after` are the caller's buffer.
abbrev pub Reads : Store → ℕ → ℕ → List ℕ → Result (Unit {0}) AccessError → List ℕ → Type 0
Reads s h from before (Err e) after = AccessDenied s h from (length before) (access_number e) × (after ≡ before)
Reads s h from before (Ok done) after = (g : Segment) × (s.at h ≡ Some g) × (from + length before ≤ length g.bytes) × (after ≡ part g.bytes from (length before))

-- What a write does.
abbrev pub Writes : Store → ℕ → ℕ → List ℕ → Result (Unit {0}) AccessError → Store → Type 0
Writes s h from new (Err e) t = AccessDenied s h from (length new) (access_number e) × Same s t
Writes s h from new (Ok done) t = (g : Segment) × (s.at h ≡ Some g) × (from + length new ≤ length g.bytes) × Changes s h (filled g (patched g.bytes from new)) t

-- How many bytes the segment under a handle has, where one stands.
abbrev pub size_at : Store → ℕ → Option ℕ
size_at s h = elim (s.at h) [ None ↦ None | Some g ↦ Some (length g.bytes) ]
