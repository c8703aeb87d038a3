-- The numbers of the denials of a viewer.
use Rattle.std.specs.Prelude.{ℕ}
use Rattle.shared_memory.specs.Meaning.{open_number}
use Rattle.resizable_shared_memory.specs.declared.view.fault.OpenForError.{OpenForError}
use Rattle.resizable_shared_memory.specs.declared.view.fault.OpenForError.TheVariants as opening_for
use Rattle.resizable_shared_memory.specs.declared.view.fault.RegisterError.{RegisterError}
use Rattle.resizable_shared_memory.specs.declared.view.fault.RegisterError.TheVariants as registering
use Rattle.resizable_shared_memory.specs.declared.view.fault.UnregisterError.{UnregisterError}
use Rattle.resizable_shared_memory.specs.declared.view.fault.UnregisterError.TheVariants as unregistering
use Rattle.resizable_shared_memory.specs.declared.view.fault.ViewCloseError.{ViewCloseError}
use Rattle.resizable_shared_memory.specs.declared.view.fault.ViewOpenError.{ViewOpenError}
use Rattle.resizable_shared_memory.specs.declared.view.fault.ViewOpenError.TheVariants as opening
use Rattle.resizable_shared_memory.specs.declared.view.fault.ViewerClosed.{ViewerClosed}

-- The number of each denial of an opening for an allocator; those from below keep theirs.
abbrev pub open_for_number : OpenForError → ℕ
open_for_number opening_for.WrongAllocatorSelected = 28
open_for_number (opening_for.SharedMemoryOpenError e) = open_number e

-- The number of each denial of an opening; those from below keep theirs.
abbrev pub view_open_number : ViewOpenError → ℕ
view_open_number opening.BadName = 2
view_open_number opening.WrongAllocatorSelected = 28
view_open_number (opening.SharedMemoryOpenError e) = open_number e

-- The number of each denial of a registration.
abbrev pub register_number : RegisterError → ℕ
register_number registering.ViewerClosed = 18
register_number registering.RegistrationsFull = 16
register_number registering.WrongAllocatorSelected = 28
register_number (registering.SharedMemoryOpenError e) = open_number e

-- The number of each denial of a return.
abbrev pub unregister_number : UnregisterError → ℕ
unregister_number unregistering.ViewerClosed = 18
unregister_number unregistering.NotMapped = 14
unregister_number unregistering.NotRegistered = 15

-- The number of a call of a closed viewer.
abbrev pub viewer_closed_number : ViewerClosed → ℕ
viewer_closed_number e = 18

-- The number of a close that is denied.
abbrev pub close_number : ViewCloseError → ℕ
close_number e = 18
