-- How a command ends.
use Rattle.std.specs.Prelude.{ℕ}
use Rattle.std.specs.declared.io.ErrorKind.{ErrorKind}
use Rattle.std.specs.declared.io.ErrorKind.TheVariants as kind
use Rattle.chord_app_text.specs.declared.finish.Fault.TheVariants as fault_of
use Rattle.chord_app_text.specs.declared.finish.Finish.{Finish}
use Rattle.chord_app_text.specs.declared.finish.Finish.TheVariants as finish

-- the exit status
abbrev pub status_of : Finish → ℕ
status_of finish.Done = 0
status_of (finish.Fault fault) = 1
status_of finish.BadPlan = 1
status_of finish.Refused = 1
status_of finish.BadCommandLine = 2
status_of finish.OutOfMemory = 3

-- how a command ends where a write failed for this reason: only a lack of memory is told as that
abbrev pub finish_of_kind : ErrorKind → Finish
finish_of_kind kind.OutOfMemory = finish.OutOfMemory
finish_of_kind _ = finish.Fault fault_of.Write
