-- How the command ends by a fault. Source: our own.
use Rattle.std.specs.Prelude.{◌≡◌, ◌⊎◌, ℕ, Bool, true, false, Result, Ok, Err}
use Rattle.chord_app_text.specs.declared.finish.Finish.{Finish}
use Rattle.chord_app_text.specs.declared.finish.Finish.TheVariants as End
use Rattle.chord_app_text.specs.declared.finish.Fault.TheVariants as Fault
use Rattle.chord_app_ring.specs.declared.fault.RingFault.{RingFault}
use Rattle.chord_app_ring.specs.declared.fault.RingFault.TheVariants.{Connect, Lost, NotUnderstood, Refused, ServerMemory, Memory}
use Rattle.chord_app_ring.specs.declared.dumping.DumpFault.{DumpFault}
use Rattle.chord_app_ring.specs.declared.dumping.DumpFault.TheVariants.{Ring, UnderWay, Write, Memory}

-- how the command ends at this port
abbrev pub finish_of : ℕ → RingFault → Finish
finish_of port (Connect reason) = End.Fault (Fault.Connect port reason)
finish_of port Lost = End.Fault Fault.Lost
finish_of port NotUnderstood = End.Fault Fault.Answer
finish_of port (Refused text) = End.Refused
finish_of port ServerMemory = End.Refused
finish_of port Memory = End.OutOfMemory

-- how the command `dump` ends
abbrev pub dump_finish_of : ℕ → DumpFault → Finish
dump_finish_of port (Ring fault) = finish_of port fault
dump_finish_of port UnderWay = End.Fault Fault.UnderWay
dump_finish_of port Write = End.Fault Fault.Write
dump_finish_of port Memory = End.OutOfMemory

-- how a copy ends: done, or with what it passed over, or by its fault, unless that is not written
abbrev pub EndsSo : ℕ → Result Bool DumpFault → Result Finish Finish → Type 0
EndsSo port (Ok false) result = result ≡ Ok End.Done
EndsSo port (Ok true) result = result ≡ Err (End.Fault Fault.PassedOver)
EndsSo port (Err fault) result = (result ≡ Err (dump_finish_of port fault)) ⊎ (result ≡ Err (End.Fault Fault.Write))
