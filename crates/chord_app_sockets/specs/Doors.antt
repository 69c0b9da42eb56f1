-- The doors of a server. Source: our own.
use Rattle.std.specs.Prelude.{Option, Some, None}
use Rattle.chord_app_sockets.specs.declared.doors.Door.{Door}
use Rattle.chord_app_sockets.specs.declared.doors.Doors.{Doors}
use Rattle.chord_app_sockets.specs.declared.doors.Doors.TheVariants as doors
use Rattle.chord_app_sockets.specs.declared.doors.Protocol.TheVariants as protocol

-- the door that there always is: that of frames, where there are both
abbrev pub first_of : Doors → Door
first_of (doors.Frames listener) = record { protocol = protocol.Frames; listener = listener }
first_of (doors.Redis listener) = record { protocol = protocol.Redis; listener = listener }
first_of (doors.Both frames redis) = record { protocol = protocol.Frames; listener = frames }

-- the other door
abbrev pub second_of : Doors → Option Door
second_of (doors.Frames listener) = None
second_of (doors.Redis listener) = None
second_of (doors.Both frames redis) = Some (record { protocol = protocol.Redis; listener = redis })
