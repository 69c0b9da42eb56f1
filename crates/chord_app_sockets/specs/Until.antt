-- What follows from when a server ends.
use Rattle.std.specs.Prelude.{ℕ, Bool, true, false, Option, Some, None}
use Rattle.chord_serve.specs.declared.read_size.ReadSize.{ReadSize}
use Rattle.chord_serve.specs.declared.read_size.ReadSize.TheVariants.{Small, Large}
use Rattle.chord_app_sockets.specs.declared.until.Until.{Until}
use Rattle.chord_app_sockets.specs.declared.until.Until.TheVariants as until

-- how many connections the server takes at most
abbrev pub most_of : Until → ℕ
most_of (until.Connections connections) = connections
most_of (until.Stopped stop limits) = 18446744073709551615

-- how many reads a connection makes at most
abbrev pub turns_of : Until → ℕ
turns_of (until.Connections connections) = 65536
turns_of (until.Stopped stop limits) = 18446744073709551615

-- how many bytes one read of a connection takes at most
abbrev pub read_size : Until → ReadSize
read_size (until.Connections connections) = Small
read_size (until.Stopped stop limits) = Large

-- for how many seconds a client may be idle, if there is a limit
abbrev pub idle_of : Until → Option ℕ
idle_of (until.Connections connections) = None
idle_of (until.Stopped stop limits) = Some limits.idle

-- for how many seconds a session without a connection is kept
abbrev pub session_seconds : Until → ℕ
session_seconds (until.Connections connections) = 600
session_seconds (until.Stopped stop limits) = limits.keep

-- how many bytes all connections may hold
abbrev pub buffers_of : Until → ℕ
buffers_of (until.Connections connections) = 268435456
buffers_of (until.Stopped stop limits) = limits.buffers

-- whether the server is one that can be stopped
abbrev pub can_be_stopped : Until → Bool
can_be_stopped (until.Connections connections) = false
can_be_stopped (until.Stopped stop limits) = true
