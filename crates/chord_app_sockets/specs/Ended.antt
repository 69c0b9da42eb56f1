-- How a connection ends, and what follows from that. Source: our own.
use Rattle.std.specs.Prelude.{Bool, true, false}
use Rattle.chord_serve.specs.declared.served.Served.{Served}
use Rattle.chord_serve.specs.declared.served.Served.TheVariants as served
use Rattle.chord_app_sockets.specs.declared.ended.Ended.{Ended}
use Rattle.chord_app_sockets.specs.declared.ended.Ended.TheVariants as ended

-- how a connection ended whose session ended so, and whose client was idle for too long or not
abbrev pub ended_by : Served → Bool → Ended
ended_by how false = ended.Served how
ended_by how true = ended.Idle

-- whether the client may still read answers, so that its connection is closed slowly: not where
-- reading or writing failed
abbrev pub is_closed_slowly : Ended → Bool
is_closed_slowly (ended.Served served.Read) = false
is_closed_slowly (ended.Served served.Write) = false
is_closed_slowly (ended.Served how) = true
is_closed_slowly ended.Idle = false
is_closed_slowly ended.CallersSpent = true
is_closed_slowly ended.NotAccepted = false
