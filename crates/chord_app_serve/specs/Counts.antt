-- How connections that ended are counted, and which of them were refused a session. Source: our own.
use Rattle.std.specs.Prelude.{ℕ, ◌+◌, ◌-◌, ◌^◌, min, Bool, true, false}
use Rattle.chord_app_operator.specs.declared.sight.traffic.EndCounts.{EndCounts}
use Rattle.chord_app_sockets.specs.declared.ended.Ended.{Ended}
use Rattle.chord_app_sockets.specs.declared.ended.Ended.TheVariants as end
use Rattle.chord_serve.specs.declared.served.Served.{Served}
use Rattle.chord_serve.specs.declared.served.Served.TheVariants as served
use Rattle.chord_wire.specs.declared.fault.FaultCode.TheVariants as fault

-- one more, at most 2^64 - 1
abbrev pub one_more : ℕ → ℕ
one_more count = min (count + 1) (2 ^ 64 - 1)

-- the counts with one more connection that was served and ended so
abbrev pub with_served : Served → EndCounts → EndCounts
with_served served.Ended c = record c { ended = one_more c.ended }
with_served served.Quit c = record c { ended = one_more c.ended }
with_served served.Truncated c = record c { truncated = one_more c.truncated }
with_served (served.Malformed code) c = record c { malformed = one_more c.malformed }
with_served served.Protocol c = record c { protocol = one_more c.protocol }
with_served served.Foreign c = record c { protocol = one_more c.protocol }
with_served served.Read c = record c { read = one_more c.read }
with_served served.Write c = record c { write = one_more c.write }
with_served served.TurnsSpent c = record c { turns_spent = one_more c.turns_spent }
with_served served.Memory c = record c { memory = one_more c.memory }

-- the counts with one more connection that ended so
abbrev pub with_end : Ended → EndCounts → EndCounts
with_end (end.Served how) c = with_served how c
with_end end.CallersSpent c = record c { callers_spent = one_more c.callers_spent }
with_end end.Idle c = record c { idle = one_more c.idle }
with_end end.NotAccepted c = record c { read = one_more c.read }

-- its client began a session that is known, or went on with one that is not kept
abbrev pub is_refusal : Ended → Bool
is_refusal (end.Served (served.Malformed fault.SessionKnown)) = true
is_refusal (end.Served (served.Malformed fault.NoSession)) = true
is_refusal ended = false
