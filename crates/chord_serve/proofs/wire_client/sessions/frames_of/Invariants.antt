use Rattle.std.proofs.Common.{◌≡◌, take}
use Rattle.std.specs.List.{flat_map}
use Rattle.chord_wire.specs.Streams.{request_frame}
use Rattle.chord_serve.proofs.wire_client.sessions.frames_of.Given as goal

abbrev pub invariant-loop-wire : goal.invariant-loop-wire
invariant-loop-wire l = l.frames.items ≡ flat_map request_frame (take l.wire-index l.wires)
