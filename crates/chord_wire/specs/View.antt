-- A request that borrows its frame's bytes, as the request that it spells. Source: our own.
use Rattle.chord_map.specs.declared.request.Request.{Request}
use Rattle.chord_map.specs.declared.request.Request.TheVariants as whole
use Rattle.chord_wire.specs.declared.request.RequestView.{RequestView}
use Rattle.chord_wire.specs.declared.request.RequestView.TheVariants as lent
use Rattle.chord_wire.specs.declared.request.WireRequest.{WireRequest}
use Rattle.chord_wire.specs.declared.reading.request_body.BodyView.{BodyView}

-- the request with those bytes
abbrev pub request_of : RequestView → Request
request_of (lent.Insert key value) = whole.Insert key.now value.now
request_of (lent.Retrieve key) = whole.Retrieve key.now
request_of (lent.Remove key value) = whole.Remove key.now value.now

-- the request with its version, number and floor
abbrev pub wire_request : BodyView → WireRequest
wire_request b = record { version = b.version; number = b.number; floor = b.floor; request = request_of b.request }
