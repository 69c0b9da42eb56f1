-- Which messages may add to a journal. Source: our own.
use Rattle.std.specs.Prelude.{Bool, true, false}
use Rattle.chord_map.specs.declared.request.Request.{Request}
use Rattle.chord_map.specs.declared.request.Request.TheVariants.{Insert, Retrieve, Remove}
use Rattle.chord_model.specs.declared.message.Message.{Message}
use Rattle.chord_model.specs.declared.message.Message.TheVariants.{Ask}

-- an insert or a remove
abbrev pub is_change : Request → Bool
is_change (Insert key value) = true
is_change (Retrieve key) = false
is_change (Remove key value) = true

-- the message asks for one
abbrev pub asks_change : Message → Bool
asks_change (Ask ask) = is_change ask.request
asks_change message = false
