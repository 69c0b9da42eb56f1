-- A call, and the identifier of its key.
use Rattle.std.specs.Prelude.{◌≡◌, ℕ}
use Rattle.chord_model.specs.declared.message.Message.{Message}
use Rattle.chord_model.specs.declared.message.Message.TheVariants.{Ask as AskMessage}
use Rattle.chord_segment.specs.Segment.{id_of}

-- the identifier of the key if the message is a call, and this number for any other message
abbrev pub key_id_or : ℕ → Message → ℕ
key_id_or number (AskMessage ask) = id_of ask.request
key_id_or number message = number

-- the identifier is that of the message's key, if the message is a call
abbrev pub IsKeyId : ℕ → Message → Type 0
IsKeyId id message = id ≡ key_id_or id message
