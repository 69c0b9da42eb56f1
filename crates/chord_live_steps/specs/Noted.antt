-- Notes among messages.
use Rattle.std.specs.Prelude.{[]}
use Rattle.chord_caller.specs.Caller.{Note}
use Rattle.chord_model.specs.declared.message.Message.{Message}
use Rattle.chord_model.specs.declared.message.Message.TheVariants.{Note as NoteMessage}

-- the note in a message
abbrev pub note_in : Message → Note
note_in (NoteMessage note) = note
note_in message = record { caller = 0; done = [] }
