-- Statement 12 of 15: a caller's letters as messages.
use Rattle.std.specs.Prelude.{Option, None, Some}
use Rattle.chord_caller.specs.Caller.{Letter}
use Rattle.chord_caller.specs.Caller.Letter.{AskLetter, ToldLetter, FullLetter, NoteLetter}
use Rattle.chord_model.specs.declared.message.Message.{Message}
use Rattle.chord_model.specs.declared.message.Message.TheVariants.{Ask as AskMessage, Told as ToldMessage, Full as FullMessage, Note as NoteMessage}

-- a caller's letter as a message
abbrev pub message_of : Letter → Message
message_of (AskLetter ask) = AskMessage ask
message_of (ToldLetter told) = ToldMessage told
message_of (FullLetter caller number) = FullMessage caller number
message_of (NoteLetter note) = NoteMessage note

-- a letter, if there is one, as a message
abbrev pub letter_sent : Option Letter → Option Message
letter_sent None = None
letter_sent (Some letter) = Some (message_of letter)
