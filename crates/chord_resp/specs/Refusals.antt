-- The texts of errors. Source: those of the published protocol where it has one; else our own.
use Rattle.std.specs.Prelude.{ℕ, List, [], ◌∷◌, ◌++◌, map, take, nat_lt, nat_le, if◌then◌else◌, codes, decimal}
use Rattle.chord_resp.specs.declared.reading.word.Word.{Word}
use Rattle.chord_resp.specs.declared.reading.word.Word.TheVariants.{Whole, Long}
use Rattle.chord_resp.specs.declared.reading.protocol_error.ProtocolError.{ProtocolError}
use Rattle.chord_resp.specs.declared.reading.protocol_error.ProtocolError.TheVariants as protocol
use Rattle.chord_resp.specs.declared.table.refusal.Refusal.{Refusal}
use Rattle.chord_resp.specs.declared.table.refusal.Refusal.TheVariants as refusal
use Rattle.chord_resp.specs.declared.table.refusal.Progress.{Progress}
use Rattle.chord_resp.specs.declared.table.verb.Verb.{Verb}
use Rattle.chord_resp.specs.declared.table.verb.Verb.TheVariants as verb
use Rattle.chord_resp.specs.Table.{verb_text}

-- a byte of a client, as it may be shown: `?` if it cannot be printed
abbrev pub shown_byte : ℕ → ℕ
shown_byte byte = if nat_lt byte 32 then 63 else (if nat_lt 126 byte then 63 else byte)

-- at most 128 bytes of a word
abbrev pub shown : Word → List ℕ
shown (Whole bytes) = map shown_byte (take 128 bytes)
shown (Long count) = []

-- what is wrong with the bytes
unfoldable pub protocol_text : ProtocolError → List ℕ
protocol_text protocol.BadCount = codes "invalid multibulk length"
protocol_text (protocol.NoDollar byte) = codes "expected '$', got '" ++ (shown_byte byte ∷ [] ++ codes "'")
protocol_text protocol.BadLength = codes "invalid bulk length"
protocol_text protocol.TooLong = codes "too big inline request"
protocol_text protocol.Unbalanced = codes "unbalanced quotes in request"
protocol_text protocol.Foreign = codes "line of another protocol"

-- how many members were done, if there are several
unfoldable pub progress_text : Progress → List ℕ
progress_text p = if nat_le p.of 1 then [] else codes ", " ++ (decimal p.done ++ (codes " of " ++ (decimal p.of ++ codes " done")))

-- the front of an error's text, which is all of it if nothing is told beside
unfoldable pub fixed_text : Refusal → List ℕ
fixed_text (refusal.Protocol error) = codes "ERR Protocol error: "
fixed_text refusal.TooManyWords = codes "ERR too many arguments, at most 1,022 members"
fixed_text (refusal.UnknownCommand name) = codes "ERR unknown command '"
fixed_text (refusal.UnknownSubcommand verb name) = codes "ERR unknown subcommand '"
fixed_text (refusal.WrongNumber verb) = codes "ERR wrong number of arguments for '"
fixed_text refusal.KeyLength = codes "ERR key must have 1 to 255 bytes"
fixed_text refusal.MemberLength = codes "ERR member is longer than 4096 bytes"
fixed_text refusal.WordLength = codes "ERR word is longer than 4096 bytes"
fixed_text refusal.NoDatabase = codes "ERR DB index is out of range"
fixed_text refusal.NoProtocol = codes "NOPROTO unsupported protocol version"
fixed_text refusal.NoTransactions = codes "ERR transactions are not served"
fixed_text refusal.Aborted = codes "EXECABORT Transaction discarded because of previous errors."
fixed_text refusal.NothingToExecute = codes "ERR EXEC without MULTI"
fixed_text refusal.NothingToDiscard = codes "ERR DISCARD without MULTI"
fixed_text refusal.NothingToAbort = codes "ERR No shutdown in progress."
fixed_text refusal.Syntax = codes "ERR syntax error"
fixed_text (refusal.HelloOption option) = codes "ERR Syntax error in HELLO option '"
fixed_text refusal.NoPassword = codes "ERR AUTH <password> called without any password configured for the default user. Are you sure your configuration is correct?"
fixed_text refusal.WrongPassword = codes "WRONGPASS invalid username-password pair or user is disabled."
fixed_text (refusal.NotServed verb) = codes "ERR '"
fixed_text refusal.BadName = codes "ERR Client names cannot contain spaces, newlines or special characters."
fixed_text (refusal.SetFull progress) = codes "ERR set is full: it has 1000 members"
fixed_text (refusal.StoreFull progress) = codes "OOM the node's store is full"
fixed_text (refusal.NoAnswer progress) = codes "TRYAGAIN no answer in time, it may have acted"

-- what is told behind the second word of a command that is none of its words
abbrev pub help_of : Verb → List ℕ
help_of verb.Client = codes "'. Try CLIENT HELP."
help_of verb.Command = codes "'. Try COMMAND HELP."
help_of _ = codes "'. Try CONFIG HELP."

-- what is told behind it
abbrev pub detail : Refusal → List ℕ
detail (refusal.Protocol error) = protocol_text error
detail (refusal.UnknownCommand name) = shown name ++ codes "'"
detail (refusal.UnknownSubcommand verb name) = shown name ++ help_of verb
detail (refusal.HelloOption option) = shown option ++ codes "'"
detail (refusal.NotServed verb) = verb_text verb ++ codes "' is not served"
detail (refusal.WrongNumber verb) = verb_text verb ++ codes "' command"
detail (refusal.SetFull progress) = progress_text progress
detail (refusal.StoreFull progress) = progress_text progress
detail (refusal.NoAnswer progress) = progress_text progress
detail _ = []

-- the text of an error
unfoldable pub refusal_text : Refusal → List ℕ
refusal_text r = fixed_text r ++ detail r
