-- How changes of the map are spelled, and what a buffer has of them. Source: the published RESP
-- specification, version 2; that a file has the commands which changed something is Redis's
-- append-only file; the buffer is our own.
use Rattle.std.specs.Prelude.{◌≡◌, ℕ, ◌+◌, ◌≤◌, ◌<◌, ◌^◌, Bool, true, false, Option, None, Some, List, [], ◌∷◌, ◌++◌, length, codes}
use Rattle.std.specs.List.{flat_map}
use Rattle.chord_map.specs.declared.done.Done.{Done}
use Rattle.chord_map.specs.declared.request.Request.{Request}
use Rattle.chord_map.specs.declared.request.Request.TheVariants.{Insert, Remove}
use Rattle.chord_map.specs.declared.reply.Reply.{Reply}
use Rattle.chord_map.specs.declared.reply.Reply.TheVariants.{Added, Removed}
use Rattle.chord_map.specs.Checked.{value_of}
use Rattle.chord_map.specs.Map.{key_of}
use Rattle.chord_resp.specs.Spelling.{array}

-- ---- spelling

-- the words of the command of a request that was given this reply; none where nothing changed
abbrev pub words_by : Request → Reply → List (List (List ℕ))
words_by (Insert key value) Added = (codes "SADD" ∷ (key ∷ (value ∷ []))) ∷ []
words_by (Remove key value) Removed = (codes "SREM" ∷ (key ∷ (value ∷ []))) ∷ []
words_by request reply = []

-- the bytes of that command
abbrev pub spelled_by : Request → Reply → List ℕ
spelled_by request reply = flat_map array (words_by request reply)

-- the command of an executed call; nothing where it changed nothing
abbrev pub spelled : Done → List ℕ
spelled done = spelled_by done.request done.reply

-- the commands of executed calls, as words
abbrev pub words_of : List Done → List (List (List ℕ))
words_of [] = []
words_of (done ∷ dones) = words_by done.request done.reply ++ words_of dones

-- the journal of executed calls
abbrev pub journal : List Done → List ℕ
journal dones = flat_map array (words_of dones)

-- ---- a buffer

-- a buffer: whether there is a journal, how many of its bytes were taken out, those that were not,
-- and how many more fit without more memory
pub record Buffered : Type 0 where
  pub on : Bool
  pub taken : ℕ
  pub bytes : List ℕ
  pub room : ℕ

-- how many bytes were added in all
abbrev pub mark_of : Buffered → ℕ
mark_of buffer = buffer.taken + length buffer.bytes

-- the room that the command of a request may take
abbrev pub needed : Request → ℕ
needed request = length (key_of request) + (length (value_of request) + 104)

-- the buffer has that room, and its bytes can be counted, unless there is no journal
abbrev pub HasRoom : Request → Buffered → Type 0
HasRoom request buffer =
    buffer.on ≡ true → (needed request ≤ buffer.room) × (mark_of buffer + needed request < 2 ^ 64)

-- what a call adds, if there is a journal
abbrev pub added_by : Bool → Request → Reply → List ℕ
added_by true request reply = spelled_by request reply
added_by false request reply = []

-- what the call that was executed adds, if one was and there is a journal
abbrev pub added : Bool → Option Done → List ℕ
added on (Some done) = added_by on done.request done.reply
added on None = []

-- a buffer grew by the command of the call that was executed, if one was
pub record JournalIs (old : Buffered) (did : Option Done) (new : Buffered) : Type 0 where
  pub on : new.on ≡ old.on
  pub taken : new.taken ≡ old.taken
  pub bytes : new.bytes ≡ old.bytes ++ added old.on did
