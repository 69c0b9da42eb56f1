-- What a journal is read as, and the map that its commands make. Source: our own.
use Rattle.std.specs.Prelude.{◌≡◌, ℕ, List, [], ◌∷◌, ◌++◌, map, filter, bytes_eq, Ok}
use Rattle.std.specs.List.{AllByRecursion}
use Rattle.chord_map.specs.declared.done.Done.{Done}
use Rattle.chord_map.specs.declared.pair.Pair.{Pair}
use Rattle.chord_map.specs.declared.request.Request.{Request}
use Rattle.chord_map.specs.declared.request.Request.TheVariants.{Insert, Retrieve, Remove}
use Rattle.chord_map.specs.declared.reply.Reply.{Reply}
use Rattle.chord_map.specs.declared.reply.Reply.TheVariants.{Added, Removed}
use Rattle.chord_map.specs.Checked.{IsRequest}
use Rattle.chord_map.specs.Map.{key_of, pairs_after}
use Rattle.chord_resp.specs.declared.reading.word.Word.{Word}
use Rattle.chord_resp.specs.declared.table.command.Command.{Command}
use Rattle.chord_resp.specs.declared.table.command.Command.TheVariants as command
use Rattle.chord_resp.specs.Machine.{State, word_of}
use Rattle.chord_resp.specs.Reading.{Reading, Open}
use Rattle.chord_resp.specs.Table.{command_of}
use Rattle.chord_journal.specs.Journal.{words_of}

-- the executed requests keep the limits
abbrev pub AreRequests : List Done → Type 0
AreRequests dones = AllByRecursion (λ (done : Done). IsRequest done.request) dones

-- the commands of executed calls, as a reader gives them
abbrev pub commands_of : List Done → List (List Word)
commands_of dones = map (map word_of) (words_of dones)

-- the request, if this reply says that it changed the map
abbrev pub change_by : Request → Reply → List Request
change_by (Insert key value) Added = Insert key value ∷ []
change_by (Remove key value) Removed = Remove key value ∷ []
change_by request reply = []

-- the requests that changed the map, in order
abbrev pub changes : List Done → List Request
changes [] = []
changes (done ∷ dones) = change_by done.request done.reply ++ changes dones

-- the map after these requests, one after another
abbrev pub load : List Pair → List Request → List Pair
load pairs [] = pairs
load pairs (request ∷ requests) = load (pairs_after request pairs) requests

-- the requests that name the key, in order
abbrev pub under : List ℕ → List Request → List Request
under key requests = filter (λ (request : Request). bytes_eq (key_of request) key) requests

-- the command that a request is
abbrev pub command_for : Request → Command
command_for (Insert key value) = command.Add key (value ∷ [])
command_for (Retrieve key) = command.Members key
command_for (Remove key value) = command.Remove key (value ∷ [])

-- the words call for the commands of these requests
abbrev pub CallFor : List (List Word) → List Request → Type 0
CallFor commands requests =
    map command_of commands ≡ map (λ (request : Request). Ok (command_for request)) requests

-- the reading of a beginning: it has the first of these commands, and its end is no error
pub record BeginsAlike (part : Reading) (commands : List (List Word)) : Type 0 where
  pub later : List (List Word)
  pub same : commands ≡ part.commands ++ later
  pub state : State
  pub ends : part.ending ≡ Open state
