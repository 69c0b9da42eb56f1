-- What a command is answered. Source: the published pages of the commands.
use Rattle.std.specs.Prelude.{◌≡◌, ◌≢◌, ◌⊎◌, ℕ, Bool, true, List, [], ◌∷◌, ◌++◌, map, length, if◌then◌else◌, codes, bytes_eq, Option, Some, None, Result, Ok, Err, IsErr, is_ok}
use Rattle.std.specs.List.{list_any}
use Rattle.std.specs.declared.alloc.AllocError.{AllocError}
use Rattle.chord_map.specs.declared.reply.Reply.{Reply}
use Rattle.chord_map.specs.declared.reply.Reply.TheVariants as reply
use Rattle.chord_serve.specs.declared.asker.Asked.{Asked}
use Rattle.chord_serve.specs.Question.{Question}
use Rattle.chord_resp.specs.declared.table.command.Command.{Command}
use Rattle.chord_resp.specs.declared.table.command.Command.TheVariants as command
use Rattle.chord_resp.specs.declared.table.refusal.Refusal.{Refusal}
use Rattle.chord_resp.specs.declared.table.refusal.Refusal.TheVariants as refusal
use Rattle.chord_resp.specs.Spelling.{bulk}
use Rattle.chord_resp.specs.Answers.{simple, error, integer, null, count, bulks, integers, Joins}
use Rattle.chord_resp.specs.Refusals.{refusal_text}
use Rattle.chord_resp_serve.specs.declared.about.About.{About}
use Rattle.chord_resp_serve.specs.declared.standing.Standing.{Standing}
use Rattle.chord_resp_serve.specs.declared.tally.Tally.{Tally}
use Rattle.chord_resp_serve.specs.declared.tally.Stopped.{Stopped}
use Rattle.chord_resp_serve.specs.declared.tally.Stopped.TheVariants as stopped
use Rattle.chord_resp_serve.specs.Asking.{requests_of, empty_tally, AsksFrom}

-- the values of the last reply
abbrev pub values_in : Option Reply → List (List ℕ)
values_in (Some (reply.Values values)) = values
values_in _ = []

-- 1 if the member is among the values
abbrev pub membership : List (List ℕ) → List ℕ → ℕ
membership values member = if list_any (λ (value : List ℕ). bytes_eq value member) values then 1 else 0

-- whether a key has values
abbrev pub kind_of : List (List ℕ) → List ℕ
kind_of [] = codes "none"
kind_of (value ∷ values) = codes "set"

-- what the server is: names and values
abbrev pub hello : ℕ → List ℕ
hello number = codes "*14\r\n$6\r\nserver\r\n$5\r\nchord\r\n$7\r\nversion\r\n$5\r\n7.0.0\r\n$5\r\nproto\r\n:2\r\n$2\r\nid\r\n" ++ (integer number
    ++ codes "$4\r\nmode\r\n$10\r\nstandalone\r\n$4\r\nrole\r\n$6\r\nmaster\r\n$7\r\nmodules\r\n*0\r\n")

-- the answer to a command whose requests are done
abbrev pub answer_of : About → Command → Tally → List ℕ
answer_of about (command.Add key members) t = integer t.count
answer_of about (command.Remove key members) t = integer t.count
answer_of about (command.Exist keys) t = integer t.count
answer_of about (command.Members key) t = bulks (values_in t.last)
answer_of about (command.Count key) t = integer (length (values_in t.last))
answer_of about (command.IsMember key member) t = integer (membership (values_in t.last) member)
answer_of about (command.AreMembers key members) t = integers (map (membership (values_in t.last)) members)
answer_of about (command.Kind key) t = simple (kind_of (values_in t.last))
answer_of about command.Ping t = simple (codes "PONG")
answer_of about (command.Echo word) t = bulk word
answer_of about command.Accept t = simple (codes "OK")
answer_of about command.Name t = null
answer_of about command.Number t = integer about.number
answer_of about command.Hello t = hello about.number
answer_of about command.Nothing t = count 0
answer_of about command.Commands t = integer 32
answer_of about command.Info t = bulk about.info.now
answer_of about command.Time t = about.info.now
answer_of about command.Quit t = simple (codes "OK")
answer_of about command.Reset t = simple (codes "RESET")
answer_of about command.Multi t = simple (codes "OK")
answer_of about command.Exec t = count 0
answer_of about command.Discard t = simple (codes "OK")
answer_of about command.Auth t = simple (codes "OK")
answer_of about command.Shutdown t = []

-- the error of a command that ended before its last request, of which it has this many
abbrev pub refusal_of : ℕ → Stopped → Option Refusal
refusal_of of (stopped.SetFull done) = Some (refusal.SetFull (record { done = done; of = of }))
refusal_of of (stopped.StoreFull done) = Some (refusal.StoreFull (record { done = done; of = of }))
refusal_of of (stopped.NoAnswer done) = Some (refusal.NoAnswer (record { done = done; of = of }))
refusal_of of stopped.Memory = None

-- the error is added to the output; none if memory ran out
abbrev pub TellsOf : Option Refusal → Result (Unit {0}) AllocError → List ℕ → List ℕ → Type 0
TellsOf (Some r) result old new = Joins result old new (error (refusal_text r))
TellsOf None result old new = IsErr result × (new ≡ old)

-- the answer to a command, or its error, is added to the output
abbrev pub Tells : About → Command → Result Tally Stopped → Result (Unit {0}) AllocError → List ℕ → List ℕ → Type 0
Tells about c (Ok t) result old new = Joins result old new (answer_of about c t)
Tells about c (Err s) result old new = TellsOf (refusal_of (length (requests_of c)) s) result old new

module _ {A : Type 0} (answers : A → Question → Asked → A → Type 0) where
  -- the command asks nothing, or there was no memory for its requests
  pub record AsksNothing (about : About) (c : Command) (n : Standing) (a : A) (result : Result (Unit {0}) AllocError) (old new : List ℕ) (n' : Standing) (a' : A) : Type 0 where
    pub standing : n' ≡ n
    pub asker : a' ≡ a
    pub told : ((requests_of c ≡ []) × Joins result old new (answer_of about c empty_tally)) ⊎ (IsErr result × (new ≡ old))

  -- the command's requests were asked
  pub record AsksAll (about : About) (c : Command) (n : Standing) (a : A) (result : Result (Unit {0}) AllocError) (old new : List ℕ) (n' : Standing) (a' : A) : Type 0 where
    pub asks : requests_of c ≢ []
    pub outcome : Result Tally Stopped
    pub asked : AsksFrom answers n a empty_tally (requests_of c) outcome n' a'
    pub told : Tells about c outcome result old new

  -- what a command asks, each question once and in order, and what is added to the output
  abbrev pub AnswersCommand : About → Command → Standing → A → Result (Unit {0}) AllocError → List ℕ → List ℕ → Standing → A → Type 0
  AnswersCommand about c n a result old new n' a' = AsksNothing about c n a result old new n' a' ⊎ AsksAll about c n a result old new n' a'
