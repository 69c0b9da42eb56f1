-- The table of commands: what the words of a command call for, or why it is refused. Source: the
-- published pages of the commands; the limits are our own.
use Rattle.std.specs.Prelude.{◌≡◌, ℕ, Bool, true, false, ◌&&◌, ◌||◌, not, List, [], ◌∷◌, length, nat_le, nat_lt, ◌==◌, if◌then◌else◌, codes, bytes_eq, Option, Some, None, Result, Ok, Err}
use Rattle.std.specs.List.{list_any}
use Rattle.std.specs.Str.{str_eq_ignore_ascii_case}
use Rattle.chord_resp.specs.declared.reading.word.Word.{Word}
use Rattle.chord_resp.specs.declared.reading.word.Word.TheVariants.{Whole, Long}
use Rattle.chord_resp.specs.declared.table.verb.Verb.{Verb}
use Rattle.chord_resp.specs.declared.table.verb.Verb.TheVariants as verb
use Rattle.chord_resp.specs.declared.table.operand.Operand.{Operand}
use Rattle.chord_resp.specs.declared.table.operand.Operand.TheVariants as operand
use Rattle.chord_resp.specs.declared.table.command.Command.{Command}
use Rattle.chord_resp.specs.declared.table.command.Command.TheVariants as command
use Rattle.chord_resp.specs.declared.table.denied.Denied.{Denied}
use Rattle.chord_resp.specs.declared.table.denied.Denied.TheVariants as denied
use Rattle.chord_resp.specs.declared.table.refusal.Refusal.{Refusal}
use Rattle.chord_resp.specs.declared.table.refusal.Refusal.TheVariants.{TooManyWords, UnknownCommand, UnknownSubcommand, WrongNumber, KeyLength, MemberLength, WordLength, NoDatabase, NoProtocol, NoTransactions, NothingToAbort, HelloOption, NoPassword, WrongPassword, BadName, NotServed, Syntax}

infixl 10 ◌>>=◌
abbrev pub ◌>>=◌ : {A B : Type 0} → Result A Refusal → (A → Result B Refusal) → Result B Refusal
(Ok x) >>= f = f x
(Err e) >>= f = Err e

-- what a function answered, seen by `view`, unless memory ran out
abbrev pub Gives : {X Y : Type 0} → (X → Y) → Result X Denied → Result Y Refusal → Type 0
Gives view (Ok x) table = table ≡ Ok (view x)
Gives view (Err (denied.Refused refusal)) table = table ≡ Err refusal
Gives view (Err denied.Memory) table = Unit {0}

-- ---- names

-- the name of a command, in lower case
abbrev pub verb_text : Verb → List ℕ
verb_text verb.Sadd = codes "sadd"
verb_text verb.Srem = codes "srem"
verb_text verb.Smembers = codes "smembers"
verb_text verb.Scard = codes "scard"
verb_text verb.Sismember = codes "sismember"
verb_text verb.Smismember = codes "smismember"
verb_text verb.Exists = codes "exists"
verb_text verb.Type = codes "type"
verb_text verb.Ping = codes "ping"
verb_text verb.Echo = codes "echo"
verb_text verb.Select = codes "select"
verb_text verb.Client = codes "client"
verb_text verb.Hello = codes "hello"
verb_text verb.Command = codes "command"
verb_text verb.Config = codes "config"
verb_text verb.Info = codes "info"
verb_text verb.Quit = codes "quit"
verb_text verb.Reset = codes "reset"
verb_text verb.Multi = codes "multi"
verb_text verb.Exec = codes "exec"
verb_text verb.Discard = codes "discard"
verb_text verb.Watch = codes "watch"
verb_text verb.Unwatch = codes "unwatch"
verb_text verb.Shutdown = codes "shutdown"
verb_text verb.Auth = codes "auth"
verb_text verb.Time = codes "time"
verb_text verb.Flushall = codes "flushall"
verb_text verb.Expire = codes "expire"
verb_text verb.Move = codes "move"
verb_text verb.Spop = codes "spop"
verb_text verb.Smove = codes "smove"
verb_text verb.Memory = codes "memory"

-- all of them
abbrev pub all_verbs : List Verb
all_verbs = verb.Sadd ∷ verb.Srem ∷ verb.Smembers ∷ verb.Scard ∷ verb.Sismember ∷ verb.Smismember ∷ verb.Exists ∷ verb.Type ∷ verb.Ping ∷ verb.Echo
    ∷ verb.Select ∷ verb.Client ∷ verb.Hello ∷ verb.Command ∷ verb.Config ∷ verb.Info ∷ verb.Quit ∷ verb.Reset
    ∷ verb.Multi ∷ verb.Exec ∷ verb.Discard ∷ verb.Watch ∷ verb.Unwatch ∷ verb.Shutdown ∷ verb.Auth ∷ verb.Time
    ∷ verb.Flushall ∷ verb.Expire ∷ verb.Move ∷ verb.Spop ∷ verb.Smove ∷ verb.Memory ∷ []

-- the word is this text, in upper or lower case
unfoldable pub is_text : Word → List ℕ → Bool
is_text (Whole bytes) text = str_eq_ignore_ascii_case bytes text
is_text (Long count) text = false

-- the first of these whose name the bytes are, in upper or lower case
abbrev pub first_named : List ℕ → List Verb → Option Verb
first_named bytes [] = None
first_named bytes (v ∷ vs) = if str_eq_ignore_ascii_case bytes (verb_text v) then Some v else first_named bytes vs

-- the one that the bytes name
unfoldable pub verb_named : List ℕ → Option Verb
verb_named bytes = first_named bytes all_verbs

-- the one that the word names
abbrev pub verb_of : Word → Option Verb
verb_of (Whole bytes) = verb_named bytes
verb_of (Long count) = None

-- how many words may follow a name
abbrev pub takes : Verb → ℕ → Bool
takes verb.Sadd words = nat_le 2 words
takes verb.Srem words = nat_le 2 words
takes verb.Smembers words = words == 1
takes verb.Scard words = words == 1
takes verb.Sismember words = words == 2
takes verb.Smismember words = nat_le 2 words
takes verb.Exists words = nat_le 1 words
takes verb.Type words = words == 1
takes verb.Ping words = nat_le words 1
takes verb.Echo words = words == 1
takes verb.Select words = words == 1
takes verb.Client words = nat_le 1 words
takes verb.Hello words = true
takes verb.Command words = true
takes verb.Config words = nat_le 1 words
takes verb.Info words = nat_le words 1
takes verb.Quit words = words == 0
takes verb.Reset words = words == 0
takes verb.Multi words = words == 0
takes verb.Exec words = words == 0
takes verb.Discard words = words == 0
takes verb.Watch words = nat_le 1 words
takes verb.Unwatch words = words == 0
takes verb.Shutdown words = true
takes verb.Auth words = nat_le 1 words
takes verb.Time words = words == 0
takes verb.Flushall words = true
takes verb.Expire words = true
takes verb.Move words = true
takes verb.Spop words = true
takes verb.Smove words = true
takes verb.Memory words = true

-- commands on sets
abbrev pub is_of_sets : Verb → Bool
is_of_sets verb.Sadd = true
is_of_sets verb.Srem = true
is_of_sets verb.Smembers = true
is_of_sets verb.Scard = true
is_of_sets verb.Sismember = true
is_of_sets verb.Smismember = true
is_of_sets verb.Exists = true
is_of_sets verb.Type = true
is_of_sets _ = false

-- ---- operands

-- a key has 1 to 255 bytes, a member at most 4,096
abbrev pub fits : Operand → List ℕ → Bool
fits operand.Key bytes = nat_le 1 (length bytes) && nat_le (length bytes) 255
fits operand.Member bytes = nat_le (length bytes) 4096
fits operand.Text bytes = true

-- the refusal of another length
abbrev pub refusal_for : Operand → Refusal
refusal_for operand.Key = KeyLength
refusal_for operand.Member = MemberLength
refusal_for operand.Text = WordLength

-- the bytes of an operand
abbrev pub bytes_of : Operand → Word → Result (List ℕ) Refusal
bytes_of o (Whole bytes) = if fits o bytes then Ok bytes else Err (refusal_for o)
bytes_of o (Long count) = Err (refusal_for o)

-- the first operand, and the words behind it
abbrev pub first_of : Operand → List Word → Result (List ℕ × List Word) Refusal
first_of o [] = Err (refusal_for o)
first_of o (word ∷ words) = do
  bytes ← bytes_of o word
  Ok (bytes, words)

-- each word as an operand
abbrev pub each : Operand → List Word → Result (List (List ℕ)) Refusal
each o [] = Ok []
each o (word ∷ words) = do
  bytes ← bytes_of o word
  more ← each o words
  Ok (bytes ∷ more)

-- a call takes the first word as this operand
abbrev pub TakesOne : Operand → List Word → Result (List ℕ) Refusal → List Word → Type 0
TakesOne o old (Ok bytes) new = first_of o old ≡ Ok (bytes, new)
TakesOne o old (Err refusal) new = first_of o old ≡ Err refusal

-- ---- commands on sets

-- what the verb calls for, with this key and the words behind it
abbrev pub keyed_command : Verb → List ℕ → List Word → Result Command Refusal
keyed_command verb.Sadd key words = each operand.Member words >>= λ members. Ok (command.Add key members)
keyed_command verb.Srem key words = each operand.Member words >>= λ members. Ok (command.Remove key members)
keyed_command verb.Smismember key words = each operand.Member words >>= λ members. Ok (command.AreMembers key members)
keyed_command verb.Sismember key words = first_of operand.Member words >>= λ member. Ok (command.IsMember key member.0)
keyed_command verb.Smembers key words = Ok (command.Members key)
keyed_command verb.Scard key words = Ok (command.Count key)
keyed_command _ key words = Ok (command.Kind key)

abbrev pub is_exists : Verb → Bool
is_exists verb.Exists = true
is_exists _ = false

-- EXISTS has keys alone; the others a key first
unfoldable pub set_command : Verb → List Word → Result Command Refusal
set_command v words = if is_exists v then (each operand.Key words >>= λ keys. Ok (command.Exist keys))
    else (first_of operand.Key words >>= λ key. keyed_command v key.0 key.1)

-- ---- other commands

-- the command, if it has the right number of words
abbrev pub counted : Bool → Verb → Command → Result Command Refusal
counted right v c = if right then Ok c else Err (WrongNumber v)

-- PING and ECHO answer their word
abbrev pub ping_of : List Word → Result Command Refusal
ping_of [] = Ok command.Ping
ping_of (word ∷ words) = bytes_of operand.Text word >>= λ bytes. Ok (command.Echo bytes)

-- SELECT 0
abbrev pub select_of : List Word → Result Command Refusal
select_of [] = Err NoDatabase
select_of (word ∷ words) = if is_text word (codes "0") then Ok command.Accept else Err NoDatabase

-- the one user, `default`, whom each password lets in while no secret is set
abbrev pub is_user : Word → Bool
is_user (Whole bytes) = bytes_eq bytes (codes "default")
is_user (Long count) = false

-- a byte that cannot be printed, or a space
abbrev pub is_odd : ℕ → Bool
is_odd byte = nat_lt byte 33 || nat_lt 126 byte

abbrev pub has_odd : List ℕ → Bool
has_odd bytes = list_any (λ (byte : ℕ). is_odd byte) bytes

-- a name that a connection may have
abbrev pub is_name : Word → Bool
is_name (Whole bytes) = not (has_odd bytes)
is_name (Long count) = true

-- what the next word of HELLO's options is: an option, or a word of this one
pub data Expected : Type 0 where
  AnOption : Expected
  AUser : (option : Word) → Expected
  APassword : (option user : Word) → Expected
  AName : (option : Word) → Expected

-- HELLO with these options; nothing of it is done where one is refused
unfoldable pub hello_from : Expected → List Word → Result Command Refusal
hello_from AnOption [] = Ok command.Hello
hello_from AnOption (word ∷ words) =
    if is_text word (codes "auth") then hello_from (AUser word) words
    else (if is_text word (codes "setname") then hello_from (AName word) words
    else Err (HelloOption word))
hello_from (AUser option) [] = Err (HelloOption option)
hello_from (AUser option) (word ∷ words) = hello_from (APassword option word) words
hello_from (APassword option user) [] = Err (HelloOption option)
hello_from (APassword option user) (word ∷ words) = if is_user user then hello_from AnOption words else Err WrongPassword
hello_from (AName option) [] = Err (HelloOption option)
hello_from (AName option) (word ∷ words) = if is_name word then hello_from AnOption words else Err BadName

-- an option is met and others may follow, or HELLO is refused
abbrev pub MeetsOption : Result Command Refusal → Result (Unit {0}) Refusal → List Word → Type 0
MeetsOption called (Ok met) words = called ≡ hello_from AnOption words
MeetsOption called (Err refusal) words = called ≡ Err refusal

-- HELLO, and HELLO 2 with its options
abbrev pub hello_of : List Word → Result Command Refusal
hello_of [] = Ok command.Hello
hello_of (word ∷ words) = if is_text word (codes "2") then hello_from AnOption words else Err NoProtocol

-- AUTH with a user and a password; no password is set that could stand alone
abbrev pub auth_of : List Word → Result Command Refusal
auth_of [] = Err (WrongNumber verb.Auth)
auth_of (password ∷ []) = Err NoPassword
auth_of (user ∷ (password ∷ [])) = if is_user user then Ok command.Auth else Err WrongPassword
auth_of (user ∷ (password ∷ (word ∷ words))) = Err Syntax

-- CLIENT SETNAME and a name
abbrev pub named : List Word → Result Command Refusal
named (name ∷ []) = if is_name name then Ok command.Accept else Err BadName
named _ = Err (WrongNumber verb.Client)

-- CLIENT and its second word
unfoldable pub client_of : List Word → Result Command Refusal
client_of [] = Err (WrongNumber verb.Client)
client_of (word ∷ words) =
    if is_text word (codes "setname") then named words
    else (if is_text word (codes "no-evict") || is_text word (codes "no-touch") then counted (length words == 1) verb.Client command.Accept
    else (if is_text word (codes "setinfo") then counted (length words == 2) verb.Client command.Accept
    else (if is_text word (codes "getname") then counted (length words == 0) verb.Client command.Name
    else (if is_text word (codes "id") then counted (length words == 0) verb.Client command.Number
    else Err (UnknownSubcommand verb.Client word)))))

-- COMMAND and its second word
unfoldable pub command_command : List Word → Result Command Refusal
command_command [] = Ok command.Nothing
command_command (word ∷ words) =
    if is_text word (codes "docs") || is_text word (codes "info") then Ok command.Nothing
    else (if is_text word (codes "count") then counted (length words == 0) verb.Command command.Commands
    else Err (UnknownSubcommand verb.Command word))

-- CONFIG GET and a name
unfoldable pub config_of : List Word → Result Command Refusal
config_of [] = Err (WrongNumber verb.Config)
config_of (word ∷ words) =
    if is_text word (codes "get") then counted (length words == 1) verb.Config command.Nothing
    else Err (UnknownSubcommand verb.Config word)

-- a way to shut down: each is the same, since nothing is written anywhere
abbrev pub is_way : Word → Bool
is_way word = is_text word (codes "nosave") || is_text word (codes "save") || is_text word (codes "now") || is_text word (codes "force")

-- SHUTDOWN and the ways behind it
unfoldable pub shutdown_of : List Word → Result Command Refusal
shutdown_of [] = Ok command.Shutdown
shutdown_of (word ∷ words) = if is_text word (codes "abort") then Err NothingToAbort
    else (if is_way word then shutdown_of words else Err Syntax)

abbrev pub connection_command : Verb → List Word → Result Command Refusal
connection_command verb.Ping words = ping_of words
connection_command verb.Echo words = ping_of words
connection_command verb.Select words = select_of words
connection_command verb.Hello words = hello_of words
connection_command verb.Client words = client_of words
connection_command verb.Command words = command_command words
connection_command verb.Config words = config_of words
connection_command verb.Info words = Ok command.Info
connection_command verb.Reset words = Ok command.Reset
connection_command verb.Multi words = Ok command.Multi
connection_command verb.Exec words = Ok command.Exec
connection_command verb.Discard words = Ok command.Discard
connection_command verb.Watch words = Err NoTransactions
connection_command verb.Unwatch words = Ok command.Accept
connection_command verb.Shutdown words = shutdown_of words
connection_command verb.Auth words = auth_of words
connection_command verb.Time words = Ok command.Time
connection_command verb.Flushall words = Err (NotServed verb.Flushall)
connection_command verb.Expire words = Err (NotServed verb.Expire)
connection_command verb.Move words = Err (NotServed verb.Move)
connection_command verb.Spop words = Err (NotServed verb.Spop)
connection_command verb.Smove words = Err (NotServed verb.Smove)
connection_command verb.Memory words = Err (NotServed verb.Memory)
connection_command _ words = Ok command.Quit

-- ---- any command

abbrev pub command_with : Verb → List Word → Result Command Refusal
command_with v words =
    if takes v (length words) then (if is_of_sets v then set_command v words else connection_command v words)
    else Err (WrongNumber v)

abbrev pub command_named : Option Verb → Word → List Word → Result Command Refusal
command_named None name words = Err (UnknownCommand name)
command_named (Some v) name words = command_with v words

-- the command of some words, of which the first is its name; they are at most 1,024
unfoldable pub command_of : List Word → Result Command Refusal
command_of [] = Err (UnknownCommand (Whole []))
command_of (name ∷ words) = if nat_le 1024 (length words) then Err TooManyWords else command_named (verb_of name) name words
