-- MULTI, EXEC and DISCARD. Transactions are not served: nothing of one is done, and each of its
-- commands gets one answer. Source: the published pages of the commands; the texts are our own.
use Rattle.std.specs.Prelude.{◌≡◌, Bool, true, false, not, Result, Ok, Err}
use Rattle.chord_resp.specs.declared.table.command.Command.{Command}
use Rattle.chord_resp.specs.declared.table.command.Command.TheVariants as command
use Rattle.chord_resp.specs.declared.table.denied.Denied.{Denied}
use Rattle.chord_resp.specs.declared.table.denied.Denied.TheVariants as denied
use Rattle.chord_resp.specs.declared.table.refusal.Refusal.{Refusal}
use Rattle.chord_resp.specs.declared.table.refusal.Refusal.TheVariants as refusal
use Rattle.chord_resp_serve.specs.declared.standing.Standing.{Standing}

-- whether a transaction is under way behind a command, with what was so before
abbrev pub is_open_behind : Bool → Command → Bool
is_open_behind before command.Multi = true
is_open_behind before command.Exec = false
is_open_behind before command.Discard = false
is_open_behind before command.Reset = false
is_open_behind before _ = before

abbrev pub is_open_after : Bool → Result Command Refusal → Bool
is_open_after before (Ok c) = is_open_behind before c
is_open_after before (Err r) = before

-- whether the server is to stop: SHUTDOWN came, outside of a transaction
abbrev pub shuts_down_after : Bool → Result Command Refusal → Bool
shuts_down_after is_open (Ok command.Shutdown) = not is_open
shuts_down_after is_open _ = false

-- the standing behind what the words of a client call for
abbrev pub standing_behind : Standing → Result Command Refusal → Standing
standing_behind n called = record n {
  is_in_transaction = is_open_after n.is_in_transaction called;
  shuts_down = shuts_down_after n.is_in_transaction called;
}

-- the connection has gone on to this standing, unless memory ran out
abbrev pub GoesOnTo : Standing → Result Command Denied → Standing → Type 0
GoesOnTo behind (Ok c) now = now ≡ behind
GoesOnTo behind (Err (denied.Refused r)) now = now ≡ behind
GoesOnTo behind (Err denied.Memory) now = Unit {0}

-- what is done in a transaction
abbrev pub inside : Command → Result Command Refusal
inside command.Exec = Err refusal.Aborted
inside command.Discard = Ok command.Discard
inside command.Hello = Ok command.Hello
inside command.Auth = Ok command.Auth
inside command.Quit = Ok command.Quit
inside command.Reset = Ok command.Reset
inside _ = Err refusal.NoTransactions

-- what is done outside
abbrev pub outside : Command → Result Command Refusal
outside command.Multi = Err refusal.NoTransactions
outside command.Exec = Err refusal.NothingToExecute
outside command.Discard = Err refusal.NothingToDiscard
outside c = Ok c

-- what is done, in a transaction or outside
abbrev pub allowed : Bool → Result Command Refusal → Result Command Refusal
allowed true (Ok c) = inside c
allowed true (Err r) = Err refusal.NoTransactions
allowed false (Ok c) = outside c
allowed false (Err r) = Err r
