-- What a command asks of the ring, and what the answers come to. Source: our own.
use Rattle.std.specs.Prelude.{◌≡◌, ℕ, ◌+◌, ◌-◌, ◌^◌, min, Bool, true, false, List, [], ◌∷◌, map, if◌then◌else◌, Option, Some, None, Result, Ok, Err, IsErr}
use Rattle.std.specs.declared.alloc.AllocError.{AllocError}
use Rattle.chord_map.specs.declared.request.Request.{Request}
use Rattle.chord_map.specs.declared.request.Request.TheVariants as request
use Rattle.chord_map.specs.declared.reply.Reply.{Reply}
use Rattle.chord_map.specs.declared.reply.Reply.TheVariants as reply
use Rattle.chord_serve.specs.declared.asker.Asked.{Asked}
use Rattle.chord_serve.specs.declared.asker.Asked.TheVariants as asked
use Rattle.chord_serve.specs.Question.{Question, Ask}
use Rattle.chord_resp.specs.declared.table.command.Command.{Command}
use Rattle.chord_resp.specs.declared.table.command.Command.TheVariants as command
use Rattle.chord_resp_serve.specs.declared.standing.Standing.{Standing}
use Rattle.chord_resp_serve.specs.declared.tally.Tally.{Tally}
use Rattle.chord_resp_serve.specs.declared.tally.Stopped.{Stopped}
use Rattle.chord_resp_serve.specs.declared.tally.Stopped.TheVariants as stopped

-- ---- the requests of a command

abbrev pub inserts : List ℕ → List (List ℕ) → List Request
inserts key members = map (λ (member : List ℕ). request.Insert key member) members

abbrev pub removes : List ℕ → List (List ℕ) → List Request
removes key members = map (λ (member : List ℕ). request.Remove key member) members

abbrev pub retrieves : List (List ℕ) → List Request
retrieves keys = map (λ (key : List ℕ). request.Retrieve key) keys

-- what a command asks, in order
abbrev pub requests_of : Command → List Request
requests_of (command.Add key members) = inserts key members
requests_of (command.Remove key members) = removes key members
requests_of (command.Exist keys) = retrieves keys
requests_of (command.Members key) = request.Retrieve key ∷ []
requests_of (command.Count key) = request.Retrieve key ∷ []
requests_of (command.IsMember key member) = request.Retrieve key ∷ []
requests_of (command.AreMembers key members) = request.Retrieve key ∷ []
requests_of (command.Kind key) = request.Retrieve key ∷ []
requests_of _ = []

-- ---- what the answers come to

abbrev pub empty_tally : Tally
empty_tally = record { done = 0; count = 0; last = None }

-- the reply says that a value was added, removed or found
abbrev pub counts : Reply → Bool
counts reply.Added = true
counts reply.Present = false
counts reply.SetFull = false
counts (reply.Values []) = false
counts (reply.Values (value ∷ values)) = true
counts reply.Removed = true
counts reply.Absent = false

-- the tally with one more reply
abbrev pub with_reply : Tally → Reply → Tally
with_reply t r = record { done = t.done + 1; count = if counts r then t.count + 1 else t.count; last = Some r }

-- the reply says that the set is full
abbrev pub is_full : Reply → Bool
is_full reply.SetFull = true
is_full _ = false

-- the tally after a reply; a full set ends the command
abbrev pub heard_reply : Tally → Reply → Result Tally Stopped
heard_reply t r = if is_full r then Err (stopped.SetFull t.done) else Ok (with_reply t r)

-- the tally after an answer; what is no reply ends the command
abbrev pub heard : Tally → Asked → Result Tally Stopped
heard t (asked.Reply r) = heard_reply t r
heard t asked.Full = Err (stopped.StoreFull t.done)
heard t asked.NoAnswer = Err (stopped.NoAnswer t.done)
heard t asked.Memory = Err stopped.Memory

-- what a command's requests came to, by how they ended and the tally then
abbrev pub outcome_of : Result (Unit {0}) Stopped → Tally → Result Tally Stopped
outcome_of (Ok done) t = Ok t
outcome_of (Err s) t = Err s

-- the number of the next request
abbrev pub next_number : ℕ → ℕ
next_number asked = min (asked + 1) (2 ^ 64 - 1)

-- one more request was asked
abbrev pub asked_one : Standing → Standing
asked_one n = record n { asked = next_number n.asked }

module _ {A : Type 0} (answers : A → Question → Asked → A → Type 0) where
  -- after this tally: the other requests are asked, or the command has ended
  abbrev pub AsksOn : (Tally → Type 0) → Result Tally Stopped → Standing → A → Result Tally Stopped → Standing → A → Type 0
  AsksOn more (Ok t) n a result n' a' = more t
  AsksOn more (Err s) n a result n' a' = (result ≡ Err s) × (n' ≡ n) × (a' ≡ a)

  -- The requests are asked once each and in order, up to the first that is not done; with what
  -- their answers come to, and the standing afterwards. Whatever was asked before was told, so each
  -- gives up all requests before it that have no reply.
  abbrev pub AsksFrom : Standing → A → Tally → List Request → Result Tally Stopped → Standing → A → Type 0
  AsksFrom n a t [] result n' a' = (result ≡ Ok t) × (n' ≡ n) × (a' ≡ a)
  AsksFrom n a t (r ∷ rest) result n' a' = (answer : Asked) × (b : A) × answers a (Ask r n.asked) answer b
      × AsksOn (λ u. AsksFrom (asked_one n) b u rest result n' a') (heard t answer) (asked_one n) b result n' a'
