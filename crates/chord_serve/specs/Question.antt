-- Questions to an asker, and its possible answers. Source: our own.
use Rattle.std.specs.Prelude.{◌≡◌, ◌≢◌, ℕ, zero, suc, List, [], ◌∷◌, ◌++◌, Option, Some, None, slice_get, IsTrue}
use Rattle.chord_map.specs.declared.request.Request.{Request}
use Rattle.chord_map.specs.Map.{fits}
use Rattle.chord_wire.specs.Replies.{IsReply}
use Rattle.chord_serve.specs.declared.asker.Asked.{Asked}
use Rattle.chord_serve.specs.declared.asker.Asked.TheVariants as asked

-- A new request, or a number that was asked before. Of the requests up to the floor nothing more is
-- wanted: those without a reply are given up first.
pub data Question : Type 0 where
  Ask : (request : Request) (floor : ℕ) → Question
  Retry : (number floor : ℕ) → Question

-- a reply within the limits, or an answer that is no reply
abbrev pub IsAnswer : Asked → Type 0
IsAnswer (asked.Reply reply) = IsReply reply
IsAnswer asked.Full = Unit {0}
IsAnswer asked.NoAnswer = Unit {0}
IsAnswer asked.Memory = Unit {0}

-- the requests asked so far; a new question adds its request
abbrev pub asked_with : Question → List Request → List Request
asked_with (Ask request floor) requests = requests ++ request ∷ []
asked_with (Retry number floor) requests = requests

-- the request with this number, from 1
abbrev pub request_at : ℕ → List Request → Option Request
request_at zero requests = None
request_at (suc place) requests = slice_get requests place

-- the request that a question is about
abbrev pub request_asked : Question → List Request → Option Request
request_asked (Ask request floor) requests = Some request
request_asked (Retry number floor) requests = request_at number requests

-- a reply is of the request's kind
abbrev pub IsReplyTo : Asked → Option Request → Type 0
IsReplyTo (asked.Reply reply) (Some request) = IsTrue (fits reply request)
IsReplyTo (asked.Reply reply) None = Unit {0}
IsReplyTo asked.Full request = Unit {0}
IsReplyTo asked.NoAnswer request = Unit {0}
IsReplyTo asked.Memory request = Unit {0}

-- What every asker promises of a question: a new request joins those asked, and a reply is of its
-- request's kind.
pub record IsHeard (question : Question) (answer : Asked) (before after : List Request) : Type 0 where
  pub notes : answer ≢ asked.Memory → after ≡ asked_with question before
  pub kind : IsReplyTo answer (request_asked question before)
