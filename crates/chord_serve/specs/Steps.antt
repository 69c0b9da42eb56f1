-- One request of a session, with the question that it asks. Source: our own.
use Rattle.std.specs.Prelude.{◌≡◌, ◌≢◌, ◌⊎◌, ◌<◌, ◌≤◌, ℕ, List, ◌++◌, Option, Some, None, Result, Ok, Err}
use Rattle.std.specs.declared.alloc.AllocError.{AllocError}
use Rattle.chord_wire.specs.declared.request.WireRequest.{WireRequest}
use Rattle.chord_wire.specs.Spelling.{frame}
use Rattle.chord_wire.specs.Replies.{fault_body}
use Rattle.chord_session.specs.declared.session.Move.{Move}
use Rattle.chord_session.specs.declared.session.Move.TheVariants.{Refuse, Again, Ask, Retry}
use Rattle.chord_session.specs.SessionState.{SessionState}
use Rattle.chord_session.specs.Session.{last_number, with_accepted, with_open_request, frame_again, move_of}
use Rattle.chord_serve.specs.declared.asker.Asked.{Asked}
use Rattle.chord_serve.specs.declared.asker.Asked.TheVariants as asked
use Rattle.chord_serve.specs.Question.{Question}
use Rattle.chord_serve.specs.Question as question
use Rattle.chord_serve.specs.Output.{frame_of, after_answer, next_question}

-- the session has a request of this number in its list
abbrev pub IsKept : ℕ → SessionState → Type 0
IsKept number s = (s.floor < number) × (number ≤ last_number s)

-- the session once it let the request in, and has it in its list
abbrev pub entered : Move → SessionState → WireRequest → SessionState
entered Ask s r = with_open_request s r.request
entered other s r = s

abbrev pub with_begun : SessionState → WireRequest → SessionState
with_begun s r = entered (move_of s r) (with_accepted s r) r

module _ {A : Type 0} (answers : A → Question → Asked → A → Type 0) where
  -- the question is asked once; its answer is written, and a reply stored
  pub record Asks (s : SessionState) (a : A) (q : Question) (number : ℕ) (bytes : List ℕ) (s' : SessionState) (a' : A) : Type 0 where
    pub answer : Asked
    pub not_memory : answer ≢ asked.Memory
    pub asks : answers a q answer a'
    pub bytes_are : bytes ≡ frame_of number answer
    pub state_is : s' ≡ after_answer s number answer

  -- this move, from a session that let the request in
  abbrev pub Does : Move → SessionState → A → WireRequest → List ℕ → SessionState → A → Type 0
  Does (Refuse code) s a r bytes s' a' = (bytes ≡ frame (fault_body r.number code)) × (s' ≡ s) × (a' ≡ a)
  Does Again s a r bytes s' a' = (bytes ≡ frame_again s r.number) × (s' ≡ s) × (a' ≡ a)
  Does Ask s a r bytes s' a' = Asks (with_open_request s r.request) a (question.Ask r.request s.floor) r.number bytes s' a'
  Does Retry s a r bytes s' a' = Asks s a (question.Retry r.number s.floor) r.number bytes s' a'

  -- what the session writes for one request, and the session and the asker afterwards
  abbrev pub Step : SessionState → A → WireRequest → List ℕ → SessionState → A → Type 0
  Step s a r bytes s' a' = Does (move_of s r) (with_accepted s r) a r bytes s' a'

  -- the request's question was asked, and the answer is not told yet
  pub record IsAsked (s : SessionState) (a : A) (r : WireRequest) (answer : Asked) (s' : SessionState) (a' : A) : Type 0 where
    pub question : Question
    pub asks : next_question s r ≡ Some question
    pub answered : answers a question answer a'
    pub state_is : s' ≡ with_begun s r

  -- the question, if there is one, may have been asked
  abbrev pub MayAsk : Option Question → A → A → Type 0
  MayAsk None a a' = a' ≡ a
  MayAsk (Some q) a a' = (a' ≡ a) ⊎ ((answer : Asked) × answers a q answer a')

  -- a request is answered without a question, or its question was asked
  abbrev pub Begins : Result (Option Asked) AllocError → SessionState → A → WireRequest → List ℕ → List ℕ → SessionState → A → Type 0
  Begins (Ok None) s a r old new s' a' = (bytes : List ℕ) × Step s a r bytes s' a' × (new ≡ old ++ bytes)
  Begins (Ok (Some answer)) s a r old new s' a' = IsAsked s a r answer s' a' × (new ≡ old)
  Begins (Err refused) s a r old new s' a' = (new ≡ old) × MayAsk (next_question s r) a a'
