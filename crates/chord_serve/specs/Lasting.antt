-- A session over several connections in a row. Source: docs/protocol.md.
use Rattle.std.specs.Prelude.{◌≡◌, ◌⊎◌, ℕ, List, [], ◌∷◌, ◌++◌, true}
use Rattle.chord_wire.specs.declared.request.WireRequest.{WireRequest}
use Rattle.chord_wire.specs.declared.fault.WireFault.{WireFault}
use Rattle.chord_wire.specs.Streams.{Spells}
use Rattle.chord_serve.specs.declared.asker.Asked.{Asked}
use Rattle.chord_serve.specs.declared.client_session.ClientSession.{ClientSession}
use Rattle.chord_serve.specs.declared.parted.Parted.TheVariants.{Kept}
use Rattle.chord_serve.specs.declared.served.Served.{Served}
use Rattle.chord_serve.specs.Question.{Question}
use Rattle.chord_serve.specs.Output.{bytes_written, state_after, questions, AreAnswers}
use Rattle.chord_serve.specs.Served.{fault_frame, AreOfVersion, IsParted}

-- Connections, each with its input behind the Open and its output behind the Opened. The next one
-- begins with what the last one left.
pub data InARow {A : Type 0} (answers : A → Question → Asked → A → Type 0) (first : ClientSession A) : (inputs outputs : List (List ℕ)) → ClientSession A → Type 0 where
  Begins : InARow answers first [] [] first
  Then : (inputs outputs : List (List ℕ)) (before after : ClientSession A) (end : Served) (input output : List ℕ)
      → InARow answers first inputs outputs before → IsParted answers true end before.version before.numbers before.asker input output (Kept after)
      → InARow answers first (inputs ++ input ∷ []) (outputs ++ output ∷ []) after

-- A session answered these requests, however they came: it asked each of their questions once, in
-- order, and this output was due for them.
pub record Answered {A : Type 0} (answers : A → Question → Asked → A → Type 0) (first : ClientSession A) (requests : List WireRequest) (due : List ℕ) (last : ClientSession A) : Type 0 where
  pub given : List Asked
  pub versions : AreOfVersion first.version requests last.version
  pub due_is : due ≡ bytes_written first.numbers requests given
  pub state_is : last.numbers ≡ state_after first.numbers requests given
  pub answered : AreAnswers answers first.asker (questions first.numbers requests given) given last.asker

-- These requests were read whole, in order. What is left of the last frame of each input is
-- dropped.
pub data SpellInARow : List (List ℕ) → List WireRequest → Type 0 where
  Nothing : SpellInARow [] []
  Spell : (inputs : List (List ℕ)) (requests more : List WireRequest) (input rest : List ℕ)
      → SpellInARow inputs requests → Spells input more rest → SpellInARow (inputs ++ input ∷ []) (requests ++ more)

-- the output is what was due, and a fault's frame if a frame was refused; or a prefix of these
pub record IsWritten (due output : List ℕ) : Type 0 where
  pub fault : List ℕ
  pub lost : List ℕ
  pub is_fault : (fault ≡ []) ⊎ ((f : WireFault) × (fault ≡ fault_frame f))
  pub parts : due ++ fault ≡ output ++ lost

-- each output was written of what was due for its connection
pub data WrittenInARow : List ℕ → List (List ℕ) → Type 0 where
  Nothing_due : WrittenInARow [] []
  Written : (due more : List ℕ) (outputs : List (List ℕ)) (output : List ℕ)
      → WrittenInARow due outputs → IsWritten more output → WrittenInARow (due ++ more) (outputs ++ output ∷ [])

-- Connections in a row are one session: the requests of all of them are answered as if they had
-- come over one.
pub record AreOneSession {A : Type 0} (answers : A → Question → Asked → A → Type 0) (first : ClientSession A) (inputs outputs : List (List ℕ)) (last : ClientSession A) : Type 0 where
  pub requests : List WireRequest
  pub due : List ℕ
  pub spelled : SpellInARow inputs requests
  pub answered : Answered answers first requests due last
  pub written : WrittenInARow due outputs
