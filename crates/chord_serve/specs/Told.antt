-- The frame that a server tells for an Open or a Close. Source: docs/protocol.md.
use Rattle.std.specs.Prelude.{◌≡◌, ◌⊎◌, ℕ, List, ◌++◌, length, ◌==◌, Option, Some, None, Result, Ok, Err}
use Rattle.std.specs.Io.KnownBytes.{Appends, Consumes, Keeps}
use Rattle.chord_wire.specs.declared.session_answer.SessionAnswer.{SessionAnswer}
use Rattle.chord_wire.specs.SessionReading.{next_session_answer}
use Rattle.chord_serve.specs.Writes.{WritesPrefix}
use Rattle.chord_serve.specs.Calls.{GivesNoNext}
use Rattle.chord_serve.specs.declared.calls.CallFault.{CallFault}
use Rattle.chord_serve.specs.declared.calls.CallFault.TheVariants as call
use Rattle.chord_serve.specs.declared.told.Told.{Told}

-- the server's next frame is taken from the bytes, or there is none yet
abbrev pub LooksFor : Result (Option SessionAnswer) CallFault → List ℕ → List ℕ → Type 0
LooksFor (Ok (Some x)) old new = next_session_answer old ≡ Ok (Some (x, new))
LooksFor (Ok None) old new = (next_session_answer old ≡ Ok None) × (new ≡ old)
LooksFor (Err why) old new = GivesNoNext next_session_answer why old × (new ≡ old)

-- after one more read: the server's next frame, or none yet, or why there is none
abbrev pub LooksOn : Result (Option SessionAnswer) CallFault → List ℕ → Option (List ℕ) → Option (List ℕ) → List ℕ → Type 0
LooksOn (Ok (Some x)) old left left' new = (input : List ℕ) × Consumes left left' input × (next_session_answer (old ++ input) ≡ Ok (Some (x, new)))
LooksOn (Ok None) old left left' new = (input : List ℕ) × Consumes left left' input × (new ≡ old ++ input) × (next_session_answer new ≡ Ok None)
LooksOn (Err why) old left left' new = (input : List ℕ) × Consumes left left' input × GivesNoNext next_session_answer why (old ++ input)

-- the first frame that the bytes read spell, and whether they end with it; or why there is none
abbrev pub Hears : Result Told CallFault → Option (List ℕ) → Option (List ℕ) → Type 0
Hears (Ok t) left left' = (input : List ℕ) × (rest : List ℕ) × Consumes left left' input × (next_session_answer input ≡ Ok (Some (t.answer, rest))) × (t.is_alone ≡ (length rest == 0))
Hears (Err why) left left' = (input : List ℕ) × Consumes left left' input × GivesNoNext next_session_answer why input

-- A frame is written, and the first frame of the server's taken. At Write only a prefix of the
-- frame was written.
abbrev pub Tells : Result Told CallFault → (frame : List ℕ) (left left' held held' : Option (List ℕ)) → Type 0
Tells (Err call.Write) frame left left' held held' = WritesPrefix held held' frame × Keeps left left'
Tells (Err call.Memory) frame left left' held held' = (Keeps held held' ⊎ Appends held held' frame) × ((input : List ℕ) × Consumes left left' input)
Tells told frame left left' held held' = Appends held held' frame × Hears told left left'
