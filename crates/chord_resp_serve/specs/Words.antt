-- What the words of a command are answered, and how the connection goes on. Source: our own.
use Rattle.std.specs.Prelude.{◌≡◌, ◌⊎◌, ℕ, List, Result, Ok, Err, IsErr}
use Rattle.std.specs.declared.alloc.AllocError.{AllocError}
use Rattle.chord_serve.specs.declared.asker.Asked.{Asked}
use Rattle.chord_serve.specs.Question.{Question}
use Rattle.chord_resp.specs.declared.reading.word.Word.{Word}
use Rattle.chord_resp.specs.declared.table.command.Command.{Command}
use Rattle.chord_resp.specs.declared.table.command.Command.TheVariants as command
use Rattle.chord_resp.specs.declared.table.refusal.Refusal.{Refusal}
use Rattle.chord_resp.specs.Answers.{error, Joins}
use Rattle.chord_resp.specs.Refusals.{refusal_text}
use Rattle.chord_resp.specs.Table.{command_of}
use Rattle.chord_resp_serve.specs.declared.about.About.{About}
use Rattle.chord_resp_serve.specs.declared.flow.Flow.{Flow}
use Rattle.chord_resp_serve.specs.declared.flow.Flow.TheVariants as flow
use Rattle.chord_resp_serve.specs.declared.standing.Standing.{Standing}
use Rattle.chord_resp_serve.specs.Answering.{AnswersCommand}
use Rattle.chord_resp_serve.specs.Transactions.{allowed, standing_behind}

-- QUIT and SHUTDOWN end the connection
abbrev pub flow_of : Command → Flow
flow_of command.Quit = flow.Quits
flow_of command.Shutdown = flow.Quits
flow_of _ = flow.GoesOn

-- the flow, if there was memory to tell the answer
abbrev pub with_flow : Result (Unit {0}) AllocError → Flow → Result Flow AllocError
with_flow (Ok told) f = Ok f
with_flow (Err e) f = Err e

module _ {A : Type 0} (answers : A → Question → Asked → A → Type 0) where
  -- the command is done, or its refusal is told and nothing is asked
  abbrev pub AnswersTable : Result Command Refusal → About → Standing → A → Result Flow AllocError → List ℕ → List ℕ → Standing → A → Type 0
  AnswersTable (Ok c) about n a result old new n' a' =
      (told : Result (Unit {0}) AllocError) × AnswersCommand answers about c n a told old new n' a' × (result ≡ with_flow told (flow_of c))
  AnswersTable (Err r) about n a result old new n' a' =
      (told : Result (Unit {0}) AllocError) × (n' ≡ n) × (a' ≡ a) × Joins told old new (error (refusal_text r)) × (result ≡ with_flow told flow.GoesOn)

  -- there was no memory for the command, and nothing is asked
  pub record HasNoMemory (n : Standing) (a : A) (result : Result Flow AllocError) (old new : List ℕ) (n' : Standing) (a' : A) : Type 0 where
    pub refused : IsErr result
    pub output : new ≡ old
    pub standing : n' ≡ n
    pub asker : a' ≡ a

  -- what the words call for is done and told
  abbrev pub AnswersWords : About → List Word → Standing → A → Result Flow AllocError → List ℕ → List ℕ → Standing → A → Type 0
  AnswersWords about words n a result old new n' a' =
      HasNoMemory n a result old new n' a' ⊎ AnswersTable (allowed n.is_in_transaction (command_of words)) about
      (standing_behind n (command_of words)) a result old new n' a'
