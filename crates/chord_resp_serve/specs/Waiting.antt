-- Commands whose requests wait, and Redis's protocol as the protocol of a link. Source: our own.
use Rattle.std.specs.Prelude.{◌≡◌, ℕ, ◌+◌, Bool, true, List, [], ◌∷◌, ◌++◌, length, Some, None, Result, Ok, Err}
use Rattle.std.specs.declared.alloc.AllocError.{AllocError}
use Rattle.chord_map.specs.declared.request.Request.{Request}
use Rattle.chord_serve.specs.declared.asker.Asked.{Asked}
use Rattle.chord_serve.specs.declared.asker.Asked.TheVariants as asked
use Rattle.chord_serve.specs.declared.link.stage.Stage.{Stage}
use Rattle.chord_serve.specs.declared.link.stage.Step.{Step}
use Rattle.chord_serve.specs.declared.link.stage.Step.TheVariants as steps
use Rattle.chord_serve.specs.declared.served.Served.{Served}
use Rattle.chord_serve.specs.declared.served.Served.TheVariants as served
use Rattle.chord_serve.specs.Question.{Question, Ask}
use Rattle.chord_serve.specs.Standing.{Stands}
use Rattle.chord_serve.specs.Stepping.{AnswersNext}
use Rattle.chord_resp.specs.declared.reading.word.Word.{Word}
use Rattle.chord_resp.specs.declared.table.command.Command.{Command}
use Rattle.chord_resp.specs.Reading.{reading_of, with_commands, with_more, is_between}
use Rattle.chord_resp.specs.Table.{command_of}
use Rattle.chord_resp_serve.specs.declared.hearing.Course.{Course}
use Rattle.chord_resp_serve.specs.declared.hearing.Course.TheVariants.{Ended, Waits}
use Rattle.chord_resp_serve.specs.declared.command_protocol.CommandProtocol.{CommandProtocol}
use Rattle.chord_resp_serve.specs.declared.flow.Flow.{Flow}
use Rattle.chord_resp_serve.specs.declared.flow.Flow.TheVariants as flow
use Rattle.chord_resp_serve.specs.declared.standing.Standing.{Standing}
use Rattle.chord_resp_serve.specs.declared.tally.Tally.{Tally}
use Rattle.chord_resp_serve.specs.declared.waiting_command.WaitingCommand.{WaitingCommand}
use Rattle.chord_resp_serve.specs.Asking.{AsksFrom, asked_one, empty_tally, outcome_of}
use Rattle.chord_resp_serve.specs.Connections.{AnswersOne, StopsSo}
use Rattle.chord_resp_serve.specs.News.{News, NewsIs, subject_of}
use Rattle.chord_resp_serve.specs.Transactions.{allowed, standing_behind}

-- ---- the requests of a command

module _ {A : Type 0} (answers : A → Question → Asked → A → Type 0) where
  -- The first requests are asked, each once and in order, and are done, which came to the second
  -- tally. The next one is asked, and its answer is not heard yet.
  pub record AsksUpTo (n : Standing) (a : A) (t : Tally) (requests : List Request) (answer : Asked)
      (u : Tally) (n' : Standing) (a' : A) : Type 0 where
    pub first : List Request
    pub next : Request
    pub rest : List Request
    pub parts : requests ≡ first ++ next ∷ rest
    pub count : u.done ≡ t.done + length first
    pub between : Standing
    pub asker : A
    pub done : AsksFrom answers n a t first (Ok u) between asker
    pub asked : answers asker (Ask next between.asked) answer a'
    pub standing : n' ≡ asked_one between

  -- the requests are asked, as `AsksFrom` says, or up to one that waits
  abbrev pub AsksSome : Course → Standing → A → Tally → List Request → Tally → Standing → A → Type 0
  AsksSome (Ended outcome) n a t requests u n' a' =
      AsksFrom answers n a t requests (outcome_of outcome u) n' a'
  AsksSome Waits n a t requests u n' a' = AsksUpTo n a t requests asked.NoAnswer u n' a'

-- ---- the protocol

-- what a link does behind a command
abbrev pub step_of : Result Flow AllocError → Result Step Served
step_of (Ok flow.GoesOn) = Ok steps.Answered
step_of (Ok flow.Quits) = Err served.Quit
step_of (Err refused) = Err served.Memory

module _ {A I : Type 0} where
  -- a piece of the input is read behind what came before
  abbrev pub CommandHears : CommandProtocol A I → List ℕ → CommandProtocol A I → Type 0
  CommandHears c piece d = (reading_of d.commands ≡ with_more (reading_of c.commands) piece)
      × (d.standing ≡ c.standing) × (d.asker ≡ c.asker) × (d.server ≡ c.server)

  -- every byte is read
  abbrev pub CommandRests : CommandProtocol A I → Type 0
  CommandRests c = c.commands.bytes ≡ []

  -- no command waits
  abbrev pub CommandIdles : CommandProtocol A I → Type 0
  CommandIdles c = c.waiting ≡ None

  -- no command has come in part
  abbrev pub is_between_commands : CommandProtocol A I → Bool
  is_between_commands c = is_between c.commands

  -- the words of the next command are taken off
  pub record TakesWords (c : CommandProtocol A I) (words : List Word) (d : CommandProtocol A I)
      : Type 0 where
    pub next : reading_of c.commands ≡ with_commands (words ∷ []) (reading_of d.commands)
    pub server : d.server ≡ c.server

  -- it is this command; the text is what the server tells, if the words ask for it
  pub record TakesCommand (tells : I → News → Type 0) (c : CommandProtocol A I)
      (command : Command) (info : List ℕ) (d : CommandProtocol A I) : Type 0 where
    pub words : List Word
    pub taken : TakesWords c words d
    pub command_is : allowed c.standing.is_in_transaction (command_of words) ≡ Ok command
    pub informed : NewsIs (tells c.server.source.now) (subject_of words) info

  module _ (answers : A → Question → Asked → A → Type 0) (tells : I → News → Type 0) where
    -- the next command is answered with these bytes
    abbrev pub CommandSays : CommandProtocol A I → List ℕ → CommandProtocol A I → Type 0
    CommandSays c bytes d = (words : List Word)
        × (reading_of c.commands ≡ with_commands (words ∷ []) (reading_of d.commands))
        × AnswersOne answers (tells c.server.source.now) c.server.number words (Ok flow.GoesOn)
        c.standing c.asker bytes d.standing d.asker
        × (d.server ≡ c.server)

    -- it ends the connection
    abbrev pub CommandStops : Served → CommandProtocol A I → List ℕ → CommandProtocol A I
        → Type 0
    CommandStops end c bytes d =
        StopsSo answers (tells c.server.source.now) c.server.number end (reading_of c.commands)
        c.standing c.asker bytes d.asker

    -- The next command was begun: its first requests are done, and the one behind them got this
    -- answer, which is not heard yet.
    pub record CommandAsked (c : CommandProtocol A I) (waiting : WaitingCommand) (answer : Asked)
        (d : CommandProtocol A I) : Type 0 where
      pub taken : TakesCommand tells c waiting.command waiting.info.items d
      pub asked : AsksUpTo answers (standing_behind c.standing (command_of taken.words)) c.asker
          empty_tally waiting.requests answer
          waiting.tally d.standing d.asker

    -- it waits for that answer
    abbrev pub CommandBegun : CommandProtocol A I → CommandProtocol A I → Type 0
    CommandBegun c d = (waiting : WaitingCommand) × (d.waiting ≡ Some waiting)
        × CommandAsked c waiting asked.NoAnswer d

    -- what a step did with the next command
    abbrev pub CommandSteps : Result Step Served → CommandProtocol A I → List ℕ → List ℕ
        → CommandProtocol A I → Type 0
    CommandSteps = AnswersNext CommandHears CommandSays CommandStops CommandRests CommandIdles
        CommandBegun

    -- where a link stands that speaks Redis's protocol
    abbrev pub CommandStands : Stage → CommandProtocol A I → List ℕ → List ℕ
        → CommandProtocol A I → Type 0
    CommandStands = Stands CommandHears CommandSays CommandStops CommandRests CommandIdles
        CommandBegun is_between_commands
