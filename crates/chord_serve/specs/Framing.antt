-- Frames as the protocol of a link. Source: our own.
use Rattle.std.specs.Prelude.{◌≡◌, ℕ, List, ◌++◌, length, ◌==◌, Bool, false, Some, None, Result, Ok}
use Rattle.chord_wire.specs.declared.request.WireRequest.{WireRequest}
use Rattle.chord_wire.specs.Reading.{next_request}
use Rattle.chord_wire.specs.Spelling.{IsWireRequest}
use Rattle.chord_wire.specs.Streams.{request_frame}
use Rattle.chord_serve.specs.Parting.{parted_as}
use Rattle.chord_serve.specs.Question.{Question}
use Rattle.chord_serve.specs.Served.{Dealt, IsParted, is_other}
use Rattle.chord_serve.specs.Standing.{Stands}
use Rattle.chord_serve.specs.Stepping.{AnswersNext}
use Rattle.chord_serve.specs.Steps.{IsAsked}
use Rattle.chord_serve.specs.declared.asker.Asked.{Asked}
use Rattle.chord_serve.specs.declared.asker.Asked.TheVariants.{NoAnswer}
use Rattle.chord_serve.specs.declared.frame_protocol.FrameProtocol.{FrameProtocol}
use Rattle.chord_serve.specs.declared.link.stage.Stage.{Stage}
use Rattle.chord_serve.specs.declared.link.stage.Step.{Step}
use Rattle.chord_serve.specs.declared.served.Served.{Served}

module _ {A : Type 0} where
  -- the same connection, whatever it read and answered
  abbrev pub IsSame : FrameProtocol A → FrameProtocol A → Type 0
  IsSame c d = (d.is_opened ≡ c.is_opened) × (d.is_over ≡ c.is_over)

  abbrev pub FrameHears : FrameProtocol A → List ℕ → FrameProtocol A → Type 0
  FrameHears c piece d = (d.frames ≡ c.frames ++ piece) × (d.client ≡ c.client)
      × (d.is_opened ≡ c.is_opened) × (d.is_over ≡ c.is_over)

  -- no request waits for its answer
  abbrev pub FrameIdles : FrameProtocol A → Type 0
  FrameIdles c = c.waiting ≡ None

  abbrev pub FrameRests : FrameProtocol A → Type 0
  FrameRests c = next_request c.frames ≡ Ok None

  abbrev pub is_between : FrameProtocol A → Bool
  is_between c = length c.frames == 0

  -- the frame of this request is taken off
  pub record TakesRequest (c : FrameProtocol A) (r : WireRequest) (d : FrameProtocol A)
      : Type 0 where
    pub fits : IsWireRequest r
    pub frames_are : c.frames ≡ request_frame r ++ d.frames
    pub next : next_request c.frames ≡ Ok (Some (r, d.frames))
    pub same : IsSame c d

  module _ (answers : A → Question → Asked → A → Type 0) where
    abbrev pub FrameSays : FrameProtocol A → List ℕ → FrameProtocol A → Type 0
    FrameSays c bytes d =
        Dealt answers c.client.version c.client.numbers c.client.asker c.frames bytes d.frames
        d.client.version d.client.numbers d.client.asker
        × (d.is_opened ≡ c.is_opened) × (d.is_over ≡ c.is_over)

    abbrev pub FrameStops : Served → FrameProtocol A → List ℕ → FrameProtocol A → Type 0
    FrameStops end c bytes d =
        c.is_over ≡ false → IsParted answers c.is_opened end c.client.version c.client.numbers
        c.client.asker c.frames bytes (parted_as d.is_over d.client)

    -- the next request was asked, and this answer to it is not told yet
    pub record FrameAsked (c : FrameProtocol A) (number : ℕ) (answer : Asked)
        (d : FrameProtocol A) : Type 0 where
      pub request : WireRequest
      pub taken : TakesRequest c request d
      pub same_version : is_other c.client.version request.version ≡ false
      pub asked : IsAsked answers c.client.numbers c.client.asker request answer
          d.client.numbers d.client.asker
      pub version_is : d.client.version ≡ Some request.version
      pub number_is : number ≡ request.number

    -- it waits for its answer
    abbrev pub FrameBegun : FrameProtocol A → FrameProtocol A → Type 0
    FrameBegun c d = (number : ℕ) × (d.waiting ≡ Some number) × FrameAsked c number NoAnswer d

    -- what a step did with the next request
    abbrev pub FrameSteps : Result Step Served → FrameProtocol A → List ℕ → List ℕ
        → FrameProtocol A → Type 0
    FrameSteps = AnswersNext FrameHears FrameSays FrameStops FrameRests FrameIdles FrameBegun

    -- where a link stands that speaks in frames
    abbrev pub FrameStands : Stage → FrameProtocol A → List ℕ → List ℕ → FrameProtocol A
        → Type 0
    FrameStands = Stands FrameHears FrameSays FrameStops FrameRests FrameIdles FrameBegun is_between
