-- What is true of an operator's link at each moment. Source: our own.
use Rattle.std.specs.Prelude.{◌≡◌, ℕ, List, [], ◌∷◌, Option}
use Rattle.std.specs.Io.KnownBytes.{Appends, Consumes}
use Rattle.http.specs.declared.request.Request.{Request}
use Rattle.http_server.specs.declared.response.Response.{Response}
use Rattle.http_server.specs.declared.state.Config.{Config}
use Rattle.http_server.specs.History.{History}
use Rattle.chord_app_operator.specs.declared.link.duplex.Duplex.{Duplex}
use Rattle.chord_app_operator.specs.declared.service.OperatorService.{OperatorService}
use Rattle.chord_app_operator.specs.Conversations.{IsConversation}
use Rattle.chord_app_operator.specs.Questions.{Question, Answer}
use Rattle.chord_app_operator.specs.Services.{IsServed}

-- A service whose operator gives such answers serves a request so, and stays at its port.
abbrev pub ServesBy : {O : Type 0} → (O → Question → Answer → O → Type 0)
    → OperatorService O → Request (List ℕ) → Response → OperatorService O → Type 0
ServesBy answers old request response new =
    (new.site ≡ old.site) × IsServed answers old.site old.operator request response new.operator

-- What it read from its stream and wrote there since it began, with the first stream and service of
-- its log, is a conversation, whose history is that of its connection.
pub record Told {S R W : Type 0} (answers : S → Request (List ℕ) → Response → S → Type 0) (most : ℕ)
    (left : R → Option (List ℕ)) (held : W → Option (List ℕ)) (log : List (Duplex R W × S)) (stream : Duplex R W)
    (config : Config) (history : History) (now : S) : Type 0 where
  pub first : Duplex R W × S
  pub begins : log ≡ first ∷ []
  pub received : List ℕ
  pub sent : List ℕ
  pub read : Consumes (left first.0.reader) (left stream.reader) received
  pub written : Appends (held first.0.writer) (held stream.writer) sent
  pub had : IsConversation answers most first.1 now received sent
  pub config_is : had.config ≡ config
  pub history_is : had.history ≡ history
