-- What goes over a connection whose requests a service answers. Source: our own, over the history of
-- a connection of the kit's HTTP server.
use Rattle.std.specs.Prelude.{◌≡◌, ℕ, List}
use Rattle.http.specs.declared.request.Request.{Request}
use Rattle.http_server.specs.declared.response.Response.{Response}
use Rattle.http_server.specs.declared.state.Config.{Config}
use Rattle.http_server.specs.Exchange.{Chain}
use Rattle.http_server.specs.History.{History, IsServed}

-- A connection received these bytes and sent those. It takes bodies of at most `most` bytes.
pub record IsConversation {S : Type 0} (answers : S → Request (List ℕ) → Response → S → Type 0) (most : ℕ) (old new : S) (received sent : List ℕ) : Type 0 where
  pub config : Config
  pub history : History
  pub body : config.max_body_len ≡ most
  pub read : history.received ≡ received
  pub written : history.sent ≡ sent
  -- what was sent answers the requests that were received, in their order
  pub served : ∥ IsServed config history ∥₁
  -- each request that was answered was given to the service once
  pub calls : Chain answers old history.calls new
