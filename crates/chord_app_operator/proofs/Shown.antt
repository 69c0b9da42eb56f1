-- An answer that is shown, or memory ran out.
use Rattle.std.proofs.Common.{◌≡◌, Result, Ok, Err, OnOk, OnErr, inl, inr, sym, subst}
use Rattle.std.specs.Prelude.{⊤}
use Rattle.std.specs.declared.alloc.AllocError.{AllocError}
use Rattle.http_server.specs.declared.response.Response.{Response}
use Rattle.chord_app_operator.specs.Replies.{IsFull}
use Rattle.chord_app_operator.specs.Services.{OrFull}

pub shown_or_full : (outcome : Result ⊤ AllocError) (Shows : Response → Type 0) (shown new : Response) → OnOk outcome (Shows shown) → OnOk outcome (new ≡ shown) → OnErr outcome (IsFull new) → OrFull (Shows new) new
shown_or_full (Ok done) Shows shown new is same full = inl (subst Shows (sym same) is)
shown_or_full (Err refused) Shows shown new is same full = inr full
