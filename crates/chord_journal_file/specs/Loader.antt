-- A file that is read. Source: our own.
use Rattle.std.specs.Prelude.{ℕ, Bool, List}
use Rattle.chord_resp.specs.Machine.{State}

-- what has come of the next command, the bytes that were fed and not read yet, and whether a
-- command of more words than a client may write is being read
pub record Loader : Type 0 where
  pub state : State
  pub bytes : List ℕ
  pub is_long : Bool
