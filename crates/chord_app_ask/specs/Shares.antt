-- What each connection of a load sends. Source: our own.
use Rattle.std.specs.Prelude.{ℕ, ◌+◌, ◌-◌, ◌^◌, ◌/◌, ◌%◌, max, Bool, false, true, ◌&&◌, nat_lt}
use Rattle.std.specs.Prelude.{if◌then◌else◌, is_some}
use Rattle.chord_app_ask.specs.declared.load.bounds.Kind.{Kind}
use Rattle.chord_app_ask.specs.declared.load.bounds.Kind.TheVariants.{Insert, Retrieve}
use Rattle.chord_app_ask.specs.declared.load.bounds.Until.{Until}
use Rattle.chord_app_ask.specs.declared.load.bounds.Until.TheVariants.{Seconds, Requests}
use Rattle.chord_app_ask.specs.declared.load.bounds.Load.{Load}

-- each value that is sent is inserted
abbrev pub inserts : Kind → Bool
inserts Insert = true
inserts Retrieve = false

-- the load inserts, and cuts connections whose sessions go on
abbrev pub inserts_under_cuts : Load → Bool
inserts_under_cuts load = inserts load.kind && is_some load.drops && is_some load.tokens

-- One connection's share of some requests: what each gets if all get the same number, and one more
-- for the first connections, as many as requests are left.
abbrev pub even_share : ℕ → ℕ → ℕ → ℕ
even_share requests connections number =
    requests / connections + (if nat_lt number (requests % connections) then 1 else 0)

-- how many requests the connection of this number sends at most; a load that lasts for a time has
-- no bound of its own
abbrev pub share_of : Until → ℕ → ℕ → ℕ
share_of (Seconds seconds) connections number = 2 ^ 64 - 1
share_of (Requests requests) connections number = even_share requests (max connections 1) number
