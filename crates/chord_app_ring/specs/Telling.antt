-- What an answer says, by its status, its type and its body. Source: our own, over RFC 9110
-- (section 15).
use Rattle.std.specs.Prelude.{ℕ, List, length, Bool, ◌==◌, ◌&&◌, nat_lt, nat_le, Result, Ok, Err, Vec, if◌then◌else◌}
use Rattle.std.specs.declared.alloc.Global.{Global}
use Rattle.chord_app_ring.specs.declared.fault.RingFault.{RingFault}
use Rattle.chord_app_ring.specs.declared.fault.RingFault.TheVariants.{NotUnderstood, Refused, ServerMemory}
use Rattle.chord_app_ring.specs.declared.inbox.Answer.{Answer}

-- a text by which what was asked for is done
abbrev pub is_done : Answer → Bool
is_done answer = answer.is_text && (nat_le 200 answer.status && nat_lt answer.status 300)

-- a text that says why it is refused
abbrev pub is_refusal : Answer → Bool
is_refusal answer = answer.is_text && nat_le 400 answer.status

-- a server without memory for an answer sends no body
abbrev pub is_without_memory : Answer → Bool
is_without_memory answer = (answer.status == 507) && (length answer.body.items == 0)

-- the text of an answer, or why there is none
abbrev pub text_of : Answer → Result (Vec ℕ Global) RingFault
text_of answer =
    if is_done answer then Ok answer.body
    else (if is_refusal answer then Err (Refused answer.body)
    else (if is_without_memory answer then Err ServerMemory else Err NotUnderstood))
