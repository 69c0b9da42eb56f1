-- The one spelling of each reply and of each fault. Source: our own.
use Rattle.std.specs.Prelude.{◌≢◌, ℕ, ◌≤◌, ◌<◌, ◌^◌, List, [], ◌∷◌, ◌++◌, length}
use Rattle.std.specs.List.{flat_map, AllByRecursion}
use Rattle.std.specs.Cmp.Lexicographic.{slice_cmp}
use Rattle.std.specs.Ordering.{nat_cmp}
use Rattle.std.specs.List.Sorted.{IsStrictlySortedBy}
use Rattle.std.specs.Int.{w32, w64, to_be_bytes}
use Rattle.chord_map.specs.Checked.{IsValue}
use Rattle.chord_map.specs.declared.reply.Reply.{Reply}
use Rattle.chord_map.specs.declared.reply.Reply.TheVariants.{Added, Present, SetFull, Values, Removed, Absent}
use Rattle.chord_wire.specs.declared.fault.FaultCode.{FaultCode}
use Rattle.chord_wire.specs.declared.fault.FaultCode.TheVariants.{Memory}
use Rattle.chord_wire.specs.declared.answer.Answer.{Answer}
use Rattle.chord_wire.specs.declared.answer.Answer.TheVariants as answer
use Rattle.chord_wire.specs.Fault.{code_number}
use Rattle.chord_wire.specs.Spelling.{value_field}

-- the kind of the reply: to an insert, to a retrieve or to a remove
abbrev pub reply_kind : Reply → ℕ
reply_kind Added = 129
reply_kind Present = 129
reply_kind SetFull = 129
reply_kind (Values values) = 130
reply_kind Removed = 131
reply_kind Absent = 131

-- a count in four bytes, then each value
abbrev pub values_field : List (List ℕ) → List ℕ
values_field values = to_be_bytes w32 (length values) ++ flat_map value_field values

-- a status, or the values
abbrev pub reply_fields : Reply → List ℕ
reply_fields Added = 1 ∷ []
reply_fields Present = 0 ∷ []
reply_fields SetFull = 2 ∷ []
reply_fields (Values values) = values_field values
reply_fields Removed = 1 ∷ []
reply_fields Absent = 0 ∷ []

-- version, kind, number and fields
abbrev pub reply_body : ℕ → Reply → List ℕ
reply_body number reply = 1 ∷ reply_kind reply ∷ to_be_bytes w64 number ++ reply_fields reply

-- version, 255, number and code
abbrev pub fault_body : ℕ → FaultCode → List ℕ
fault_body number code = 1 ∷ 255 ∷ to_be_bytes w64 number ++ code_number code ∷ []

-- at most 1,000 values, strictly rising in byte order
pub record AreValues (values : List (List ℕ)) : Type 0 where
  pub count : length values ≤ 1000
  pub each : AllByRecursion IsValue values
  pub rising : IsStrictlySortedBy (slice_cmp nat_cmp) values

-- replies that have a spelling
abbrev pub IsReply : Reply → Type 0
IsReply Added = Unit {0}
IsReply Present = Unit {0}
IsReply SetFull = Unit {0}
IsReply (Values values) = AreValues values
IsReply Removed = Unit {0}
IsReply Absent = Unit {0}

-- the body of an answer's frame
abbrev pub answer_body : Answer → List ℕ
answer_body (answer.Reply number reply) = reply_body number reply
answer_body (answer.Fault number code) = fault_body number code

-- answers that have a spelling; no frame says that memory ran out
abbrev pub IsAnswer : Answer → Type 0
IsAnswer (answer.Reply number reply) = (number < 2 ^ 64) × IsReply reply
IsAnswer (answer.Fault number code) = (number < 2 ^ 64) × (code ≢ Memory)

-- the kind of an answer; its number; its fields
abbrev pub kind_of : Answer → ℕ
kind_of (answer.Reply number reply) = reply_kind reply
kind_of (answer.Fault number code) = 255

abbrev pub number_of : Answer → ℕ
number_of (answer.Reply number reply) = number
number_of (answer.Fault number code) = number

abbrev pub fields_of : Answer → List ℕ
fields_of (answer.Reply number reply) = reply_fields reply
fields_of (answer.Fault number code) = code_number code ∷ []
