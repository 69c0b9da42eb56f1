-- Reading answers from left to right, up to the first fault. Source: our own.
use Rattle.std.specs.Prelude.{◌≡◌, ℕ, zero, suc, Bool, true, false, not, ◌||◌, List, [], ◌∷◌, length, Option, Some, None, Result, Ok, Err, nat_lt, ◌==◌, if◌then◌else◌, ◌⊎◌, IsOk}
use Rattle.std.specs.Int.{w32, w64}
use Rattle.std.specs.Ordering.{nat_cmp, is_lt}
use Rattle.std.specs.Cmp.Lexicographic.{slice_cmp}
use Rattle.chord_map.specs.declared.reply.Reply.{Reply}
use Rattle.chord_map.specs.declared.reply.Reply.TheVariants.{Added, Present, SetFull, Values, Removed, Absent}
use Rattle.chord_wire.specs.declared.answer.Answer.{Answer}
use Rattle.chord_wire.specs.declared.answer.Answer.TheVariants as answer
use Rattle.chord_wire.specs.declared.fault.FaultCode.TheVariants.{BadLength, BadVersion, BadOperation, BadValue, Trailing}
use Rattle.chord_wire.specs.declared.fault.WireFault.{WireFault}
use Rattle.chord_wire.specs.Fault.{fault, out_of_memory, code_of}
use Rattle.chord_wire.specs.Reading.{◌>>=◌, number_at, value_at, next_of}

-- the value, or the fault if there is none
abbrev pub or_fault : {X : Type 0} → WireFault → Option X → Result X WireFault
or_fault f None = Err f
or_fault f (Some x) = Ok x

-- the reply of this kind with this status
abbrev pub status_of : ℕ → ℕ → Option Reply
status_of kind status =
    if kind == 129 then (if status == 0 then Some Present else (if status == 1 then Some Added else (if status == 2 then Some SetFull else None)))
    else (if status == 0 then Some Absent else (if status == 1 then Some Removed else None))

-- the reply of a status byte
unfoldable pub status_at : ℕ → ℕ → List ℕ → Result (Answer × List ℕ) WireFault
status_at kind number [] = Err (fault BadValue number)
status_at kind number (status ∷ rest) = do
  reply ← or_fault (fault BadValue number) (status_of kind status)
  Ok (answer.Reply number reply, rest)

-- the fault of a code byte
unfoldable pub code_at : ℕ → List ℕ → Result (Answer × List ℕ) WireFault
code_at number [] = Err (fault BadValue number)
code_at number (code ∷ rest) = do
  known ← or_fault (fault BadValue number) (code_of code)
  Ok (answer.Fault number known, rest)

-- whether a value is above the one before it, if any, in byte order
abbrev pub is_above : Option (List ℕ) → List ℕ → Bool
is_above None value = true
is_above (Some before) value = is_lt (slice_cmp nat_cmp before value)

-- whether each value has at most 4,096 bytes and is above the one before it
abbrev pub rise_from : Option (List ℕ) → List (List ℕ) → Bool
rise_from before [] = true
rise_from before (value ∷ values) = if nat_lt 4096 (length value) || not (is_above before value) then false else rise_from (Some value) values

-- a value that is above the one before it
unfoldable pub value_above : ℕ → Option (List ℕ) → List ℕ → Result (List ℕ × List ℕ) WireFault
value_above number before bytes = do
  value ← value_at number bytes
  if is_above before value.0 then Ok value else Err (fault BadValue number)

-- `count` values, each above the one before it
unfoldable pub rising_at : ℕ → Option (List ℕ) → ℕ → List ℕ → Result (List (List ℕ) × List ℕ) WireFault
rising_at number before zero bytes = Ok ([], bytes)
rising_at number before (suc count) bytes = do
  value ← value_above number before bytes
  others ← rising_at number (Some value.0) count value.1
  Ok (value.0 ∷ others.0, others.1)

-- a count of at most 1,000, and the values
unfoldable pub values_from : ℕ → List ℕ → Result (Answer × List ℕ) WireFault
values_from number bytes = do
  count ← number_at w32 (fault BadValue number) bytes
  if nat_lt 1000 count.0 then Err (fault BadValue number) else (do
    values ← rising_at number None count.0 count.1
    Ok (answer.Reply number (Values values.0), values.1))

-- the fields after the number
unfoldable pub answer_at : ℕ → ℕ → List ℕ → Result (Answer × List ℕ) WireFault
answer_at kind number bytes = if kind == 130 then values_from number bytes else (if kind == 255 then code_at number bytes else status_at kind number bytes)

-- no byte may come after the last field
abbrev pub answer_at_end : ℕ → Result (Answer × List ℕ) WireFault → Result Answer WireFault
answer_at_end number read = read >>= λ x. if length x.1 == 0 then Ok x.0 else Err (fault Trailing number)

-- the fields after the kind
unfoldable pub answer_fields : ℕ → List ℕ → Result Answer WireFault
answer_fields kind bytes = do
  number ← number_at w64 (fault BadLength 0) bytes
  answer_at_end number.0 (answer_at kind number.0 number.1)

-- the answer of a whole body, or its first fault
unfoldable pub answer_in : List ℕ → Result Answer WireFault
answer_in (version ∷ kind ∷ rest) =
    if not (version == 1) then Err (fault BadVersion 0)
    else (if not (kind == 129 || kind == 130 || kind == 131 || kind == 255) then Err (fault BadOperation 0)
    else answer_fields kind rest)
answer_in _ = Err (fault BadLength 0)

-- the answer of the next frame, and the bytes after it
unfoldable pub next_answer : List ℕ → Result (Option (Answer × List ℕ)) WireFault
next_answer bytes = next_of 11 4098014 answer_in bytes

-- If the reading gives a value, this is the rest after it; the value itself is not copied.
abbrev pub ReadsPast : {X Y : Type 0} → (X → List ℕ) → Result X WireFault → Result (Y × List ℕ) WireFault → Type 0
ReadsPast {Y = Y} view (Ok rest) read = (y : Y) × (read ≡ Ok (y, view rest))
ReadsPast view (Err e) read = read ≡ Err e

-- what a function returned is what the reading gives, unless memory ran out
abbrev pub Copies : {X Y : Type 0} → (X → Y) → Result X WireFault → Result Y WireFault → Type 0
Copies view (Ok x) read = read ≡ Ok (view x)
Copies view (Err e) read = (read ≡ Err e) ⊎ (e ≡ out_of_memory)

-- `Copies` for a function that answers every other fault before Memory
abbrev pub CopiesLast : {X : Type 0} → Result X WireFault → Result X WireFault → Type 0
CopiesLast (Ok x) read = read ≡ Ok x
CopiesLast (Err e) read = (read ≡ Err e) ⊎ ((e ≡ out_of_memory) × IsOk read)
