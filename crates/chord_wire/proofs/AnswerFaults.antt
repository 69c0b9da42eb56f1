-- Reading answers gives exactly the fault of the table.
use Rattle.std.proofs.Common.{◌≡◌, ◌≢◌, ℕ, zero, suc, ◌^◌, ◌<◌, ◌≤◌, ◌||◌, true, false, cond, eqb, ltb, List, [], ◌∷◌, ◌++◌, length, Option, Some, None, Result, Ok, Err, refl, sym, ap, subst, ◌∙◌, arith, inl, inr}
use Rattle.std.specs.Int.{w32, w64, to_be_bytes}
use Rattle.std.proofs.lemmas.Bool.{true≢false, eqb-true, eqb-false, ne_eqb, eq-eqb, cases_Bool}
use Rattle.std.proofs.lemmas.List.{nil_from_length}
use Rattle.chord_map.specs.declared.reply.Reply.{Reply}
use Rattle.chord_map.specs.declared.reply.Reply.TheVariants.{Values}
use Rattle.chord_wire.specs.declared.answer.Answer.{Answer}
use Rattle.chord_wire.specs.declared.answer.Answer.TheVariants as answer
use Rattle.chord_wire.specs.declared.fault.WireFault.{WireFault}
use Rattle.chord_wire.specs.declared.fault.FaultCode.TheVariants.{BadLength, BadVersion, BadOperation, BadValue, Trailing}
use Rattle.chord_wire.specs.Fault.{fault, code_of}
use Rattle.chord_wire.specs.Spelling.{IsBytes}
use Rattle.chord_wire.specs.Replies.{kind_of, number_of, fields_of, IsAnswer, answer_body}
use Rattle.chord_wire.specs.Reading.{◌>>=◌, number_at, value_at, next_of}
use Rattle.chord_wire.specs.ReadingReplies.{or_fault, status_of, status_at, code_at, is_above, value_above, rising_at, values_from, answer_at, answer_fields, answer_in, next_answer}
use Rattle.chord_wire.specs.FaultTable.{AnswerHead, IsKind, BeginsWithAnswer, AnswerFaultFrom}
use Rattle.chord_wire.specs.FaultTable.AnswerFaultFrom.{Bad_length, Bad_version, Bad_operation, Bad_value, Trails}
use Rattle.chord_wire.proofs.Steps.{wide64, number_again}
use Rattle.chord_wire.proofs.NextLaws.{IsRead}
use Rattle.chord_wire.proofs.AnswerLaws.{answer_takes, status_again, fault_again, known_kind, is_answer}
use Rattle.chord_wire.proofs.FaultLaws.{Fails, fails_ok, fails_err, fails_if, fails_then, fails_so, number_fails, value_fails, broke, body_of, fields_fit, next_fails, length_reads, ok_then, err_not, err_is, next_fault}
use Rattle.chord_wire.proofs.FaultLaws.Broke.{First, Then}

-- ---- the bytes after the number fail as a value

known_fails : {A : Type 0} (d : WireFault) (o : Option A) → Fails d (or_fault d o)
known_fails d None = fails_err d
known_fails d (Some x) = fails_ok d x

status_fails : (kind number : ℕ) (bytes : List ℕ) → Fails (fault BadValue number) (status_at kind number bytes)
unfolding status_at
status_fails kind number [] = fails_err (fault BadValue number)
status_fails kind number (status ∷ rest) =
    let d = fault BadValue number in
    fails_then d (or_fault d (status_of kind status)) _ (known_fails d (status_of kind status)) (λ reply. fails_ok d (answer.Reply number reply, rest))

code_fails : (number : ℕ) (bytes : List ℕ) → Fails (fault BadValue number) (code_at number bytes)
unfolding code_at
code_fails number [] = fails_err (fault BadValue number)
code_fails number (code ∷ rest) =
    let d = fault BadValue number in
    fails_then d (or_fault d (code_of code)) _ (known_fails d (code_of code)) (λ known. fails_ok d (answer.Fault number known, rest))

above_fails : (number : ℕ) (before : Option (List ℕ)) (bytes : List ℕ) → Fails (fault BadValue number) (value_above number before bytes)
unfolding value_above
above_fails number before bytes =
    let d = fault BadValue number in
    fails_then d (value_at number bytes) _ (value_fails number bytes) (λ value. fails_if d (is_above before value.0) (Ok value) (Err d) (fails_ok d value) (fails_err d))

rising_fails : (number : ℕ) (before : Option (List ℕ)) (count : ℕ) (bytes : List ℕ) → Fails (fault BadValue number) (rising_at number before count bytes)
unfolding rising_at
rising_fails number before zero bytes = fails_ok (fault BadValue number) ([], bytes)
rising_fails number before (suc count) bytes =
    let d = fault BadValue number in
    fails_then d (value_above number before bytes) _ (above_fails number before bytes) (λ value.
    fails_then d (rising_at number (Some value.0) count value.1) _ (rising_fails number (Some value.0) count value.1) (λ others. fails_ok d (value.0 ∷ others.0, others.1)))

values_fail : (number : ℕ) (bytes : List ℕ) → Fails (fault BadValue number) (values_from number bytes)
unfolding values_from
values_fail number bytes =
    let d = fault BadValue number in
    fails_then d (number_at w32 d bytes) _ (number_fails w32 d bytes) (λ count.
    fails_if d (ltb 1000 count.0) (Err d) (rising_at number None count.0 count.1 >>= λ values. Ok (answer.Reply number (Values values.0), values.1)) (fails_err d)
    (fails_then d (rising_at number None count.0 count.1) _ (rising_fails number None count.0 count.1) (λ values. fails_ok d (answer.Reply number (Values values.0), values.1))))

answer_fails : (kind number : ℕ) (bytes : List ℕ) → Fails (fault BadValue number) (answer_at kind number bytes)
unfolding answer_at
answer_fails kind number bytes =
    let d = fault BadValue number in
    fails_if d (eqb kind 130) (values_from number bytes) _ (values_fail number bytes)
    (fails_if d (eqb kind 255) (code_at number bytes) (status_at kind number bytes) (code_fails number bytes) (status_fails kind number bytes))

-- ---- from the table to reading

kind_test : (kind : ℕ) → IsKind kind → (((eqb kind 129 || eqb kind 130) || eqb kind 131) || eqb kind 255) ≡ true
kind_test kind (inl (inl insert)) = rw insert refl
kind_test kind (inl (inr remove)) = rw remove refl
kind_test kind (inr (inl values)) = rw values refl
kind_test kind (inr (inr fault)) = rw fault refl

answer_read : (a : Answer) (rest : List ℕ) → IsAnswer a → answer_at (kind_of a) (number_of a) (fields_of a ++ rest) ≡ Ok (a, rest)
answer_read (answer.Reply number reply) rest fits = status_again number reply rest fits.1
answer_read (answer.Fault number code) rest fits = fault_again number code rest fits.1

begins_read : {least : ℕ} {bytes : List ℕ} (head : AnswerHead least bytes) (a : Answer) (rest : List ℕ) → BeginsWithAnswer head a rest → answer_at head.op head.number head.fields ≡ Ok (a, rest)
begins_read head a rest begins =
    ap (answer_at head.op head.number) begins.parts
    ∙ ap (λ (k : ℕ). answer_at k head.number (fields_of a ++ rest)) (sym begins.kind)
    ∙ ap (λ (n : ℕ). answer_at (kind_of a) n (fields_of a ++ rest)) (sym begins.number)
    ∙ answer_read a rest begins.is_answer

kind_of_begun : {least : ℕ} {bytes : List ℕ} (head : AnswerHead least bytes) (a : Answer) (rest : List ℕ) → BeginsWithAnswer head a rest → IsKind head.op
kind_of_begun head a rest begins = subst IsKind begins.kind (is_kind a)
  where
    is_reply_kind : (reply : Reply) → IsKind (kind_of (answer.Reply 0 reply))
    is_reply_kind Reply.Added = inl (inl refl)
    is_reply_kind Reply.Present = inl (inl refl)
    is_reply_kind Reply.SetFull = inl (inl refl)
    is_reply_kind (Reply.Values values) = inr (inl refl)
    is_reply_kind Reply.Removed = inl (inr refl)
    is_reply_kind Reply.Absent = inl (inr refl)

    is_kind : (a : Answer) → IsKind (kind_of a)
    is_kind (answer.Reply number reply) = is_reply_kind reply
    is_kind (answer.Fault number code) = inr (inr refl)

bad_version : (version kind : ℕ) (rest : List ℕ) → version ≢ 1 → answer_in (version ∷ kind ∷ rest) ≡ Err (fault BadVersion 0)
unfolding answer_in
bad_version version kind rest bad = rw (ne_eqb version 1 bad) refl

bad_kind : (version kind : ℕ) (rest : List ℕ) → version ≡ 1 → (((eqb kind 129 || eqb kind 130) || eqb kind 131) || eqb kind 255) ≡ false → answer_in (version ∷ kind ∷ rest) ≡ Err (fault BadOperation 0)
unfolding answer_in
bad_kind version kind rest one not_so = rw (eq-eqb version 1 one, not_so) refl

known_reads : {least : ℕ} {bytes : List ℕ} (head : AnswerHead least bytes) → head.version ≡ 1 → IsKind head.op → answer_in (body_of head) ≡ answer_fields head.op (to_be_bytes w64 head.number ++ head.fields)
unfolding answer_in
known_reads head one known = rw (eq-eqb head.version 1 one, kind_test head.op known) refl

value_reads : (kind number : ℕ) (fields : List ℕ) (e : WireFault) → number < 2 ^ 64 → answer_at kind number fields ≡ Err e → answer_fields kind (to_be_bytes w64 number ++ fields) ≡ Err e
unfolding answer_fields
value_reads kind number fields e fits h = rw (number_again w64 (2 ^ 64) wide64 (fault BadLength 0) number fields fits, h) refl

trailing_reads : (kind number : ℕ) (fields rest : List ℕ) (a : Answer) → number < 2 ^ 64 → answer_at kind number fields ≡ Ok (a, rest) → eqb (length rest) 0 ≡ false
    → answer_fields kind (to_be_bytes w64 number ++ fields) ≡ Err (fault Trailing number)
unfolding answer_fields
trailing_reads kind number fields rest a fits h some = rw (number_again w64 (2 ^ 64) wide64 (fault BadLength 0) number fields fits, h, some) refl

-- the fields begin with the answer that is read
begun : {least : ℕ} {bytes : List ℕ} (head : AnswerHead least bytes) (x : Answer × List ℕ) → IsKind head.op → IsBytes bytes → answer_at head.op head.number head.fields ≡ Ok x → BeginsWithAnswer head x.0 x.1
begun head x known fits e =
    let t = answer_takes head.op head.number head.fields x known (fields_fit head fits) e in
    record {
      kind = t.1;
      number = t.2;
      parts = t.0.parts;
      is_answer = is_answer x.0 (subst (λ (n : ℕ). n < 2 ^ 64) (sym t.2) head.number_fits) t.3;
    }

module _ {next : List ℕ → Result (Option (Answer × List ℕ)) WireFault} {least : ℕ} (reads : IsRead next least 4098014 answer_in IsAnswer answer_body) where
  pub is_fault : (bytes : List ℕ) (f : WireFault) → IsBytes bytes → AnswerFaultFrom least bytes f → next bytes ≡ Err f
  is_fault bytes _ fits (Bad_length count rest front small out) = length_reads reads bytes count rest front small out
  is_fault bytes _ fits (Bad_version head bad) = next_fails reads head (fault BadVersion 0) (bad_version head.version head.op _ bad)
  is_fault bytes _ fits (Bad_operation head one bad) =
      next_fails reads head (fault BadOperation 0)
      (elim (cases_Bool (((eqb head.op 129 || eqb head.op 130) || eqb head.op 131) || eqb head.op 255)) [
        | inl is_so ↦ absurd (bad (known_kind head.op is_so))
        | inr not_so ↦ bad_kind head.version head.op _ one not_so
      ])
  is_fault bytes _ fits (Bad_value head one known bad) =
      let d = fault BadValue head.number in
      let none = fails_so d (answer_at head.op head.number head.fields) (answer_fails head.op head.number head.fields) (λ x e. bad x.0 x.1 (begun head x known fits e)) in
      next_fails reads head d (known_reads head one known ∙ value_reads head.op head.number head.fields d head.number_fits none)
  is_fault bytes _ fits (Trails head a rest one begins some) =
      next_fails reads head (fault Trailing head.number) (known_reads head one (kind_of_begun head a rest begins)
      ∙ trailing_reads head.op head.number head.fields rest a head.number_fits (begins_read head a rest begins) (ne_eqb (length rest) 0 (λ e. some (nil_from_length rest e))))

-- ---- from reading to the table

fields_fault : {least : ℕ} {bytes : List ℕ} (head : AnswerHead least bytes) (f : WireFault) → IsBytes bytes → head.version ≡ 1 → IsKind head.op → answer_fields head.op (to_be_bytes w64 head.number ++ head.fields) ≡ Err f → AnswerFaultFrom least bytes f
unfolding answer_fields
fields_fault {least} {bytes} head f fits one known e =
    let n = head.number in
    let i = rw (number_again w64 (2 ^ 64) wide64 (fault BadLength 0) n head.fields head.number_fits) at e in
    elim (broke (answer_at head.op n head.fields) (λ x. cond (eqb (length x.1) 0) (Ok x.0) (Err (fault Trailing n))) f i) [
      | First b ↦ let bad : (a : Answer) (rest : List ℕ) → ¬ BeginsWithAnswer head a rest = λ a rest begins. err_not f (a, rest) (sym b ∙ begins_read head a rest begins) in
          subst (AnswerFaultFrom least bytes) (sym (answer_fails head.op n head.fields f b)) (Bad_value head one known bad)
      | Then x b h ↦ let a = ok_then (eqb (length x.1) 0) x.0 (Err (fault Trailing n)) f h in
          let some : x.1 ≢ [] = λ none. eqb-false (length x.1) 0 a.0 (ap length none) in
          subst (AnswerFaultFrom least bytes) (err_is {A = Answer} (fault Trailing n) f a.1) (Trails head x.0 x.1 one (begun head x known fits b) some)
    ]

pub head_fault : {least : ℕ} {bytes : List ℕ} (head : AnswerHead least bytes) (f : WireFault) → IsBytes bytes → answer_in (body_of head) ≡ Err f → AnswerFaultFrom least bytes f
head_fault {least} {bytes} head f fits e =
    let tail = to_be_bytes w64 head.number ++ head.fields in
    elim (cases_Bool (eqb head.version 1)) [
      | inr not_one ↦ let bad : head.version ≢ 1 = eqb-false head.version 1 not_one in
          subst (AnswerFaultFrom least bytes) (err_is {A = Answer} (fault BadVersion 0) f (sym (bad_version head.version head.op tail bad) ∙ e)) (Bad_version head bad)
      | inl is_one ↦ let one = eqb-true head.version 1 is_one in
          elim (cases_Bool (((eqb head.op 129 || eqb head.op 130) || eqb head.op 131) || eqb head.op 255)) [
            | inr not_so ↦ let bad : ¬ IsKind head.op = λ known. absurd (true≢false (sym (kind_test head.op known) ∙ not_so)) in
                subst (AnswerFaultFrom least bytes) (err_is {A = Answer} (fault BadOperation 0) f (sym (bad_kind head.version head.op tail one not_so) ∙ e)) (Bad_operation head one bad)
            | inl is_so ↦ let known = known_kind head.op is_so in fields_fault head f fits one known (sym (known_reads head one known) ∙ e)
          ]
    ]

-- a body of ten bytes has a version, a kind and a number
pub fault_from : (least : ℕ) (bytes : List ℕ) (f : WireFault) → 10 ≤ least → IsBytes bytes → next_of least 4098014 answer_in bytes ≡ Err f → AnswerFaultFrom least bytes f
fault_from least bytes f ten = next_fault least 4098014 answer_in (AnswerFaultFrom least) (λ bytes count rest parts fits out. Bad_length count rest parts fits out) (λ bytes head. head_fault head) ten bytes f

pub fault_is : (bytes : List ℕ) (f : WireFault) → IsBytes bytes → next_answer bytes ≡ Err f → AnswerFaultFrom 11 bytes f
unfolding next_answer
fault_is bytes f = fault_from 11 bytes f (omega arith)
