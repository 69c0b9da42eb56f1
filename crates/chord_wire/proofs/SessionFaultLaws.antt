-- Reading in a session gives exactly the fault of the table.
use Rattle.std.proofs.Common.{◌≡◌, ◌≢◌, ℕ, ◌^◌, ◌<◌, ◌≤◌, ◌&&◌, Bool, true, false, cond, eqb, List, [], ◌∷◌, ◌++◌, length, Option, Some, None, Result, Ok, Err, refl, sym, ap, subst, ◌∙◌, arith, ◌⊎◌, inl, inr}
use Rattle.std.specs.Int.{w32, w64, to_be_bytes}
use Rattle.std.proofs.lemmas.Bool.{true≢false, eqb-true, eqb-false, ne_eqb, cases_Bool}
use Rattle.std.proofs.lemmas.List.{nil_from_length}
use Rattle.chord_wire.specs.declared.fault.WireFault.{WireFault}
use Rattle.chord_wire.specs.declared.fault.FaultCode.TheVariants.{BadLength, BadFloor, BadValue, Trailing}
use Rattle.chord_wire.specs.declared.session_frame.SessionFrame.{SessionFrame}
use Rattle.chord_wire.specs.declared.session_frame.SessionFrame.TheVariants as frames
use Rattle.chord_wire.specs.declared.session_answer.SessionAnswer.{SessionAnswer}
use Rattle.chord_wire.specs.declared.session_answer.SessionAnswer.TheVariants as told
use Rattle.chord_wire.specs.Fault.{fault}
use Rattle.chord_wire.specs.Spelling.{IsBytes}
use Rattle.chord_wire.specs.Reading.{◌>>=◌, number_at, bytes_at, request_in, body_at, of_body, next_of, next_request}
use Rattle.chord_wire.specs.ReadingReplies.{answer_in}
use Rattle.chord_wire.specs.SessionReading.{in_session, is_control, zeros_at, flag_at, opening_at, control_at, control_in, session_in, next_session, is_told, told_at, told_under, told_in, session_answer_in, next_session_answer}
use Rattle.chord_wire.specs.FaultTable.{Head, RequestHead, AnswerHead}
use Rattle.chord_wire.specs.FaultTable.FaultOf.{Bad_length as wrong_length}
use Rattle.chord_wire.specs.FaultTable.AnswerFaultFrom.{Bad_length as wrong_answer_length}
use Rattle.chord_wire.specs.SessionFaults.{IsControl, BeginsWithZeros, BeginsWithControl, SessionFaultOf, IsTold, BeginsWithTold, SessionAnswerFaultOf}
use Rattle.chord_wire.specs.SessionFaults.SessionFaultOf.{Of_request, Bad_floor, Bad_value, Trails}
use Rattle.chord_wire.specs.SessionFaults.SessionAnswerFaultOf.{Of_answer, Bad_number, Bad_value as wrong_told, Trails as trails_told}
use Rattle.chord_wire.proofs.Steps.{IsBytes-back, wide64, number_again}
use Rattle.chord_wire.proofs.NextLaws.{some_is, body_takes}
use Rattle.chord_wire.proofs.FaultLaws as requests
use Rattle.chord_wire.proofs.FaultLaws.{Fails, fails_ok, fails_err, fails_if, fails_then, fails_so, number_fails, broke, body_of, fields_fit, body_there, head_in, no_body, next_fails, ok_then, err_not, err_is, next_fault}
use Rattle.chord_wire.proofs.FaultLaws.Broke.{First, Then}
use Rattle.chord_wire.proofs.AnswerFaults as plain_answers
use Rattle.chord_wire.proofs.SessionLaws.{IsOneOf, known_by_test, test_by_known, floor_zero, zeros_head, floor_zero_takes, floor_zero_again, control_takes, control_again, sessions, told_takes, told_again, session_answers, short_answers}

-- ---- two readers of one stream

-- two heads of the same bytes have one version and one operation
same_front : (least most : ℕ) (bytes : List ℕ) (a b : Head least most bytes) → most < 2 ^ 32 → (a.version ≡ b.version) × (a.op ≡ b.op)
same_front least most bytes a b small =
    let same = some_is (body_of a, a.behind) (body_of b, b.behind) (sym (body_there a small) ∙ body_there b small) in
    let bodies : body_of a ≡ body_of b = ap (λ (x : List ℕ × List ℕ). x.0) same in
    (first_is a.version b.version _ _ bodies, second_is a.version a.op b.version b.op _ _ bodies)
  where
    first_is : (x y : ℕ) (xs ys : List ℕ) → x ∷ xs ≡ y ∷ ys → x ≡ y
    first_is x y xs ys e = cc

    second_is : (v x w y : ℕ) (xs ys : List ℕ) → v ∷ x ∷ xs ≡ w ∷ y ∷ ys → x ≡ y
    second_is v x w y xs ys e = cc

-- a length that is refused is not that of a head
no_head : (least most : ℕ) (bytes : List ℕ) (count : ℕ) (rest : List ℕ) → most < 2 ^ 32 → bytes ≡ to_be_bytes w32 count ++ rest → count < 2 ^ 32 → (count < least) ⊎ (most < count) → Head least most bytes → ⊥
no_head least most bytes count rest small parts fits out head =
    err_not (fault BadLength 0) (Some (body_of head, head.behind)) (sym (no_body least most bytes count rest parts fits out) ∙ body_there head small)

-- `sum` reads as `read` does where the head is not its own
module _ {X Y : Type 0} (least most : ℕ) (read : List ℕ → Result X WireFault) (sum : List ℕ → Result Y WireFault) (make : X → Y) (Own : ℕ → ℕ → Type 0)
    (other : (version op : ℕ) (rest : List ℕ) → ¬ Own version op → sum (version ∷ op ∷ rest) ≡ (read (version ∷ op ∷ rest) >>= λ x. Ok (make x)))
    (ten : 10 ≤ least) where
  body_passed : (bytes : List ℕ) (o : Option (List ℕ × List ℕ)) (f : WireFault) → IsBytes bytes → ((head : Head least most bytes) → ¬ Own head.version head.op)
      → body_at least most bytes ≡ Ok o → of_body read o ≡ Err f → of_body sum o ≡ Err f
  body_passed bytes None f fits none there e = absurd cc
  body_passed bytes (Some ([], rest)) f fits none there e = absurd (let low = (body_takes least most bytes ([], rest) fits there).low in omega (arith, ten, low))
  body_passed bytes (Some (version ∷ [], rest)) f fits none there e = absurd (let low = (body_takes least most bytes (version ∷ [], rest) fits there).low in omega (arith, ten, low))
  body_passed bytes (Some (version ∷ op ∷ after, rest)) f fits none there e =
      let t = body_takes least most bytes (version ∷ op ∷ after, rest) fits there in
      let head = head_in least most bytes version op after rest ten fits t in
      elim (broke (read (version ∷ op ∷ after)) (λ x. Ok (Some (x, rest))) f e) [
        | First bad ↦ rw (other version op after (none_here head.0 head.1 (none head.0)), bad) refl
        | Then x there last ↦ absurd cc
      ]
    where
      none_here : (head : Head least most bytes) → version ∷ op ∷ after ≡ body_of head → ¬ Own head.version head.op → ¬ Own version op
      none_here head e none own =
          let v : version ≡ head.version = cc in
          let o : op ≡ head.op = cc in
          none (subst (Own head.version) o (subst (λ (k : ℕ). Own k op) v own))

  pub passed_on : (bytes : List ℕ) (f : WireFault) → IsBytes bytes → ((head : Head least most bytes) → ¬ Own head.version head.op) → next_of least most read bytes ≡ Err f → next_of least most sum bytes ≡ Err f
  passed_on bytes f fits none e =
      elim (broke (body_at least most bytes) (of_body read) f e) [
        | First bad ↦ rw bad refl
        | Then o there bad ↦ rw there (body_passed bytes o f fits none there bad)
      ]

first_fault : {X Y : Type 0} (r : Result X WireFault) (make : X → Y) (f : WireFault) → (r >>= λ x. Ok (make x)) ≡ Err f → r ≡ Err f
first_fault (Ok x) make f e = absurd cc
first_fault (Err d) make f e = let same : d ≡ f = cc in ap (λ (w : WireFault). Err w) same

-- a frame of a session's own, or one that is read as it is without a session
module _ {X Y : Type 0} (is_own : ℕ → ℕ → Bool) (own_in : ℕ → List ℕ → Result Y WireFault) (plain_in : List ℕ → Result X WireFault) (of_plain : X → Y) (Own : ℕ → ℕ → Type 0)
    (known : (version op : ℕ) → is_own version op ≡ true → Own version op)
    (test : (version op : ℕ) → Own version op → is_own version op ≡ true) where
  plain_reads : (version op : ℕ) (rest : List ℕ) → ¬ Own version op → in_session is_own own_in plain_in of_plain (version ∷ op ∷ rest) ≡ (plain_in (version ∷ op ∷ rest) >>= λ x. Ok (of_plain x))
  plain_reads version op rest none = rw not_own refl
    where
      not_own : is_own version op ≡ false
      not_own = elim (cases_Bool (is_own version op)) [
        | inl so ↦ absurd (none (known version op so))
        | inr other ↦ other
      ]

  own_reads : (version op : ℕ) (rest : List ℕ) → Own version op → in_session is_own own_in plain_in of_plain (version ∷ op ∷ rest) ≡ own_in op rest
  own_reads version op rest own = rw (test version op own) refl

  -- a fault is one of a session's own frame, or of a plain one, and then no head of the bytes is
  -- that of an own one
  either_fault : {least most : ℕ} {bytes : List ℕ} (head : Head least most bytes) (f : WireFault) → most < 2 ^ 32 → in_session is_own own_in plain_in of_plain (body_of head) ≡ Err f
      → (Own head.version head.op × (own_in head.op (to_be_bytes w64 head.number ++ head.fields) ≡ Err f))
      ⊎ (((there : Head least most bytes) → ¬ Own there.version there.op) × (plain_in (body_of head) ≡ Err f))
  either_fault {least} {most} {bytes} head f small e =
      elim (cases_Bool (is_own head.version head.op)) [
        | inl so ↦ let own = known head.version head.op so in inl (own, sym (own_reads head.version head.op _ own) ∙ e)
        | inr other ↦ let none : ¬ Own head.version head.op = λ own. absurd (true≢false (sym (test head.version head.op own) ∙ other)) in
            let bad = first_fault (plain_in (body_of head)) of_plain f (sym (plain_reads head.version head.op _ none) ∙ e) in
            let nowhere : (there : Head least most bytes) → ¬ Own there.version there.op = λ there own.
            let same = same_front least most bytes there head small in
            none (subst (λ (v : ℕ). Own v head.op) same.0 (subst (λ (o : ℕ). Own there.version o) same.1 own)) in
            inr (nowhere, bad)
      ]

-- ---- what a client sends

request_reads : (version op : ℕ) (rest : List ℕ) → ¬ IsOneOf 2 4 5 version op → session_in (version ∷ op ∷ rest) ≡ (request_in (version ∷ op ∷ rest) >>= λ r. Ok (frames.Request r))
unfolding session_in
request_reads = plain_reads is_control control_in request_in (λ r. frames.Request r) (IsOneOf 2 4 5) (known_by_test 2 4 5) (test_by_known 2 4 5)

control_reads : {bytes : List ℕ} (head : RequestHead bytes) → IsControl head → session_in (body_of head) ≡ control_in head.op (to_be_bytes w64 head.number ++ head.fields)
unfolding session_in
control_reads head known = rw (test_by_known 2 4 5 head.version head.op known) refl

floor_zero_fails : (number : ℕ) (bytes : List ℕ) → Fails (fault BadFloor number) (floor_zero number bytes)
floor_zero_fails number bytes =
    let d = fault BadFloor number in
    fails_then d (number_at w64 d bytes) _ (number_fails w64 d bytes) (λ floor. fails_if d (eqb number 0 && eqb floor.0 0) (Ok floor.1) (Err d) (fails_ok d floor.1) (fails_err d))

flag_fails : (bytes : List ℕ) → Fails (fault BadValue 0) (flag_at bytes)
unfolding flag_at
flag_fails [] = fails_err (fault BadValue 0)
flag_fails (flag ∷ rest) =
    let d = fault BadValue 0 in
    fails_if d (eqb flag 0) (Ok (false, rest)) _ (fails_ok d _) (fails_if d (eqb flag 1) (Ok (true, rest)) (Err d) (fails_ok d _) (fails_err d))

opening_fails : (bytes : List ℕ) → Fails (fault BadValue 0) (opening_at bytes)
unfolding opening_at
opening_fails bytes =
    let d = fault BadValue 0 in
    fails_then d (bytes_at false d 16 bytes) _ (requests.bytes_fail false d 16 bytes) (λ token. fails_then d (flag_at token.1) _ (flag_fails token.1) (λ flag. fails_ok d _))

control_fails : (op : ℕ) (bytes : List ℕ) → Fails (fault BadValue 0) (control_at op bytes)
unfolding control_at
control_fails op bytes =
    let d = fault BadValue 0 in
    fails_if d (eqb op 4) (opening_at bytes >>= λ o. Ok (frames.Open o.0, o.1)) (Ok (frames.Close, bytes))
    (fails_then d (opening_at bytes) _ (opening_fails bytes) (λ o. fails_ok d _)) (fails_ok d _)

zeros_read : (op : ℕ) (bytes : List ℕ) (e : WireFault) → zeros_at bytes ≡ Err e → control_in op bytes ≡ Err e
unfolding control_in
zeros_read op bytes e h = rw h refl

value_read : (op : ℕ) (bytes rest : List ℕ) (e : WireFault) → zeros_at bytes ≡ Ok rest → control_at op rest ≡ Err e → control_in op bytes ≡ Err e
unfolding control_in
value_read op bytes rest e z h = rw (z, h) refl

trailing_read : (op : ℕ) (bytes rest more : List ℕ) (x : SessionFrame) → zeros_at bytes ≡ Ok rest → control_at op rest ≡ Ok (x, more) → eqb (length more) 0 ≡ false → control_in op bytes ≡ Err (fault Trailing 0)
unfolding control_in
trailing_read op bytes rest more x z h some = rw (z, h, some) refl

zeros_of : {bytes : List ℕ} (head : RequestHead bytes) (rest : List ℕ) → BeginsWithZeros head rest → zeros_at (to_be_bytes w64 head.number ++ head.fields) ≡ Ok rest
zeros_of head rest zeros = zeros_head head.number head.fields head.number_fits ∙ floor_zero_again head.number head.fields rest zeros.0 zeros.1

rest_fits : {bytes : List ℕ} (head : RequestHead bytes) (rest : List ℕ) → BeginsWithZeros head rest → IsBytes bytes → IsBytes rest
rest_fits head rest zeros fits = IsBytes-back (to_be_bytes w64 0) rest (subst IsBytes zeros.1 (fields_fit head fits))

requests_is : (bytes : List ℕ) → next_request bytes ≡ next_of 12 4372 request_in bytes
unfolding next_request
requests_is bytes = refl

pub is_fault : (bytes : List ℕ) (f : WireFault) → IsBytes bytes → SessionFaultOf bytes f → next_session bytes ≡ Err f
is_fault bytes _ fits (Of_request f none bad) =
    sessions.is bytes ∙ passed_on 12 4372 request_in session_in (λ r. frames.Request r) (IsOneOf 2 4 5) request_reads (omega arith) bytes f fits none (sym (requests_is bytes) ∙ requests.is_fault bytes f fits bad)
is_fault bytes _ fits (Bad_floor head known bad) =
    let d = fault BadFloor head.number in
    let none = fails_so d (floor_zero head.number head.fields) (floor_zero_fails head.number head.fields) (λ rest e.
    let t = floor_zero_takes head.number head.fields rest (fields_fit head fits) e in
    bad rest (t.0, t.1.parts)) in
    next_fails sessions head d (control_reads head known ∙ zeros_read head.op _ d (zeros_head head.number head.fields head.number_fits ∙ none))
is_fault bytes _ fits (Bad_value head rest known zeros bad) =
    let d = fault BadValue 0 in
    let none = fails_so d (control_at head.op rest) (control_fails head.op rest) (λ x e. bad x.0 x.1 (control_takes head.op rest x (rest_fits head rest zeros fits) known.1 e)) in
    next_fails sessions head d (control_reads head known ∙ value_read head.op _ rest d (zeros_of head rest zeros) none)
is_fault bytes _ fits (Trails head rest x more known zeros begins some) =
    next_fails sessions head (fault Trailing 0) (control_reads head known
    ∙ trailing_read head.op _ rest more x (zeros_of head rest zeros) (control_again head.op rest x more begins) (ne_eqb (length more) 0 (λ e. some (nil_from_length more e))))

control_fault : {bytes : List ℕ} (head : RequestHead bytes) (f : WireFault) → IsBytes bytes → IsControl head → control_in head.op (to_be_bytes w64 head.number ++ head.fields) ≡ Err f → SessionFaultOf bytes f
unfolding control_in
control_fault {bytes} head f fits known e =
    let n = head.number in
    elim (broke (zeros_at (to_be_bytes w64 n ++ head.fields)) (λ behind. control_at head.op behind >>= λ control. cond (eqb (length control.1) 0) (Ok control.0) (Err (fault Trailing 0))) f e) [
      | First z ↦ let missing = sym (zeros_head n head.fields head.number_fits) ∙ z in
          let bad : (rest : List ℕ) → ¬ BeginsWithZeros head rest = λ rest zeros. err_not f rest (sym missing ∙ floor_zero_again n head.fields rest zeros.0 zeros.1) in
          subst (SessionFaultOf bytes) (sym (floor_zero_fails n head.fields f missing)) (Bad_floor head known bad)
      | Then rest z h ↦ let t = floor_zero_takes n head.fields rest (fields_fit head fits) (sym (zeros_head n head.fields head.number_fits) ∙ z) in
          let zeros : BeginsWithZeros head rest = (t.0, t.1.parts) in
          elim (broke (control_at head.op rest) (λ control. cond (eqb (length control.1) 0) (Ok control.0) (Err (fault Trailing 0))) f h) [
            | First b ↦ let bad : (x : SessionFrame) (more : List ℕ) → ¬ BeginsWithControl head.op rest x more = λ x more begins. err_not f (x, more) (sym b ∙ control_again head.op rest x more begins) in
                subst (SessionFaultOf bytes) (sym (control_fails head.op rest f b)) (Bad_value head rest known zeros bad)
            | Then x there last ↦ let a = ok_then (eqb (length x.1) 0) x.0 (Err (fault Trailing 0)) f last in
                let some : x.1 ≢ [] = λ none. eqb-false (length x.1) 0 a.0 (ap length none) in
                subst (SessionFaultOf bytes) (err_is {A = SessionFrame} (fault Trailing 0) f a.1) (Trails head rest x.0 x.1 known zeros (control_takes head.op rest x t.1.rest_fits known.1 there) some)
          ]
    ]

head_fault : (bytes : List ℕ) (head : RequestHead bytes) (f : WireFault) → IsBytes bytes → session_in (body_of head) ≡ Err f → SessionFaultOf bytes f
unfolding session_in
head_fault bytes head f fits e =
    elim (either_fault is_control control_in request_in (λ r. frames.Request r) (IsOneOf 2 4 5) (known_by_test 2 4 5) (test_by_known 2 4 5) head f (omega arith) e) [
      | inl own ↦ control_fault head f fits own.0 own.1
      | inr plain ↦ Of_request f plain.0 (requests.head_fault head f fits plain.1)
    ]

pub fault_is : (bytes : List ℕ) (f : WireFault) → IsBytes bytes → next_session bytes ≡ Err f → SessionFaultOf bytes f
unfolding next_session
fault_is = next_fault 12 4372 session_in SessionFaultOf
    (λ bytes count rest parts fits out. Of_request (fault BadLength 0) (λ head known. no_head 12 4372 bytes count rest (omega arith) parts fits out head) (wrong_length count rest parts fits out)) head_fault (omega arith)

-- ---- what a server sends

answer_reads : (version kind : ℕ) (rest : List ℕ) → ¬ IsOneOf 1 132 133 version kind → session_answer_in (version ∷ kind ∷ rest) ≡ (answer_in (version ∷ kind ∷ rest) >>= λ a. Ok (told.Answer a))
unfolding session_answer_in
answer_reads = plain_reads is_told told_in answer_in (λ a. told.Answer a) (IsOneOf 1 132 133) (known_by_test 1 132 133) (test_by_known 1 132 133)

told_reads : {bytes : List ℕ} (head : AnswerHead 10 bytes) → IsTold head → session_answer_in (body_of head) ≡ told_in head.op (to_be_bytes w64 head.number ++ head.fields)
unfolding session_answer_in
told_reads head known = rw (test_by_known 1 132 133 head.version head.op known) refl

told_fails : (kind : ℕ) (bytes : List ℕ) → Fails (fault BadValue 0) (told_at kind bytes)
unfolding told_at
told_fails kind bytes =
    let d = fault BadValue 0 in
    fails_if d (eqb kind 132) (number_at w64 d bytes >>= λ floor. number_at w64 d floor.1 >>= λ last. Ok (told.Opened floor.0 last.0, last.1)) (Ok (told.Closed, bytes))
    (fails_then d (number_at w64 d bytes) _ (number_fails w64 d bytes) (λ floor. fails_then d (number_at w64 d floor.1) _ (number_fails w64 d floor.1) (λ last. fails_ok d _))) (fails_ok d _)

-- what follows the number
under_read : (kind number : ℕ) (fields : List ℕ) → number < 2 ^ 64
    → told_in kind (to_be_bytes w64 number ++ fields) ≡ (told_under kind number fields >>= λ x. cond (eqb (length x.1) 0) (Ok x.0) (Err (fault Trailing 0)))
unfolding told_in
under_read kind number fields small = rw (number_again w64 (2 ^ 64) wide64 (fault BadLength 0) number fields small) refl

wrong_number : (kind number : ℕ) (fields : List ℕ) → number ≢ 0 → told_under kind number fields ≡ Err (fault BadValue number)
wrong_number kind number fields ne = rw (ne_eqb number 0 ne) refl

right_number : (kind number : ℕ) (fields : List ℕ) → number ≡ 0 → told_under kind number fields ≡ told_at kind fields
right_number kind number fields e = rw e refl

abbrev ended : Result (SessionAnswer × List ℕ) WireFault → Result SessionAnswer WireFault
ended r = r >>= λ x. cond (eqb (length x.1) 0) (Ok x.0) (Err (fault Trailing 0))

ended_late : (x : SessionAnswer) (more : List ℕ) → eqb (length more) 0 ≡ false → ended (Ok (x, more)) ≡ Err (fault Trailing 0)
ended_late x more some = rw some refl

pub is_answer_fault : (bytes : List ℕ) (f : WireFault) → IsBytes bytes → SessionAnswerFaultOf bytes f → next_session_answer bytes ≡ Err f
is_answer_fault bytes _ fits (Of_answer f none bad) =
    session_answers.is bytes ∙ passed_on 10 4098014 answer_in session_answer_in (λ a. told.Answer a) (IsOneOf 1 132 133) answer_reads (omega arith) bytes f fits none (plain_answers.is_fault short_answers bytes f fits bad)
is_answer_fault bytes _ fits (Bad_number head known bad) =
    next_fails session_answers head (fault BadValue head.number) (told_reads head known ∙ under_read head.op head.number head.fields head.number_fits ∙ ap ended (wrong_number head.op head.number head.fields bad))
is_answer_fault bytes _ fits (wrong_told head known zero bad) =
    let d = fault BadValue 0 in
    let none = fails_so d (told_at head.op head.fields) (told_fails head.op head.fields) (λ x e. bad x.0 x.1 (told_takes head.op head.fields x (fields_fit head fits) known.1 e)) in
    next_fails session_answers head d (told_reads head known ∙ under_read head.op head.number head.fields head.number_fits ∙ ap ended (right_number head.op head.number head.fields zero ∙ none))
is_answer_fault bytes _ fits (trails_told head x more known zero begins some) =
    next_fails session_answers head (fault Trailing 0) (told_reads head known ∙ under_read head.op head.number head.fields head.number_fits
    ∙ ap ended (right_number head.op head.number head.fields zero ∙ told_again head.op head.fields x more begins) ∙ ended_late x more (ne_eqb (length more) 0 (λ e. some (nil_from_length more e))))

told_fault : {bytes : List ℕ} (head : AnswerHead 10 bytes) (f : WireFault) → IsBytes bytes → IsTold head → ended (told_under head.op head.number head.fields) ≡ Err f → SessionAnswerFaultOf bytes f
told_fault {bytes} head f fits known e =
    let n = head.number in
    elim (cases_Bool (eqb n 0)) [
      | inr other ↦ let bad : n ≢ 0 = eqb-false n 0 other in
          subst (SessionAnswerFaultOf bytes) (err_is {A = SessionAnswer} (fault BadValue n) f (sym (ap ended (wrong_number head.op n head.fields bad)) ∙ e)) (Bad_number head known bad)
      | inl so ↦ let zero : n ≡ 0 = eqb-true n 0 so in
          elim (broke (told_at head.op head.fields) (λ x. cond (eqb (length x.1) 0) (Ok x.0) (Err (fault Trailing 0))) f (sym (ap ended (right_number head.op n head.fields zero)) ∙ e)) [
            | First b ↦ let bad : (x : SessionAnswer) (more : List ℕ) → ¬ BeginsWithTold head.op head.fields x more = λ x more begins. err_not f (x, more) (sym b ∙ told_again head.op head.fields x more begins) in
                subst (SessionAnswerFaultOf bytes) (sym (told_fails head.op head.fields f b)) (wrong_told head known zero bad)
            | Then x there last ↦ let a = ok_then (eqb (length x.1) 0) x.0 (Err (fault Trailing 0)) f last in
                let some : x.1 ≢ [] = λ none. eqb-false (length x.1) 0 a.0 (ap length none) in
                subst (SessionAnswerFaultOf bytes) (err_is {A = SessionAnswer} (fault Trailing 0) f a.1) (trails_told head x.0 x.1 known zero (told_takes head.op head.fields x (fields_fit head fits) known.1 there) some)
          ]
    ]

answer_head_fault : (bytes : List ℕ) (head : AnswerHead 10 bytes) (f : WireFault) → IsBytes bytes → session_answer_in (body_of head) ≡ Err f → SessionAnswerFaultOf bytes f
unfolding session_answer_in
answer_head_fault bytes head f fits e =
    elim (either_fault is_told told_in answer_in (λ a. told.Answer a) (IsOneOf 1 132 133) (known_by_test 1 132 133) (test_by_known 1 132 133) head f (omega arith) e) [
      | inl own ↦ told_fault head f fits own.0 (sym (under_read head.op head.number head.fields head.number_fits) ∙ own.1)
      | inr plain ↦ Of_answer f plain.0 (plain_answers.head_fault head f fits plain.1)
    ]

pub answer_fault_is : (bytes : List ℕ) (f : WireFault) → IsBytes bytes → next_session_answer bytes ≡ Err f → SessionAnswerFaultOf bytes f
unfolding next_session_answer
answer_fault_is = next_fault 10 4098014 session_answer_in SessionAnswerFaultOf
    (λ bytes count rest parts fits out. Of_answer (fault BadLength 0) (λ head known. no_head 10 4098014 bytes count rest (omega arith) parts fits out head) (wrong_answer_length count rest parts fits out)) answer_head_fault (omega arith)
