-- A body in a session says what it spells, and a spelling is read again.
use Rattle.std.proofs.Common.{◌≡◌, ℕ, ◌^◌, ◌<◌, ◌≤◌, ◌&&◌, ◌||◌, Bool, true, false, cond, eqb, ltb, List, [], ◌∷◌, ◌++◌, length, Option, Some, None, Result, Ok, Err, refl, sym, ap, subst, ◌∙◌, append_assoc, arith, ◌⊎◌, inl, inr}
use Rattle.std.specs.Prelude.{IfOk, IfSome}
use Rattle.std.specs.Int.{w64, to_be_bytes}
use Rattle.std.proofs.lemmas.Bool.{true≢false, eqb-true, eq-eqb, le-ltb, and_parts, and_from, or_cases, or_left, or_right}
use Rattle.std.proofs.lemmas.List.{nil_from_length, append-nil, length-append}
use Rattle.chord_map.specs.declared.request.Request.{Request}
use Rattle.chord_map.specs.declared.request.Request.TheVariants.{Insert, Retrieve, Remove}
use Rattle.chord_map.specs.declared.reply.Reply.{Reply}
use Rattle.chord_wire.specs.declared.answer.Answer.TheVariants as answer
use Rattle.chord_wire.specs.declared.request.WireRequest.{WireRequest}
use Rattle.chord_wire.specs.declared.fault.WireFault.{WireFault}
use Rattle.chord_wire.specs.declared.fault.FaultCode.TheVariants.{BadLength, BadFloor, BadValue, Trailing}
use Rattle.chord_wire.specs.declared.session_frame.Opening.{Opening}
use Rattle.chord_wire.specs.declared.session_frame.SessionFrame.{SessionFrame}
use Rattle.chord_wire.specs.declared.session_frame.SessionFrame.TheVariants as frames
use Rattle.chord_wire.specs.declared.session_answer.SessionAnswer.{SessionAnswer}
use Rattle.chord_wire.specs.declared.session_answer.SessionAnswer.TheVariants as answers
use Rattle.chord_wire.specs.Fault.{fault}
use Rattle.chord_wire.specs.Spelling.{IsBytes, IsWireRequest, operation, operands, floor_field, frame}
use Rattle.chord_wire.specs.Replies.{IsAnswer, answer_body, reply_kind}
use Rattle.chord_wire.specs.Reading.{◌>>=◌, number_at, bytes_at, request_in, body_at, of_body, next_of, next_request, TakesNext}
use Rattle.chord_wire.specs.Streams.{request_frame}
use Rattle.chord_wire.specs.ReadingReplies.{answer_in}
use Rattle.chord_wire.specs.SessionSpelling.{flag_field, opening_field, session_body, session_frame, IsSessionFrame, session_answer_body, IsSessionAnswer}
use Rattle.chord_wire.specs.SessionReading.{in_session, is_control, zeros_at, flag_at, opening_at, control_at, control_in, session_in, next_session, begins_with_open, is_open, AsAlone, is_told, told_at, told_under, told_in, session_answer_in, next_session_answer}
use Rattle.chord_wire.specs.SessionFaults.{BeginsWithControl, BeginsWithTold}
use Rattle.chord_wire.proofs.Steps.{IsBytes-rest, bind_ok, guard_then, ok_is, Takes, wide64, number_takes, number_again, bytes_take, bytes_again}
use Rattle.chord_wire.proofs.NextLaws.{IsRead, next_again, taken_is_found}
use Rattle.chord_wire.proofs.RequestLaws.{requests}
use Rattle.chord_wire.proofs.AnswerLaws.{every_kind, answers as plain_answers}

-- which way a test went
pub chosen : {A : Type 0} (b : Bool) (r s : Result A WireFault) (y : Result A WireFault) → cond b r s ≡ y → ((b ≡ true) × (r ≡ y)) ⊎ ((b ≡ false) × (s ≡ y))
chosen true r s y e = inl (refl, e)
chosen false r s y e = inr (refl, e)

abbrev failed : {A : Type 0} → WireFault → Result A WireFault
failed e = Err e

fault_no : {A : Type 0} (f : WireFault) (x : A) → failed f ≡ Ok x → ⊥
fault_no f x e = cc

-- ---- a frame of a session, or one as it is without a session

-- the version, and one of two kinds
abbrev pub IsOneOf : ℕ → ℕ → ℕ → ℕ → ℕ → Type 0
IsOneOf v a b version kind = (version ≡ v) × ((kind ≡ a) ⊎ (kind ≡ b))

pub known_by_test : (v a b version kind : ℕ) → (eqb version v && (eqb kind a || eqb kind b)) ≡ true → IsOneOf v a b version kind
known_by_test v a b version kind e =
    let parts = and_parts (eqb version v) (eqb kind a || eqb kind b) e in (
      eqb-true _ _ parts.0,
      elim (or_cases (eqb kind a) (eqb kind b) parts.1) [
        | inl first ↦ inl (eqb-true _ _ first)
        | inr second ↦ inr (eqb-true _ _ second)
      ],
    )

pub test_by_known : (v a b version kind : ℕ) → IsOneOf v a b version kind → (eqb version v && (eqb kind a || eqb kind b)) ≡ true
test_by_known v a b version kind known =
    and_from (eqb version v) (eqb kind a || eqb kind b) (eq-eqb _ _ known.0) (elim known.1 [
      | inl first ↦ or_left (eqb kind a) (eqb kind b) (eq-eqb _ _ first)
      | inr second ↦ or_right (eqb kind a) (eqb kind b) (eq-eqb _ _ second)
    ])

-- what holds of each frame of a session's own, and of each plain one, holds of each that is read
module _ {X Y : Type 0} (v a b : ℕ) (is_own : ℕ → ℕ → Bool) (own_in : ℕ → List ℕ → Result Y WireFault) (plain_in : List ℕ → Result X WireFault) (of_plain : X → Y)
    (IsTaken : List ℕ → Y → Type 0)
    (known : (version kind : ℕ) → is_own version kind ≡ true → IsOneOf v a b version kind)
    (own_taken : (kind : ℕ) (rest : List ℕ) (y : Y) → IsBytes rest → (kind ≡ a) ⊎ (kind ≡ b) → own_in kind rest ≡ Ok y → IsTaken (v ∷ kind ∷ rest) y)
    (plain_taken : (body : List ℕ) (x : X) → IsBytes body → plain_in body ≡ Ok x → IsTaken body (of_plain x)) where
  taken_in_session : (body : List ℕ) (y : Y) → IsBytes body → in_session is_own own_in plain_in of_plain body ≡ Ok y → IsTaken body y
  taken_in_session [] y fits e = absurd cc
  taken_in_session (version ∷ []) y fits e = absurd cc
  taken_in_session (version ∷ kind ∷ rest) y fits e =
      elim (chosen (is_own version kind) (own_in kind rest) (plain_in (version ∷ kind ∷ rest) >>= λ x. Ok (of_plain x)) (Ok y) e) [
        | inl so ↦ let one = known version kind so.0 in
            let t = own_taken kind rest y (IsBytes-rest kind rest (IsBytes-rest version (kind ∷ rest) fits)) one.1 so.1 in
            subst (λ (w : ℕ). IsTaken (w ∷ kind ∷ rest) y) (sym one.0) t
        | inr other ↦ let p = bind_ok (plain_in (version ∷ kind ∷ rest)) (λ x. Ok (of_plain x)) y other.1 in
            subst (IsTaken (version ∷ kind ∷ rest)) (ok_is (of_plain p.0) y p.2) (plain_taken (version ∷ kind ∷ rest) p.0 fits p.1)
      ]

-- ---- number and floor

-- the floor behind this number, if both are 0
abbrev pub floor_zero : ℕ → List ℕ → Result (List ℕ) WireFault
floor_zero number bytes = number_at w64 (fault BadFloor number) bytes >>= λ floor. cond (eqb number 0 && eqb floor.0 0) (Ok floor.1) (Err (fault BadFloor number))

pub zeros_head : (number : ℕ) (fields : List ℕ) → number < 2 ^ 64 → zeros_at (to_be_bytes w64 number ++ fields) ≡ floor_zero number fields
unfolding zeros_at
zeros_head number fields small = rw (number_again w64 (2 ^ 64) wide64 (fault BadLength 0) number fields small) refl

pub floor_zero_takes : (number : ℕ) (bytes rest : List ℕ) → IsBytes bytes → floor_zero number bytes ≡ Ok rest → (number ≡ 0) × Takes bytes (to_be_bytes w64 0) rest
floor_zero_takes number bytes rest fits e =
    let b = bind_ok (number_at w64 (fault BadFloor number) bytes) (λ floor. cond (eqb number 0 && eqb floor.0 0) (Ok floor.1) (Err (fault BadFloor number))) rest e in
    let g = guard_then (eqb number 0 && eqb b.0.0 0) (fault BadFloor number) b.0.1 rest b.2 in
    let tests = and_parts (eqb number 0) (eqb b.0.0 0) g.0 in
    let t = number_takes w64 (2 ^ 64) wide64 (fault BadFloor number) bytes b.0.0 b.0.1 fits b.1 in
    (eqb-true number 0 tests.0, subst (λ (r : List ℕ). Takes bytes (to_be_bytes w64 0) r) g.1 (subst (λ (k : ℕ). Takes bytes (to_be_bytes w64 k) b.0.1) (eqb-true b.0.0 0 tests.1) t.0))

floor_zero_of : (number floor : ℕ) (rest : List ℕ) → number ≡ 0 → floor ≡ 0 → floor_zero number (to_be_bytes w64 floor ++ rest) ≡ Ok rest
floor_zero_of number floor rest none low =
    rw (number_again w64 (2 ^ 64) wide64 (fault BadFloor number) floor rest (omega (arith, low)), and_from (eqb number 0) (eqb floor 0) (eq-eqb _ _ none) (eq-eqb _ _ low)) refl

pub floor_zero_again : (number : ℕ) (fields rest : List ℕ) → number ≡ 0 → fields ≡ to_be_bytes w64 0 ++ rest → floor_zero number fields ≡ Ok rest
floor_zero_again number fields rest none e = ap (floor_zero number) e ∙ floor_zero_of number 0 rest none refl

pub zeros_take : (bytes rest : List ℕ) → IsBytes bytes → zeros_at bytes ≡ Ok rest → (bytes ≡ to_be_bytes w64 0 ++ (to_be_bytes w64 0 ++ rest)) × IsBytes rest
unfolding zeros_at
zeros_take bytes rest fits e =
    let a = bind_ok (number_at w64 (fault BadLength 0) bytes) (λ number. floor_zero number.0 number.1) rest e in
    let n = number_takes w64 (2 ^ 64) wide64 (fault BadLength 0) bytes a.0.0 a.0.1 fits a.1 in
    let f = floor_zero_takes a.0.0 a.0.1 rest n.0.rest_fits a.2 in
    (n.0.parts ∙ ap (λ (k : ℕ). to_be_bytes w64 k ++ a.0.1) f.0 ∙ ap (λ (bs : List ℕ). to_be_bytes w64 0 ++ bs) f.1.parts, f.1.rest_fits)

zeros_again : (number : ℕ) (rest : List ℕ) → number ≡ 0 → zeros_at (to_be_bytes w64 number ++ (to_be_bytes w64 0 ++ rest)) ≡ Ok rest
zeros_again number rest none = zeros_head number (to_be_bytes w64 0 ++ rest) (omega (arith, none)) ∙ floor_zero_again number (to_be_bytes w64 0 ++ rest) rest none refl

-- ---- token and flag

abbrev FlagTaken : List ℕ → (Bool × List ℕ) → Type 0
FlagTaken bytes x = bytes ≡ flag_field x.0 ++ x.1

flag_takes : (bytes : List ℕ) (x : Bool × List ℕ) → flag_at bytes ≡ Ok x → FlagTaken bytes x
unfolding flag_at
flag_takes [] x e = absurd cc
flag_takes (flag ∷ rest) x e =
    elim (chosen (eqb flag 0) (Ok (false, rest)) (cond (eqb flag 1) (Ok (true, rest)) (Err (fault BadValue 0))) (Ok x) e) [
      | inl zero ↦ subst (FlagTaken (flag ∷ rest)) (ok_is (false, rest) x zero.1) (ap (λ (b : ℕ). b ∷ rest) (eqb-true flag 0 zero.0))
      | inr other ↦ elim (chosen (eqb flag 1) (Ok (true, rest)) (Err (fault BadValue 0)) (Ok x) other.1) [
        | inl one ↦ subst (FlagTaken (flag ∷ rest)) (ok_is (true, rest) x one.1) (ap (λ (b : ℕ). b ∷ rest) (eqb-true flag 1 one.0))
        | inr none ↦ absurd (fault_no (fault BadValue 0) x none.1)
      ]
    ]

flag_again : (resumes : Bool) (rest : List ℕ) → flag_at (flag_field resumes ++ rest) ≡ Ok (resumes, rest)
unfolding flag_at
flag_again false rest = refl
flag_again true rest = refl

abbrev OpeningTaken : List ℕ → (Opening × List ℕ) → Type 0
OpeningTaken bytes x = (bytes ≡ opening_field x.0 ++ x.1) × (length x.0.token.bytes ≡ 16)

abbrev opening_of : List ℕ → Bool → Opening
opening_of token resumes = record { token = record { bytes = token }; resumes = resumes }

opening_takes : (bytes : List ℕ) (x : Opening × List ℕ) → IsBytes bytes → opening_at bytes ≡ Ok x → OpeningTaken bytes x
unfolding opening_at
opening_takes bytes x fits e =
    let a = bind_ok (bytes_at false (fault BadValue 0) 16 bytes) (λ token. flag_at token.1 >>= λ flag. Ok (opening_of token.0 flag.0, flag.1)) x e in
    let b = bind_ok (flag_at a.0.1) (λ flag. Ok (opening_of a.0.0 flag.0, flag.1)) x a.2 in
    let t = bytes_take false (fault BadValue 0) 16 bytes a.0.0 a.0.1 fits a.1 in
    let parts : bytes ≡ (a.0.0 ++ flag_field b.0.0) ++ b.0.1 = t.0.parts ∙ ap (λ (bs : List ℕ). a.0.0 ++ bs) (flag_takes a.0.1 b.0 b.1) ∙ sym (append_assoc a.0.0 (flag_field b.0.0) b.0.1) in
    subst (OpeningTaken bytes) (ok_is (opening_of a.0.0 b.0.0, b.0.1) x b.2) (parts, t.1)

token_again : (count : ℕ) (token rest : List ℕ) → length token ≡ count → bytes_at false (fault BadValue 0) count (token ++ rest) ≡ Ok (token, rest)
token_again count token rest e = subst (λ (n : ℕ). bytes_at false (fault BadValue 0) n (token ++ rest) ≡ Ok (token, rest)) e (bytes_again (fault BadValue 0) token rest)

opening_again : (o : Opening) (rest : List ℕ) → length o.token.bytes ≡ 16 → opening_at (opening_field o ++ rest) ≡ Ok (o, rest)
unfolding opening_at
opening_again o rest e =
    ap opening_at (append_assoc o.token.bytes (flag_field o.resumes) rest)
    ∙ rw (token_again 16 o.token.bytes (flag_field o.resumes ++ rest) e, flag_again o.resumes rest) refl

-- ---- an Open or a Close

pub control_takes : (op : ℕ) (bytes : List ℕ) (x : SessionFrame × List ℕ) → IsBytes bytes → (op ≡ 4) ⊎ (op ≡ 5) → control_at op bytes ≡ Ok x → BeginsWithControl op bytes x.0 x.1
unfolding control_at
control_takes op bytes x fits known e =
    elim (chosen (eqb op 4) (opening_at bytes >>= λ o. Ok (frames.Open o.0, o.1)) (Ok (frames.Close, bytes)) (Ok x) e) [
      | inl four ↦ let b = bind_ok (opening_at bytes) (λ o. Ok (frames.Open o.0, o.1)) x four.1 in
          let t = opening_takes bytes b.0 fits b.1 in
          subst (λ (y : SessionFrame × List ℕ). BeginsWithControl op bytes y.0 y.1) (ok_is (frames.Open b.0.0, b.0.1) x b.2) (eqb-true op 4 four.0, t.0, t.1)
      | inr other ↦ let five : op ≡ 5 = elim known [
        | inl four ↦ absurd (true≢false (sym (eq-eqb op 4 four) ∙ other.0))
        | inr so ↦ so
      ] in
          subst (λ (y : SessionFrame × List ℕ). BeginsWithControl op bytes y.0 y.1) (ok_is (frames.Close, bytes) x other.1) (five, refl)
    ]

open_again : (op : ℕ) (o : Opening) (bytes more : List ℕ) → op ≡ 4 → bytes ≡ opening_field o ++ more → length o.token.bytes ≡ 16 → control_at op bytes ≡ Ok (frames.Open o, more)
unfolding control_at
open_again op o bytes more four e len = rw (eq-eqb op 4 four, e, opening_again o more len) refl

close_again : (op : ℕ) (bytes more : List ℕ) → op ≡ 5 → bytes ≡ more → control_at op bytes ≡ Ok (frames.Close, more)
unfolding control_at
close_again op bytes more five e = rw (five, e) refl

pub control_again : (op : ℕ) (bytes : List ℕ) (x : SessionFrame) (more : List ℕ) → BeginsWithControl op bytes x more → control_at op bytes ≡ Ok (x, more)
control_again op bytes (frames.Request r) more begins = absurd begins
control_again op bytes (frames.Open o) more begins = open_again op o bytes more begins.0 begins.1 begins.2
control_again op bytes frames.Close more begins = close_again op bytes more begins.0 begins.1

abbrev SessionTaken : List ℕ → SessionFrame → Type 0
SessionTaken body x = IsSessionFrame x × (body ≡ session_body x)

control_body_is : (op : ℕ) (bytes behind : List ℕ) (x : SessionFrame) (more : List ℕ) → bytes ≡ to_be_bytes w64 0 ++ (to_be_bytes w64 0 ++ behind) → BeginsWithControl op behind x more → more ≡ [] → SessionTaken (2 ∷ op ∷ bytes) x
control_body_is op bytes behind (frames.Request r) more e begins none = absurd begins
control_body_is op bytes behind (frames.Open o) more e begins none =
    let behind_is : behind ≡ opening_field o = begins.1 ∙ ap (λ (m : List ℕ). opening_field o ++ m) none ∙ append-nil (opening_field o) in
    (begins.2, ap (λ (k : ℕ). 2 ∷ k ∷ bytes) begins.0 ∙ ap (λ (bs : List ℕ). 2 ∷ 4 ∷ bs) (e ∙ ap (λ (b : List ℕ). to_be_bytes w64 0 ++ (to_be_bytes w64 0 ++ b)) behind_is))
control_body_is op bytes behind frames.Close more e begins none =
    (tt, ap (λ (k : ℕ). 2 ∷ k ∷ bytes) begins.0 ∙ ap (λ (bs : List ℕ). 2 ∷ 5 ∷ bs) (e ∙ ap (λ (b : List ℕ). to_be_bytes w64 0 ++ (to_be_bytes w64 0 ++ b)) (begins.1 ∙ none)))

control_taken : (op : ℕ) (bytes : List ℕ) (x : SessionFrame) → IsBytes bytes → (op ≡ 4) ⊎ (op ≡ 5) → control_in op bytes ≡ Ok x → SessionTaken (2 ∷ op ∷ bytes) x
unfolding control_in
control_taken op bytes x fits known e =
    let a = bind_ok (zeros_at bytes) (λ behind. control_at op behind >>= λ control. cond (eqb (length control.1) 0) (Ok control.0) (Err (fault Trailing 0))) x e in
    let b = bind_ok (control_at op a.0) (λ control. cond (eqb (length control.1) 0) (Ok control.0) (Err (fault Trailing 0))) x a.2 in
    let g = guard_then (eqb (length b.0.1) 0) (fault Trailing 0) b.0.0 x b.2 in
    let z = zeros_take bytes a.0 fits a.1 in
    let t = control_takes op a.0 b.0 z.1 known b.1 in
    subst (SessionTaken (2 ∷ op ∷ bytes)) g.1 (control_body_is op bytes a.0 b.0.0 b.0.1 z.0 t (nil_from_length b.0.1 (eqb-true _ _ g.0)))

session_takes : (body : List ℕ) (x : SessionFrame) → IsBytes body → session_in body ≡ Ok x → SessionTaken body x
unfolding session_in
session_takes body x fits e = taken_in_session 2 4 5 is_control control_in request_in (λ r. frames.Request r) SessionTaken (known_by_test 2 4 5) control_taken requests.takes body x fits e

and_never : (b : Bool) → (b && false) ≡ false
and_never true = refl
and_never false = refl

no_control : (version : ℕ) (request : Request) → is_control version (operation request) ≡ false
no_control version (Insert key value) = and_never (eqb version 2)
no_control version (Retrieve key) = and_never (eqb version 2)
no_control version (Remove key value) = and_never (eqb version 2)

control_read : (op : ℕ) (behind : List ℕ) (x : SessionFrame) → control_at op behind ≡ Ok (x, []) → control_in op (to_be_bytes w64 0 ++ (to_be_bytes w64 0 ++ behind)) ≡ Ok x
unfolding control_in
control_read op behind x e =
    ap (λ (r : Result (List ℕ) WireFault). r >>= λ b. control_at op b >>= λ control. cond (eqb (length control.1) 0) (Ok control.0) (Err (fault Trailing 0))) (zeros_again 0 behind refl) ∙ rw e refl

session_again : (x : SessionFrame) → IsSessionFrame x → session_in (session_body x) ≡ Ok x
unfolding session_in
session_again (frames.Request r) fits = rw (no_control r.version r.request, requests.again r fits) refl
session_again (frames.Open o) fits = control_read 4 (opening_field o) (frames.Open o) (control_again 4 (opening_field o) (frames.Open o) [] (refl, sym (append-nil (opening_field o)), fits))
session_again frames.Close fits = control_read 5 [] frames.Close (control_again 5 [] frames.Close [] (refl, refl))

length_flag : (resumes : Bool) → length (flag_field resumes) ≡ 1
length_flag false = refl
length_flag true = refl

session_long : (x : SessionFrame) → IsSessionFrame x → (12 ≤ length (session_body x)) × (length (session_body x) ≤ 4372)
session_long (frames.Request r) fits = requests.long r fits
session_long (frames.Open o) fits =
    let len = length-append o.token.bytes (flag_field o.resumes) in
    let one = length_flag o.resumes in
    (omega (arith, len, one, fits), omega (arith, len, one, fits))
session_long frames.Close fits = (omega arith, omega arith)

-- a client's frame is read from its body
pub sessions : IsRead next_session 12 4372 session_in IsSessionFrame session_body
unfolding next_session
sessions = record { is = λ bytes. refl; takes = session_takes; again = session_again; long = session_long; small = omega arith }

-- ---- what a server sends

pub told_takes : (kind : ℕ) (bytes : List ℕ) (x : SessionAnswer × List ℕ) → IsBytes bytes → (kind ≡ 132) ⊎ (kind ≡ 133) → told_at kind bytes ≡ Ok x → BeginsWithTold kind bytes x.0 x.1
unfolding told_at
told_takes kind bytes x fits known e =
    elim (chosen (eqb kind 132) (number_at w64 (fault BadValue 0) bytes >>= λ floor. number_at w64 (fault BadValue 0) floor.1 >>= λ last. Ok (answers.Opened floor.0 last.0, last.1)) (Ok (answers.Closed, bytes)) (Ok x) e) [
      | inl opened ↦ let a = bind_ok (number_at w64 (fault BadValue 0) bytes) (λ floor. number_at w64 (fault BadValue 0) floor.1 >>= λ last. Ok (answers.Opened floor.0 last.0, last.1)) x opened.1 in
          let b = bind_ok (number_at w64 (fault BadValue 0) a.0.1) (λ last. Ok (answers.Opened a.0.0 last.0, last.1)) x a.2 in
          let f = number_takes w64 (2 ^ 64) wide64 (fault BadValue 0) bytes a.0.0 a.0.1 fits a.1 in
          let l = number_takes w64 (2 ^ 64) wide64 (fault BadValue 0) a.0.1 b.0.0 b.0.1 f.0.rest_fits b.1 in
          subst (λ (y : SessionAnswer × List ℕ). BeginsWithTold kind bytes y.0 y.1) (ok_is (answers.Opened a.0.0 b.0.0, b.0.1) x b.2)
          (eqb-true kind 132 opened.0, f.0.parts ∙ ap (λ (bs : List ℕ). to_be_bytes w64 a.0.0 ++ bs) l.0.parts, (f.1, l.1))
      | inr other ↦ let closed : kind ≡ 133 = elim known [
        | inl so ↦ absurd (true≢false (sym (eq-eqb kind 132 so) ∙ other.0))
        | inr so ↦ so
      ] in
          subst (λ (y : SessionAnswer × List ℕ). BeginsWithTold kind bytes y.0 y.1) (ok_is (answers.Closed, bytes) x other.1) (closed, refl)
    ]

opened_again : (kind floor last : ℕ) (bytes more : List ℕ) → kind ≡ 132 → bytes ≡ to_be_bytes w64 floor ++ (to_be_bytes w64 last ++ more) → floor < 2 ^ 64 → last < 2 ^ 64 → told_at kind bytes ≡ Ok (answers.Opened floor last, more)
unfolding told_at
opened_again kind floor last bytes more is e low high =
    rw (eq-eqb kind 132 is, e, number_again w64 (2 ^ 64) wide64 (fault BadValue 0) floor (to_be_bytes w64 last ++ more) low, number_again w64 (2 ^ 64) wide64 (fault BadValue 0) last more high) refl

closed_again : (kind : ℕ) (bytes more : List ℕ) → kind ≡ 133 → bytes ≡ more → told_at kind bytes ≡ Ok (answers.Closed, more)
unfolding told_at
closed_again kind bytes more is e = rw (is, e) refl

pub told_again : (kind : ℕ) (bytes : List ℕ) (x : SessionAnswer) (more : List ℕ) → BeginsWithTold kind bytes x more → told_at kind bytes ≡ Ok (x, more)
told_again kind bytes (answers.Answer a) more begins = absurd begins
told_again kind bytes (answers.Opened floor last) more begins = opened_again kind floor last bytes more begins.0 begins.1 begins.2.0 begins.2.1
told_again kind bytes answers.Closed more begins = closed_again kind bytes more begins.0 begins.1

abbrev ToldTaken : List ℕ → SessionAnswer → Type 0
ToldTaken body x = IsSessionAnswer x × (body ≡ session_answer_body x)

told_body_is : (kind : ℕ) (bytes behind : List ℕ) (x : SessionAnswer) (more : List ℕ) → bytes ≡ to_be_bytes w64 0 ++ behind → BeginsWithTold kind behind x more → more ≡ [] → ToldTaken (1 ∷ kind ∷ bytes) x
told_body_is kind bytes behind (answers.Answer a) more e begins none = absurd begins
told_body_is kind bytes behind (answers.Opened floor last) more e begins none =
    let behind_is : behind ≡ to_be_bytes w64 floor ++ to_be_bytes w64 last = begins.1 ∙ ap (λ (m : List ℕ). to_be_bytes w64 floor ++ (to_be_bytes w64 last ++ m)) none ∙ ap (λ (m : List ℕ). to_be_bytes w64 floor ++ m) (append-nil (to_be_bytes w64 last)) in
    (begins.2, ap (λ (k : ℕ). 1 ∷ k ∷ bytes) begins.0 ∙ ap (λ (bs : List ℕ). 1 ∷ 132 ∷ bs) (e ∙ ap (λ (b : List ℕ). to_be_bytes w64 0 ++ b) behind_is))
told_body_is kind bytes behind answers.Closed more e begins none =
    (tt, ap (λ (k : ℕ). 1 ∷ k ∷ bytes) begins.0 ∙ ap (λ (bs : List ℕ). 1 ∷ 133 ∷ bs) (e ∙ ap (λ (b : List ℕ). to_be_bytes w64 0 ++ b) (begins.1 ∙ none)))

told_taken : (kind : ℕ) (bytes : List ℕ) (x : SessionAnswer) → IsBytes bytes → (kind ≡ 132) ⊎ (kind ≡ 133) → told_in kind bytes ≡ Ok x → ToldTaken (1 ∷ kind ∷ bytes) x
unfolding told_in
told_taken kind bytes x fits known e =
    let a = bind_ok (number_at w64 (fault BadLength 0) bytes) (λ number. told_under kind number.0 number.1 >>= λ told. cond (eqb (length told.1) 0) (Ok told.0) (Err (fault Trailing 0))) x e in
    let b = bind_ok (told_under kind a.0.0 a.0.1) (λ told. cond (eqb (length told.1) 0) (Ok told.0) (Err (fault Trailing 0))) x a.2 in
    let g = guard_then (eqb (length b.0.1) 0) (fault Trailing 0) b.0.0 x b.2 in
    let n = number_takes w64 (2 ^ 64) wide64 (fault BadLength 0) bytes a.0.0 a.0.1 fits a.1 in
    let u = guard_told kind a.0.0 a.0.1 b.0 b.1 in
    let t = told_takes kind a.0.1 b.0 n.0.rest_fits known u.1 in
    let parts : bytes ≡ to_be_bytes w64 0 ++ a.0.1 = n.0.parts ∙ ap (λ (k : ℕ). to_be_bytes w64 k ++ a.0.1) u.0 in
    subst (ToldTaken (1 ∷ kind ∷ bytes)) g.1 (told_body_is kind bytes a.0.1 b.0.0 b.0.1 parts t (nil_from_length b.0.1 (eqb-true _ _ g.0)))
  where
    guard_told : (kind number : ℕ) (bytes : List ℕ) (x : SessionAnswer × List ℕ) → told_under kind number bytes ≡ Ok x → (number ≡ 0) × (told_at kind bytes ≡ Ok x)
    guard_told kind number bytes x e = elim (chosen (eqb number 0) (told_at kind bytes) (Err (fault BadValue number)) (Ok x) e) [
      | inl so ↦ (eqb-true number 0 so.0, so.1)
      | inr other ↦ absurd (fault_no (fault BadValue number) x other.1)
    ]

session_answer_takes : (body : List ℕ) (x : SessionAnswer) → IsBytes body → session_answer_in body ≡ Ok x → ToldTaken body x
unfolding session_answer_in
session_answer_takes body x fits e = taken_in_session 1 132 133 is_told told_in answer_in (λ a. answers.Answer a) ToldTaken (known_by_test 1 132 133) told_taken plain_answers.takes body x fits e

no_told : (reply : Reply) → is_told 1 (reply_kind reply) ≡ false
no_told reply = every_kind (λ kind. is_told 1 kind ≡ false) refl refl refl reply

told_read : (kind : ℕ) (behind : List ℕ) (x : SessionAnswer) → told_at kind behind ≡ Ok (x, []) → told_in kind (to_be_bytes w64 0 ++ behind) ≡ Ok x
unfolding told_in
told_read kind behind x e =
    ap (λ (r : Result (ℕ × List ℕ) WireFault). r >>= λ n. told_under kind n.0 n.1 >>= λ told. cond (eqb (length told.1) 0) (Ok told.0) (Err (fault Trailing 0))) (number_again w64 (2 ^ 64) wide64 (fault BadLength 0) 0 behind (omega arith)) ∙ rw e refl

session_answer_again : (x : SessionAnswer) → IsSessionAnswer x → session_answer_in (session_answer_body x) ≡ Ok x
unfolding session_answer_in
session_answer_again (answers.Answer (answer.Reply number reply)) fits = rw (no_told reply, plain_answers.again (answer.Reply number reply) fits) refl
session_answer_again (answers.Answer (answer.Fault number code)) fits = rw (plain_answers.again (answer.Fault number code) fits) refl
session_answer_again (answers.Opened floor last) fits =
    let behind = to_be_bytes w64 floor ++ to_be_bytes w64 last in
    told_read 132 behind (answers.Opened floor last) (told_again 132 behind (answers.Opened floor last) [] (refl, ap (λ (m : List ℕ). to_be_bytes w64 floor ++ m) (sym (append-nil (to_be_bytes w64 last))), fits))
session_answer_again answers.Closed fits = told_read 133 [] answers.Closed (told_again 133 [] answers.Closed [] (refl, refl))

session_answer_long : (x : SessionAnswer) → IsSessionAnswer x → (10 ≤ length (session_answer_body x)) × (length (session_answer_body x) ≤ 4098014)
session_answer_long (answers.Answer a) fits = let len = plain_answers.long a fits in (omega (arith, len.0), len.1)
session_answer_long (answers.Opened floor last) fits = (omega arith, omega arith)
session_answer_long answers.Closed fits = (omega arith, omega arith)

-- a server's frame is read from its body
pub session_answers : IsRead next_session_answer 10 4098014 session_answer_in IsSessionAnswer session_answer_body
unfolding next_session_answer
session_answers = record { is = λ bytes. refl; takes = session_answer_takes; again = session_answer_again; long = session_answer_long; small = omega arith }

-- an answer's body may be read where bodies of ten bytes are
pub short_answers : IsRead (next_of 10 4098014 answer_in) 10 4098014 answer_in IsAnswer answer_body
short_answers = record { is = λ bytes. refl; takes = plain_answers.takes; again = plain_answers.again; long = λ a fits. let len = plain_answers.long a fits in (omega (arith, len.0), len.1); small = omega arith }

-- ---- a request in a session

-- a frame that is read is the one that is spelled
session_is : (x : SessionFrame) (bytes behind : List ℕ) → IsBytes bytes → next_session bytes ≡ Ok (Some (x, behind)) → IsSessionFrame x × (bytes ≡ session_frame x ++ behind)
session_is x bytes behind fits e = taken_is_found sessions (Ok (Some x)) bytes behind fits e

pub request_alone : (bytes behind : List ℕ) (r : WireRequest) → IsBytes bytes → next_session bytes ≡ Ok (Some (frames.Request r, behind)) → next_request bytes ≡ Ok (Some (r, behind))
request_alone bytes behind r fits e =
    let t = session_is (frames.Request r) bytes behind fits e in
    ap next_request t.1 ∙ next_again requests r behind t.0

pub request_in_session : (bytes behind : List ℕ) (r : WireRequest) → IsBytes bytes → next_request bytes ≡ Ok (Some (r, behind)) → next_session bytes ≡ Ok (Some (frames.Request r, behind))
request_in_session bytes behind r fits e =
    let t : IsWireRequest r × (bytes ≡ request_frame r ++ behind) = taken_is_found requests (Ok (Some r)) bytes behind fits e in
    ap next_session t.1 ∙ next_again sessions (frames.Request r) behind t.0

-- ---- a frame that was taken

abbrev with_rest : List ℕ → SessionFrame → Result (Option (SessionFrame × List ℕ)) WireFault
with_rest rest x = Ok (Some (x, rest))

no_body_yet : (bytes : List ℕ) → next_session bytes ≡ Ok None → body_at 12 4372 bytes ≡ Ok None
unfolding next_session
no_body_yet bytes e = none_before (body_at 12 4372 bytes) e
  where
    none_after : (r : Result SessionFrame WireFault) (rest : List ℕ) → (r >>= with_rest rest) ≡ Ok None → ⊥
    none_after (Ok x) rest e = cc
    none_after (Err f) rest e = cc

    none_before : (r : Result (Option (List ℕ × List ℕ)) WireFault) → (r >>= of_body session_in) ≡ Ok None → r ≡ Ok None
    none_before (Ok None) e = refl
    none_before (Ok (Some body)) e = absurd (none_after (session_in body.0) body.1 e)
    none_before (Err f) e = absurd cc

none_alone : (bytes : List ℕ) → next_session bytes ≡ Ok None → next_request bytes ≡ Ok None
unfolding next_request
none_alone bytes e = rw (no_body_yet bytes e) refl

pub as_alone : (result : Result (Option SessionFrame) WireFault) (old new : List ℕ) → IsBytes old → TakesNext next_session old result new → AsAlone result old new
as_alone (Ok (Some (frames.Request r))) old new fits taken = request_alone old new r fits taken
as_alone (Ok (Some (frames.Open o))) old new fits taken = tt
as_alone (Ok (Some frames.Close)) old new fits taken = tt
as_alone (Ok None) old new fits taken = none_alone old taken.0
as_alone (Err f) old new fits taken = tt

no_open : (r : WireRequest) → (eqb r.version 2 && eqb (operation r.request) 4) ≡ false
no_open r = no_open_of r.version r.request
  where
    no_open_of : (version : ℕ) (request : Request) → (eqb version 2 && eqb (operation request) 4) ≡ false
    no_open_of version (Insert key value) = and_never (eqb version 2)
    no_open_of version (Retrieve key) = and_never (eqb version 2)
    no_open_of version (Remove key value) = and_never (eqb version 2)

-- the version and the operation are the fifth and the sixth byte
front_of : (version op : ℕ) (after rest : List ℕ) → begins_with_open (frame (version ∷ op ∷ after) ++ rest) ≡ Some (eqb version 2 && eqb op 4)
front_of version op after rest =
    let long : ltb (length (frame (version ∷ op ∷ after) ++ rest)) 6 ≡ false = le-ltb _ _ (omega arith) in
    rw long refl

begun_of : (x : SessionFrame) (rest : List ℕ) → begins_with_open (session_frame x ++ rest) ≡ Some (is_open x)
begun_of (frames.Request r) rest = front_of r.version (operation r.request) (to_be_bytes w64 r.number ++ (floor_field r.version r.floor ++ operands r.request)) rest ∙ ap (λ (b : Bool). Some b) (no_open r)
begun_of (frames.Open o) rest = front_of 2 4 (to_be_bytes w64 0 ++ (to_be_bytes w64 0 ++ opening_field o)) rest
begun_of frames.Close rest = front_of 2 5 (to_be_bytes w64 0 ++ (to_be_bytes w64 0 ++ [])) rest

pub begun : (result : Result (Option SessionFrame) WireFault) (old new : List ℕ) → IsBytes old → TakesNext next_session old result new
    → IfOk result (λ next. IfSome next (λ x. begins_with_open old ≡ Some (is_open x)))
begun (Ok (Some x)) old new fits taken = let t = session_is x old new fits taken in ap begins_with_open t.1 ∙ begun_of x new
begun (Ok None) old new fits taken = tt
begun (Err f) old new fits taken = tt
