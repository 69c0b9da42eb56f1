-- What a frame answers is what it spells, and a spelling is read again.
use Rattle.std.proofs.Common.{◌≡◌, ◌≢◌, ℕ, zero, suc, ◌^◌, ◌<◌, ◌≤◌, ◌||◌, not, Bool, true, false, cond, eqb, ltb, List, [], ◌∷◌, ◌++◌, length, Option, Some, None, Ok, Err, refl, sym, ap, subst, ◌∙◌, append_assoc, arith, ◌⊎◌, inl, inr}
use Rattle.std.specs.List.{flat_map, AllByRecursion}
use Rattle.std.specs.Int.{w32, w64, to_be_bytes}
use Rattle.std.proofs.lemmas.Bool.{ltb-false, le-ltb, eqb-true, not-false, or_cases}
use Rattle.std.proofs.lemmas.List.{nil_from_length, append-nil}
use Rattle.std.proofs.lemmas.List.Concat.{flat_map-cons}
use Rattle.chord_wire.specs.declared.fault.WireFault.{WireFault}
use Rattle.chord_wire.specs.declared.fault.FaultCode.{FaultCode}
use Rattle.chord_wire.specs.declared.fault.FaultCode.TheVariants.{BadLength, BadVersion, BadOperation, BadKey, BadValue, Trailing, Memory, NumberReused, BadNumber, Full, NoAnswer, BadFloor, CallersSpent, SessionKnown, NoSession, OutOfPlace}
use Rattle.chord_map.specs.declared.reply.Reply.{Reply}
use Rattle.chord_map.specs.declared.reply.Reply.TheVariants.{Added, Present, SetFull, Values, Removed, Absent}
use Rattle.chord_wire.specs.declared.answer.Answer.{Answer}
use Rattle.chord_wire.specs.declared.answer.Answer.TheVariants as answer
use Rattle.chord_wire.specs.Fault.{fault, code_of, code_number}
use Rattle.chord_map.specs.Checked.{IsValue}
use Rattle.chord_wire.specs.Spelling.{IsBytes, value_field}
use Rattle.chord_wire.specs.Replies.{IsReply, IsAnswer, reply_kind, reply_fields, values_field, answer_body, kind_of, number_of, fields_of}
use Rattle.chord_wire.specs.FaultTable.{IsKind}
use Rattle.chord_wire.specs.Reading.{◌>>=◌, number_at, value_at}
use Rattle.chord_wire.specs.ReadingReplies.{is_above, or_fault, status_of, status_at, code_at, value_above, rising_at, values_from, answer_at, answer_at_end, answer_fields, answer_in, next_answer}
use Rattle.chord_wire.proofs.Steps.{IsBytes-rest, bind_ok, guard_on, guard_then, ok_is, Takes, Takes-then, wide32, wide64, number_takes, number_again}
use Rattle.chord_wire.proofs.NextLaws.{IsRead}
use Rattle.chord_wire.proofs.RequestLaws.{ends}
use Rattle.chord_wire.proofs.Rising.{AreRising, are_rising, is_sorted}
use Rattle.chord_wire.proofs.ReplyLaws.{length_reply}
use Rattle.chord_wire.proofs.FieldLaws.{value_takes, value_again}

-- ---- values

-- a value that is above the one before it
above_is : (number : ℕ) (before : Option (List ℕ)) (bytes : List ℕ) (x : List ℕ × List ℕ) → value_above number before bytes ≡ Ok x → (value_at number bytes ≡ Ok x) × (is_above before x.0 ≡ true)
unfolding value_above
above_is number before bytes x e =
    let a = bind_ok (value_at number bytes) (λ value. cond (is_above before value.0) (Ok value) (Err (fault BadValue number))) x e in
    let g = guard_then (is_above before a.0.0) (fault BadValue number) a.0 x a.2 in
    (a.1 ∙ ap (λ (y : List ℕ × List ℕ). Ok y) g.1, ap (λ (y : List ℕ × List ℕ). is_above before y.0) (sym g.1) ∙ g.0)

above_again : (number : ℕ) (before : Option (List ℕ)) (value rest : List ℕ) → IsValue value → is_above before value ≡ true → value_above number before (value_field value ++ rest) ≡ Ok (value, rest)
unfolding value_above
above_again number before value rest fits above = rw (value_again number value rest fits, above) refl

abbrev ValuesTaken : Option (List ℕ) → ℕ → List ℕ → (List (List ℕ) × List ℕ) → Type 0
ValuesTaken before count bytes x = Takes bytes (flat_map value_field x.0) x.1 × (length x.0 ≡ count) × AllByRecursion IsValue x.0 × AreRising before x.0

pub rising_takes : (number : ℕ) (before : Option (List ℕ)) (count : ℕ) (bytes : List ℕ) (x : List (List ℕ) × List ℕ) → IsBytes bytes → rising_at number before count bytes ≡ Ok x → ValuesTaken before count bytes x
unfolding rising_at
rising_takes number before zero bytes x fits e =
    subst (ValuesTaken before 0 bytes) (ok_is ([], bytes) x e) (record { parts = refl; rest_fits = fits }, refl, tt, tt)
rising_takes number before (suc count) bytes x fits e =
    let a = bind_ok (value_above number before bytes) (λ value. rising_at number (Some value.0) count value.1 >>= λ others. Ok (value.0 ∷ others.0, others.1)) x e in
    let g = above_is number before bytes a.0 a.1 in
    let b = bind_ok (rising_at number (Some a.0.0) count a.0.1) (λ others. Ok (a.0.0 ∷ others.0, others.1)) x a.2 in
    let first = value_takes number bytes a.0 fits g.0 in
    let second = rising_takes number (Some a.0.0) count a.0.1 b.0 first.0.rest_fits b.1 in
    let both = Takes-then bytes (value_field a.0.0) a.0.1 (flat_map value_field b.0.0) b.0.1 first.0 second.0 in
    subst (ValuesTaken before (suc count) bytes) (ok_is (a.0.0 ∷ b.0.0, b.0.1) x b.2) (rw flat_map-cons both, ap suc second.1, (first.1, second.2), (g.1, second.3))

pub rising_again : (number : ℕ) (before : Option (List ℕ)) (values : List (List ℕ)) (rest : List ℕ) → AllByRecursion IsValue values → AreRising before values → rising_at number before (length values) (flat_map value_field values ++ rest) ≡ Ok (values, rest)
unfolding rising_at
rising_again number before [] rest fits rising = refl
rising_again number before (value ∷ values) rest fits rising =
    let regrouped : flat_map value_field (value ∷ values) ++ rest ≡ value_field value ++ (flat_map value_field values ++ rest) = ap (λ (x : List ℕ). x ++ rest) (flat_map-cons value_field value values) ∙ append_assoc (value_field value) (flat_map value_field values) rest in
    ap (rising_at number before (suc (length values))) regrouped ∙ rw (above_again number before value (flat_map value_field values ++ rest) fits.0 rising.0, rising_again number (Some value) values rest fits.1 rising.1) refl

-- ---- codes

pub code_again : (code : FaultCode) → code ≢ Memory → code_of (code_number code) ≡ Some code
code_again BadLength ne = refl
code_again BadVersion ne = refl
code_again BadOperation ne = refl
code_again BadKey ne = refl
code_again BadValue ne = refl
code_again Trailing ne = refl
code_again Memory ne = absurd (ne refl)
code_again NumberReused ne = refl
code_again BadNumber ne = refl
code_again Full ne = refl
code_again NoAnswer ne = refl
code_again BadFloor ne = refl
code_again CallersSpent ne = refl
code_again SessionKnown ne = refl
code_again NoSession ne = refl
code_again OutOfPlace ne = refl

abbrev there_is : {X : Type 0} → X → Option X
there_is x = Some x

some_one : {X : Type 0} (x y : X) → there_is x ≡ there_is y → x ≡ y
some_one x y e = cc

abbrev no_one : {X : Type 0} → Option X
no_one = None

no_code : (code : FaultCode) → no_one ≡ there_is code → ⊥
no_code code e = cc

-- one case of a chain of tests on a number
case_of : {X : Type 0} (P : X → Type 0) (n k : ℕ) (x : X) (r : Option X) (y : X) → (n ≡ k → P x) → (r ≡ Some y → P y) → cond (eqb n k) (Some x) r ≡ Some y → P y
case_of {X} P n k x r y here other =
    let go : (b : Bool) → eqb n k ≡ b → cond b (Some x) r ≡ Some y → P y = λ b h. elim b as (λ v. eqb n k ≡ v → cond v (Some x) r ≡ Some y → P y) [
      | true ↦ λ t e. subst P (some_one x y e) (here (eqb-true n k t))
      | false ↦ λ t e. other e
    ] h in
    go (eqb n k) refl

abbrev CodeTaken : ℕ → FaultCode → Type 0
CodeTaken n code = (n ≡ code_number code) × (code ≢ Memory)

pub code_takes : (n : ℕ) (code : FaultCode) → code_of n ≡ Some code → CodeTaken n code
code_takes n code =
    case_of (CodeTaken n) n 1 BadLength _ code (λ e. (e, λ h. absurd cc))
    (case_of (CodeTaken n) n 2 BadVersion _ code (λ e. (e, λ h. absurd cc))
    (case_of (CodeTaken n) n 3 BadOperation _ code (λ e. (e, λ h. absurd cc))
    (case_of (CodeTaken n) n 4 BadKey _ code (λ e. (e, λ h. absurd cc))
    (case_of (CodeTaken n) n 5 BadValue _ code (λ e. (e, λ h. absurd cc))
    (case_of (CodeTaken n) n 6 Trailing _ code (λ e. (e, λ h. absurd cc))
    (case_of (CodeTaken n) n 8 NumberReused _ code (λ e. (e, λ h. absurd cc))
    (case_of (CodeTaken n) n 9 BadNumber _ code (λ e. (e, λ h. absurd cc))
    (case_of (CodeTaken n) n 10 Full _ code (λ e. (e, λ h. absurd cc))
    (case_of (CodeTaken n) n 11 NoAnswer _ code (λ e. (e, λ h. absurd cc))
    (case_of (CodeTaken n) n 12 BadFloor _ code (λ e. (e, λ h. absurd cc))
    (case_of (CodeTaken n) n 13 SessionKnown _ code (λ e. (e, λ h. absurd cc))
    (case_of (CodeTaken n) n 14 NoSession _ code (λ e. (e, λ h. absurd cc))
    (case_of (CodeTaken n) n 15 CallersSpent _ code (λ e. (e, λ h. absurd cc))
    (case_of (CodeTaken n) n 16 OutOfPlace None code (λ e. (e, λ h. absurd cc))
    (λ e. absurd (no_code code e))))))))))))))))

-- ---- statuses

abbrev StatusTaken : ℕ → ℕ → Reply → Type 0
StatusTaken kind status reply = (reply_fields reply ≡ status ∷ []) × (reply_kind reply ≡ kind) × IsReply reply

no_reply : (reply : Reply) → no_one ≡ there_is reply → ⊥
no_reply reply e = cc

one_byte : (k n : ℕ) → n ≡ k → k ∷ [] ≡ n ∷ []
one_byte k n e = ap (λ (b : ℕ). b ∷ []) (sym e)

insert_status : (status : ℕ) (reply : Reply) → status_of 129 status ≡ Some reply → StatusTaken 129 status reply
insert_status status reply =
    case_of (StatusTaken 129 status) status 0 Present _ reply (λ e. (one_byte 0 status e, refl, tt))
    (case_of (StatusTaken 129 status) status 1 Added _ reply (λ e. (one_byte 1 status e, refl, tt))
    (case_of (StatusTaken 129 status) status 2 SetFull None reply (λ e. (one_byte 2 status e, refl, tt)) (λ e. absurd (no_reply reply e))))

remove_status : (status : ℕ) (reply : Reply) → status_of 131 status ≡ Some reply → StatusTaken 131 status reply
remove_status status reply =
    case_of (StatusTaken 131 status) status 0 Absent _ reply (λ e. (one_byte 0 status e, refl, tt))
    (case_of (StatusTaken 131 status) status 1 Removed None reply (λ e. (one_byte 1 status e, refl, tt)) (λ e. absurd (no_reply reply e)))

-- ---- the bytes after the number

abbrev pub FieldsFit : Answer → Type 0
FieldsFit (answer.Reply number reply) = IsReply reply
FieldsFit (answer.Fault number code) = code ≢ Memory

abbrev pub AnswerTaken : ℕ → ℕ → List ℕ → (Answer × List ℕ) → Type 0
AnswerTaken kind number bytes x = Takes bytes (fields_of x.0) x.1 × (kind_of x.0 ≡ kind) × (number_of x.0 ≡ number) × FieldsFit x.0

-- the value of an option
given_ok : {X : Type 0} (f : WireFault) (o : Option X) (x : X) → or_fault f o ≡ Ok x → o ≡ Some x
given_ok f None x e = absurd cc
given_ok f (Some y) x e = ap there_is (ok_is y x e)

status_takes : (kind number : ℕ) (bytes : List ℕ) (x : Answer × List ℕ) → (kind ≡ 129) ⊎ (kind ≡ 131) → IsBytes bytes → status_at kind number bytes ≡ Ok x → AnswerTaken kind number bytes x
unfolding status_at
status_takes kind number [] x known fits e = absurd cc
status_takes kind number (status ∷ bytes) x known fits e =
    let a = bind_ok (or_fault (fault BadValue number) (status_of kind status)) (λ reply. Ok (answer.Reply number reply, bytes)) x e in
    let there = given_ok (fault BadValue number) (status_of kind status) a.0 a.1 in
    let t : StatusTaken kind status a.0 = elim known [
      | inl insert ↦ let P : ℕ → Type 0 = λ k. status_of k status ≡ Some a.0 → StatusTaken k status a.0 in subst P (sym insert) (insert_status status a.0) there
      | inr remove ↦ let P : ℕ → Type 0 = λ k. status_of k status ≡ Some a.0 → StatusTaken k status a.0 in subst P (sym remove) (remove_status status a.0) there
    ] in
    subst (AnswerTaken kind number (status ∷ bytes)) (ok_is (answer.Reply number a.0, bytes) x a.2)
    (record { parts = ap (λ (w : List ℕ). w ++ bytes) (sym t.0); rest_fits = IsBytes-rest status bytes fits }, t.1, refl, t.2)

fault_takes : (number : ℕ) (bytes : List ℕ) (x : Answer × List ℕ) → IsBytes bytes → code_at number bytes ≡ Ok x → AnswerTaken 255 number bytes x
unfolding code_at
fault_takes number [] x fits e = absurd cc
fault_takes number (code ∷ bytes) x fits e =
    let a = bind_ok (or_fault (fault BadValue number) (code_of code)) (λ known. Ok (answer.Fault number known, bytes)) x e in
    let t = code_takes code a.0 (given_ok (fault BadValue number) (code_of code) a.0 a.1) in
    subst (AnswerTaken 255 number (code ∷ bytes)) (ok_is (answer.Fault number a.0, bytes) x a.2)
    (record { parts = ap (λ (b : ℕ). b ∷ bytes) t.0; rest_fits = IsBytes-rest code bytes fits }, refl, refl, t.1)

values_take : (number : ℕ) (bytes : List ℕ) (x : Answer × List ℕ) → IsBytes bytes → values_from number bytes ≡ Ok x → AnswerTaken 130 number bytes x
unfolding values_from
values_take number bytes x fits e =
    let a = bind_ok (number_at w32 (fault BadValue number) bytes) (λ count. cond (ltb 1000 count.0) (Err (fault BadValue number)) (rising_at number None count.0 count.1 >>= λ values. Ok (answer.Reply number (Values values.0), values.1))) x e in
    let g = guard_on (ltb 1000 a.0.0) (fault BadValue number) (rising_at number None a.0.0 a.0.1 >>= λ values. Ok (answer.Reply number (Values values.0), values.1)) x a.2 in
    let b = bind_ok (rising_at number None a.0.0 a.0.1) (λ values. Ok (answer.Reply number (Values values.0), values.1)) x g.1 in
    let n = number_takes w32 (2 ^ 32) wide32 (fault BadValue number) bytes a.0.0 a.0.1 fits a.1 in
    let v = rising_takes number None a.0.0 a.0.1 b.0 n.0.rest_fits b.1 in
    let both = Takes-then bytes (to_be_bytes w32 a.0.0) a.0.1 (flat_map value_field b.0.0) b.0.1 n.0 v.0 in
    let whole : Takes bytes (values_field b.0.0) b.0.1 = subst (λ (k : ℕ). Takes bytes (to_be_bytes w32 k ++ flat_map value_field b.0.0) b.0.1) (sym v.1) both in
    let few : a.0.0 ≤ 1000 = ltb-false _ _ g.0 in
    subst (AnswerTaken 130 number bytes) (ok_is (answer.Reply number (Values b.0.0), b.0.1) x b.2)
    (whole, refl, refl, record { count = omega (arith, v.1, few); each = v.2; rising = is_sorted b.0.0 v.3 })

pub answer_takes : (kind number : ℕ) (bytes : List ℕ) (x : Answer × List ℕ) → IsKind kind → IsBytes bytes → answer_at kind number bytes ≡ Ok x → AnswerTaken kind number bytes x
unfolding answer_at
answer_takes kind number bytes x (inl (inl insert)) fits =
    let P : ℕ → Type 0 = λ k. answer_at k number bytes ≡ Ok x → AnswerTaken k number bytes x in
    subst P (sym insert) (λ e. status_takes 129 number bytes x (inl refl) fits e)
answer_takes kind number bytes x (inl (inr remove)) fits =
    let P : ℕ → Type 0 = λ k. answer_at k number bytes ≡ Ok x → AnswerTaken k number bytes x in
    subst P (sym remove) (λ e. status_takes 131 number bytes x (inr refl) fits e)
answer_takes kind number bytes x (inr (inl values)) fits =
    let P : ℕ → Type 0 = λ k. answer_at k number bytes ≡ Ok x → AnswerTaken k number bytes x in
    subst P (sym values) (λ e. values_take number bytes x fits e)
answer_takes kind number bytes x (inr (inr fault)) fits =
    let P : ℕ → Type 0 = λ k. answer_at k number bytes ≡ Ok x → AnswerTaken k number bytes x in
    subst P (sym fault) (λ e. fault_takes number bytes x fits e)

pub is_answer : (a : Answer) → number_of a < 2 ^ 64 → FieldsFit a → IsAnswer a
is_answer (answer.Reply number reply) small fits = (small, fits)
is_answer (answer.Fault number code) small fits = (small, fits)

body_is : (a : Answer) → 1 ∷ kind_of a ∷ to_be_bytes w64 (number_of a) ++ fields_of a ≡ answer_body a
body_is (answer.Reply number reply) = refl
body_is (answer.Fault number code) = refl

abbrev BodyTaken : ℕ → List ℕ → Answer → Type 0
BodyTaken kind bytes a = IsAnswer a × (kind_of a ≡ kind) × (bytes ≡ to_be_bytes w64 (number_of a) ++ fields_of a)

fields_take : (kind : ℕ) (bytes : List ℕ) (a : Answer) → IsKind kind → IsBytes bytes → answer_fields kind bytes ≡ Ok a → BodyTaken kind bytes a
unfolding answer_fields
fields_take kind bytes a known fits e =
    let b = bind_ok (number_at w64 (fault BadLength 0) bytes) (λ n. answer_at_end n.0 (answer_at kind n.0 n.1)) a e in
    let d = bind_ok (answer_at kind b.0.0 b.0.1) (λ x. cond (eqb (length x.1) 0) (Ok x.0) (Err (fault Trailing b.0.0))) a b.2 in
    let g = guard_then (eqb (length d.0.1) 0) (fault Trailing b.0.0) d.0.0 a d.2 in
    let n = number_takes w64 (2 ^ 64) wide64 (fault BadLength 0) bytes b.0.0 b.0.1 fits b.1 in
    let t = answer_takes kind b.0.0 b.0.1 d.0 known n.0.rest_fits d.1 in
    let nothing : d.0.1 ≡ [] = nil_from_length d.0.1 (eqb-true _ _ g.0) in
    let both = (Takes-then bytes (to_be_bytes w64 b.0.0) b.0.1 (fields_of d.0.0) d.0.1 n.0 t.0).parts in
    let whole : bytes ≡ to_be_bytes w64 b.0.0 ++ fields_of d.0.0 = ends bytes (to_be_bytes w64 b.0.0 ++ fields_of d.0.0) d.0.1 both nothing in
    let small : number_of d.0.0 < 2 ^ 64 = omega (arith, t.2, n.1) in
    subst (BodyTaken kind bytes) g.1 (is_answer d.0.0 small t.3, t.1, whole ∙ ap (λ (k : ℕ). to_be_bytes w64 k ++ fields_of d.0.0) (sym t.2))

pub known_kind : (kind : ℕ) → (((eqb kind 129 || eqb kind 130) || eqb kind 131) || eqb kind 255) ≡ true → IsKind kind
known_kind kind e = elim (or_cases ((eqb kind 129 || eqb kind 130) || eqb kind 131) (eqb kind 255) e) [
  | inr fault ↦ inr (inr (eqb-true _ _ fault))
  | inl first ↦ elim (or_cases (eqb kind 129 || eqb kind 130) (eqb kind 131) first) [
    | inr remove ↦ inl (inr (eqb-true _ _ remove))
    | inl second ↦ elim (or_cases (eqb kind 129) (eqb kind 130) second) [
      | inl insert ↦ inl (inl (eqb-true _ _ insert))
      | inr values ↦ inr (inl (eqb-true _ _ values))
    ]
  ]
]

pub answer_taken : (body : List ℕ) (a : Answer) → IsBytes body → answer_in body ≡ Ok a → IsAnswer a × (body ≡ answer_body a)
unfolding answer_in
answer_taken [] a fits e = absurd cc
answer_taken (version ∷ []) a fits e = absurd cc
answer_taken (version ∷ kind ∷ bytes) a fits e =
    let v = guard_on (not (eqb version 1)) (fault BadVersion 0) _ a e in
    let k = guard_on (not (((eqb kind 129 || eqb kind 130) || eqb kind 131) || eqb kind 255)) (fault BadOperation 0) (answer_fields kind bytes) a v.1 in
    let one : version ≡ 1 = eqb-true _ _ (not-false (eqb version 1) v.0) in
    let known = known_kind kind (not-false (((eqb kind 129 || eqb kind 130) || eqb kind 131) || eqb kind 255) k.0) in
    let t = fields_take kind bytes a known (IsBytes-rest kind bytes (IsBytes-rest version (kind ∷ bytes) fits)) k.1 in
    let rest : version ∷ kind ∷ bytes ≡ version ∷ kind ∷ to_be_bytes w64 (number_of a) ++ fields_of a = ap (λ (w : List ℕ). version ∷ kind ∷ w) t.2 in
    let heads : version ∷ kind ∷ to_be_bytes w64 (number_of a) ++ fields_of a ≡ 1 ∷ kind_of a ∷ to_be_bytes w64 (number_of a) ++ fields_of a = ap (λ (b : ℕ). b ∷ kind ∷ to_be_bytes w64 (number_of a) ++ fields_of a) one ∙ ap (λ (b : ℕ). 1 ∷ b ∷ to_be_bytes w64 (number_of a) ++ fields_of a) (sym t.1) in
    (t.0, rest ∙ heads ∙ body_is a)

-- ---- a spelling is read again

pub status_again : (number : ℕ) (reply : Reply) (rest : List ℕ) → IsReply reply → answer_at (reply_kind reply) number (reply_fields reply ++ rest) ≡ Ok (answer.Reply number reply, rest)
unfolding answer_at status_at values_from
status_again number Added rest fits = refl
status_again number Present rest fits = refl
status_again number SetFull rest fits = refl
status_again number Removed rest fits = refl
status_again number Absent rest fits = refl
status_again number (Values values) rest fits =
    let regrouped : values_field values ++ rest ≡ to_be_bytes w32 (length values) ++ (flat_map value_field values ++ rest) = append_assoc (to_be_bytes w32 (length values)) (flat_map value_field values) rest in
    let few : ltb 1000 (length values) ≡ false = le-ltb _ _ fits.count in
    ap (answer_at 130 number) regrouped ∙ rw (number_again w32 (2 ^ 32) wide32 (fault BadValue number) (length values) (flat_map value_field values ++ rest) (omega (arith, fits.count)), few, rising_again number None values rest fits.each (are_rising values fits.rising)) refl

pub fault_again : (number : ℕ) (code : FaultCode) (rest : List ℕ) → code ≢ Memory → answer_at 255 number (code_number code ∷ rest) ≡ Ok (answer.Fault number code, rest)
unfolding answer_at code_at
fault_again number code rest ne = rw (code_again code ne) refl

-- what holds of three kinds holds of the kind of each reply
pub every_kind : (P : ℕ → Type 0) → P 129 → P 130 → P 131 → (reply : Reply) → P (reply_kind reply)
every_kind P insert retrieve remove Added = insert
every_kind P insert retrieve remove Present = insert
every_kind P insert retrieve remove SetFull = insert
every_kind P insert retrieve remove (Values values) = retrieve
every_kind P insert retrieve remove Removed = remove
every_kind P insert retrieve remove Absent = remove

kind_test : (reply : Reply) → (((eqb (reply_kind reply) 129 || eqb (reply_kind reply) 130) || eqb (reply_kind reply) 131) || eqb (reply_kind reply) 255) ≡ true
kind_test reply = every_kind (λ kind. (((eqb kind 129 || eqb kind 130) || eqb kind 131) || eqb kind 255) ≡ true) refl refl refl reply

fields_again : (kind number : ℕ) (a : Answer) (fields : List ℕ) → number < 2 ^ 64 → answer_at kind number fields ≡ Ok (a, []) → answer_fields kind (to_be_bytes w64 number ++ fields) ≡ Ok a
unfolding answer_fields
fields_again kind number a fields small e = rw (number_again w64 (2 ^ 64) wide64 (fault BadLength 0) number fields small, e) refl

pub answer_again : (a : Answer) → IsAnswer a → answer_in (answer_body a) ≡ Ok a
unfolding answer_in
answer_again (answer.Reply number reply) fits =
    let ends : answer_at (reply_kind reply) number (reply_fields reply) ≡ Ok (answer.Reply number reply, []) = ap (answer_at (reply_kind reply) number) (sym (append-nil (reply_fields reply))) ∙ status_again number reply [] fits.1 in
    rw (kind_test reply) (fields_again (reply_kind reply) number (answer.Reply number reply) (reply_fields reply) fits.0 ends)
answer_again (answer.Fault number code) fits =
    fields_again 255 number (answer.Fault number code) (code_number code ∷ []) fits.0 (fault_again number code [] fits.1)

-- ---- the next answer

length_answer : (a : Answer) → IsAnswer a → (11 ≤ length (answer_body a)) × (length (answer_body a) ≤ 4098014)
length_answer (answer.Reply number reply) fits = length_reply number reply fits.1
length_answer (answer.Fault number code) fits = (omega arith, omega arith)

-- an answer is read from its body
pub answers : IsRead next_answer 11 4098014 answer_in IsAnswer answer_body
unfolding next_answer
answers = record { is = λ bytes. refl; takes = answer_taken; again = answer_again; long = length_answer; small = omega arith }
