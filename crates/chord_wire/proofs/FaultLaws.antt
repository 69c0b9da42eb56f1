-- Reading gives exactly the fault of the table.
use Rattle.std.proofs.Common.{◌≡◌, ◌≢◌, ℕ, ◌+◌, ◌-◌, ◌^◌, ◌<◌, ◌≤◌, ◌&&◌, ◌||◌, Bool, true, false, cond, eqb, ltb, leb, List, [], ◌∷◌, ◌++◌, length, take, drop, Option, Some, None, Result, Ok, Err, refl, sym, ap, subst, ◌∙◌, arith, ◌⊎◌, inl, inr}
use Rattle.std.specs.Int.{Width, w16, w32, w64, byte_len, from_be_bytes, to_be_bytes}
use Rattle.std.proofs.lemmas.Bool.{true≢false, ltb-true, eqb-true, eqb-false, lt-ltb, le-ltb, ne_eqb, eq-eqb, or_cases, or_left, or_right, and_parts, and_from, cond-true, cond-false, cases_Bool}
use Rattle.std.proofs.lemmas.List.{nil_from_length, length-append, take_at}
use Rattle.chord_map.specs.declared.request.Request.{Request}
use Rattle.chord_map.specs.declared.request.Request.TheVariants.{Insert, Retrieve, Remove}
use Rattle.chord_wire.specs.declared.request.WireRequest.{WireRequest}
use Rattle.chord_wire.specs.declared.fault.WireFault.{WireFault}
use Rattle.chord_wire.specs.declared.fault.FaultCode.TheVariants.{BadLength, BadVersion, BadOperation, BadFloor, BadKey, BadValue, Trailing}
use Rattle.chord_wire.specs.Fault.{fault}
use Rattle.chord_wire.specs.Spelling.{IsBytes, operands, key_field, floor_field, frame}
use Rattle.chord_wire.specs.Reading.{◌>>=◌, number_at, bytes_at, floor_at, key_at, value_at, operands_at, fields_at, request_in, body_of_length, body_at, of_body, next_of, next_request}
use Rattle.chord_wire.specs.FaultTable.{Head, RequestHead, IsVersion, IsKnown, BeginsWithKey, BeginsWithValue, Floored, FaultOf}
use Rattle.chord_wire.specs.FaultTable.FaultOf.{Bad_length, Bad_version, Bad_operation, Bad_floor, Bad_key, Bad_value, Trails}
use Rattle.chord_wire.proofs.Steps.{IsBytes-rest, IsBytes-back, wide32, wide64, number_takes, number_again}
use Rattle.chord_wire.proofs.FieldLaws.{floor_takes, floor_again, key_takes, key_again, value_takes, value_again, operands_take, operands_again}
use Rattle.chord_wire.proofs.RequestLaws.{requests}
use Rattle.chord_wire.proofs.NextLaws.{IsRead, BodyFound, body_takes, body_again, body_fits}

-- ---- a reader fails with one fault alone

abbrev pub Fails : {A : Type 0} → WireFault → Result A WireFault → Type 0
Fails d r = (e : WireFault) → r ≡ Err e → e ≡ d

pub fails_ok : {A : Type 0} (d : WireFault) (x : A) → Fails d (Ok x)
fails_ok d x e h = absurd cc

pub fails_err : {A : Type 0} (d : WireFault) → Fails {A = A} d (Err d)
fails_err d e h = cc

pub fails_if : {A : Type 0} (d : WireFault) (b : Bool) (r s : Result A WireFault) → Fails d r → Fails d s → Fails d (cond b r s)
fails_if d true r s f g = f
fails_if d false r s f g = g

pub fails_then : {A B : Type 0} (d : WireFault) (r : Result A WireFault) (f : A → Result B WireFault) → Fails d r → ((x : A) → Fails d (f x)) → Fails d (r >>= f)
fails_then d (Ok x) f g h = h x
fails_then d (Err c) f g h = λ e i. g e (let same : c ≡ e = cc in ap (λ (w : WireFault). Err w) same)

-- a reading that gives no value gives a fault
pub fails_so : {A : Type 0} (d : WireFault) (r : Result A WireFault) → Fails d r → ((x : A) → r ≡ Ok x → ⊥) → r ≡ Err d
fails_so d (Ok x) f none = absurd (none x refl)
fails_so d (Err e) f none = ap (λ (w : WireFault). Err w) (f e refl)

pub number_fails : (w : Width) (d : WireFault) (bytes : List ℕ) → Fails d (number_at w d bytes)
number_fails w d bytes = fails_if d (ltb (length bytes) (byte_len w)) (Err d) (Ok (from_be_bytes w (take (byte_len w) bytes), drop (byte_len w) bytes)) (fails_err d) (fails_ok d _)

pub bytes_fail : (refused : Bool) (d : WireFault) (count : ℕ) (bytes : List ℕ) → Fails d (bytes_at refused d count bytes)
bytes_fail refused d count bytes = fails_if d (refused || ltb (length bytes) count) (Err d) (Ok (take count bytes, drop count bytes)) (fails_err d) (fails_ok d _)

floor_fails : (version number : ℕ) (bytes : List ℕ) → Fails (fault BadFloor number) (floor_at version number bytes)
unfolding floor_at
floor_fails version number bytes =
    let d = fault BadFloor number in
    fails_if d (eqb version 1) (Ok (number - 1, bytes)) _ (fails_ok d _)
    (fails_then d (number_at w64 d bytes) _ (number_fails w64 d bytes)
    (λ floor. fails_if d (ltb floor.0 number && leb number (floor.0 + 16)) (Ok floor) (Err d) (fails_ok d floor) (fails_err d)))

key_fails : (number : ℕ) (bytes : List ℕ) → Fails (fault BadKey number) (key_at number bytes)
unfolding key_at
key_fails number [] = fails_err (fault BadKey number)
key_fails number (count ∷ rest) = bytes_fail (eqb count 0) (fault BadKey number) count rest

pub value_fails : (number : ℕ) (bytes : List ℕ) → Fails (fault BadValue number) (value_at number bytes)
unfolding value_at
value_fails number bytes =
    let d = fault BadValue number in
    fails_then d (number_at w16 d bytes) _ (number_fails w16 d bytes) (λ count. bytes_fail (ltb 4096 count.0) d count.0 count.1)

-- ---- which step failed

abbrev pub failed : {A : Type 0} → WireFault → Result A WireFault
failed e = Err e

-- the first step failed, or the second did on the first one's result
pub data Broke {A B : Type 0} (r : Result A WireFault) (f : A → Result B WireFault) (e : WireFault) : Type 0 where
  First : r ≡ Err e → Broke r f e
  Then : (x : A) → r ≡ Ok x → f x ≡ Err e → Broke r f e

pub broke : {A B : Type 0} (r : Result A WireFault) (f : A → Result B WireFault) (e : WireFault) → (r >>= f) ≡ Err e → Broke r f e
broke (Ok x) f e h = Then x refl h
broke (Err d) f e h = First (let same : d ≡ e = cc in ap (λ (w : WireFault). Err w) same)

-- ---- the head

abbrev pub body_of : {least most : ℕ} {bytes : List ℕ} → Head least most bytes → List ℕ
body_of head = head.version ∷ head.op ∷ to_be_bytes w64 head.number ++ head.fields

length_body : {least most : ℕ} {bytes : List ℕ} (head : Head least most bytes) → length (body_of head) ≡ 10 + length head.fields
length_body head = omega (arith, length-append (to_be_bytes w64 head.number) head.fields)

pub fields_fit : {least most : ℕ} {bytes : List ℕ} (head : Head least most bytes) → IsBytes bytes → IsBytes head.fields
fields_fit {bytes = bytes} head fits =
    IsBytes-back (to_be_bytes w64 head.number) head.fields
    (IsBytes-rest head.op (to_be_bytes w64 head.number ++ head.fields)
    (IsBytes-rest head.version (head.op ∷ to_be_bytes w64 head.number ++ head.fields) (body_fits bytes (body_of head) head.behind head.front fits)))

pub body_there : {least most : ℕ} {bytes : List ℕ} (head : Head least most bytes) → most < 2 ^ 32 → body_at least most bytes ≡ Ok (Some (body_of head, head.behind))
body_there {least} {most} head small =
    let len = length_body head in
    let low = head.low in
    let high = head.high in
    ap (body_at least most) head.front ∙ body_again least most (body_of head) head.behind small (omega (arith, len, low)) (omega (arith, len, high))

-- the head of a body that was found
pub head_in : (least most : ℕ) (bytes : List ℕ) (version op : ℕ) (after rest : List ℕ) → 10 ≤ least → IsBytes bytes → BodyFound least most bytes (version ∷ op ∷ after) rest
    → (head : Head least most bytes) × (version ∷ op ∷ after ≡ body_of head)
head_in least most bytes version op after rest ten fits t =
    let low = t.low in
    let high = t.high in
    let after_fits = IsBytes-rest op after (IsBytes-rest version (op ∷ after) (body_fits bytes (version ∷ op ∷ after) rest t.parts.parts fits)) in
    let number = from_be_bytes w64 (take 8 after) in
    let fields = drop 8 after in
    let long : ltb (length after) (byte_len w64) ≡ false = le-ltb _ _ (omega arith) in
    let there : number_at w64 (fault BadLength 0) after ≡ Ok (number, fields) = rw long refl in
    let k = number_takes w64 (2 ^ 64) wide64 (fault BadLength 0) after number fields after_fits there in
    let len : length after ≡ 8 + length fields = ap length k.0.parts ∙ length-append (to_be_bytes w64 number) fields in
    let head : Head least most bytes = record {
      version = version;
      op = op;
      number = number;
      fields = fields;
      behind = rest;
      number_fits = k.1;
      low = omega arith;
      high = omega arith;
      front = t.parts.parts ∙ ap (λ (ws : List ℕ). frame (version ∷ op ∷ ws) ++ rest) k.0.parts;
    } in
    (head, ap (λ (ws : List ℕ). version ∷ op ∷ ws) k.0.parts)

-- ---- from the table to reading

version_test : (version : ℕ) → IsVersion version → (eqb version 1 || eqb version 2) ≡ true
version_test version (inl one) = or_left (eqb version 1) (eqb version 2) (eq-eqb _ _ one)
version_test version (inr two) = or_right (eqb version 1) (eqb version 2) (eq-eqb _ _ two)

test_version : (version : ℕ) → (eqb version 1 || eqb version 2) ≡ true → IsVersion version
test_version version e = elim (or_cases (eqb version 1) (eqb version 2) e) [
  | inl one ↦ inl (eqb-true _ _ one)
  | inr two ↦ inr (eqb-true _ _ two)
]

known_op : (op : ℕ) → (ltb 0 op && ltb op 4) ≡ true → (1 ≤ op) × (op ≤ 3)
known_op op e =
    let parts = and_parts (ltb 0 op) (ltb op 4) e in
    let low : 0 < op = ltb-true _ _ parts.0 in
    let high : op < 4 = ltb-true _ _ parts.1 in
    (omega arith, omega arith)

op_test : (op : ℕ) → 1 ≤ op → op ≤ 3 → (ltb 0 op && ltb op 4) ≡ true
op_test op low high = and_from (ltb 0 op) (ltb op 4) (lt-ltb 0 op (omega arith)) (lt-ltb op 4 (omega arith))

length_refused : (least most count : ℕ) (rest : List ℕ) → count < 2 ^ 32 → (ltb count least || ltb most count) ≡ true → body_at least most (to_be_bytes w32 count ++ rest) ≡ Err (fault BadLength 0)
unfolding body_at
length_refused least most count rest small out =
    let bytes = to_be_bytes w32 count ++ rest in
    let four : ltb (length bytes) 4 ≡ false = le-ltb _ _ (omega (arith, length-append (to_be_bytes w32 count) rest)) in
    let n : from_be_bytes w32 (take 4 bytes) ≡ count = ap (from_be_bytes w32) (take_at (to_be_bytes w32 count) rest 4 refl) ∙ wide32.again count small in
    cond-false (ltb (length bytes) 4) (Ok None) (body_of_length least most (from_be_bytes w32 (take 4 bytes)) (drop 4 bytes)) four
    ∙ ap (λ (k : ℕ). body_of_length least most k (drop 4 bytes)) n
    ∙ cond-true (ltb count least || ltb most count) (Err (fault BadLength 0)) _ out

pub no_body : (least most : ℕ) (bytes : List ℕ) (count : ℕ) (rest : List ℕ) → bytes ≡ to_be_bytes w32 count ++ rest → count < 2 ^ 32 → (count < least) ⊎ (most < count) → body_at least most bytes ≡ Err (fault BadLength 0)
no_body least most bytes count rest front small out =
    let test : (ltb count least || ltb most count) ≡ true =
    elim out [
      | inl low ↦ or_left (ltb count least) (ltb most count) (lt-ltb _ _ low)
      | inr high ↦ or_right (ltb count least) (ltb most count) (lt-ltb _ _ high)
    ] in
    ap (body_at least most) front ∙ length_refused least most count rest small test

-- what no value is read from has a fault
module _ {X : Type 0} {next : List ℕ → Result (Option (X × List ℕ)) WireFault} {least most : ℕ} {read : List ℕ → Result X WireFault} {Fits : X → Type 0} {text : X → List ℕ}
    (reads : IsRead next least most read Fits text) where
  pub next_fails : {bytes : List ℕ} (head : Head least most bytes) (e : WireFault) → read (body_of head) ≡ Err e → next bytes ≡ Err e
  next_fails {bytes} head e h = reads.is bytes ∙ rw (body_there head reads.small, h) refl

  pub length_reads : (bytes : List ℕ) (count : ℕ) (rest : List ℕ) → bytes ≡ to_be_bytes w32 count ++ rest → count < 2 ^ 32 → (count < least) ⊎ (most < count) → next bytes ≡ Err (fault BadLength 0)
  length_reads bytes count rest front small out = reads.is bytes ∙ rw (no_body least most bytes count rest front small out) refl

bad_version : (version op : ℕ) (rest : List ℕ) → ¬ IsVersion version → request_in (version ∷ op ∷ rest) ≡ Err (fault BadVersion 0)
unfolding request_in
bad_version version op rest bad = elim (cases_Bool (eqb version 1 || eqb version 2)) [
  | inl is_so ↦ absurd (bad (test_version version is_so))
  | inr not_so ↦ rw not_so refl
]

bad_operation : (version op : ℕ) (rest : List ℕ) → IsVersion version → (ltb 0 op && ltb op 4) ≡ false → request_in (version ∷ op ∷ rest) ≡ Err (fault BadOperation 0)
unfolding request_in
bad_operation version op rest known not_so = rw (version_test version known, not_so) refl

known_reads : {bytes : List ℕ} (head : RequestHead bytes) → IsKnown head → request_in (body_of head) ≡ fields_at head.version head.op (to_be_bytes w64 head.number ++ head.fields)
unfolding request_in
known_reads head known = rw (version_test head.version known.0, op_test head.op known.1 known.2) refl

floor_reads : (version op number : ℕ) (fields : List ℕ) (e : WireFault) → number < 2 ^ 64 → floor_at version number fields ≡ Err e → fields_at version op (to_be_bytes w64 number ++ fields) ≡ Err e
unfolding fields_at
floor_reads version op number fields e fits h = rw (number_again w64 (2 ^ 64) wide64 (fault BadLength 0) number fields fits, h) refl

operands_read : (version op number floor : ℕ) (fields rest : List ℕ) (e : WireFault) → number < 2 ^ 64 → floor_at version number fields ≡ Ok (floor, rest) → operands_at op number rest ≡ Err e
    → fields_at version op (to_be_bytes w64 number ++ fields) ≡ Err e
unfolding fields_at
operands_read version op number floor fields rest e fits f h = rw (number_again w64 (2 ^ 64) wide64 (fault BadLength 0) number fields fits, f, h) refl

trailing_reads : (version op number floor : ℕ) (fields rest more : List ℕ) (request : Request) → number < 2 ^ 64 → floor_at version number fields ≡ Ok (floor, rest) → operands_at op number rest ≡ Ok (request, more)
    → eqb (length more) 0 ≡ false → fields_at version op (to_be_bytes w64 number ++ fields) ≡ Err (fault Trailing number)
unfolding fields_at
trailing_reads version op number floor fields rest more request fits f h some = rw (number_again w64 (2 ^ 64) wide64 (fault BadLength 0) number fields fits, f, h, some) refl

key_reads : (op number : ℕ) (rest : List ℕ) (e : WireFault) → key_at number rest ≡ Err e → operands_at op number rest ≡ Err e
unfolding operands_at
key_reads op number rest e h = rw h refl

value_reads : (op number : ℕ) (rest key more : List ℕ) (e : WireFault) → key_at number rest ≡ Ok (key, more) → eqb op 2 ≡ false → value_at number more ≡ Err e → operands_at op number rest ≡ Err e
unfolding operands_at
value_reads op number rest key more e k two h = rw (k, two, h) refl

-- the floor of a head that is floored
floor_of : {bytes : List ℕ} (head : RequestHead bytes) (rest : List ℕ) (floored : Floored head rest) → floor_at head.version head.number head.fields ≡ Ok (floored.floor, rest)
floor_of head rest floored =
    ap (floor_at head.version head.number) floored.begins.0 ∙ floor_again head.version head.number floored.floor rest head.number_fits floored.begins.1

rest_fit : {bytes : List ℕ} (head : RequestHead bytes) (rest : List ℕ) → Floored head rest → IsBytes bytes → IsBytes rest
rest_fit head rest floored fits =
    IsBytes-back (floor_field head.version floored.floor) rest (subst IsBytes floored.begins.0 (fields_fit head fits))

pub is_fault : (bytes : List ℕ) (f : WireFault) → IsBytes bytes → FaultOf bytes f → next_request bytes ≡ Err f
is_fault bytes _ fits (Bad_length count rest front small out) = length_reads requests bytes count rest front small out
is_fault bytes _ fits (Bad_version head bad) = next_fails requests head (fault BadVersion 0) (bad_version head.version head.op _ bad)
is_fault bytes _ fits (Bad_operation head known bad) =
    next_fails requests head (fault BadOperation 0)
    (elim (cases_Bool (ltb 0 head.op && ltb head.op 4)) [
      | inl is_so ↦ let range = known_op head.op is_so in absurd (bad (known, range.0, range.1))
      | inr not_so ↦ bad_operation head.version head.op _ known not_so
    ])
is_fault bytes _ fits (Bad_floor head known bad) =
    let d = fault BadFloor head.number in
    let none = fails_so d (floor_at head.version head.number head.fields) (floor_fails head.version head.number head.fields) (λ x e.
    let t = floor_takes head.version head.number head.fields x known.0 (fields_fit head fits) e in
    bad x.1 (record { known = known; floor = x.0; begins = (t.0.parts, t.1) })) in
    next_fails requests head d (known_reads head known ∙ floor_reads head.version head.op head.number head.fields d head.number_fits none)
is_fault bytes _ fits (Bad_key head rest floored bad) =
    let d = fault BadKey head.number in
    let none = fails_so d (key_at head.number rest) (key_fails head.number rest) (λ x e.
    let t = key_takes head.number rest x (rest_fit head rest floored fits) e in
    bad x.0 x.1 (t.0.parts, t.1)) in
    next_fails requests head d (known_reads head floored.known
    ∙ operands_read head.version head.op head.number floored.floor head.fields rest d head.number_fits (floor_of head rest floored) (key_reads head.op head.number rest d none))
is_fault bytes _ fits (Bad_value head rest key more floored begins two bad) =
    let d = fault BadValue head.number in
    let more_fit = IsBytes-back (key_field key) more (subst IsBytes begins.0 (rest_fit head rest floored fits)) in
    let none = fails_so d (value_at head.number more) (value_fails head.number more) (λ x e.
    let t = value_takes head.number more x more_fit e in
    bad x.0 x.1 (t.0.parts, t.1)) in
    let there = ap (key_at head.number) begins.0 ∙ key_again head.number key more begins.1 in
    next_fails requests head d (known_reads head floored.known
    ∙ operands_read head.version head.op head.number floored.floor head.fields rest d head.number_fits (floor_of head rest floored)
    (value_reads head.op head.number rest key more d there (ne_eqb head.op 2 two) none))
is_fault bytes _ fits (Trails head rest request more floored parts is_request op some) =
    let there : operands_at head.op head.number rest ≡ Ok (request, more) =
    ap (operands_at head.op head.number) parts ∙ ap (λ (o : ℕ). operands_at o head.number (operands request ++ more)) (sym op) ∙ operands_again head.number request more is_request in
    next_fails requests head (fault Trailing head.number) (known_reads head floored.known
    ∙ trailing_reads head.version head.op head.number floored.floor head.fields rest more request head.number_fits (floor_of head rest floored) there
    (ne_eqb (length more) 0 (λ e. some (nil_from_length more e))))

-- ---- from reading to the table

pub ok_then : {A : Type 0} (b : Bool) (x : A) (r : Result A WireFault) (f : WireFault) → cond b (Ok x) r ≡ Err f → (b ≡ false) × (r ≡ Err f)
ok_then true x r f e = absurd cc
ok_then false x r f e = (refl, e)

never : {A : Type 0} (b : Bool) (x y : A) (f : WireFault) → cond b (Ok x) (Ok y) ≡ failed f → ⊥
never true x y f e = cc
never false x y f e = cc

err_or : {A : Type 0} (b : Bool) (d : WireFault) (r : Result A WireFault) (f : WireFault) → cond b (Err d) r ≡ Err f → ((b ≡ true) × (d ≡ f)) ⊎ (r ≡ Err f)
err_or true d r f e = inl (refl, cc)
err_or false d r f e = inr e

pub err_not : {A : Type 0} (f : WireFault) (x : A) → failed f ≡ Ok x → ⊥
err_not f x e = cc

pub err_is : {A : Type 0} (d f : WireFault) → failed {A = A} d ≡ failed f → d ≡ f
err_is d f e = cc

-- a length that is refused
record LengthFault (least most : ℕ) (bytes : List ℕ) (f : WireFault) : Type 0 where
  pub count : ℕ
  pub rest : List ℕ
  pub parts : bytes ≡ to_be_bytes w32 count ++ rest
  pub fits : count < 2 ^ 32
  pub out : (count < least) ⊎ (most < count)
  pub is : fault BadLength 0 ≡ f

length_fault : (least most : ℕ) (bytes : List ℕ) (f : WireFault) → IsBytes bytes → body_at least most bytes ≡ Err f → LengthFault least most bytes f
unfolding body_at
length_fault least most bytes f fits e =
    let n = from_be_bytes w32 (take 4 bytes) in
    let behind = drop 4 bytes in
    let a = ok_then (ltb (length bytes) 4) None (body_of_length least most n behind) f e in
    let there : number_at w32 (fault BadLength 0) bytes ≡ Ok (n, behind) = rw a.0 refl in
    let t = number_takes w32 (2 ^ 32) wide32 (fault BadLength 0) bytes n behind fits there in
    elim (err_or (ltb n least || ltb most n) (fault BadLength 0) (cond (ltb (length behind) n) (Ok None) (Ok (Some (take n behind, drop n behind)))) f a.1) [
      | inl out ↦ record {
        count = n;
        rest = behind;
        parts = t.0.parts;
        fits = t.1;
        out =
            elim (or_cases (ltb n least) (ltb most n) out.0) [
              | inl low ↦ inl (ltb-true _ _ low)
              | inr high ↦ inr (ltb-true _ _ high)
            ];
        is = out.1;
      }
      | inr not_out ↦ absurd (never (ltb (length behind) n) None (Some (take n behind, drop n behind)) f not_out)
    ]

-- what refuses the length, or the body of each head, refuses the next frame
module _ {X : Type 0} (least most : ℕ) (read : List ℕ → Result X WireFault) (Refuses : List ℕ → WireFault → Type 0)
    (refused_length : (bytes : List ℕ) (count : ℕ) (rest : List ℕ) → bytes ≡ to_be_bytes w32 count ++ rest → count < 2 ^ 32 → (count < least) ⊎ (most < count) → Refuses bytes (fault BadLength 0))
    (refused_head : (bytes : List ℕ) (head : Head least most bytes) (f : WireFault) → IsBytes bytes → read (body_of head) ≡ Err f → Refuses bytes f)
    (ten : 10 ≤ least) where
  in_body : (bytes body rest : List ℕ) (f : WireFault) → IsBytes bytes → BodyFound least most bytes body rest → read body ≡ Err f → Refuses bytes f
  in_body bytes [] rest f fits t e = absurd (let low = t.low in omega arith)
  in_body bytes (version ∷ []) rest f fits t e = absurd (let low = t.low in omega arith)
  in_body bytes (version ∷ op ∷ after) rest f fits t e =
      let head = head_in least most bytes version op after rest ten fits t in
      refused_head bytes head.0 f fits (ap read (sym head.1) ∙ e)

  body_fault : (bytes : List ℕ) (o : Option (List ℕ × List ℕ)) (f : WireFault) → IsBytes bytes → body_at least most bytes ≡ Ok o → of_body read o ≡ Err f → Refuses bytes f
  body_fault bytes None f fits b e = absurd cc
  body_fault bytes (Some body) f fits b e =
      elim (broke (read body.0) (λ x. Ok (Some (x, body.1))) f e) [
        | First i ↦ in_body bytes body.0 body.1 f fits (body_takes least most bytes body fits b) i
        | Then x i last ↦ absurd cc
      ]

  pub next_fault : (bytes : List ℕ) (f : WireFault) → IsBytes bytes → next_of least most read bytes ≡ Err f → Refuses bytes f
  next_fault bytes f fits e =
      elim (broke (body_at least most bytes) (of_body read) f e) [
        | First b ↦ let l = length_fault least most bytes f fits b in subst (Refuses bytes) l.is (refused_length bytes l.count l.rest l.parts l.fits l.out)
        | Then o b h ↦ body_fault bytes o f fits b h
      ]

operands_first : {bytes : List ℕ} (head : RequestHead bytes) (rest : List ℕ) (floored : Floored head rest) (f : WireFault) → IsBytes rest → operands_at head.op head.number rest ≡ Err f → FaultOf bytes f
unfolding operands_at
operands_first {bytes} head rest floored f fits e =
    let n = head.number in
    elim (broke (key_at n rest) (λ key. cond (eqb head.op 2) (Ok (Retrieve key.0, key.1)) (value_at n key.1 >>= λ value. cond (eqb head.op 1) (Ok (Insert key.0 value.0, value.1)) (Ok (Remove key.0 value.0, value.1)))) f e) [
      | First k ↦ let bad : (key more : List ℕ) → ¬ BeginsWithKey rest key more = λ key more begins.
          let there = ap (key_at n) begins.0 ∙ key_again n key more begins.1 in
          err_not f (key, more) (sym k ∙ there) in
          subst (FaultOf bytes) (sym (key_fails n rest f k)) (Bad_key head rest floored bad)
      | Then key k h ↦ let t = key_takes n rest key fits k in
          let a = ok_then (eqb head.op 2) (Retrieve key.0, key.1) _ f h in
          elim (broke (value_at n key.1) (λ value. cond (eqb head.op 1) (Ok (Insert key.0 value.0, value.1)) (Ok (Remove key.0 value.0, value.1))) f a.1) [
            | First v ↦ let bad : (value end : List ℕ) → ¬ BeginsWithValue key.1 value end = λ value end begins.
                let there = ap (value_at n) begins.0 ∙ value_again n value end begins.1 in
                err_not f (value, end) (sym v ∙ there) in
                subst (FaultOf bytes) (sym (value_fails n key.1 f v)) (Bad_value head rest key.0 key.1 floored (t.0.parts, t.1) (eqb-false head.op 2 a.0) bad)
            | Then value v last ↦ absurd (never (eqb head.op 1) (Insert key.0 value.0, value.1) (Remove key.0 value.0, value.1) f last)
          ]
    ]

operands_fault : {bytes : List ℕ} (head : RequestHead bytes) (rest : List ℕ) (floored : Floored head rest) (f : WireFault) → IsBytes rest
    → (operands_at head.op head.number rest >>= λ request. cond (eqb (length request.1) 0) (Ok (record { version = head.version; number = head.number; floor = floored.floor; request = request.0 })) (Err (fault Trailing head.number))) ≡ failed {A = WireRequest} f
    → FaultOf bytes f
operands_fault {bytes} head rest floored f fits e =
    elim (broke (operands_at head.op head.number rest) _ f e) [
      | First b ↦ operands_first head rest floored f fits b
      | Then x b h ↦ let known = floored.known in
          let t = operands_take head.op head.number rest x (omega (arith, known.1)) (omega (arith, known.2)) fits b in
          let a = ok_then (eqb (length x.1) 0) _ _ f h in
          let some : x.1 ≢ [] = λ none. eqb-false (length x.1) 0 a.0 (ap length none) in
          subst (FaultOf bytes) (err_is (fault Trailing head.number) f a.1) (Trails head rest x.0 x.1 floored t.0.parts t.1 t.2 some)
    ]

fields_fault : {bytes : List ℕ} (head : RequestHead bytes) (f : WireFault) → IsBytes bytes → IsKnown head → fields_at head.version head.op (to_be_bytes w64 head.number ++ head.fields) ≡ Err f → FaultOf bytes f
unfolding fields_at
fields_fault {bytes} head f fits known e =
    let n = head.number in
    let i = rw (number_again w64 (2 ^ 64) wide64 (fault BadLength 0) n head.fields head.number_fits) at e in
    elim (broke (floor_at head.version n head.fields) _ f i) [
      | First b ↦ let bad : (rest : List ℕ) → ¬ Floored head rest = λ rest floored.
          err_not f (floored.floor, rest) (sym b ∙ floor_of head rest floored) in
          subst (FaultOf bytes) (sym (floor_fails head.version n head.fields f b)) (Bad_floor head known bad)
      | Then x b h ↦ let t = floor_takes head.version n head.fields x known.0 (fields_fit head fits) b in
          let floored : Floored head x.1 = record { known = known; floor = x.0; begins = (t.0.parts, t.1) } in
          operands_fault head x.1 floored f t.0.rest_fits h
    ]

pub head_fault : {bytes : List ℕ} (head : RequestHead bytes) (f : WireFault) → IsBytes bytes → request_in (body_of head) ≡ Err f → FaultOf bytes f
head_fault {bytes} head f fits e =
    let tail = to_be_bytes w64 head.number ++ head.fields in
    elim (cases_Bool (eqb head.version 1 || eqb head.version 2)) [
      | inr not_so ↦ let bad : ¬ IsVersion head.version = λ version. absurd (true≢false (sym (version_test head.version version) ∙ not_so)) in
          subst (FaultOf bytes) (err_is (fault BadVersion 0) f (sym (bad_version head.version head.op tail bad) ∙ e)) (Bad_version head bad)
      | inl is_so ↦ let version = test_version head.version is_so in
          elim (cases_Bool (ltb 0 head.op && ltb head.op 4)) [
            | inr not_so ↦ let bad : ¬ IsKnown head = λ known. absurd (true≢false (sym (op_test head.op known.1 known.2) ∙ not_so)) in
                subst (FaultOf bytes) (err_is (fault BadOperation 0) f (sym (bad_operation head.version head.op tail version not_so) ∙ e)) (Bad_operation head version bad)
            | inl fine ↦ let range = known_op head.op fine in
                let known : IsKnown head = (version, range.0, range.1) in fields_fault head f fits known (sym (known_reads head known) ∙ e)
          ]
    ]

pub fault_is : (bytes : List ℕ) (f : WireFault) → IsBytes bytes → next_request bytes ≡ Err f → FaultOf bytes f
unfolding next_request
fault_is = next_fault 12 4372 request_in FaultOf (λ bytes count rest parts fits out. Bad_length count rest parts fits out) (λ bytes head. head_fault head) (omega arith)
