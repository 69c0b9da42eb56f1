-- A body of a request asks what it spells, and a spelling is read again, whatever bytes follow.
use Rattle.std.proofs.Common.{◌≡◌, ℕ, ◌^◌, ◌<◌, ◌≤◌, ◌&&◌, ◌||◌, not, true, cond, eqb, ltb, List, [], ◌∷◌, ◌++◌, length, Some, Ok, Err, refl, sym, ap, subst, ◌∙◌, arith, ◌⊎◌, inl, inr}
use Rattle.std.specs.Int.{w64, to_be_bytes}
use Rattle.std.proofs.lemmas.Bool.{ltb-true, eqb-true, eq-eqb, not-false, or_cases, or_left, or_right, and_parts}
use Rattle.std.proofs.lemmas.List.{nil_from_length, append-nil, length-append}
use Rattle.chord_map.specs.declared.request.Request.{Request}
use Rattle.chord_map.specs.declared.request.Request.TheVariants.{Insert, Retrieve, Remove}
use Rattle.chord_wire.specs.declared.request.WireRequest.{WireRequest}
use Rattle.chord_wire.specs.declared.fault.FaultCode.TheVariants.{BadLength, BadVersion, BadOperation, Trailing}
use Rattle.chord_wire.specs.Fault.{fault}
use Rattle.chord_map.specs.Checked.{IsRequest}
use Rattle.chord_wire.specs.Spelling.{IsBytes, operation, operands, key_field, value_field, floor_field, request_body, HasFloor, IsWireRequest}
use Rattle.chord_wire.specs.Reading.{◌>>=◌, number_at, floor_at, operands_at, fields_at, request_in, body_at, next_request}
use Rattle.chord_wire.proofs.Steps.{IsBytes-rest, bind_ok, guard_then, guard_on, Takes-then, wide64, number_takes, number_again}
use Rattle.chord_wire.proofs.NextLaws.{IsRead}
use Rattle.chord_wire.proofs.FieldLaws.{floor_takes, floor_again, operands_take, operands_again}

-- nothing comes after the text
pub ends : (bytes text rest : List ℕ) → bytes ≡ text ++ rest → rest ≡ [] → bytes ≡ text
ends bytes text rest parts nothing = parts ∙ ap (λ (w : List ℕ). text ++ w) nothing ∙ append-nil text

-- the bytes after the operation
abbrev tail_of : WireRequest → List ℕ
tail_of r = to_be_bytes w64 r.number ++ (floor_field r.version r.floor ++ operands r.request)

abbrev FieldsTaken : ℕ → ℕ → List ℕ → WireRequest → Type 0
FieldsTaken version op bytes r = IsWireRequest r × (r.version ≡ version) × (operation r.request ≡ op) × (bytes ≡ tail_of r)

fields_take : (version op : ℕ) (bytes : List ℕ) (r : WireRequest) → (version ≡ 1) ⊎ (version ≡ 2) → 0 < op → op < 4 → IsBytes bytes → fields_at version op bytes ≡ Ok r → FieldsTaken version op bytes r
unfolding fields_at
fields_take version op bytes r known low high fits e =
    let a = bind_ok (number_at w64 (fault BadLength 0) bytes) (λ n. floor_at version n.0 n.1 >>= λ f. operands_at op n.0 f.1 >>= λ x. cond (eqb (length x.1) 0) (Ok (record { version = version; number = n.0; floor = f.0; request = x.0 })) (Err (fault Trailing n.0))) r e in
    let b = bind_ok (floor_at version a.0.0 a.0.1) (λ f. operands_at op a.0.0 f.1 >>= λ x. cond (eqb (length x.1) 0) (Ok (record { version = version; number = a.0.0; floor = f.0; request = x.0 })) (Err (fault Trailing a.0.0))) r a.2 in
    let d = bind_ok (operands_at op a.0.0 b.0.1) (λ x. cond (eqb (length x.1) 0) (Ok (record { version = version; number = a.0.0; floor = b.0.0; request = x.0 })) (Err (fault Trailing a.0.0))) r b.2 in
    let made : WireRequest = record { version = version; number = a.0.0; floor = b.0.0; request = d.0.0 } in
    let g = guard_then (eqb (length d.0.1) 0) (fault Trailing a.0.0) made r d.2 in
    let t0 = number_takes w64 (2 ^ 64) wide64 (fault BadLength 0) bytes a.0.0 a.0.1 fits a.1 in
    let t1 = floor_takes version a.0.0 a.0.1 b.0 known t0.0.rest_fits b.1 in
    let t2 = operands_take op a.0.0 b.0.1 d.0 low high t1.0.rest_fits d.1 in
    let nothing : d.0.1 ≡ [] = nil_from_length d.0.1 (eqb-true _ _ g.0) in
    let e12 = Takes-then a.0.1 (floor_field version b.0.0) b.0.1 (operands d.0.0) d.0.1 t1.0 t2.0 in
    let e02 = Takes-then bytes (to_be_bytes w64 a.0.0) a.0.1 (floor_field version b.0.0 ++ operands d.0.0) d.0.1 t0.0 e12 in
    let whole : bytes ≡ tail_of made = ends bytes (tail_of made) d.0.1 e02.parts nothing in
    subst (FieldsTaken version op bytes) g.1 (record { number = t0.1; floor = t1.1; request = t2.1 }, refl, t2.2, whole)

fields_again : (r : WireRequest) → IsWireRequest r → fields_at r.version (operation r.request) (tail_of r) ≡ Ok r
unfolding fields_at
fields_again r fits =
    let ends : operands_at (operation r.request) r.number (operands r.request) ≡ Ok (r.request, []) = ap (operands_at (operation r.request) r.number) (sym (append-nil (operands r.request))) ∙ operands_again r.number r.request [] fits.request in
    rw (number_again w64 (2 ^ 64) wide64 (fault BadLength 0) r.number (floor_field r.version r.floor ++ operands r.request) fits.number, floor_again r.version r.number r.floor (operands r.request) fits.number fits.floor, ends) refl

-- ---- a whole body

abbrev BodyTaken : List ℕ → WireRequest → Type 0
BodyTaken body r = IsWireRequest r × (body ≡ request_body r)

known_version : (version : ℕ) → (eqb version 1 || eqb version 2) ≡ true → (version ≡ 1) ⊎ (version ≡ 2)
known_version version e =
    elim (or_cases (eqb version 1) (eqb version 2) e) [
      | inl one ↦ inl (eqb-true _ _ one)
      | inr two ↦ inr (eqb-true _ _ two)
    ]

pub request_takes : (body : List ℕ) (r : WireRequest) → IsBytes body → request_in body ≡ Ok r → BodyTaken body r
unfolding request_in
request_takes [] r fits e = absurd cc
request_takes (version ∷ []) r fits e = absurd cc
request_takes (version ∷ op ∷ bytes) r fits e =
    let v = guard_on (not (eqb version 1 || eqb version 2)) (fault BadVersion 0) _ r e in
    let o = guard_on (not (ltb 0 op && ltb op 4)) (fault BadOperation 0) (fields_at version op bytes) r v.1 in
    let known = known_version version (not-false (eqb version 1 || eqb version 2) v.0) in
    let range = and_parts (ltb 0 op) (ltb op 4) (not-false (ltb 0 op && ltb op 4) o.0) in
    let t = fields_take version op bytes r known (ltb-true _ _ range.0) (ltb-true _ _ range.1) (IsBytes-rest op bytes (IsBytes-rest version (op ∷ bytes) fits)) o.1 in
    let rest : version ∷ op ∷ bytes ≡ version ∷ op ∷ tail_of r = ap (λ (w : List ℕ). version ∷ op ∷ w) t.3 in
    let heads : version ∷ op ∷ tail_of r ≡ request_body r = ap (λ (v : ℕ). v ∷ op ∷ tail_of r) (sym t.1) ∙ ap (λ (o : ℕ). r.version ∷ o ∷ tail_of r) (sym t.2) in
    (t.0, rest ∙ heads)

version_test : (version number floor : ℕ) → HasFloor version number floor → (eqb version 1 || eqb version 2) ≡ true
version_test version number floor (inl h) = or_left (eqb version 1) (eqb version 2) (eq-eqb _ _ h.0)
version_test version number floor (inr h) = or_right (eqb version 1) (eqb version 2) (eq-eqb _ _ h.0)

operation_test : (request : Request) → (ltb 0 (operation request) && ltb (operation request) 4) ≡ true
operation_test (Insert key value) = refl
operation_test (Retrieve key) = refl
operation_test (Remove key value) = refl

pub request_again : (r : WireRequest) → IsWireRequest r → request_in (request_body r) ≡ Ok r
unfolding request_in
request_again r fits =
    rw (version_test r.version r.number r.floor fits.floor, operation_test r.request) (fields_again r fits)

-- ---- the next request

length_floor : (version number floor : ℕ) → HasFloor version number floor → length (floor_field version floor) ≤ 8
length_floor version number floor (inl h) = subst (λ (v : ℕ). length (floor_field v floor) ≤ 8) (sym h.0) (omega arith)
length_floor version number floor (inr h) = subst (λ (v : ℕ). length (floor_field v floor) ≤ 8) (sym h.0) (omega arith)

length_operands : (request : Request) → IsRequest request → (2 ≤ length (operands request)) × (length (operands request) ≤ 4354)
length_operands (Insert key value) fits =
    let len = length-append (key_field key) (value_field value) in
    (omega (arith, len, fits.0.0), omega (arith, len, fits.0.1, fits.1))
length_operands (Retrieve key) fits = (omega (arith, fits.0.0), omega (arith, fits.0.1))
length_operands (Remove key value) fits =
    let len = length-append (key_field key) (value_field value) in
    (omega (arith, len, fits.0.0), omega (arith, len, fits.0.1, fits.1))

length_body : (r : WireRequest) → IsWireRequest r → (12 ≤ length (request_body r)) × (length (request_body r) ≤ 4372)
length_body r fits =
    let f = length_floor r.version r.number r.floor fits.floor in
    let o = length_operands r.request fits.request in
    let len = length-append (floor_field r.version r.floor) (operands r.request) in
    (omega (arith, len, o.0), omega (arith, len, o.1, f))

-- a request is read from its body
pub requests : IsRead next_request 12 4372 request_in IsWireRequest request_body
unfolding next_request
requests = record { is = λ bytes. refl; takes = request_takes; again = request_again; long = length_body; small = omega arith }

pub next_is : (bytes : List ℕ) (body : List ℕ × List ℕ) (r : WireRequest) → body_at 12 4372 bytes ≡ Ok (Some body) → request_in body.0 ≡ Ok r → next_request bytes ≡ Ok (Some (r, body.1))
unfolding next_request
next_is bytes body r e h = rw (e, h) refl
