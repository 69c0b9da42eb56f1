-- A field that was read is the field that was written, and a written field is read again.
use Rattle.std.proofs.Common.{◌≡◌, ℕ, ◌+◌, ◌-◌, ◌^◌, ◌<◌, ◌≤◌, ◌&&◌, true, false, cond, eqb, ltb, leb, List, [], ◌∷◌, ◌++◌, length, Ok, Err, refl, sym, ap, subst, ◌∙◌, append_assoc, arith, ◌⊎◌, inl, inr}
use Rattle.std.specs.Int.{w16, w64, to_be_bytes}
use Rattle.std.proofs.lemmas.Bool.{ltb-true, ltb-false, leb-true, eqb-false, lt-ltb, le-leb, le-ltb, ne_eqb, and_parts, and_from, cases_eq}
use Rattle.chord_map.specs.declared.request.Request.{Request}
use Rattle.chord_map.specs.declared.request.Request.TheVariants.{Insert, Retrieve, Remove}
use Rattle.chord_wire.specs.declared.fault.FaultCode.TheVariants.{BadFloor, BadKey, BadValue}
use Rattle.chord_wire.specs.Fault.{fault}
use Rattle.chord_map.specs.Checked.{IsKey, IsValue, IsRequest}
use Rattle.chord_wire.specs.Spelling.{IsBytes, operation, key_field, value_field, operands, floor_field, HasFloor}
use Rattle.chord_wire.specs.Reading.{◌>>=◌, number_at, bytes_at, floor_at, key_at, value_at, operands_at}
use Rattle.chord_wire.proofs.Steps.{IsBytes-rest, bind_ok, guard_then, ok_is, Takes, Takes-then, wide16, wide64, number_takes, number_again, bytes_take, bytes_again}

-- ---- the floor

abbrev FloorTaken : ℕ → ℕ → List ℕ → (ℕ × List ℕ) → Type 0
FloorTaken version number bytes x = Takes bytes (floor_field version x.0) x.1 × HasFloor version number x.0

floor_takes_1 : (number : ℕ) (bytes : List ℕ) (x : ℕ × List ℕ) → IsBytes bytes → floor_at 1 number bytes ≡ Ok x → FloorTaken 1 number bytes x
unfolding floor_at
floor_takes_1 number bytes x fits e =
    subst (FloorTaken 1 number bytes) (ok_is (number - 1, bytes) x e) (record { parts = refl; rest_fits = fits }, inl (refl, refl))

floor_takes_2 : (number : ℕ) (bytes : List ℕ) (x : ℕ × List ℕ) → IsBytes bytes → floor_at 2 number bytes ≡ Ok x → FloorTaken 2 number bytes x
unfolding floor_at
floor_takes_2 number bytes x fits e =
    let b = bind_ok (number_at w64 (fault BadFloor number) bytes) (λ floor. cond (ltb floor.0 number && leb number (floor.0 + 16)) (Ok floor) (Err (fault BadFloor number))) x e in
    let g = guard_then (ltb b.0.0 number && leb number (b.0.0 + 16)) (fault BadFloor number) b.0 x b.2 in
    let tests = and_parts (ltb b.0.0 number) (leb number (b.0.0 + 16)) g.0 in
    let t = number_takes w64 (2 ^ 64) wide64 (fault BadFloor number) bytes b.0.0 b.0.1 fits b.1 in
    subst (FloorTaken 2 number bytes) g.1 (t.0, inr (refl, ltb-true _ _ tests.0, leb-true _ _ tests.1))

pub floor_takes : (version number : ℕ) (bytes : List ℕ) (x : ℕ × List ℕ) → (version ≡ 1) ⊎ (version ≡ 2) → IsBytes bytes → floor_at version number bytes ≡ Ok x → FloorTaken version number bytes x
floor_takes version number bytes x (inl one) fits =
    subst (λ (v : ℕ). floor_at v number bytes ≡ Ok x → FloorTaken v number bytes x) (sym one) (floor_takes_1 number bytes x fits)
floor_takes version number bytes x (inr two) fits =
    subst (λ (v : ℕ). floor_at v number bytes ≡ Ok x → FloorTaken v number bytes x) (sym two) (floor_takes_2 number bytes x fits)

floor_again_2 : (number floor : ℕ) (rest : List ℕ) → number < 2 ^ 64 → floor < number → number ≤ floor + 16 → floor_at 2 number (to_be_bytes w64 floor ++ rest) ≡ Ok (floor, rest)
unfolding floor_at
floor_again_2 number floor rest small low high =
    let tests : (ltb floor number && leb number (floor + 16)) ≡ true = and_from _ _ (lt-ltb _ _ low) (le-leb _ _ high) in
    rw (number_again w64 (2 ^ 64) wide64 (fault BadFloor number) floor rest (omega arith), tests) refl

floor_again_1 : (number floor : ℕ) (rest : List ℕ) → floor ≡ number - 1 → floor_at 1 number rest ≡ Ok (floor, rest)
unfolding floor_at
floor_again_1 number floor rest e = rw e refl

pub floor_again : (version number floor : ℕ) (rest : List ℕ) → number < 2 ^ 64 → HasFloor version number floor → floor_at version number (floor_field version floor ++ rest) ≡ Ok (floor, rest)
floor_again version number floor rest small (inl h) =
    subst (λ (v : ℕ). floor_at v number (floor_field v floor ++ rest) ≡ Ok (floor, rest)) (sym h.0) (floor_again_1 number floor rest h.1)
floor_again version number floor rest small (inr h) =
    subst (λ (v : ℕ). floor_at v number (floor_field v floor ++ rest) ≡ Ok (floor, rest)) (sym h.0) (floor_again_2 number floor rest small h.1 h.2)

-- ---- the key

abbrev KeyTaken : List ℕ → (List ℕ × List ℕ) → Type 0
KeyTaken bytes x = Takes bytes (key_field x.0) x.1 × IsKey x.0

pub key_takes : (number : ℕ) (bytes : List ℕ) (x : List ℕ × List ℕ) → IsBytes bytes → key_at number bytes ≡ Ok x → KeyTaken bytes x
unfolding key_at
key_takes number [] x fits e = absurd cc
key_takes number (count ∷ bytes) x fits e =
    let t = bytes_take (eqb count 0) (fault BadKey number) count bytes x.0 x.1 (IsBytes-rest count bytes fits) e in
    let ne : count ≡ 0 → ⊥ = eqb-false count 0 t.2 in
    let small : count < 256 = fits 0 in
    (record { parts = rw t.1 (ap (λ (w : List ℕ). count ∷ w) t.0.parts); rest_fits = t.0.rest_fits }, (omega (arith, t.1, ne), omega (arith, t.1, small)))

pub key_again : (number : ℕ) (key rest : List ℕ) → IsKey key → key_at number (key_field key ++ rest) ≡ Ok (key, rest)
unfolding key_at
key_again number key rest fits =
    let some : eqb (length key) 0 ≡ false = ne_eqb _ _ (λ z. omega (arith, fits.0)) in
    rw some (bytes_again (fault BadKey number) key rest)

-- ---- the value

abbrev ValueTaken : List ℕ → (List ℕ × List ℕ) → Type 0
ValueTaken bytes x = Takes bytes (value_field x.0) x.1 × IsValue x.0

pub value_takes : (number : ℕ) (bytes : List ℕ) (x : List ℕ × List ℕ) → IsBytes bytes → value_at number bytes ≡ Ok x → ValueTaken bytes x
unfolding value_at
value_takes number bytes x fits e =
    let b = bind_ok (number_at w16 (fault BadValue number) bytes) (λ count. bytes_at (ltb 4096 count.0) (fault BadValue number) count.0 count.1) x e in
    let n = number_takes w16 (2 ^ 16) wide16 (fault BadValue number) bytes b.0.0 b.0.1 fits b.1 in
    let t = bytes_take (ltb 4096 b.0.0) (fault BadValue number) b.0.0 b.0.1 x.0 x.1 n.0.rest_fits b.2 in
    let both = Takes-then bytes (to_be_bytes w16 b.0.0) b.0.1 x.0 x.1 n.0 t.0 in
    let most : b.0.0 ≤ 4096 = ltb-false _ _ t.2 in
    (subst (λ (k : ℕ). Takes bytes (to_be_bytes w16 k ++ x.0) x.1) (sym t.1) both, omega (arith, t.1, most))

pub value_again : (number : ℕ) (value rest : List ℕ) → IsValue value → value_at number (value_field value ++ rest) ≡ Ok (value, rest)
unfolding value_at
value_again number value rest fits =
    let small : ltb 4096 (length value) ≡ false = le-ltb _ _ fits in
    rw (number_again w16 (2 ^ 16) wide16 (fault BadValue number) (length value) (value ++ rest) (omega (arith, fits)), small) (bytes_again (fault BadValue number) value rest)

-- ---- key and value

abbrev OperandsTaken : ℕ → List ℕ → (Request × List ℕ) → Type 0
OperandsTaken op bytes x = Takes bytes (operands x.0) x.1 × IsRequest x.0 × (operation x.0 ≡ op)

retrieve_takes : (number : ℕ) (bytes : List ℕ) (x : Request × List ℕ) → IsBytes bytes → operands_at 2 number bytes ≡ Ok x → OperandsTaken 2 bytes x
unfolding operands_at
retrieve_takes number bytes x fits e =
    let b = bind_ok (key_at number bytes) (λ key. Ok (Retrieve key.0, key.1)) x e in
    let k = key_takes number bytes b.0 fits b.1 in
    subst (OperandsTaken 2 bytes) (ok_is (Retrieve b.0.0, b.0.1) x b.2) (k.0, (k.1, omega arith), refl)

-- a key and a value
pair_takes : (op number : ℕ) (make : List ℕ → List ℕ → Request) → ((key value : List ℕ) → operands (make key value) ≡ key_field key ++ value_field value)
    → ((key value : List ℕ) → IsKey key × IsValue value → IsRequest (make key value)) → ((key value : List ℕ) → operation (make key value) ≡ op) → (bytes : List ℕ) (x : Request × List ℕ) → IsBytes bytes
    → (key_at number bytes >>= λ key. value_at number key.1 >>= λ value. Ok (make key.0 value.0, value.1)) ≡ Ok x → OperandsTaken op bytes x
pair_takes op number make fields_are is_request op_is bytes x fits e =
    let b = bind_ok (key_at number bytes) (λ key. value_at number key.1 >>= λ value. Ok (make key.0 value.0, value.1)) x e in
    let d = bind_ok (value_at number b.0.1) (λ value. Ok (make b.0.0 value.0, value.1)) x b.2 in
    let k = key_takes number bytes b.0 fits b.1 in
    let v = value_takes number b.0.1 d.0 k.0.rest_fits d.1 in
    let both = Takes-then bytes (key_field b.0.0) b.0.1 (value_field d.0.0) d.0.1 k.0 v.0 in
    subst (OperandsTaken op bytes) (ok_is (make b.0.0 d.0.0, d.0.1) x d.2)
    (subst (λ (text : List ℕ). Takes bytes text d.0.1) (sym (fields_are b.0.0 d.0.0)) both, is_request b.0.0 d.0.0 (k.1, v.1), op_is b.0.0 d.0.0)

insert_takes : (number : ℕ) (bytes : List ℕ) (x : Request × List ℕ) → IsBytes bytes → operands_at 1 number bytes ≡ Ok x → OperandsTaken 1 bytes x
unfolding operands_at
insert_takes number = pair_takes 1 number Insert (λ key value. refl) (λ key value fits. fits) (λ key value. refl)

remove_takes : (number : ℕ) (bytes : List ℕ) (x : Request × List ℕ) → IsBytes bytes → operands_at 3 number bytes ≡ Ok x → OperandsTaken 3 bytes x
unfolding operands_at
remove_takes number = pair_takes 3 number Remove (λ key value. refl) (λ key value fits. fits) (λ key value. refl)

pub operands_take : (op number : ℕ) (bytes : List ℕ) (x : Request × List ℕ) → 0 < op → op < 4 → IsBytes bytes → operands_at op number bytes ≡ Ok x → OperandsTaken op bytes x
operands_take op number bytes x low high fits e =
    let P : ℕ → Type 0 = λ k. operands_at k number bytes ≡ Ok x → OperandsTaken k bytes x in
    elim (cases_eq op 1) [
      | inl one ↦ subst P (sym one) (insert_takes number bytes x fits) e
      | inr other ↦ elim (cases_eq op 2) [
        | inl two ↦ subst P (sym two) (retrieve_takes number bytes x fits) e
        | inr third ↦ let three : op ≡ 3 = omega (arith, other, third) in subst P (sym three) (remove_takes number bytes x fits) e
      ]
    ]

pub operands_again : (number : ℕ) (request : Request) (rest : List ℕ) → IsRequest request → operands_at (operation request) number (operands request ++ rest) ≡ Ok (request, rest)
unfolding operands_at
operands_again number (Insert key value) rest fits =
    let regrouped : (key_field key ++ value_field value) ++ rest ≡ key_field key ++ (value_field value ++ rest) = append_assoc (key_field key) (value_field value) rest in
    ap (operands_at 1 number) regrouped ∙ rw (key_again number key (value_field value ++ rest) fits.0, value_again number value rest fits.1) refl
operands_again number (Retrieve key) rest fits = rw (key_again number key rest fits.0) refl
operands_again number (Remove key value) rest fits =
    let regrouped : (key_field key ++ value_field value) ++ rest ≡ key_field key ++ (value_field value ++ rest) = append_assoc (key_field key) (value_field value) rest in
    ap (operands_at 3 number) regrouped ∙ rw (key_again number key (value_field value ++ rest) fits.0, value_again number value rest fits.1) refl
