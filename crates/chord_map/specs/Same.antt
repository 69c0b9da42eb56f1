-- When two requests, or two replies, are equal, byte for byte.
use Rattle.std.specs.Prelude.{◌≡◌, ℕ, Bool, true, false, ◌&&◌, List, [], refl}
use Rattle.std.specs.Bool.{Decides}
use Rattle.std.specs.Str.{bytes_eq}
use Rattle.std.specs.Cmp.{IsEquivalence, first_so, second_so}
use Rattle.std.specs.Cmp.Lexicographic.{pointwise, pointwise_decides}
use Rattle.std.proofs.Common.{sym, ◌∙◌, ap, ap₂, subst}
use Rattle.std.proofs.lemmas.Slice.Eq.{bytes_eq-Decides}
use Rattle.std.proofs.lemmas.Bool.{true≢false, and_from}
use Rattle.chord_map.specs.declared.request.Request.{Request}
use Rattle.chord_map.specs.declared.request.Request.TheVariants.{Insert, Retrieve, Remove}
use Rattle.chord_map.specs.declared.reply.Reply.{Reply}
use Rattle.chord_map.specs.declared.reply.Reply.TheVariants.{Added, Present, SetFull, Values, Removed, Absent}

-- the lists have the same values in the same order
abbrev pub same_values : List (List ℕ) → List (List ℕ) → Bool
same_values xs ys = pointwise bytes_eq xs ys

-- both requests are equal
abbrev pub same_request : Request → Request → Bool
same_request (Insert key value) (Insert key' value') = bytes_eq key key' && bytes_eq value value'
same_request (Retrieve key) (Retrieve key') = bytes_eq key key'
same_request (Remove key value) (Remove key' value') = bytes_eq key key' && bytes_eq value value'
same_request request request' = false

-- both replies are equal
abbrev pub same_reply : Reply → Reply → Bool
same_reply Added Added = true
same_reply Present Present = true
same_reply SetFull SetFull = true
same_reply (Values values) (Values values') = same_values values values'
same_reply Removed Removed = true
same_reply Absent Absent = true
same_reply reply reply' = false

-- a test that decides equality is an equivalence
module _ {A : Type 0} (test : A → A → Bool) (decides : (x y : A) → Decides (test x y) (x ≡ y)) where
  turned : (x y : A) (a b : Bool) → test x y ≡ a → test y x ≡ b → a ≡ b
  turned x y true true p q = refl
  turned x y false false p q = refl
  turned x y true false p q = absurd (true≢false (sym ((decides y x).1 (sym ((decides x y).0 p))) ∙ q))
  turned x y false true p q = absurd (true≢false (sym ((decides x y).1 (sym ((decides y x).0 q))) ∙ p))

  equivalence : IsEquivalence test
  equivalence = record {
    refl = λ x. (decides x x).1 refl;
    symm = λ x y. turned x y (test x y) (test y x) refl refl;
    congr = λ x y z same. ap (λ v. test v z) ((decides x y).0 same);
  }

-- two pairs of byte strings are equal if the test of each half says so
both_decide : {B : Type 0} (make : List ℕ → List ℕ → B) (key_in value_in : B → List ℕ)
    → ((k v : List ℕ) → key_in (make k v) ≡ k) → ((k v : List ℕ) → value_in (make k v) ≡ v)
    → (key value key' value' : List ℕ) → Decides (bytes_eq key key' && bytes_eq value value') (make key value ≡ make key' value')
both_decide make key_in value_in at_key at_value key value key' value' = (
  λ h. ap₂ make ((bytes_eq-Decides key key').0 (first_so (bytes_eq key key') (bytes_eq value value') h))
      ((bytes_eq-Decides value value').0 (second_so (bytes_eq key key') (bytes_eq value value') h)),
  λ e. and_from (bytes_eq key key') (bytes_eq value value')
      ((bytes_eq-Decides key key').1 (sym (at_key key value) ∙ ap key_in e ∙ at_key key' value'))
      ((bytes_eq-Decides value value').1 (sym (at_value key value) ∙ ap value_in e ∙ at_value key' value')),
)

key_in : Request → List ℕ
key_in (Insert key value) = key
key_in (Retrieve key) = key
key_in (Remove key value) = key

value_in : Request → List ℕ
value_in (Insert key value) = value
value_in (Retrieve key) = key
value_in (Remove key value) = value

unlike : {P : Type 0} → ¬ P → Decides false P
unlike apart = (λ h. absurd (true≢false (sym h)), λ p. absurd (apart p))

pub same_values-Decides : (xs ys : List (List ℕ)) → Decides (same_values xs ys) (xs ≡ ys)
same_values-Decides = pointwise_decides bytes_eq-Decides

pub same_values-equiv : IsEquivalence same_values
same_values-equiv = equivalence same_values same_values-Decides

pub same_request-Decides : (a b : Request) → Decides (same_request a b) (a ≡ b)
unfolding key_in value_in
same_request-Decides (Insert key value) (Insert key' value') = both_decide Insert key_in value_in (λ k v. refl) (λ k v. refl) key value key' value'
same_request-Decides (Retrieve key) (Retrieve key') = (λ h. ap Retrieve ((bytes_eq-Decides key key').0 h), λ e. (bytes_eq-Decides key key').1 (ap key_in e))
same_request-Decides (Remove key value) (Remove key' value') = both_decide Remove key_in value_in (λ k v. refl) (λ k v. refl) key value key' value'
same_request-Decides (Insert key value) (Retrieve key') = unlike (λ e. cc)
same_request-Decides (Insert key value) (Remove key' value') = unlike (λ e. cc)
same_request-Decides (Retrieve key) (Insert key' value') = unlike (λ e. cc)
same_request-Decides (Retrieve key) (Remove key' value') = unlike (λ e. cc)
same_request-Decides (Remove key value) (Insert key' value') = unlike (λ e. cc)
same_request-Decides (Remove key value) (Retrieve key') = unlike (λ e. cc)

pub same_request-equiv : IsEquivalence same_request
same_request-equiv = equivalence same_request same_request-Decides

values_in : Reply → List (List ℕ)
values_in (Values values) = values
values_in reply = []

pub same_reply-Decides : (a b : Reply) → Decides (same_reply a b) (a ≡ b)
unfolding values_in
same_reply-Decides Added Added = (λ h. refl, λ e. refl)
same_reply-Decides Added Present = unlike (λ e. cc)
same_reply-Decides Added SetFull = unlike (λ e. cc)
same_reply-Decides Added (Values values') = unlike (λ e. cc)
same_reply-Decides Added Removed = unlike (λ e. cc)
same_reply-Decides Added Absent = unlike (λ e. cc)
same_reply-Decides Present Added = unlike (λ e. cc)
same_reply-Decides Present Present = (λ h. refl, λ e. refl)
same_reply-Decides Present SetFull = unlike (λ e. cc)
same_reply-Decides Present (Values values') = unlike (λ e. cc)
same_reply-Decides Present Removed = unlike (λ e. cc)
same_reply-Decides Present Absent = unlike (λ e. cc)
same_reply-Decides SetFull Added = unlike (λ e. cc)
same_reply-Decides SetFull Present = unlike (λ e. cc)
same_reply-Decides SetFull SetFull = (λ h. refl, λ e. refl)
same_reply-Decides SetFull (Values values') = unlike (λ e. cc)
same_reply-Decides SetFull Removed = unlike (λ e. cc)
same_reply-Decides SetFull Absent = unlike (λ e. cc)
same_reply-Decides (Values values) Added = unlike (λ e. cc)
same_reply-Decides (Values values) Present = unlike (λ e. cc)
same_reply-Decides (Values values) SetFull = unlike (λ e. cc)
same_reply-Decides (Values values) (Values values') = (λ h. ap Values ((same_values-Decides values values').0 h), λ e. (same_values-Decides values values').1 (ap values_in e))
same_reply-Decides (Values values) Removed = unlike (λ e. cc)
same_reply-Decides (Values values) Absent = unlike (λ e. cc)
same_reply-Decides Removed Added = unlike (λ e. cc)
same_reply-Decides Removed Present = unlike (λ e. cc)
same_reply-Decides Removed SetFull = unlike (λ e. cc)
same_reply-Decides Removed (Values values') = unlike (λ e. cc)
same_reply-Decides Removed Removed = (λ h. refl, λ e. refl)
same_reply-Decides Removed Absent = unlike (λ e. cc)
same_reply-Decides Absent Added = unlike (λ e. cc)
same_reply-Decides Absent Present = unlike (λ e. cc)
same_reply-Decides Absent SetFull = unlike (λ e. cc)
same_reply-Decides Absent (Values values') = unlike (λ e. cc)
same_reply-Decides Absent Removed = unlike (λ e. cc)
same_reply-Decides Absent Absent = (λ h. refl, λ e. refl)

pub same_reply-equiv : IsEquivalence same_reply
same_reply-equiv = equivalence same_reply same_reply-Decides

-- a result that equals this test's decides equality too
pub tells_values : (b : Bool) (xs ys : List (List ℕ)) → b ≡ same_values xs ys → Decides b (xs ≡ ys)
tells_values b xs ys e = subst (λ (t : Bool). Decides t (xs ≡ ys)) (sym e) (same_values-Decides xs ys)

pub tells_reply : (a b : Reply) (xs ys : List (List ℕ)) (t : Bool) → a ≡ Values xs → b ≡ Values ys → t ≡ same_values xs ys → Decides t (a ≡ b)
unfolding values_in
tells_reply a b xs ys t a_is b_is e =
    let same = tells_values t xs ys e in
    (λ h. a_is ∙ ap Values (same.0 h) ∙ sym b_is, λ h. same.1 (ap values_in (sym a_is ∙ h ∙ b_is)))
