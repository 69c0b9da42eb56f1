-- What is read of a file is all of it, or more than a plan may have.
use Rattle.std.proofs.Common.{◌≡◌, ℕ, zero, suc, ◌<◌, List, [], ◌∷◌, ◌++◌, length, take, Option, Some, None, option_map, Result, Ok, Err, refl, sym, ap, subst, ◌∙◌, arith, inl, inr}
use Rattle.std.specs.Prelude.{IfSome, IfOk, IfErr, IsErrAnd, IsOkUnless, ◌≤◌}
use Rattle.std.specs.Io.Take.{take_limit, take_inner, take_remaining}
use Rattle.std.specs.declared.io.Take.{Take}
use Rattle.chord_app_plan.specs.Plan.{IsNotRead, IsPlan, IsPlanOf, IsTooLongOrNotRead}
use Rattle.chord_app_plan.specs.declared.fault.PlanFault.{PlanFault}
use Rattle.chord_app_plan.specs.declared.fault.PlanFault.TheVariants.{TooLong, OutOfMemory}
use Rattle.chord_app_plan.specs.declared.plan.Plan.{Plan}

all_of : (bytes : Option (List ℕ)) (l limit : ℕ) (old new : List ℕ) → l ≡ limit → old ≡ [] → IfSome (option_map (take l) bytes) (λ xs. new ≡ old ++ xs) → IfSome bytes (λ all. new ≡ take limit all)
all_of None l limit old new e none h = tt
all_of (Some all) l limit old new e none h = h ∙ ap (λ (xs : List ℕ). xs ++ take l all) none ∙ ap (λ (n : ℕ). take n all) e

-- reading a limited reader to its end gives the reader's first bytes
pub taken_all : {R : Type 0} (remaining : R → Option (List ℕ)) (t : Take R) (reader : R) (limit : ℕ) (old new : List ℕ) → take_limit t ≡ limit → take_inner t ≡ reader → old ≡ []
    → IfSome (take_remaining remaining t) (λ xs. new ≡ old ++ xs) → IfSome (remaining reader) (λ all. new ≡ take limit all)
taken_all remaining t reader limit old new e same none h =
    subst (λ r. IfSome (remaining r) (λ all. new ≡ take limit all)) same (all_of (remaining (take_inner t)) (take_limit t) limit old new e none h)

-- a list of which fewer than n + 1 elements could be taken was taken whole
take_short : (n : ℕ) (xs : List ℕ) → ¬ (n < length (take (suc n) xs)) → take (suc n) xs ≡ xs
take_short zero [] few = refl
take_short zero (x ∷ xs) few = absurd (few (omega arith))
take_short (suc n) [] few = refl
take_short (suc n) (x ∷ xs) few = ap (λ (l : List ℕ). x ∷ l) (take_short n xs (λ more. few (omega (arith, more))))

abbrev parsed : Plan → Result Plan PlanFault
parsed plan = Ok plan

not_long : (plan : Plan) → parsed plan ≡ Err TooLong → ⊥
not_long plan e = cc

-- a plan of the first bytes is one of all, since a longer document is refused
pub whole : (n : ℕ) (bytes : Option (List ℕ)) (document : List ℕ) (result : Result Plan PlanFault) → IfSome bytes (λ all. document ≡ take (suc n) all)
    → IfOk result (IsPlanOf document) → (n < length document → result ≡ Err TooLong) → IfOk result (λ plan. IfSome bytes (λ all. IsPlanOf all plan))
whole n bytes document (Err fault) h value long = tt
whole n None document (Ok plan) h value long = tt
whole n (Some all) document (Ok plan) h value long =
    subst (λ (d : List ℕ). IsPlanOf d plan) (h ∙ take_short n all (λ more. not_long plan (long (subst (λ (d : List ℕ). n < length d) (sym h) more)))) value

-- a list of at most n elements is taken whole
take_all : (n : ℕ) (xs : List ℕ) → length xs ≤ n → take n xs ≡ xs
take_all zero [] few = refl
take_all zero (x ∷ xs) few = absurd (omega (arith, few))
take_all (suc n) [] few = refl
take_all (suc n) (x ∷ xs) few = ap (λ (l : List ℕ). x ∷ l) (take_all n xs (omega (arith, few)))

-- of more than n elements, more than n are taken
take_long : (n : ℕ) (xs : List ℕ) → n < length xs → n < length (take (suc n) xs)
take_long zero [] more = more
take_long zero (x ∷ xs) more = omega arith
take_long (suc n) [] more = absurd (omega (arith, more))
take_long (suc n) (x ∷ xs) more = omega (arith, take_long n xs (omega (arith, more)))

memory_is_not_read : (result : Result Plan PlanFault) → IsOkUnless result OutOfMemory → IfErr result IsNotRead
memory_is_not_read (Ok plan) h = tt
memory_is_not_read (Err fault) h = subst IsNotRead (sym h) tt

-- a plan of all bytes that keeps the limits is one of the first bytes, and accepted
pub accepted : (n : ℕ) (bytes : Option (List ℕ)) (document : List ℕ) (result : Result Plan PlanFault) → IfSome bytes (λ all. document ≡ take (suc n) all)
    → ((plan : Plan) → IsPlanOf document plan → IsPlan plan → length document ≤ n → IsOkUnless result OutOfMemory)
    → IfSome bytes (λ all. (plan : Plan) → IsPlanOf all plan → IsPlan plan → length all ≤ n → IfErr result IsNotRead)
accepted n None document result h accepts = tt
accepted n (Some all) document result h accepts = λ plan is keeps short.
    let same : document ≡ all = h ∙ take_all (suc n) all (omega (arith, short)) in
    memory_is_not_read result (accepts plan (subst (λ (d : List ℕ). IsPlanOf d plan) (sym same) is) keeps (subst (λ (d : List ℕ). length d ≤ n) (sym same) short))

too_long : (result : Result Plan PlanFault) → result ≡ Err TooLong → IsErrAnd result IsTooLongOrNotRead
too_long result e = subst (λ (r : Result Plan PlanFault). IsErrAnd r IsTooLongOrNotRead) (sym e) (inl refl)

-- bytes of which the first are too many are refused
pub refused : (n : ℕ) (bytes : Option (List ℕ)) (document : List ℕ) (result : Result Plan PlanFault) → IfSome bytes (λ all. document ≡ take (suc n) all)
    → (n < length document → result ≡ Err TooLong) → IfSome bytes (λ all. n < length all → IsErrAnd result IsTooLongOrNotRead)
refused n None document result h long = tt
refused n (Some all) document result h long = λ more. too_long result (long (subst (λ (d : List ℕ). n < length d) (sym h) (take_long n all more)))

not_read : (result : Result Plan PlanFault) → IsErrAnd result IsNotRead → IfErr result IsNotRead
not_read (Ok plan) h = tt
not_read (Err fault) h = h

read_or_long : (result : Result Plan PlanFault) → IsErrAnd result IsNotRead → IsErrAnd result IsTooLongOrNotRead
read_or_long (Ok plan) h = h
read_or_long (Err fault) h = inr h

-- the same of what was read, or of the fault of reading it
module _ {V E : Type 0} (items : V → List ℕ) (n : ℕ) where
  pub whole_read : (bytes : Option (List ℕ)) (read : Result V E) (result : Result Plan PlanFault) → IfOk read (λ v. IfSome bytes (λ all. items v ≡ take (suc n) all))
      → IfOk read (λ v. IfOk result (IsPlanOf (items v))) → IfOk read (λ v. n < length (items v) → result ≡ Err TooLong) → IfErr read (λ e. IsErrAnd result IsNotRead)
      → IfOk result (λ plan. IfSome bytes (λ all. IsPlanOf all plan))
  whole_read bytes (Ok v) result h value long unread = whole n bytes (items v) result h value long
  whole_read bytes (Err e) (Ok plan) h value long unread = absurd unread
  whole_read bytes (Err e) (Err fault) h value long unread = tt

  pub accepted_read : (bytes : Option (List ℕ)) (read : Result V E) (result : Result Plan PlanFault) → IfOk read (λ v. IfSome bytes (λ all. items v ≡ take (suc n) all))
      → IfOk read (λ v. (plan : Plan) → IsPlanOf (items v) plan → IsPlan plan → length (items v) ≤ n → IsOkUnless result OutOfMemory) → IfErr read (λ e. IsErrAnd result IsNotRead)
      → IfSome bytes (λ all. (plan : Plan) → IsPlanOf all plan → IsPlan plan → length all ≤ n → IfErr result IsNotRead)
  accepted_read bytes (Ok v) result h accepts unread = accepted n bytes (items v) result h accepts
  accepted_read None (Err e) result h accepts unread = tt
  accepted_read (Some all) (Err e) result h accepts unread = λ plan is keeps short. not_read result unread

  pub refused_read : (bytes : Option (List ℕ)) (read : Result V E) (result : Result Plan PlanFault) → IfOk read (λ v. IfSome bytes (λ all. items v ≡ take (suc n) all))
      → IfOk read (λ v. n < length (items v) → result ≡ Err TooLong) → IfErr read (λ e. IsErrAnd result IsNotRead)
      → IfSome bytes (λ all. n < length all → IsErrAnd result IsTooLongOrNotRead)
  refused_read bytes (Ok v) result h long unread = refused n bytes (items v) result h long
  refused_read None (Err e) result h long unread = tt
  refused_read (Some all) (Err e) result h long unread = λ more. read_or_long result unread
