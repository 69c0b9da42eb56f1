-- Members that have rows, and a list that has each member.
use Rattle.std.proofs.Common.{◌≡◌, ℕ, zero, suc, ◌+◌, ◌<◌, ◌≤◌, inl, inr, List, [], ◌∷◌, length, None, arith, refl, ap, sym, ◌∙◌}
use Rattle.std.specs.Prelude.{◌==◌, is_some, IsTrue}
use Rattle.std.proofs.lemmas.Bool.{cases_Bool, cases_eq, cases_lt, eqb-true, false≢true}
use Rattle.std.proofs.lemmas.List.{get_or_past, get_or_push, get_or_append_left, length_push}
use Rattle.chord_ring.specs.declared.member_row.MemberRow.{MemberRow}
use Rattle.chord_ring.specs.Ring.{Members, links_of, is_member}
use Rattle.chord_ring.specs.Rows.{row_at, number_in, members_among}

-- there are as many as nodes ever joined
pub count_among : (count : ℕ) (rows : List MemberRow) → length (members_among count rows) ≡ count
unfolding members_among
count_among zero rows = refl
count_among (suc count) rows = let e = count_among count rows in let p = length_push (members_among count rows) (row_at count rows) in omega (arith, e, p)

-- each has what the rows have
pub links_among : (count : ℕ) (rows : List MemberRow) (number : ℕ) → number < count → links_of (members_among count rows) number ≡ row_at number rows
unfolding members_among
links_among zero rows number less = absurd (omega (arith, less))
links_among (suc count) rows number less =
    elim (cases_eq number count) [
      | inl same ↦ get_or_push (members_among count rows) (row_at count rows) None number (count_among count rows ∙ sym same) ∙ ap (λ n. row_at n rows) (sym same)
      | inr other ↦
          let within : number < count = omega (arith, less, other) in
          get_or_append_left (members_among count rows) (row_at count rows ∷ []) None number (omega (arith, within, count_among count rows)) ∙ links_among count rows number within
    ]

-- and there are no others
pub none_among : (count : ℕ) (rows : List MemberRow) (number : ℕ) → count ≤ number → links_of (members_among count rows) number ≡ None
none_among count rows number past = get_or_past (members_among count rows) number None (omega (arith, past, count_among count rows))

-- the number of each row has a place
row_listed : (rows : List MemberRow) (number : ℕ) → IsTrue (is_some (row_at number rows)) → (place : ℕ) × (place < length rows) × (number_in rows place ≡ number)
row_listed [] number some = cc
row_listed (row ∷ rows) number some =
    elim (cases_Bool (row.number == number)) [
      | inl same ↦ (zero, omega arith, eqb-true row.number number same)
      | inr other ↦
          let rest = row_listed rows number (rw other at some) in
          (suc rest.0, omega (arith, rest.1), rest.2)
    ]

-- so each member is listed
pub among_listed : (count : ℕ) (rows : List MemberRow) (number : ℕ) → IsTrue (is_member (members_among count rows) number)
    → (place : ℕ) × (place < length rows) × (number_in rows place ≡ number)
among_listed count rows number member =
    elim (cases_lt number count) [
      | inl within ↦ row_listed rows number (ap is_some (sym (links_among count rows number within)) ∙ member)
      | inr past ↦ absurd (false≢true (sym (ap is_some (none_among count rows number past)) ∙ member))
    ]

-- the list of all numbers has each member's
pub number_listed : (members : Members) (count number : ℕ) → count ≡ length members → IsTrue (is_member members number) → (place : ℕ) × (place < count) × (place ≡ number)
number_listed members count number counted member =
    elim (cases_lt number (length members)) [
      | inl within ↦ (number, omega (arith, counted, within), refl)
      | inr past ↦ absurd (false≢true (sym (ap is_some (get_or_past members number None past)) ∙ member))
    ]
