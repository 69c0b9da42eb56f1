-- The links of a member after one number's links have changed.
use Rattle.std.proofs.Common.{◌≡◌, ◌≢◌, ℕ, ◌<◌, inl, inr, Bool, true, List, [], ◌∷◌, ◌++◌, length, Option, Some, None, arith, refl, sym, ◌∙◌, get_or-set_same, get_or-set_other}
use Rattle.std.specs.Prelude.{IsSome, slice_set}
use Rattle.std.specs.List.{find}
use Rattle.std.proofs.lemmas.Bool.{cases_lt, cases_Bool, false≢true}
use Rattle.std.proofs.lemmas.Option.{none-some}
use Rattle.std.proofs.lemmas.List.{get_or_past, get_or_push, get_or_append_left, length_push}
use Rattle.chord_links.specs.NodeLinks.{NodeLinks}
use Rattle.chord_ring.specs.Ring.{Members, links_of}

-- the new members have this value at one number, and are the old ones elsewhere
pub record Updates (old new : Members) (at : ℕ) (value : Option NodeLinks) : Type 0 where
  pub here : links_of new at ≡ value
  pub elsewhere : (node : ℕ) → node ≢ at → links_of new node ≡ links_of old node

-- a member's number is that of a node that once joined
pub member_within : (members : Members) (node : ℕ) (links : NodeLinks) → links_of members node ≡ Some links → node < length members
member_within members node links is_its =
    elim (cases_lt node (length members)) [
      | inl within ↦ within
      | inr past ↦ absurd (none-some links (sym (get_or_past members node None past) ∙ is_its))
    ]

pub Updates-set : (members : Members) (at : ℕ) (value : Option NodeLinks) → at < length members → Updates members (slice_set members at value) at value
Updates-set members at value within =
    record {
      here = get_or-set_same members at value None within;
      elsewhere = λ node other. get_or-set_other members at node value None other;
    }

pub Updates-push : (members : Members) (value : Option NodeLinks) → Updates members (members ++ value ∷ []) (length members) value
Updates-push members value =
    record {
      here = get_or_push members value None (length members) refl;
      elsewhere = λ node other.
          elim (cases_lt node (length members)) [
            | inl within ↦ get_or_append_left members (value ∷ []) None node within
            | inr past ↦
                get_or_past (members ++ value ∷ []) node None (let e = length_push members value in omega arith) ∙ sym (get_or_past members node None past)
          ];
    }

-- if more elements pass, a search that found one still finds one
pub find_more : {X : Type 0} (p q : X → Bool) → ((x : X) → p x ≡ true → q x ≡ true) → (xs : List X) → IsSome (find p xs) → IsSome (find q xs)
find_more p q more [] found = found
find_more p q more (x ∷ xs) found =
    elim (cases_Bool (q x)) [
      | inl passes ↦ rw passes refl
      | inr fails ↦
          elim (cases_Bool (p x)) [
            | inl passed ↦ absurd (false≢true (sym fails ∙ more x passed))
            | inr failed ↦ rw fails (find_more p q more xs (rw failed at found))
          ]
    ]
