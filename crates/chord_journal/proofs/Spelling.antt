-- The bytes of a command of three words.
use Rattle.std.proofs.Common.{◌≡◌, ℕ, List, [], ◌∷◌, ◌++◌, refl, ap, ap₂, ◌∙◌}
use Rattle.std.specs.Prelude.{codes, decimal}
use Rattle.std.specs.Fmt.{digits}
use Rattle.std.specs.List.{flat_map}
use Rattle.std.proofs.lemmas.List.{append-nil}
use Rattle.std.proofs.lemmas.List.Concat.{flat_map-cons}
use Rattle.chord_map.specs.declared.request.Request.TheVariants.{Insert, Remove}
use Rattle.chord_map.specs.declared.reply.Reply.TheVariants.{Added, Removed}
use Rattle.chord_resp.specs.Spelling.{newline, bulk, array}
use Rattle.chord_journal.specs.Journal.{spelled_by}

three : (verb key value : List ℕ) → flat_map array ((verb ∷ (key ∷ (value ∷ []))) ∷ []) ≡ (42 ∷ decimal 3) ++ (newline ++ (bulk verb ++ (bulk key ++ bulk value)))
three verb key value =
    flat_map-cons array (verb ∷ (key ∷ (value ∷ []))) []
    ∙ append-nil (array (verb ∷ (key ∷ (value ∷ []))))
    ∙ ap (λ (t : List ℕ). (42 ∷ decimal 3) ++ (newline ++ t))
    (flat_map-cons bulk verb (key ∷ (value ∷ [])) ∙ ap (λ (t : List ℕ). bulk verb ++ t)
    (flat_map-cons bulk key (value ∷ []) ∙ ap (λ (t : List ℕ). bulk key ++ t)
    (flat_map-cons bulk value [] ∙ append-nil (bulk value))))

pub spelled_insert : (key value : List ℕ) → spelled_by (Insert key value) Added ≡ codes "*3\r\n$4\r\nSADD\r\n" ++ (bulk key ++ bulk value)
unfolding digits
spelled_insert key value = three (codes "SADD") key value ∙ refl

pub spelled_remove : (key value : List ℕ) → spelled_by (Remove key value) Removed ≡ codes "*3\r\n$4\r\nSREM\r\n" ++ (bulk key ++ bulk value)
unfolding digits
spelled_remove key value = three (codes "SREM") key value ∙ refl

-- a buffer that grew by a command, with other names for its parts
pub grown : (head key value k v old inside new : List ℕ) → new ≡ inside ++ (head ++ (bulk k ++ bulk v)) → inside ≡ old → k ≡ key → v ≡ value
    → new ≡ old ++ (head ++ (bulk key ++ bulk value))
grown head key value k v old inside new e p q r =
    e ∙ ap₂ (λ (i t : List ℕ). i ++ (head ++ t)) p (ap₂ (λ (a b : List ℕ). bulk a ++ bulk b) q r)
