-- A length and then fields are a frame, if the length is that of the fields.
use Rattle.std.proofs.Common.{◌≡◌, ℕ, ◌+◌, List, ◌++◌, length, sym, ap, ◌∙◌, append_assoc}
use Rattle.std.specs.Int.{w32, to_be_bytes}
use Rattle.std.proofs.lemmas.List.{length-append}
use Rattle.chord_wire.specs.Spelling.{frame}

pub framed : (len : ℕ) (head fields : List ℕ) → len ≡ length head + length fields → (to_be_bytes w32 len ++ head) ++ fields ≡ frame (head ++ fields)
framed len head fields e =
    append_assoc (to_be_bytes w32 len) head fields
    ∙ ap (λ (n : ℕ). to_be_bytes w32 n ++ (head ++ fields)) (e ∙ sym (length-append head fields))
