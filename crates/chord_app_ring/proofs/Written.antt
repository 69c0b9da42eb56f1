-- Lines that are written, and copies that end since something is not.
use Rattle.std.proofs.Common.{◌≡◌, List, ℕ, Bool, Result, Ok, Err, Option, OnOk, IfOk, String, string_bytes, ⊎_elim, subst, sym, ◌∙◌}
use Rattle.std.specs.Prelude.{⊤}
use Rattle.std.specs.Result.{IsErrAnd}
use Rattle.std.specs.Io.KnownBytes.{Appends}
use Rattle.std.specs.declared.alloc.AllocError.{AllocError}
use Rattle.std.specs.declared.alloc.Global.{Global}
use Rattle.chord_app_operator.specs.declared.request.calls.PairsRequest.{PairsRequest}
use Rattle.chord_app_ring.specs.declared.dumping.DumpFault.{DumpFault}
use Rattle.chord_app_ring.specs.declared.fault.RingFault.{RingFault}
use Rattle.chord_app_ring.specs.declared.page.Page.{Page}
use Rattle.chord_app_ring.specs.Dumping.{IsTold, IsCopied, IsUnwritten, IsDumped, WritesLine}

-- the line that was made is the one that was written
pub line_written : (line : Result (String Global) AllocError) (old new : Option (List ℕ)) (bytes : List ℕ) → WritesLine line old new → IfOk line (λ text. string_bytes text ≡ bytes) → Appends old new bytes
line_written (Ok text) old new bytes written is = subst (Appends old new) is written
line_written (Err full) old new bytes written is = absurd written

pub line_on_ok : (outcome : Result ⊤ DumpFault) (line : Result (String Global) AllocError) (old new : Option (List ℕ)) (bytes : List ℕ) → OnOk outcome (WritesLine line old new)
    → IfOk line (λ text. string_bytes text ≡ bytes) → OnOk outcome (Appends old new bytes)
line_on_ok (Ok done) line old new bytes written is = line_written line old new bytes written is
line_on_ok (Err fault) line old new bytes written is = written

-- a copy ends since something is not written
pub unwritten_ends : {T : Type 0} (tells : T → PairsRequest → Result Page RingFault → T → Type 0) (first last : T) (held held' told told' : Option (List ℕ)) (result : Result Bool DumpFault) (fault : DumpFault)
    → IsUnwritten fault → IsErrAnd result (λ same. same ≡ fault) → IsCopied tells first (λ after copy before. (page : Page) × IsTold tells after before page last) → IsDumped tells first result held held' told told' last
unwritten_ends tells first last held held' told told' (Ok lost) fault why at copied = absurd at
unwritten_ends tells first last held held' told told' (Err same) fault why at copied = ⊎_elim
    (λ write. subst (λ (f : DumpFault). IsDumped tells first (Err f) held held' told told' last) (sym (at ∙ write)) copied)
    (λ memory. subst (λ (f : DumpFault). IsDumped tells first (Err f) held held' told told' last) (sym (at ∙ memory)) copied)
    why
