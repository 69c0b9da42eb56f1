use Rattle.std.proofs.Common.{◌≡◌, ℕ, List, Result, Ok, Err, ap, sym, ◌∙◌}
use Rattle.std.specs.Result.{IsErr, IsErrAnd}
use Rattle.chord_app_text.specs.declared.words.LineFault.{LineFault}
use Rattle.chord_app_text.specs.declared.words.LineFault.TheVariants.{OutOfMemory}
use Rattle.chord_app_text.proofs.words.Words.bytes.Goals as goal

refused : (r : Result (List ℕ) LineFault) → IsErr r → IsErrAnd r (λ fault. fault ≡ OutOfMemory)
    → r ≡ Err OutOfMemory
refused (Ok bytes) err is = cc err
refused (Err fault) err is = ap Err is

pub returns-in_err-bytes-in-Some : goal.returns-in_err-bytes-in-Some
returns-in_err-bytes-in-Some c =
    let told = c.from_residual-in_err-bytes-in-Some.ensures in
    let read = rw c.as_bytes.ensures.value at (sym c.of_word.ensures ∙ c.in-Some.is) in
    rw (refused c.from_residual-in_err-bytes-in-Some.result told.0 told.1) (
      c.in_ok-word.word.now,
      c.in-Some.digits,
      c.in_ok-word.ensures.0,
      read,
      c.in_err-bytes-in-Some.ensures.memory,
    )
