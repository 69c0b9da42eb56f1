use Rattle.std.proofs.Common.{refl, sym}
use Rattle.chord_node.proofs.Applying.{full_by_did, full_by_full, full_by_memory, unadded_stays, added_undone, same_pairs}
use Rattle.chord_node.proofs.asks.apply.is_full_for_pair.Goals as goal

pub returns-in-Ok-Added-clause-answer : goal.returns-in-Ok-Added-clause-answer
returns-in-Ok-Added-clause-answer g c = sym (full_by_did _ _ _ _ _ _ _ refl refl _ c.in-Ok-Added.ensures.answer)

pub returns-in-Ok-Present-clause-answer : goal.returns-in-Ok-Present-clause-answer
returns-in-Ok-Present-clause-answer g c = sym (full_by_did _ _ _ _ _ _ _ refl refl _ c.in-Ok-Present.ensures.answer)

pub returns-in-Ok-SetFull-clause-answer : goal.returns-in-Ok-SetFull-clause-answer
returns-in-Ok-SetFull-clause-answer g c = sym (full_by_did _ _ _ _ _ _ _ refl refl _ c.in-Ok-SetFull.ensures.answer)

pub returns-in-Ok-Added-clause-same : goal.returns-in-Ok-Added-clause-same
returns-in-Ok-Added-clause-same g c =
    added_undone _ _ _ _ _ _ c.in-Ok-Added.field-0
    (same_pairs refl (sym c.as_slice.ensures)) c.in-Ok-Added.field-0-is
    c.in-Ok-Added.ensures.answer c.remove.ensures.change

pub returns-in-Ok-Present-clause-same : goal.returns-in-Ok-Present-clause-same
returns-in-Ok-Present-clause-same g c = unadded_stays _ _ _ _ c.in-Ok-Present.field-0 (λ added. let is = c.in-Ok-Present.field-0-is in cc) c.in-Ok-Present.ensures.answer

pub returns-in-Ok-SetFull-clause-same : goal.returns-in-Ok-SetFull-clause-same
returns-in-Ok-SetFull-clause-same g c = unadded_stays _ _ _ _ c.in-Ok-SetFull.field-0 (λ added. let is = c.in-Ok-SetFull.field-0-is in cc) c.in-Ok-SetFull.ensures.answer

pub returns-in-Err-Full-clause-answer : goal.returns-in-Err-Full-clause-answer
returns-in-Err-Full-clause-answer g c = sym (full_by_full _ _ _ _ _ _ _ refl refl (rw c.in-Err-Full.field-0-is at c.in-Err-Full.ensures.answer))

pub returns-in-Err-Memory-clause-answer : goal.returns-in-Err-Memory-clause-answer
returns-in-Err-Memory-clause-answer g c = sym (full_by_memory _ _ _ _ _ _ _ refl refl (rw c.in-Err-Memory.field-0-is at c.in-Err-Memory.ensures.answer))
