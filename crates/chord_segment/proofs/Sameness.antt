-- When calls with their replies are equal.
use Rattle.std.proofs.Common.{◌≡◌, ◌&&◌, eqb, ap}
use Rattle.std.specs.Bool.{Decides}
use Rattle.std.proofs.lemmas.Bool.{and_parts, and_from}
use Rattle.chord_map.specs.Same.{same_request, same_reply, same_request-Decides, same_reply-Decides}
use Rattle.chord_map.specs.declared.done.Done.{Done}
use Rattle.chord_map.proofs.Equal.{eqb_same, eqb_is}

pub dones_same : (a b : Done) → Decides (eqb a.caller b.caller && (eqb a.number b.number && (same_request a.request b.request && same_reply a.reply b.reply))) (a ≡ b)
dones_same a b = (
  λ h.
      let first = and_parts (eqb a.caller b.caller) (eqb a.number b.number && (same_request a.request b.request && same_reply a.reply b.reply)) h in
      let second = and_parts (eqb a.number b.number) (same_request a.request b.request && same_reply a.reply b.reply) first.1 in
      let third = and_parts (same_request a.request b.request) (same_reply a.reply b.reply) second.1 in
      let caller = eqb_is a.caller b.caller first.0 in
      let number = eqb_is a.number b.number second.0 in
      let request = (same_request-Decides a.request b.request).0 third.0 in
      let reply = (same_reply-Decides a.reply b.reply).0 third.1 in
      λ i. record { caller = caller i; number = number i; request = request i; reply = reply i },
  λ e. and_from (eqb a.caller b.caller) (eqb a.number b.number && (same_request a.request b.request && same_reply a.reply b.reply))
      (eqb_same a.caller b.caller (ap (λ (d : Done). d.caller) e))
      (and_from (eqb a.number b.number) (same_request a.request b.request && same_reply a.reply b.reply)
      (eqb_same a.number b.number (ap (λ (d : Done). d.number) e))
      (and_from (same_request a.request b.request) (same_reply a.reply b.reply)
      ((same_request-Decides a.request b.request).1 (ap (λ (d : Done). d.request) e))
      ((same_reply-Decides a.reply b.reply).1 (ap (λ (d : Done). d.reply) e)))),
)
