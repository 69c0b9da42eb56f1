use Rattle.std.proofs.Common.{ap, ◌∙◌}
use Rattle.std.proofs.lemmas.Result.{IfOk-weaker}
use Rattle.serde_json.specs.Written.{compact_text, has_float}
use Rattle.chord_app_operator.proofs.JsonLaws.{ring_no_float}
use Rattle.chord_app_operator.proofs.show.sight_json.ring_text.Goals as goal

pub returns : goal.returns
returns c = IfOk-weaker c.to_string-text.result _ _ (λ text h. h (ap has_float c.in_ok-value.ensures ∙ ring_no_float c.args.sight.now) ∙ ap compact_text c.in_ok-value.ensures) c.to_string-text.ensures.text
