use Rattle.std.proofs.Common.{ap, ◌∙◌}
use Rattle.std.specs.Int.{to_be_bytes, w128}
use Rattle.std.proofs.lemmas.Result.{IfOk-weaker}
use Rattle.hex.specs.Hex.{encode_lower}
use Rattle.chord_app_operator.proofs.show.json.id_text.Goals as goal

pub returns : goal.returns
returns c = IfOk-weaker c.encode.result _ _ (λ text h. h ∙ ap encode_lower (c.to_be_bytes.ensures ∙ ap (to_be_bytes w128) c.value.ensures)) c.encode.ensures
