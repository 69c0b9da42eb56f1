use Rattle.std.proofs.Common.{subst}
use Rattle.chord_app_serve.proofs.Together.{asked_reply}
use Rattle.chord_app_serve.specs.Together.{AskedIs}
use Rattle.chord_app_serve.specs.declared.plan_run.asking.AskResult.TheVariants as ended
use Rattle.chord_map.specs.declared.request.Request.{Request}
use Rattle.chord_app_serve.proofs.plan_run.asking.ask_once.Goals as goal

pub returns-in-Ok : goal.returns-in-Ok
returns-in-Ok g c =
    subst (λ (request : Request). AskedIs request c.args.client.now.caller (ended.Reply c.in-Ok.reply) c.call.new.self.caller) c.in_ok-request.ensures.copy
    (asked_reply c.in_ok-request.request c.in-Ok.reply c.args.client.now c.call.new.self c.in-Ok.ensures.answer)
