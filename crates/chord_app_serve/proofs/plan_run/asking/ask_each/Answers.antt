use Rattle.std.proofs.Common.{◌≡◌, ◌++◌, [], ◌∷◌, sym, ap, ◌∙◌, subst, map, take, get_or}
use Rattle.chord_app_plan.specs.declared.ask.PlanAsk.{PlanAsk}
use Rattle.chord_app_serve.proofs.Together.{first_requests, requests_next}
use Rattle.chord_app_serve.specs.Together.{NextIs, replies_of, requests_of, taken_requests}
use Rattle.chord_map.specs.declared.done.Done.{Done}
use Rattle.chord_app_serve.proofs.plan_run.asking.ask_each.Goals as goal

pub loop-ask-init : goal.loop-ask-init
loop-ask-init g c = (
  ap replies_of c.requires.none ∙ sym (ap (λ dones. map (λ (d : Done). d.reply) dones) c.requires.fresh),
  ap (λ dones. map (λ (d : Done). d.request) dones) c.requires.fresh,
)

pub ask_next-requires : goal.ask_next-requires
ask_next-requires g c = c.loop-ask.invariant.0

pub returns-then-not-branch-clause-first : goal.returns-then-not-branch-clause-first
returns-then-not-branch-clause-first g c =
    let old = c.loop-ask.client.caller in
    let stays : c.ask_next.new.client.caller.mine ≡ old.mine =
    subst (λ b. NextIs (requests_of c.args.number (c.ask-item.result ∷ [])) old b c.ask_next.new.client.caller) c.if-not-branch.true c.in_ok-ask_next.ensures.next in
    let (rest, is) = first_requests c.args.number c.loop-ask.ask-index c.args.asks.now in
    (rest, is ∙ ap (λ rs. rs ++ rest) (sym (ap (λ dones. map (λ (d : Done). d.request) dones) stays ∙ c.loop-ask.invariant.1)))

pub loop-ask-preserved : goal.loop-ask-preserved
loop-ask-preserved g c =
    let asks = c.args.asks.now in
    let old = c.loop-ask.client.caller in
    let item = c.ask-item.result in
    let went : taken_requests c.ask_next.new.client.caller ≡ taken_requests old ++ requests_of c.args.number (item ∷ []) =
    subst (λ b. NextIs (requests_of c.args.number (item ∷ [])) old b c.ask_next.new.client.caller) c.if-not-branch.false c.in_ok-ask_next.ensures.next in
    let here : requests_of c.args.number (item ∷ []) ≡ requests_of c.args.number (get_or asks c.loop-ask.ask-index item ∷ []) = ap (λ (a : PlanAsk). requests_of c.args.number (a ∷ [])) c.ask-item.is in (
      c.in_ok-ask_next.ensures.answers,
      went ∙ ap (λ rs. rs ++ requests_of c.args.number (item ∷ [])) c.loop-ask.invariant.1
          ∙ ap (λ rs. requests_of c.args.number (take c.loop-ask.ask-index asks) ++ rs) here
          ∙ sym (requests_next c.args.number c.loop-ask.ask-index asks item c.loop-ask-test.true),
    )

pub returns-clause-answers : goal.returns-clause-answers
returns-clause-answers g c = c.loop-ask.invariant.0

pub returns-clause-first : goal.returns-clause-first
returns-clause-first g c =
    let (rest, is) = first_requests c.args.number c.loop-ask.ask-index c.args.asks.now in
    (rest, is ∙ ap (λ rs. rs ++ rest) (sym c.loop-ask.invariant.1))
