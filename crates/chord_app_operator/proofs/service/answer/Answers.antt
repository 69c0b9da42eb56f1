use Rattle.chord_app_operator.proofs.service.answer.Goals as goal

pub returns-in-Stop : goal.returns-in-Stop
returns-in-Stop g c = rw (c.in-Stop.is) (c.stop.ensures c.args.format)
