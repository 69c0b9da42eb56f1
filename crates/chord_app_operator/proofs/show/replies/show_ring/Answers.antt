use Rattle.chord_app_operator.proofs.show.replies.show_ring.Goals as goal

pub returns-in-Json : goal.returns-in-Json
returns-in-Json c = rw (c.in-Json.is) c.show_ring_json.ensures
