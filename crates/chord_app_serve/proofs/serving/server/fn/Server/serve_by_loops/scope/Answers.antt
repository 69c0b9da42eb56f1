-- The type parameters of a server may cross to another thread: the closure asks that of them.
use denote.Param.Send.{param_send}
use Rattle.chord_app_serve.proofs.serving.server.fn.Server.serve_by_loops.scope.Goals as goal

pub start_loops-requires-send-J : goal.start_loops-requires-send-J
start_loops-requires-send-J g c = λ _ _. param_send _ _ c.requires.1.1.1.1.1.1.0

pub start_loops-requires-send-S : goal.start_loops-requires-send-S
start_loops-requires-send-S g c = λ _ _. param_send _ _ c.requires.1.1.1.1.1.1.1

pub start_loops-requires-send-W : goal.start_loops-requires-send-W
start_loops-requires-send-W g c = λ _ _. param_send _ _ c.requires.1.1.1.1.1.1.3

pub start_and_accept-ended-requires-send-J : goal.start_and_accept-ended-requires-send-J
start_and_accept-ended-requires-send-J g c = λ _ _. param_send _ _ c.requires.1.1.1.1.1.1.0

pub start_and_accept-ended-requires-send-S : goal.start_and_accept-ended-requires-send-S
start_and_accept-ended-requires-send-S g c = λ _ _. param_send _ _ c.requires.1.1.1.1.1.1.1

pub start_and_accept-ended-requires-send-W : goal.start_and_accept-ended-requires-send-W
start_and_accept-ended-requires-send-W g c = λ _ _. param_send _ _ c.requires.1.1.1.1.1.1.3
