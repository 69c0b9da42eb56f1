-- The type parameters of a server may cross to another thread: the closure asks that of them.
use denote.Param.Send.{param_send}
use Rattle.chord_app_serve.proofs.serving.server.fn.Server.accept_at.spawn.Goals as goal

pub accept_second-requires-send-J : goal.accept_second-requires-send-J
accept_second-requires-send-J g c = λ _ _. param_send _ _ c.requires.1.1.1.1.1.1.0

pub accept_second-requires-send-S : goal.accept_second-requires-send-S
accept_second-requires-send-S g c = λ _ _. param_send _ _ c.requires.1.1.1.1.1.1.1

pub accept_second-requires-send-W : goal.accept_second-requires-send-W
accept_second-requires-send-W g c = λ _ _. param_send _ _ c.requires.1.1.1.1.1.1.3
