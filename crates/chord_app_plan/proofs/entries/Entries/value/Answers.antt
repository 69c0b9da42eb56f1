use Rattle.std.proofs.Common.{sym}
use Rattle.toml.proofs.Views.{table_get}
use Rattle.chord_app_plan.proofs.entries.Entries.value.Goals as goal

pub returns-in-Some-clause-value : goal.returns-in-Some-clause-value
returns-in-Some-clause-value c =
    let found = table_get c.get.result c.args.key.now c.args.self.now.table.now.entries c.get.ensures.value in
    sym (rw c.in-Some.is at found)

pub returns-in-None-clause-missing : goal.returns-in-None-clause-missing
returns-in-None-clause-missing c =
    let found = table_get c.get.result c.args.key.now c.args.self.now.table.now.entries c.get.ensures.value in
    sym (rw c.in-None.is at found)
