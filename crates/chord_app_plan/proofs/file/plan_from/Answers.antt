use Rattle.chord_app_plan.proofs.Files.{accepted_read, refused_read, whole_read}
use Rattle.chord_app_plan.proofs.file.plan_from.Goals as goal

pub returns-clause-value : goal.returns-clause-value
returns-clause-value g c =
    whole_read (λ v. v.items) 1048576 (g.R.Read.remaining c.args.reader) c.read_bytes.result c.plan_in.result c.read_bytes.ensures c.plan_in.ensures.value c.plan_in.ensures.long c.plan_in.ensures.unread

pub returns-clause-accepts : goal.returns-clause-accepts
returns-clause-accepts g c =
    accepted_read (λ v. v.items) 1048576 (g.R.Read.remaining c.args.reader) c.read_bytes.result c.plan_in.result c.read_bytes.ensures c.plan_in.ensures.accepts c.plan_in.ensures.unread

pub returns-clause-long : goal.returns-clause-long
returns-clause-long g c =
    refused_read (λ v. v.items) 1048576 (g.R.Read.remaining c.args.reader) c.read_bytes.result c.plan_in.result c.read_bytes.ensures c.plan_in.ensures.long c.plan_in.ensures.unread
