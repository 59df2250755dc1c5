use Rattle.luplace_report.proofs.Items.{messages_law}
use Rattle.luplace_report.proofs.laws.messages_law.Goals as goal

pub returns : goal.returns
returns c = messages_law
