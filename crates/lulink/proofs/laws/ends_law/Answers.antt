use Rattle.lulink.proofs.Standing.{sender_law, receiver_law}
use Rattle.lulink.proofs.laws.ends_law.Goals as goal

pub returns-clause-sender : goal.returns-clause-sender
returns-clause-sender c = sender_law

pub returns-clause-receiver : goal.returns-clause-receiver
returns-clause-receiver c = receiver_law
