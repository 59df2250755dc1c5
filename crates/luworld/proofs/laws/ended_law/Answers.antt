use Rattle.luworld.proofs.Ended.{ended_whole, ended_sound}
use Rattle.luworld.proofs.laws.ended_law.Goals as goal

pub returns : goal.returns
returns c = λ plan world site ended. (ended_whole plan world site ended, ended_sound plan world site ended)
