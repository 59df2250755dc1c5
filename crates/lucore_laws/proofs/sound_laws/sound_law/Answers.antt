use Rattle.lucore_laws.proofs.Programs.{sound}
use Rattle.lucore_laws.proofs.sound_laws.sound_law.Goals as goal

pub returns : goal.returns
returns c = sound
