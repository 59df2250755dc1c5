use Rattle.lucore_laws.proofs.Flats.{inside}
use Rattle.lucore_laws.proofs.sound_laws.inside_law.Goals as goal

pub returns : goal.returns
returns c = inside
