use Rattle.lucore_laws.proofs.Flats.{is_flat}
use Rattle.lucore_laws.proofs.sound_laws.flat_law.Goals as goal

pub returns : goal.returns
returns c = is_flat
