use Rattle.std.proofs.Common.{refl}
use Rattle.lublock_kernels.proofs.doubles.write.Goals as goal

pub returns-clause-words : goal.returns-clause-words
returns-clause-words g c = λ e n l l'. (c.fill.ensures.words e n l l') refl c.args.kind c.requires.fits
