use Rattle.lulink.specs.Lists.{list_of}
use Rattle.test_reference.proofs.opening.open_link.Given as goal

abbrev pub ghosts-part : goal.ghosts-part
ghosts-part a = record { list = list_of a.job.now a.link; room = a.capacity }
