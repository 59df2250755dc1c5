use Rattle.std.proofs.Common.{refl, Some, None}
use Rattle.clap.specs.Walk.{walked}
use Rattle.clap.specs.Takes.{walk_passes}
use Rattle.clap.specs.Faults.{walk_fault, defaults_fault}
use Rattle.example_embed.proofs.replaying.asked.Goals as goal

pub returns-clause-asked : goal.returns-clause-asked
unfolding walked walk_passes walk_fault defaults_fault
returns-clause-asked c = record {
  matches = _;
  named = refl;
  main = refl;
  explain = refl;
  short = refl;
  program = refl;
  place = refl;
  table = refl;
  source = record { schedule = Some _; seed = None; count = None; schedule_is = refl; seed_is = refl; count_is = refl; source_is = refl };
  finish = refl;
  turns = refl;
  vcd = refl;
  messages = refl;
  blocked = refl;
  from = refl;
  to = refl;
  always = refl;
}
