use Rattle.std.proofs.Common.{refl, rules}
use Rattle.lurun.proofs.Dealing.{none_reported}
use Rattle.lurun.proofs.served.serve.Goals as goal

pub loop-init : goal.loop-init
loop-init g c = record {
  room = search rules;
  so_far = none_reported c.args.share.served.items c.args.share.served.items c.args.share.reports.items c.requires.none refl;
}
