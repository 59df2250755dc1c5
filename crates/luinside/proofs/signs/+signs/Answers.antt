use Rattle.std.proofs.Common.{◌<◌, map, length, arith}
use Rattle.lusyn_grammar.specs.Tokens.{tok}
use Rattle.luinside.proofs.Signing.{signs_pushed}
use Rattle.luinside.proofs.signs.+signs.Goals as goal

pub push_all_signs-loop-e-preserved : goal.push_all_signs-loop-e-preserved
push_all_signs-loop-e-preserved t c =
    let lt : c.loop-e.e-index < length c.args.all.now = omega arith in
    signs_pushed (map tok c.args.signs.now.items) (map tok c.loop-e.signs.items) (map tok c.push_signs.new.signs.items) c.args.all.now c.loop-e.e-index c.e-item.result lt c.e-item.is c.loop-e.invariant c.in_ok-push_signs.ensures
