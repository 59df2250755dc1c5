use Rattle.std.proofs.Common.{◌≡◌, ◌<◌, length, sym, subst}
use Rattle.luflow.proofs.Columns.{AreLong, outputs_from, outputs_to, some_there}
use Rattle.luflow.proofs.outputs.are_outputs.Goals as goal

pub returns : goal.returns
returns c =
    let xs = c.args.columns.now in
    let first = c.index-columns-0.result in
    let some : 0 < length xs = some_there xs c.if-is_empty.ensures in
    let long : c.instants_of.result ≡ length first.1.items = c.instants_of.ensures in (
      (λ is. outputs_from xs first some c.index-columns-0.is (subst (AreLong xs) long (c.are_long.ensures.0 is))),
      (λ are. c.are_long.ensures.1 (subst (AreLong xs) (sym long) (outputs_to xs first some c.index-columns-0.is are))),
    )
