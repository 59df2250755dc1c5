use Rattle.std.proofs.Common.{◌≡◌, ◌*◌, ◌+◌, ◌<◌, length, refl, arith}
use Rattle.test_reference.proofs.Places.{place_within, held_here, held_others}
use Rattle.test_reference.proofs.grid.Grid.set.Goals as goal

pub returns : goal.returns
returns c =
    let w = c.args.self.now.width in
    let inside = place_within c.args.instant c.args.self.now.instants w c.args.flow c.requires.instant_in c.requires.flow_in in
    let long : length c.args.self.now.cells.items ≡ c.args.self.now.instants * w = c.args.self.now.long in
    let there : c.args.instant * w + c.args.flow < length c.args.self.now.cells.items = omega (arith, inside, long) in
    record {
      width = refl;
      instants = refl;
      here = held_here c.args.self.now.cells.items w c.args.flow c.args.instant c.args.mark c.requires.flow_in there;
      others = held_others c.args.self.now.cells.items w c.args.flow c.args.instant c.args.mark c.requires.flow_in;
    }
