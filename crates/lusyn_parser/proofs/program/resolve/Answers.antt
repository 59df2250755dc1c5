use Rattle.std.proofs.Common.{◌≡◌, length, refl, rules}
use Rattle.lutree.specs.Tree.{program_view}
use Rattle.lusyn_parser.proofs.Once.{nothing-resolved}
use Rattle.lusyn_parser.proofs.program.resolve.Goals as goal

pub returns-then-is_empty-clause-program : goal.returns-then-is_empty-clause-program
returns-then-is_empty-clause-program c =
    let none : length c.args.program.types ≡ 0 = search rules in
    nothing-resolved (program_view c.args.program) c.args.program.types refl none
