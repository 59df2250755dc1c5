use Rattle.std.proofs.Common.{string_bytes}
use Rattle.lutree.specs.Tree.{equation_view}
use Rattle.lusyn_printer.specs.Canonical.{equation}
use Rattle.lusyn_printer.proofs.Joined.{each_loop}
use Rattle.lusyn_printer.proofs.program.put_equations.Goals as goal

pub returns : goal.returns
returns c =
    each_loop equation equation_view c.args.equations.now c.loop-defined.defined-index (string_bytes c.args.text.now) (string_bytes c.loop-defined.text) c.loop-defined-test.false c.loop-defined.invariant
