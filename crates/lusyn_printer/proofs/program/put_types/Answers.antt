use Rattle.std.proofs.Common.{string_bytes}
use Rattle.lutree.specs.Tree.{type_view}
use Rattle.lusyn_printer.specs.Canonical.{type_declaration}
use Rattle.lusyn_printer.proofs.Joined.{each_loop}
use Rattle.lusyn_printer.proofs.program.put_types.Goals as goal

pub returns : goal.returns
returns c =
    each_loop type_declaration type_view c.args.types.now c.loop-printed.printed-index (string_bytes c.args.text.now) (string_bytes c.loop-printed.text) c.loop-printed-test.false c.loop-printed.invariant
