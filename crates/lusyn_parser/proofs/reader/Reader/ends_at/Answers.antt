use Rattle.std.proofs.Common.{arith, sym}
use Rattle.lusyn_parser.proofs.Atoms.{ends-by-operator, ends-by-nothing}
use Rattle.lusyn_parser.proofs.reader.Reader.ends_at.Goals as goal

pub returns-else-least-binding : goal.returns-else-least-binding
returns-else-least-binding c e =
    ends-by-operator _ _ c.in-Operator.op (sym c.if-begins.ensures.begins) (sym c.in-Operator.ensures.next) (omega (arith, c.if-least-binding.false, c.binding_of-binding.ensures.level))

pub returns-in-Nothing : goal.returns-in-Nothing
returns-in-Nothing c e = ends-by-nothing _ _ (sym c.if-begins.ensures.begins) (sym c.in-Nothing.ensures.next)
