use Rattle.lutype.proofs.NameAt.{named_at, named_past}
use Rattle.lutype.proofs.enumerations.has_name.Goals as goal

pub returns-then-i-names : goal.returns-then-i-names
returns-then-i-names c =
    named_at c.args.declaration.now.names c.as_slice-names.result.now c.args.number c.from-i.result c.index-names-i.result c.args.name.now c.is_spelled.result c.as_slice-names.ensures c.from-i.ensures
    c.if-i-names.true c.index-names-i.is c.is_spelled.ensures

pub returns-else-i-names : goal.returns-else-i-names
returns-else-i-names c =
    named_past c.args.declaration.now.names c.as_slice-names.result.now c.args.number c.from-i.result c.args.name.now c.as_slice-names.ensures c.from-i.ensures c.if-i-names.false
