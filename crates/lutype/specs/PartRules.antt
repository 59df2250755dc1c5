-- What the rules ask of a part of an expression.
use Rattle.lutree.specs.Tree.{NodeTree, ProgramTree}
use Rattle.lustat_rules.specs.Naming.{PartKnown}
use Rattle.lustat_rules.specs.Parts.{Part}
use Rattle.lustat_rules.specs.Typing.{IsWholeMerge}
use Rattle.lutype.specs.declared.parts.PartRule.{PartRule}
use Rattle.lutype.specs.declared.parts.PartRule.TheVariants.{Known, Whole}

abbrev pub PartKeeps : ProgramTree → NodeTree → PartRule → Part → Type 0
PartKeeps p n Known x = PartKnown p x
PartKeeps p n Whole x = IsWholeMerge n x
