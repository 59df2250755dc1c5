-- What the rules ask of a single call.
use Rattle.std.specs.Prelude.{◌≡◌, ℕ, Option, IfSome, IsSome, length}
use Rattle.lutree.specs.Tree.{NodeTree, ProgramTree}
use Rattle.lustat_rules.specs.Scope.{node_called}
use Rattle.lustat_rules.specs.Naming.{Call}
use Rattle.lutype.specs.declared.calls.CallRule.{CallRule}
use Rattle.lutype.specs.declared.calls.CallRule.TheVariants.{Known, Arguments, OneOutput}

-- what a rule asks of a called node, if there is one, and the number of arguments
abbrev pub AsksOf : CallRule → ℕ → Option NodeTree → Type 0
AsksOf Known count o = IsSome o
AsksOf Arguments count o = IfSome o (λ n. count ≡ length n.inputs)
AsksOf OneOutput count o = IfSome o (λ n. length n.outputs ≡ 1)

abbrev pub CallKeeps : ProgramTree → CallRule → Call → Type 0
CallKeeps p rule c = AsksOf rule c.arguments (node_called p c.node)
