-- Two variables that are copies of each other: why the agreement asks for an order of rank.
use Rattle.std.specs.Prelude.{[], ◌∷◌, codes}
use Rattle.lutree.specs.Tree.{NodeTree, program_of}
use Rattle.lutree.specs.Tree as tree
use Rattle.luflow.specs.declared.form.Form.TheVariants.{Copied}
use Rattle.luflow.specs.declared.variable.Role.TheVariants as role
use Rattle.luflow.specs.Program.{FlatView}
use Rattle.luflow.specs.Vectors as flat
use Rattle.lusource.specs.Agreement.{Agrees}
use Rattle.lucore_laws.specs.Layout.{IsLaidOut}
use Rattle.lucore_laws.specs.ListVectors.{int_variable, defines}

-- node main() returns (y: int); var z: int; let y = z; z = y; tel
abbrev pub loop : NodeTree
loop =
    record {
      name = codes "main";
      inputs = [];
      outputs = int_variable (codes "y") ∷ [];
      locals = int_variable (codes "z") ∷ [];
      equations = defines (codes "y") (tree.variable (codes "z")) ∷ defines (codes "z")
          (tree.variable (codes "y")) ∷ [];
    }

-- both are copies; there is no order in which what is read comes first
abbrev pub loop_flat : FlatView
loop_flat =
    record {
      types = [];
      flows = flat.int_flow (Copied 1) ∷ flat.int_flow (Copied 0) ∷ [];
      order = [];
      owners = 0 ∷ 1 ∷ [];
      variables = flat.int_variable role.Output (codes "y") ∷ flat.int_variable role.Local (codes "z") ∷ [];
    }

-- The source asks only that both are the same stream, even one that is absent where the base clock is true.
-- The flat program has no such solution.
pub record LoopLaw : Type 0 where
  pub laid_out : IsLaidOut (program_of (loop ∷ [])) (codes "main") loop_flat
  pub differ : ¬ Agrees (program_of (loop ∷ [])) (codes "main") flat.three loop_flat
