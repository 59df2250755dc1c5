-- What holds of resolving the names of a program.
use Rattle.std.specs.Prelude.{◌≡◌, codes, List, [], ◌∷◌, ℕ, Some, None}
use Rattle.lutree.specs.declared.expr.Label.{Label}
use Rattle.lutree.specs.declared.program.Kind.TheVariants as kinds
use Rattle.lutree.specs.Tree.{TypeTree, NodeTree, ProgramTree, program_of}
use Rattle.lusyn_grammar.specs.Printing.{bare}
use Rattle.lusyn_parser.specs.Resolved.{resolved, label_of, kind_of}

-- what is resolved stays as it is
abbrev pub OnceLaw : Type 0
OnceLaw = (p : ProgramTree) → resolved (resolved p) ≡ resolved p

-- nothing but what names stand for is changed: without that it is what it was without that
abbrev pub BareLaw : Type 0
BareLaw = (p : ProgramTree) → bare (resolved p) ≡ bare p

-- a program without types stays as it is
abbrev pub UntypedLaw : Type 0
UntypedLaw = (ns : List NodeTree) → resolved (program_of ns) ≡ program_of ns

-- type t = enum { A, B }; type u = enum { C, A };
abbrev two_types : List TypeTree
two_types =
    record { name = codes "t"; names = codes "A" ∷ codes "B" ∷ [] }
    ∷ record { name = codes "u"; names = codes "C" ∷ codes "A" ∷ [] }
    ∷ []

abbrev at : List ℕ → ℕ → ℕ → Label
at x place number = record { name = x; kind = kinds.Enum place 2; number = number }

-- what names stand for in a worked program
pub record NamesAre : Type 0 where
  pub first : label_of two_types (codes "A") ≡ Some (at (codes "A") 0 0)
  pub second : label_of two_types (codes "B") ≡ Some (at (codes "B") 0 1)
  pub other_type : label_of two_types (codes "C") ≡ Some (at (codes "C") 1 0)
  pub no_name : label_of two_types (codes "t") ≡ None
  pub type_second : kind_of two_types (codes "u") ≡ Some (kinds.Enum 1 2)
  pub no_type : kind_of two_types (codes "A") ≡ None
