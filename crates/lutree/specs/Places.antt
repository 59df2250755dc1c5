-- Where the parts of a program in memory stand in its text.
use Rattle.std.specs.Prelude.{ℕ, List, map}
use Rattle.lutree.specs.declared.program.DeclaredName.{DeclaredName}
use Rattle.lutree.specs.declared.program.TypeDeclaration.{TypeDeclaration}
use Rattle.lutree.specs.declared.program.Declaration.{Declaration}
use Rattle.lutree.specs.declared.program.Equation.{Equation}
use Rattle.lutree.specs.declared.program.Node.{Node}
use Rattle.lutree.specs.declared.program.Program.{Program}

-- the places of a type's name and of the names of its enumeration, each counted in bytes from 0
pub record TypePlaces : Type 0 where
  pub name : ℕ
  pub names : List ℕ

-- the places of a node's name, of its declared names and of its equations, each counted in bytes from 0
pub record NodePlaces : Type 0 where
  pub name : ℕ
  pub inputs : List ℕ
  pub outputs : List ℕ
  pub locals : List ℕ
  pub equations : List ℕ

-- those of a program
pub record ProgramPlaces : Type 0 where
  pub types : List TypePlaces
  pub nodes : List NodePlaces

abbrev pub name_places : List DeclaredName → List ℕ
name_places = map (λ x. x.byte)

abbrev pub type_places : TypeDeclaration → TypePlaces
type_places t = record { name = t.byte; names = name_places t.names }

abbrev pub declaration_places : List Declaration → List ℕ
declaration_places = map (λ d. d.byte)

abbrev pub equation_places : List Equation → List ℕ
equation_places = map (λ e. e.byte)

abbrev pub node_places : Node → NodePlaces
node_places n = record {
  name = n.byte;
  inputs = declaration_places n.inputs;
  outputs = declaration_places n.outputs;
  locals = declaration_places n.locals;
  equations = equation_places n.equations;
}

-- the places that a program in memory keeps
abbrev pub places_view : Program → ProgramPlaces
places_view p = record { types = map type_places p.types; nodes = map node_places p.nodes }
