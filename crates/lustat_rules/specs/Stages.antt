-- What a stage of the static checks says of types and of nodes, and of their places.
use Rattle.std.specs.Prelude.{◌⊎◌, ℕ}
use Rattle.lutree.specs.declared.program.DeclaredName.{DeclaredName}
use Rattle.lutree.specs.declared.program.TypeDeclaration.{TypeDeclaration}
use Rattle.lutree.specs.declared.program.Declaration.{Declaration}
use Rattle.lutree.specs.declared.program.Equation.{Equation}
use Rattle.lutree.specs.declared.program.Node.{Node}
use Rattle.lutree.specs.declared.program.Program.{Program}
use Rattle.lustat_rules.specs.declared.error.StatError.{StatError}
use Rattle.lustat_rules.specs.Faults.{declared_in, FaultAmong, KeptAmong}

-- a fault of a type: its own, or one of a name of it
abbrev pub BrokenInType : (ℕ → TypeDeclaration → StatError → Type 0) → (ℕ → TypeDeclaration → ℕ → DeclaredName
    → StatError → Type 0) → ℕ → TypeDeclaration → StatError → Type 0
BrokenInType OfType OfName i t e = OfType i t e ⊎ FaultAmong t.names (OfName i t) e

-- what is kept in a type: by itself and by its names
abbrev pub KeptInType : (ℕ → TypeDeclaration → Type 0) → (ℕ → TypeDeclaration → ℕ → DeclaredName → Type 0) → ℕ
    → TypeDeclaration → Type 0
KeptInType OfType OfName i t = OfType i t × KeptAmong t.names (OfName i t)

-- a fault of a node: its own, one of a declaration, or one of an equation
abbrev pub BrokenInside : (ℕ → Node → StatError → Type 0) → (Node → ℕ → Declaration → StatError → Type 0)
    → (Node → ℕ → Equation → StatError → Type 0)
    → ℕ → Node → StatError → Type 0
BrokenInside OfNode OfDeclaration OfEquation i n e =
    OfNode i n e ⊎ (FaultAmong (declared_in n) (OfDeclaration n) e ⊎ FaultAmong n.equations (OfEquation n) e)

-- what is kept in a node: by itself, by its declarations and by its equations
abbrev pub KeptInside : (ℕ → Node → Type 0) → (Node → ℕ → Declaration → Type 0)
    → (Node → ℕ → Equation → Type 0) → ℕ → Node → Type 0
KeptInside OfNode OfDeclaration OfEquation i n =
    OfNode i n × (KeptAmong (declared_in n) (OfDeclaration n) × KeptAmong n.equations (OfEquation n))

-- a fault at some place of a program, and what is kept at all of them
abbrev pub BrokenIn : Program → (ℕ → TypeDeclaration → StatError → Type 0) → (ℕ → Node → StatError → Type 0)
    → StatError → Type 0
BrokenIn p InType InNode e = FaultAmong p.types InType e ⊎ FaultAmong p.nodes InNode e

abbrev pub KeptIn : Program → (ℕ → TypeDeclaration → Type 0) → (ℕ → Node → Type 0) → Type 0
KeptIn p InType InNode = KeptAmong p.types InType × KeptAmong p.nodes InNode
