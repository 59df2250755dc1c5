-- The faults of a program with their places in the text, and the least of them.
use Rattle.std.specs.Prelude.{◌≡◌, ◌<◌, ◌≤◌, ◌⊎◌, ℕ, Bool, ◌&&◌, ◌||◌, nat_eq, nat_lt, if◌then◌else◌, List}
use Rattle.std.specs.Prelude.{◌++◌, Option, Some, None, IsTrue, slice_get}
use Rattle.lutree.specs.declared.program.DeclaredName.{DeclaredName}
use Rattle.lutree.specs.declared.program.TypeDeclaration.{TypeDeclaration}
use Rattle.lutree.specs.declared.program.Declaration.{Declaration}
use Rattle.lutree.specs.declared.program.Equation.{Equation}
use Rattle.lutree.specs.declared.program.Node.{Node}
use Rattle.lutree.specs.declared.program.Program.{Program}
use Rattle.lutree.specs.Tree.{type_view, declaration_view, equation_view, node_view, program_view}
use Rattle.lustat_rules.specs.Accepted.{Rule, ProgramKeeps, TypeKeeps, NameKeeps, NodeKeeps, DeclarationKeeps}
use Rattle.lustat_rules.specs.Accepted.{EquationKeeps, Keeps}
use Rattle.lustat_rules.specs.declared.error.StatError.{StatError}
use Rattle.lustat_rules.specs.Reported.{rule_of, byte_of, number_of}

-- the variables of a node, in memory: inputs, outputs and locals, each in order of declaration
abbrev pub declared_in : Node → List Declaration
declared_in n = n.inputs ++ (n.outputs ++ n.locals)

-- WHAT IS TOLD FIRST

-- one fault has the lesser byte, or at equal bytes the lesser number
abbrev pub is_before : StatError → StatError → Bool
is_before e f = nat_lt (byte_of e) (byte_of f) || (nat_eq (byte_of e) (byte_of f) && nat_lt (number_of e)
    (number_of f))

-- of two faults the one that is reported
abbrev pub lesser_of : Option StatError → Option StatError → Option StatError
lesser_of None b = b
lesser_of (Some e) None = Some e
lesser_of (Some e) (Some f) = if is_before f e then Some f else Some e

-- a fault is reported no later than another
abbrev pub IsAtMost : StatError → StatError → Type 0
IsAtMost e f = (byte_of e < byte_of f) ⊎ ((byte_of e ≡ byte_of f) × (number_of e ≤ number_of f))

-- A search is right: where it reports nothing, all is kept, and there is no fault. What it reports is a
-- fault, and no other is reported before it.
abbrev pub IsJudged : (StatError → Type 0) → Type 0 → Option StatError → Type 0
IsJudged IsFault Kept None = Kept × ((e : StatError) → IsFault e → ⊥)
IsJudged IsFault Kept (Some e) = IsFault e × ((f : StatError) → IsFault f → IsAtMost e f)

-- a fault at some place of a list
abbrev pub FaultAmong : {A : Type 0} → List A → (ℕ → A → StatError → Type 0) → StatError → Type 0
FaultAmong {A} xs IsFault e = (j : ℕ) × (x : A) × (slice_get xs j ≡ Some x) × IsFault j x e

-- what is kept at each place of a list
abbrev pub KeptAmong : {A : Type 0} → List A → (ℕ → A → Type 0) → Type 0
KeptAmong {A} xs Kept = (j : ℕ) (x : A) → slice_get xs j ≡ Some x → Kept j x

-- FAULTS

-- the rules that a search asks for
module _ (asked : Rule → Bool) where
  -- a refusal reports one of these rules, broken at this byte
  pub record FaultAt (byte : ℕ) (Kept : Rule → Type 0) (e : StatError) : Type 0 where
    pub rule : Rule
    pub reported : rule_of e ≡ Some rule
    pub one : IsTrue (asked rule)
    pub at : byte_of e ≡ byte
    pub broken : ¬ Kept rule

  -- all of these rules are kept
  abbrev pub AllKept : (Rule → Type 0) → Type 0
  AllKept Kept = (rule : Rule) → IsTrue (asked rule) → Kept rule

  -- what is kept at a place in memory, and a fault there
  module _ (p : Program) (main : List ℕ) where
    abbrev pub ProgramKept : Type 0
    ProgramKept = AllKept (ProgramKeeps (program_view p) main)

    abbrev pub ProgramFault : StatError → Type 0
    ProgramFault = FaultAt 0 (ProgramKeeps (program_view p) main)

    abbrev pub TypeKept : ℕ → TypeDeclaration → Type 0
    TypeKept i t = AllKept (λ rule. TypeKeeps (program_view p) main rule i (type_view t))

    abbrev pub TypeFault : ℕ → TypeDeclaration → StatError → Type 0
    TypeFault i t = FaultAt t.byte (λ rule. TypeKeeps (program_view p) main rule i (type_view t))

    abbrev pub NameKept : ℕ → TypeDeclaration → ℕ → DeclaredName → Type 0
    NameKept i t j x = AllKept (λ rule. NameKeeps (program_view p) main rule i (type_view t) j x.name)

    abbrev pub NameFault : ℕ → TypeDeclaration → ℕ → DeclaredName → StatError → Type 0
    NameFault i t j x = FaultAt x.byte (λ rule. NameKeeps (program_view p) main rule i (type_view t) j x.name)

    abbrev pub NodeKept : ℕ → Node → Type 0
    NodeKept i n = AllKept (λ rule. NodeKeeps (program_view p) main rule i (node_view n))

    abbrev pub NodeFault : ℕ → Node → StatError → Type 0
    NodeFault i n = FaultAt n.byte (λ rule. NodeKeeps (program_view p) main rule i (node_view n))

    abbrev pub DeclarationKept : Node → ℕ → Declaration → Type 0
    DeclarationKept n j d =
        AllKept (λ rule. DeclarationKeeps (program_view p) main rule (node_view n) j (declaration_view d))

    abbrev pub DeclarationFault : Node → ℕ → Declaration → StatError → Type 0
    DeclarationFault n j d =
        FaultAt d.byte (λ rule. DeclarationKeeps (program_view p) main rule (node_view n) j
        (declaration_view d))

    abbrev pub EquationKept : Node → ℕ → Equation → Type 0
    EquationKept n j q =
        AllKept (λ rule. EquationKeeps (program_view p) main rule (node_view n) j (equation_view q))

    abbrev pub EquationFault : Node → ℕ → Equation → StatError → Type 0
    EquationFault n j q =
        FaultAt q.byte (λ rule. EquationKeeps (program_view p) main rule (node_view n) j (equation_view q))

    -- what is kept in a type at a place, and a fault in it
    pub record AllOfTypeKept (i : ℕ) (t : TypeDeclaration) : Type 0 where
      pub own : TypeKept i t
      pub names : KeptAmong t.names (NameKept i t)

    abbrev pub InTypeFault : ℕ → TypeDeclaration → StatError → Type 0
    InTypeFault i t e = TypeFault i t e ⊎ FaultAmong t.names (NameFault i t) e

    -- what is kept in a node at a place, and a fault in it
    pub record AllOfNodeKept (i : ℕ) (n : Node) : Type 0 where
      pub node : NodeKept i n
      pub declarations : KeptAmong (declared_in n) (DeclarationKept n)
      pub equations : KeptAmong n.equations (EquationKept n)

    abbrev pub InNodeFault : ℕ → Node → StatError → Type 0
    InNodeFault i n e = NodeFault i n e ⊎ FaultAmong (declared_in n) (DeclarationFault n) e
        ⊎ FaultAmong n.equations (EquationFault n) e

    -- a fault of the program, at its place
    abbrev pub IsFault : StatError → Type 0
    IsFault e = ProgramFault e ⊎ FaultAmong p.types InTypeFault e ⊎ FaultAmong p.nodes InNodeFault e

    -- the program keeps all of these rules
    abbrev pub AreKept : Type 0
    AreKept = (rule : Rule) → IsTrue (asked rule) → Keeps (program_view p) main rule
