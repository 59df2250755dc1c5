-- Which programs the static checks accept, and what a refusal says.
use Rattle.std.specs.Prelude.{◌≡◌, ◌<◌, ◌/◌, ℕ, List, Some, slice_get}
use Rattle.lutree.specs.Tree.{TypeTree, DeclarationTree, EquationTree, NodeTree, ProgramTree}
use Rattle.lustat_rules.specs.Scope.{declarations_of}
use Rattle.lustat_rules.specs.Naming.{IsNewType, IsNewLabel, IsNewNode, IsNewVariable, NamesKnown}
use Rattle.lustat_rules.specs.Naming.{DeclarationKnown, CallsKnown, AritiesRight, IsDefined, DefinesAnew}
use Rattle.lustat_rules.specs.Naming.{IsNotRecursive, HasMain}
use Rattle.lustat_rules.specs.Typing.{MergesWhole, IsTyped}
use Rattle.lustat_rules.specs.Clocks.{ClocksAgree, IsClock, ClocksAreTyped, IsUnclocked, CallsAreUnclocked}
use Rattle.lustat_rules.specs.Clocks.{IsVisible}
use Rattle.lustat_rules.specs.Classes.{HasClasses, CurrentsStart}

-- the rules by the names of their refusals
pub data Rule : Type 0 where
  duplicate_name : Rule
  unknown_name : Rule
  unknown_node : Rule
  type_mismatch : Rule
  wrong_arity : Rule
  undefined : Rule
  defined_twice : Rule
  recursive_node : Rule
  no_main : Rule
  bad_merge : Rule
  clock_mismatch : Rule
  not_a_clock : Rule
  clocked_parameter : Rule
  hidden_clock : Rule
  maybe_nil : Rule
  current_may_be_nil : Rule

abbrev pub number : Rule → ℕ
number duplicate_name = 10
number unknown_name = 11
number unknown_node = 12
number type_mismatch = 13
number wrong_arity = 14
number undefined = 15
number defined_twice = 16
number recursive_node = 17
number no_main = 18
number bad_merge = 19
number clock_mismatch = 20
number not_a_clock = 21
number clocked_parameter = 22
number hidden_clock = 23
number maybe_nil = 30
number current_may_be_nil = 31

-- the first digit of a number is that of a stage: names and types, clocks, initialisation
abbrev pub stage : Rule → ℕ
stage rule = number rule / 10

-- WHERE A RULE IS KEPT

module _ (p : ProgramTree) (main : List ℕ) where
  -- what a rule says of the program as a whole
  abbrev pub ProgramKeeps : Rule → Type 0
  ProgramKeeps no_main = HasMain p main
  ProgramKeeps rule = Unit {0}

  -- what it says of the type at a place
  abbrev pub TypeKeeps : Rule → ℕ → TypeTree → Type 0
  TypeKeeps duplicate_name i t = IsNewType p i t
  TypeKeeps rule i t = Unit {0}

  -- what it says of the name at a place of the type at a place
  abbrev pub NameKeeps : Rule → ℕ → TypeTree → ℕ → List ℕ → Type 0
  NameKeeps duplicate_name i t j x = IsNewLabel p i t j x
  NameKeeps rule i t j x = Unit {0}

  -- what it says of the node at a place
  abbrev pub NodeKeeps : Rule → ℕ → NodeTree → Type 0
  NodeKeeps duplicate_name i n = IsNewNode p i n
  NodeKeeps recursive_node i n = IsNotRecursive p n
  NodeKeeps maybe_nil i n = HasClasses n
  NodeKeeps rule i n = Unit {0}

  -- what it says of the declaration at a place of a node
  abbrev pub DeclarationKeeps : Rule → NodeTree → ℕ → DeclarationTree → Type 0
  DeclarationKeeps duplicate_name n i d = IsNewVariable p n i d
  DeclarationKeeps unknown_name n i d = DeclarationKnown p n d
  DeclarationKeeps undefined n i d = IsDefined n d
  DeclarationKeeps not_a_clock n i d = IsClock n d
  DeclarationKeeps clocked_parameter n i d = IsUnclocked main n d
  DeclarationKeeps hidden_clock n i d = IsVisible main n d
  DeclarationKeeps rule n i d = Unit {0}

  -- what it says of the equation at a place of a node
  abbrev pub EquationKeeps : Rule → NodeTree → ℕ → EquationTree → Type 0
  EquationKeeps unknown_name n i q = NamesKnown p n q
  EquationKeeps unknown_node n i q = CallsKnown p q
  EquationKeeps type_mismatch n i q = IsTyped p n q
  EquationKeeps wrong_arity n i q = AritiesRight p q
  EquationKeeps defined_twice n i q = DefinesAnew n i q
  EquationKeeps bad_merge n i q = MergesWhole n q
  EquationKeeps clock_mismatch n i q = ClocksAgree n q
  EquationKeeps not_a_clock n i q = ClocksAreTyped n q
  EquationKeeps clocked_parameter n i q = CallsAreUnclocked p main q
  EquationKeeps current_may_be_nil n i q = CurrentsStart n q
  EquationKeeps rule n i q = Unit {0}

  -- the program keeps a rule everywhere
  pub record Keeps (rule : Rule) : Type 0 where
    pub program : ProgramKeeps rule
    pub types : (i : ℕ) (t : TypeTree) → slice_get p.types i ≡ Some t → TypeKeeps rule i t
    pub names : (i j : ℕ) (t : TypeTree) (x : List ℕ) → slice_get p.types i ≡ Some t
        → slice_get t.names j ≡ Some x → NameKeeps rule i t j x
    pub nodes : (i : ℕ) (n : NodeTree) → slice_get p.nodes i ≡ Some n → NodeKeeps rule i n
    pub declarations : (i j : ℕ) (n : NodeTree) (d : DeclarationTree) → slice_get p.nodes i ≡ Some n
        → slice_get (declarations_of n) j ≡ Some d → DeclarationKeeps rule n j d
    pub equations : (i j : ℕ) (n : NodeTree) (q : EquationTree) → slice_get p.nodes i ≡ Some n
        → slice_get n.equations j ≡ Some q → EquationKeeps rule n j q

  -- the program breaks a rule somewhere
  pub data Breaks (rule : Rule) : Type 0 where
    program : (¬ ProgramKeeps rule) → Breaks rule
    enumeration : (i : ℕ) (t : TypeTree) → slice_get p.types i ≡ Some t → (¬ TypeKeeps rule i t) → Breaks rule
    name : (i j : ℕ) (t : TypeTree) (x : List ℕ) → slice_get p.types i ≡ Some t → slice_get t.names j ≡ Some x
        → (¬ NameKeeps rule i t j x) → Breaks rule
    node : (i : ℕ) (n : NodeTree) → slice_get p.nodes i ≡ Some n → (¬ NodeKeeps rule i n) → Breaks rule
    declaration : (i j : ℕ) (n : NodeTree) (d : DeclarationTree) → slice_get p.nodes i ≡ Some n
        → slice_get (declarations_of n) j ≡ Some d → (¬ DeclarationKeeps rule n j d) → Breaks rule
    equation : (i j : ℕ) (n : NodeTree) (q : EquationTree) → slice_get p.nodes i ≡ Some n
        → slice_get n.equations j ≡ Some q → (¬ EquationKeeps rule n j q) → Breaks rule

  -- all rules of a stage are kept
  abbrev pub Passes : ℕ → Type 0
  Passes s = (rule : Rule) → stage rule ≡ s → Keeps rule

  -- the program keeps the rules of names and types
  abbrev pub IsNamed : Type 0
  IsNamed = Passes 1

  -- the program keeps all rules
  abbrev pub IsAccepted : Type 0
  IsAccepted = (rule : Rule) → Keeps rule

  -- a refusal reports a rule that is broken, where all rules of the stages before it are kept
  pub record IsRefused (rule : Rule) : Type 0 where
    pub broken : Breaks rule
    pub before : (other : Rule) → stage other < stage rule → Keeps other

-- a program that breaks a rule doesn't keep it
abbrev pub BreaksIsNotKept : Type 0
BreaksIsNotKept = (p : ProgramTree) (main : List ℕ) (rule : Rule) → Breaks p main rule → Keeps p main rule → ⊥
