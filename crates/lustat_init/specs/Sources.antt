-- Where the class of an expression comes from.
use Rattle.std.specs.Prelude.{◌⊎◌, ◌↔◌, ℕ, false, List, [], ◌∷◌, ◌++◌, IsTrue, Contains}
use Rattle.lutree.specs.declared.expr.Prefix.TheVariants.{Data as Data1, Pre}
use Rattle.lutree.specs.declared.expr.Infix.TheVariants.{Data as Data2, Arrow, FollowedBy}
use Rattle.lutree.specs.Tree.{Tree}
use Rattle.lutree.specs.Tree as tree
use Rattle.lustat_rules.specs.Classes.{Classes, is_one}

-- the variables that an expression takes its class from
abbrev pub class_sources : Tree → List (List ℕ)
class_sources (tree.number n) = []
class_sources (tree.truth b) = []
class_sources (tree.label l) = []
class_sources (tree.variable x) = x ∷ []
class_sources (tree.unary (Data1 op) e) = class_sources e
class_sources (tree.unary Pre e) = []
class_sources (tree.binary (Data2 op) d e) = class_sources d ++ class_sources e
class_sources (tree.binary Arrow d e) = class_sources d
class_sources (tree.binary FollowedBy d e) = class_sources d
class_sources (tree.choice c d e) = class_sources c ++ (class_sources d ++ class_sources e)
class_sources (tree.when e c) = class_sources e
class_sources (tree.current x) = []
class_sources (tree.merge c ps all) = []
class_sources (tree.call f all) = []

-- all variables are of class 0
abbrev pub zero_classes : Classes
zero_classes x = false

-- an expression is of class 1 where it is so by itself, or where one of those variables is
abbrev pub SourcesLaw : Type 0
SourcesLaw = (a : Classes) (e : Tree) → IsTrue (is_one a e)
    ↔ (IsTrue (is_one zero_classes e) ⊎ ((x : List ℕ) × Contains (class_sources e) x × IsTrue (a x)))
