-- What the search for warnings does, step by step.
use Rattle.std.specs.Prelude.{◌≡◌, ℕ, Bool, true, false, List, ◌++◌, map, flat_map, All, AllPairs, Contains}
use denote.Ref.{Bor}
use Rattle.lutree.specs.Tree.{Tree, Trees, EquationTree}
use Rattle.lustat_rules.specs.Naming.{Call, names_in, calls_in, calls_in_all}
use Rattle.lustat_warn.specs.declared.warning.Warning.{Warning}
use Rattle.lustat_warn.specs.Dividing.{is_division, is_dividing_choice, some_in, some_in_all}
use Rattle.lustat_warn.specs.Warnings.{IsBefore}

-- names that are lent
abbrev pub spelled : List (Bor (List ℕ)) → List (List ℕ)
spelled = map (λ x. x.now)

-- the names on the right sides of equations
abbrev pub names_in_equations : List EquationTree → List (List ℕ)
names_in_equations = flat_map (λ (q : EquationTree). names_in q.right)

-- the names that an expression calls
abbrev pub nodes_in : Tree → List (List ℕ)
nodes_in e = map (λ (c : Call). c.node) (calls_in e)

abbrev pub nodes_in_all : Trees → List (List ℕ)
nodes_in_all all = map (λ (c : Call). c.node) (calls_in_all all)

-- what is looked for in an expression: any division, or an `if` with one in a branch
abbrev pub asked : Bool → Tree → Bool
asked true = is_division
asked false = is_dividing_choice

abbrev pub divides_within : Bool → Tree → Bool
divides_within everywhere = some_in (asked everywhere)

abbrev pub some_divides_within : Bool → Trees → Bool
some_divides_within everywhere = some_in_all (asked everywhere)

-- all of these warnings, each once, in order, and nothing else
pub record AreAll (Is : Warning → Type 0) (found : List Warning) : Type 0 where
  pub only : All Is found
  pub all : (w : Warning) → Is w → Contains found w
  pub in_order : AllPairs IsBefore found

-- a list has them behind what it had
pub record Adds (Is : Warning → Type 0) (old new : List Warning) : Type 0 where
  pub added : List Warning
  pub behind : new ≡ old ++ added
  pub all : AreAll Is added
