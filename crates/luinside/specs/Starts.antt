-- Where the instances of a node's calls begin in its list, by the sizes of all nodes. The list has the
-- node's variables first, then equation by equation the inner flows. Those of a call are the list of its
-- node, behind the flows of its arguments.
use Rattle.std.specs.Prelude.{◌≡◌, ◌≤◌, ℕ, ◌+◌, ◌-◌, List, [], ◌∷◌, ◌++◌, length, Option, Some, None}
use Rattle.std.specs.Prelude.{slice_get, slice_index}
use Rattle.lubase.specs.Limits.{most_flows}
use Rattle.lutree.specs.declared.expr.Infix.{Infix}
use Rattle.lutree.specs.declared.expr.Infix.TheVariants.{Data, Arrow, FollowedBy}
use Rattle.lutree.specs.Tree.{Tree, Trees, EquationTree, NodeTree, ProgramTree}
use Rattle.lutree.specs.Tree as tree
use Rattle.lusource.specs.Names.{variables_of}
use Rattle.lustat_rules.specs.Naming.{node_place}
use Rattle.lucore_laws.specs.Sizes.{root_size, made_size, all_size, node_size}
use Rattle.luinside.specs.declared.starts.CallStart.{CallStart}

-- how many flows an operator between two operands makes: `a fby b` is `a -> pre b`
abbrev pub own_size : Infix → ℕ
own_size (Data op) = 1
own_size Arrow = 1
own_size FollowedBy = 2

-- given the sizes of all nodes
module _ (p : ProgramTree) (sizes : List ℕ) where
  abbrev mutual
    -- the calls of an expression, in order of their numbers, where its first flow stands at place s
    pub starts : Tree → ℕ → List CallStart
    starts (tree.number n) s = []
    starts (tree.truth b) s = []
    starts (tree.label x) s = []
    starts (tree.variable x) s = []
    starts (tree.unary op a) s = starts a s
    starts (tree.binary op a b) s = starts a s ++ starts b (s + made_size p sizes a)
    starts (tree.choice c a b) s =
        starts c s ++ (starts a (s + made_size p sizes c)
        ++ starts b (s + made_size p sizes c + made_size p sizes a))
    starts (tree.when a c) s = starts a s
    starts (tree.current x) s = []
    starts (tree.merge c ps all) s = all_starts all s
    starts (tree.call f all) s =
        all_starts all s ++ record { node = node_place p f; at = s + all_size p sizes all } ∷ []

    pub all_starts : Trees → ℕ → List CallStart
    all_starts tree.none s = []
    all_starts (tree.more a all) s = starts a s ++ all_starts all (s + made_size p sizes a)

  -- those of some equations, of which the first inner flow stands at place s
  abbrev pub equation_starts : List EquationTree → ℕ → List CallStart
  equation_starts [] s = []
  equation_starts (q ∷ qs) s =
      starts q.right s ++ equation_starts qs (s + (made_size p sizes q.right - root_size q.right))

  -- the calls of a node
  abbrev pub node_starts : NodeTree → List CallStart
  node_starts node = equation_starts node.equations (length (variables_of node))

  abbrev pub starts_in : Option NodeTree → List CallStart
  starts_in None = []
  starts_in (Some node) = node_starts node

-- where the count of a node is at most 4,096, its list is no longer, by the counts of the nodes that it calls
abbrev pub AreBounds : ProgramTree → List ℕ → Type 0
AreBounds p counts = (i : ℕ) (node : NodeTree) → slice_get p.nodes i ≡ Some node
    → slice_index counts i ≤ most_flows → node_size p counts node ≤ slice_index counts i
