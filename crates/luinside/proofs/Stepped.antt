-- What a step in the list of one node finds.
use Rattle.std.proofs.Common.{◌≡◌, ℕ, inl, inr, List, [], ◌∷◌, Some, None, sym, ap, ◌∙◌, subst}
use Rattle.std.specs.Prelude.{slice_get, option_map, map}
use Rattle.std.proofs.lemmas.Option.{slice_get-map}
use Rattle.lutree.specs.declared.program.Node.{Node}
use Rattle.lutree.specs.Tree.{Tree, NodeTree, ProgramTree, view, node_view}
use Rattle.luinside.specs.declared.passing.Own.{Own}
use Rattle.lueval.specs.declared.faults.Reads.{Reads}
use Rattle.luinside.specs.declared.step.Inside.{Inside}
use Rattle.luinside.specs.declared.step.Step.{Step}
use Rattle.luinside.specs.declared.step.Step.TheVariants as steps
use Rattle.luinside.specs.Owns.{InnerAt, RootAt}
use Rattle.luinside.specs.Reads.{expression_reads}
use Rattle.luinside.specs.Steps.{IsInside, IsRoot, StepIs}

module _ (p : ProgramTree) (s : List ℕ) (node : NodeTree) (target : ℕ) where
  abbrev pub IsFound : List ℕ → Reads → Step → Type 0
  IsFound numbers r found = (n : ℕ) (rest : List ℕ) → numbers ≡ n ∷ rest → found ≡ steps.Operator (record { equation = n; part = rest; reads = r })

  pub root_operator : (numbers : List ℕ) (e : Tree) (b : ℕ) (r : Reads) (found : Step) → IsRoot p s node target numbers e b → expression_reads p s node e b ≡ Some r → IsFound numbers r found → StepIs p s node target found
  root_operator numbers e b r found (name, v, root) reads is =
      subst (StepIs p s node target) (sym (is root.number [] root.numbers_are))
      (record { expression = e; behind = b; before = 0; reads_are = reads; stands = inl (name, v, subst (λ l. RootAt p s node name l e b) root.numbers_are root) })

  pub inner_operator : (numbers : List ℕ) (e : Tree) (b c : ℕ) (r : Reads) (found : Step) → InnerAt p s node target numbers e b c → expression_reads p s node e b ≡ Some r → IsFound numbers r found → StepIs p s node target found
  inner_operator numbers e b c r found inner reads is =
      subst (StepIs p s node target) (sym (is inner.number inner.rest inner.numbers_are))
      (record { expression = e; behind = b; before = c; reads_are = reads; stands = inr (subst (λ l. InnerAt p s node target l e b c) inner.numbers_are inner) })

  pub root_other : (numbers : List ℕ) (e : Tree) (b : ℕ) → IsRoot p s node target numbers e b → expression_reads p s node e b ≡ None → StepIs p s node target steps.Nothing
  root_other numbers e b root none = inr (numbers, e, b, 0, record { reads_nothing = none; stands = inl root })

  pub inner_other : (numbers : List ℕ) (x : Own) → InnerAt p s node target numbers (view x.expression.now) x.here.place x.here.calls → expression_reads p s node (view x.expression.now) x.here.place ≡ None → IsInside p x None
      → StepIs p s node target steps.Nothing
  inner_other numbers x inner none no_call = inr (numbers, view x.expression.now, x.here.place, x.here.calls, record { reads_nothing = none; stands = inr (inner, no_call) })

  pub inner_call : (numbers : List ℕ) (x : Own) (inside : Inside) → InnerAt p s node target numbers (view x.expression.now) x.here.place x.here.calls → IsInside p x (Some inside) → StepIs p s node target (steps.Inside inside)
  inner_call numbers x inside inner is = record {
    numbers = numbers;
    expression = view x.expression.now;
    inner = subst (λ c. InnerAt p s node target numbers (view x.expression.now) inside.at c) (sym is.2) (subst (λ b. InnerAt p s node target numbers (view x.expression.now) b x.here.calls) (sym is.1) inner);
    called = is.0;
  }

-- a node of a program in memory
pub node_at : (nodes xs : List Node) (i : ℕ) (n : Node) → xs ≡ nodes → slice_get xs i ≡ Some n → slice_get (map node_view nodes) i ≡ Some (node_view n)
node_at nodes xs i n same here = ap (λ ns. slice_get (map node_view ns) i) (sym same) ∙ slice_get-map node_view xs i ∙ ap (option_map node_view) here
