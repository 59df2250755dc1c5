use Rattle.std.proofs.Common.{◌≡◌, ◌∙◌, ◌+◌, ap, sym, map, ℕ, List, Some, subst, length, take}
use Rattle.std.specs.Prelude.{slice_get}
use Rattle.lutree.specs.declared.program.Node.{Node}
use Rattle.lutree.specs.Tree.{node_view, equation_view}
use Rattle.lustat_rules.specs.Scope.{lefts_of}
use Rattle.lutype.specs.Starts.{IsAnew}
use Rattle.lutype.proofs.Defining.{anew_in}
use Rattle.lutype.proofs.defined.defines_anew.Goals as goal

pub returns : goal.returns
returns c =
    let n = c.args.scope.now in
    let i = c.args.place in
    let row = lefts_of (map equation_view c.args.definitions.now.equations) in
    let law = anew_in n i c.args.equation.now row c.start-start.result c.requires.at
    (ap (λ (m : Node). lefts_of (map equation_view m.equations)) c.requires.same)
    (c.start-start.ensures ∙ ap (λ (m : Node). length (lefts_of (take i (map equation_view m.equations)))) c.requires.same) in
    let All : List (List ℕ) → Type 0 = λ left. (j : ℕ) (x : List ℕ) → slice_get left j ≡ Some x → IsAnew (node_view n) row (c.start-start.result + j) x in (
      λ h. law.0 (subst All c.as_slice.ensures (c.is_anew.ensures.0 h)),
      λ d. c.is_anew.ensures.1 (subst All (sym c.as_slice.ensures) (law.1 d)),
    )
