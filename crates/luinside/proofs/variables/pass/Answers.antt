use Rattle.std.proofs.Common.{◌≡◌, ◌<◌, ◌-◌, ◌∷◌, [], ◌++◌, ℕ, List, length, take, Some, None, sym, ap, ap₂, subst, ◌∙◌}
use Rattle.std.specs.Prelude.{map, option_map, slice_get, slice_index}
use Rattle.std.proofs.lemmas.Option.{slice_get-map, slice_get-get_or, slice_get_past, same_Some, none-some}
use Rattle.lutree.specs.declared.program.Node.{Node}
use Rattle.lutree.specs.Tree.{NodeTree, node_view, program_view}
use Rattle.lusource.specs.Source.{Path}
use Rattle.lucore_laws.specs.Layout.{main_variables}
use Rattle.luinside.specs.declared.way.Level.{Level}
use Rattle.luinside.specs.Names.{steps_of}
use Rattle.luinside.specs.Passing.{prefix_at, named_from}
use Rattle.luinside.proofs.variables.pass.Goals as goal

there : (nodes : List Node) (place : ℕ) (xs : List Node) (node : Node) → xs ≡ nodes → slice_get xs place ≡ Some node → slice_get (map node_view nodes) place ≡ Some (node_view node)
there nodes place xs node same here = ap (λ ns. slice_get (map node_view ns) place) (sym same) ∙ slice_get-map node_view xs place ∙ ap (option_map node_view) here

pub push_variables-requires : goal.push_variables-requires
push_variables-requires c =
    let xs = c.as_slice-2.result.now in
    let place = c.args.instance.now.node in
    let found = c.in-Some.ensures.lookup in
    let here = slice_get-get_or xs place c.in-Some.node.now found.3.0 ∙ ap Some (sym found.1) in
    c.requires (node_view c.in-Some.node.now) (there c.args.program.now.nodes place xs c.in-Some.node.now c.as_slice-2.ensures here)

pub returns-in_ok-push : goal.returns-in_ok-push
returns-in_ok-push c =
    let x = c.args.instance.now in
    let xs = c.as_slice-2.result.now in
    let found = c.in-Some.ensures.lookup in
    let here = slice_get-get_or xs x.node c.in-Some.node.now found.3.0 ∙ ap Some (sym found.1) in
    let at = there c.args.program.now.nodes x.node xs c.in-Some.node.now c.as_slice-2.ensures here in
    let same = λ (node : NodeTree) (e : slice_get (program_view c.args.program.now).nodes x.node ≡ Some node). same_Some (node_view c.in-Some.node.now) node (sym at ∙ e) in
    let path = c.as_slice.ensures in
    let way = c.deref.ensures.value in
    let last = λ (steps : List (List ℕ)). let l : Level = record { prefix = c.in_ok-prefix.prefix; steps = steps } in l ∷ [] in
    record {
      prefix = c.in_ok-prefix.prefix;
      first = λ e. c.in_ok-prefix.ensures.first (ap length path ∙ e);
      later = λ lt. c.in_ok-prefix.ensures.later (subst (λ (q : Path). 0 < length q) (sym path) lt)
          ∙ ap₂ (λ (w : List Level) (q : Path). prefix_at (slice_get w (length q - 1)) (slice_index q (length q - 1))) way path;
      variables = λ node e.
          c.in_ok-push_variables.ensures ∙ ap (λ text. c.args.found.now.items ++ named_from text x.path x.start (main_variables (node_view c.in-Some.node.now))) c.as_str.ensures
          ∙ ap (λ (n : NodeTree). c.args.found.now.items ++ named_from c.in_ok-prefix.prefix x.path x.start (main_variables n)) (same node e);
      way_on = λ node e.
          c.in_ok-push.ensures.items ∙ ap (λ (w : List Level). w ++ last c.in_ok-steps.steps) (c.truncate.ensures.items ∙ ap (λ (q : Path). take (length q) c.args.way.now.items) c.as_slice-in-Some.ensures)
          ∙ ap (λ steps. take (length x.path) c.args.way.now.items ++ last steps) (c.in_ok-steps.ensures ∙ ap steps_of (same node e));
    }

pub returns-in_default : goal.returns-in_default
returns-in_default c =
    let x = c.args.instance.now in
    let xs = c.as_slice-2.result.now in
    let none = slice_get_past xs x.node c.in_default.ensures.lookup.3 in
    let nowhere : slice_get (program_view c.args.program.now).nodes x.node ≡ None =
    ap (λ ns. slice_get (map node_view ns) x.node) (sym c.as_slice-2.ensures) ∙ slice_get-map node_view xs x.node ∙ ap (option_map node_view) none in
    let never : (node : NodeTree) → slice_get (program_view c.args.program.now).nodes x.node ≡ Some node → ⊥ = λ node e. none-some node (sym nowhere ∙ e) in
    let path = c.as_slice.ensures in
    let way = c.deref.ensures.value in
    record {
      prefix = c.in_ok-prefix.prefix;
      first = λ e. c.in_ok-prefix.ensures.first (ap length path ∙ e);
      later = λ lt. c.in_ok-prefix.ensures.later (subst (λ (q : Path). 0 < length q) (sym path) lt)
          ∙ ap₂ (λ (w : List Level) (q : Path). prefix_at (slice_get w (length q - 1)) (slice_index q (length q - 1))) way path;
      variables = λ node e. absurd (never node e);
      way_on = λ node e. absurd (never node e);
    }
