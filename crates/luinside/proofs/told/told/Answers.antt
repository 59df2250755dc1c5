use Rattle.std.proofs.Common.{◌≡◌, List, ℕ, Some, map, sym, ap, ◌∙◌, subst, string_bytes}
use Rattle.std.specs.Prelude.{slice_get, option_map, IfSome, String}
use Rattle.std.proofs.lemmas.Option.{slice_get-map}
use Rattle.lutree.specs.declared.program.Equation.{Equation}
use Rattle.lutree.specs.declared.program.Program.{Program}
use Rattle.lutree.specs.Places.{node_places}
use Rattle.lutree.specs.Tree.{node_view, equation_view, program_view, view}
use Rattle.luinside.specs.Signs.{expression_at, StandsAt}
use Rattle.luinside.specs.Told.{IsEquationAt, IsToldAs}
use Rattle.luinside.specs.Words.{told_lines}
use Rattle.luinside.proofs.told.told.Goals as goal

pub returns-in-Some-lines : goal.returns-in-Some-lines
returns-in-Some-lines c =
    let g = c.args.program.now.program in
    let x = c.args.first.now in
    let q = c.in-Some.equation.now in
    let placed = c.in-Some-2.placed in
    let e = view placed.operator.now in
    let same : c.program.result.now ≡ g = c.program.ensures ∙ c.catalog-catalog.ensures.catalog in
    let at = subst (λ (g : Program). IsEquationAt g x.site.node x.site.equation q) same c.in-Some.ensures in
    let operator = subst (λ o. IfSome o (λ y. expression_at (view q.right) c.as_slice.result.now ≡ Some (view y.operator.now))) c.in-Some-2.is c.in_ok-placed.ensures.operator in
    let stands = subst (λ o. IfSome o (λ y. StandsAt c.args.text.now q.byte (equation_view q) c.as_slice.result.now (view y.operator.now) y.byte)) c.in-Some-2.is c.in_ok-placed.ensures.stands in
    let lines = subst (λ o. IfSome o (λ (t : String _).
    string_bytes t ≡ told_lines (program_view c.catalog-catalog.result.now) c.main.result.now c.args.flat.now c.args.inputs.now c.as_slice-2.result.now (equation_view q) e x.found)) c.in-Some-lines.is c.in_ok-lines.ensures in
    record {
      node = node_view at.inside;
      is_node = slice_get-map node_view g.nodes x.site.node ∙ ap (option_map node_view) at.is_inside;
      equation = equation_view q;
      is_equation = slice_get-map equation_view at.inside.equations x.site.equation ∙ ap (option_map equation_view) at.is_equation;
      operator = e;
      is_operator = subst (λ (part : List ℕ). expression_at (view q.right) part ≡ Some e) c.as_slice.ensures operator;
      node_places = node_places at.inside;
      are_places = slice_get-map node_places g.nodes x.site.node ∙ ap (option_map node_places) at.is_inside;
      begin = q.byte;
      begins = slice_get-map (λ (q : Equation). q.byte) at.inside.equations x.site.equation ∙ ap (option_map (λ (q : Equation). q.byte)) at.is_equation;
      stands = subst (λ (part : List ℕ). StandsAt c.args.text.now q.byte (equation_view q) part e placed.byte) c.as_slice.ensures stands;
      lines_are = lines ∙ ap (λ (g : Program). told_lines (program_view g) c.main.result.now c.args.flat.now c.args.inputs.now c.as_slice-2.result.now (equation_view q) e x.found) c.catalog-catalog.ensures.catalog
          ∙ ap (λ (m : List ℕ). told_lines (program_view g) m c.args.flat.now c.args.inputs.now c.as_slice-2.result.now (equation_view q) e x.found) c.main.ensures
          ∙ ap (λ (path : List ℕ). told_lines (program_view g) c.args.program.now.main c.args.flat.now c.args.inputs.now path (equation_view q) e x.found) c.as_slice-2.ensures;
    }
