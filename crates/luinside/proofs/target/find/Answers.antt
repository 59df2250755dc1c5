use Rattle.std.specs.Prelude.{◌≡◌, ◌<◌, ◌≤◌, ℕ, List, length, map, slice_get, option_map, Some}
use Rattle.std.proofs.Common.{Bor, arith, get_or, subst, sym, ap, refl, ◌∙◌, inl, inr}
use Rattle.std.proofs.lemmas.List.{length-map}
use Rattle.std.proofs.lemmas.Option.{slice_get-map, slice_get_read}
use Rattle.lutree.specs.declared.program.Declaration.{Declaration}
use Rattle.lutree.specs.declared.program.Node.{Node}
use Rattle.lutree.specs.Tree.{node_view, declaration_view, program_view}
use Rattle.luinside.specs.Standing.{VariableAt, FindsRoot}
use Rattle.luinside.proofs.Sought.{declared_name}
use Rattle.luinside.proofs.target.find.Goals as goal

-- the declaration at a place
there : (items : List (Bor Declaration)) (i : ℕ) (d : Bor Declaration) → i < length items → d ≡ get_or items i d → slice_get (map (λ (d : Bor Declaration). d.now) items) i ≡ Some d.now
there items i d lt is = slice_get-map (λ (d : Bor Declaration). d.now) items i ∙ ap (option_map (λ (d : Bor Declaration). d.now)) (slice_get_read items (length items) i d refl lt is)

pub returns-in-Some-2 : goal.returns-in-Some-2
returns-in-Some-2 c =
    let scope = c.args.scope.now in
    let items = c.declarations-variables.result.now in
    let target = c.args.search.now.target in
    let d = c.index-variables-search.result in
    let lt : target < length items = omega (arith, c.if-search-variables.false) in
    let name = c.as_str-name.result.now in
    let named = declared_name scope (map (λ (d : Bor Declaration). d.now) items) target d.now c.declarations-variables.ensures (there items target d lt c.index-variables-search.is) ∙ ap (λ (d : Bor Declaration). Some d.now.name) c.index-variables-search.is ∙ ap Some (sym c.as_str-name.ensures) in
    let long = length-map scope.inputs declaration_view in
    let inputs = ap length (c.as_slice.ensures ∙ ap (λ (n : Node). n.inputs) c.node.ensures) in
    let out : length (node_view scope).inputs ≤ target = omega (arith, long, inputs, c.if-search-as_slice.false) in
    let variable : VariableAt (node_view scope) target name = record { named = named; no_input = out } in
    (name, variable, subst (FindsRoot (program_view c.args.search.now.catalog.now) c.args.search.now.counts.now (node_view scope) name c.root_at.new.part.items) c.in-Some-2.is c.in_ok-own-2.ensures)

pub returns-in-None-2 : goal.returns-in-None-2
returns-in-None-2 c =
    let scope = c.args.scope.now in
    let items = c.declarations-variables.result.now in
    let target = c.args.search.now.target in
    let d = c.index-variables-search.result in
    let lt : target < length items = omega (arith, c.if-search-variables.false) in
    let name = c.as_str-name.result.now in
    let named = declared_name scope (map (λ (d : Bor Declaration). d.now) items) target d.now c.declarations-variables.ensures (there items target d lt c.index-variables-search.is) ∙ ap (λ (d : Bor Declaration). Some d.now.name) c.index-variables-search.is ∙ ap Some (sym c.as_str-name.ensures) in
    let long = length-map scope.inputs declaration_view in
    let inputs = ap length (c.as_slice.ensures ∙ ap (λ (n : Node). n.inputs) c.node.ensures) in
    let out : length (node_view scope).inputs ≤ target = omega (arith, long, inputs, c.if-search-as_slice.false) in
    let variable : VariableAt (node_view scope) target name = record { named = named; no_input = out } in
    inr (inl (name, variable, subst (FindsRoot (program_view c.args.search.now.catalog.now) c.args.search.now.counts.now (node_view scope) name c.root_at.new.part.items) c.in-None-2.is c.in_ok-own-2.ensures))
