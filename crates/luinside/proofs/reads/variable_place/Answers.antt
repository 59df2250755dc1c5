use Rattle.std.proofs.Common.{Bor, ℕ, Option, length, map, sym, ap, ◌∙◌}
use Rattle.std.specs.Prelude.{unwrap_or}
use Rattle.std.proofs.lemmas.List.{length-map}
use Rattle.lutree.specs.declared.program.Declaration.{Declaration}
use Rattle.lutree.specs.Tree.{node_view}
use Rattle.lusource.specs.Names.{variables_of}
use Rattle.luinside.proofs.Sought.{place_there, declared_long}
use Rattle.luinside.proofs.reads.variable_place.Goals as goal

pub returns-in-Some : goal.returns-in-Some
returns-in-Some c =
    let ys = variables_of (node_view c.args.scope.now) in
    sym (place_there ys c.args.name.now ∙ ap (λ (o : Option ℕ). unwrap_or o (length ys)) (sym c.place.ensures ∙ c.in-Some.is))

pub returns-in-None : goal.returns-in-None
returns-in-None c =
    let ys = variables_of (node_view c.args.scope.now) in
    let items = c.declarations.result.now in
    sym (length-map items (λ (d : Bor Declaration). d.now)) ∙ declared_long c.args.scope.now (map (λ (d : Bor Declaration). d.now) items) c.declarations.ensures
    ∙ sym (place_there ys c.args.name.now ∙ ap (λ (o : Option ℕ). unwrap_or o (length ys)) (sym c.place.ensures ∙ c.in-None.is))
