use Rattle.std.proofs.Common.{ℕ, Option, length, sym, ap, ◌∙◌}
use Rattle.std.specs.Prelude.{unwrap_or}
use Rattle.lutree.specs.Tree.{node_view}
use Rattle.lusource.specs.Names.{variables_of}
use Rattle.lucore_build.proofs.Named.{place_there}
use Rattle.lucore_build.proofs.context.variable_place.Goals as goal

pub returns : goal.returns
returns c =
    let ys = variables_of (node_view c.args.scope.now) in
    c.place_or_end.ensures ∙ ap (λ (o : Option ℕ). unwrap_or o (length ys)) c.place.ensures ∙ sym (place_there ys c.args.name.now)
