use Rattle.std.proofs.Common.{ℕ, Option, length, sym, ap, ◌∙◌}
use Rattle.std.specs.Prelude.{unwrap_or}
use Rattle.lutree.specs.Tree.{node_view}
use Rattle.lusource.specs.Names.{variables_of}
use Rattle.lucore_build.proofs.Named.{long}
use Rattle.lucore_build.proofs.context.place_or_end.Goals as goal

pub returns-in-None : goal.returns-in-None
returns-in-None c =
    long c.args.scope.now c.declarations.result.now c.declarations.ensures
    ∙ ap (λ (o : Option ℕ). unwrap_or o (length (variables_of (node_view c.args.scope.now)))) (sym c.in-None.is)
