use Rattle.std.proofs.Common.{◌≡◌, List, length, sym, ap, ◌∙◌, subst}
use Rattle.luflow.specs.declared.data.Status.{Status}
use Rattle.luflow.specs.declared.variable.Variable.{Variable}
use Rattle.luflow.specs.Tables.{OutputColumn, AreOutputs, outputs_view}
use Rattle.lueval_lines.specs.Columns.{lists_of}
use Rattle.lueval_lines.specs.Outputs.{outputs_in}
use Rattle.lueval_lines.proofs.Reported.{Pairs, are_outputs, has_outputs, lists_long}
use Rattle.lueval_lines.proofs.streams.Streams.outputs.Goals as goal

pub returns-clause-when : goal.returns-clause-when
returns-clause-when c =
    let xs = c.args.flat.now.variables in
    let n = c.self.inside.instants in
    let lists = lists_of c.self.inside.columns.items in
    let same : lists ≡ c.args.self = c.self.view_is in
    let pairs : Pairs xs lists = sym c.requires ∙ ap (λ (ss : List (List Status)). length ss) (sym same) in
    let here : outputs_view c.in_ok-outputs.outputs.items ≡ outputs_in xs lists = c.in_ok-outputs.ensures ∙ ap (λ (ys : List Variable). outputs_in ys lists) c.variables.ensures in
    let when = c.new.ensures.when in (
      λ some. has_outputs xs lists pairs (subst AreOutputs here (when.0 some)),
      λ some. when.1 (subst AreOutputs (sym here) (are_outputs n xs lists pairs (lists_long n c.self.inside.columns.items c.self.invariant) some)),
    )
