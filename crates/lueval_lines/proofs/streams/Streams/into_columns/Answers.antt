use Rattle.std.proofs.Common.{◌≡◌, List, length, sym, ap, ◌∙◌, subst}
use Rattle.luflow.specs.declared.data.Status.{Status}
use Rattle.luflow.specs.declared.variable.Variable.{Variable}
use Rattle.luflow.specs.Tables.{AreOutputs}
use Rattle.lueval_lines.specs.Columns.{lists_of}
use Rattle.lueval_lines.specs.Outputs.{columns_in}
use Rattle.lueval_lines.proofs.Reported.{Pairs, lists_long}
use Rattle.lueval_lines.proofs.Named.{are_columns}
use Rattle.lueval_lines.proofs.streams.Streams.into_columns.Goals as goal

pub unreachable-requires : goal.unreachable-requires
unreachable-requires c =
    let xs = c.args.flat.now.variables in
    let n = c.self.inside.instants in
    let lists = lists_of c.self.inside.columns.items in
    let same : lists ≡ c.args.self = c.self.view_is in
    let pairs : Pairs xs lists = sym c.requires.count ∙ ap (λ (ss : List (List Status)). length ss) (sym same) in
    let are = are_columns n xs lists pairs (lists_long n c.self.inside.columns.items c.self.invariant) c.requires.some in
    let here = ap (λ (ys : List Variable). columns_in ys lists) c.variables.ensures in
    let clash = c.in-None.ensures.when.1 (subst AreOutputs (sym (c.in_ok-columns.ensures ∙ here)) are) in
    cc
