use Rattle.std.proofs.Common.{◌≡◌, ◌∙◌, ap, sym, Some, ℕ, List}
use Rattle.std.specs.Prelude.{slice_get}
use Rattle.lutree.specs.declared.program.Kind.{Kind}
use Rattle.lubase.specs.Places.{first_place}
use Rattle.lusyn_parser.specs.Resolved.{labels}
use Rattle.lusyn_parser.specs.Tables.{types_view}
use Rattle.lusyn_parser.proofs.Tables.{looked-there, looked-nowhere, got-copied}
use Rattle.lusyn_parser.proofs.labels.Labels.find.Goals as goal

pub returns-in-Some : goal.returns-in-Some
returns-in-Some c =
    let place : first_place c.args.self.now.names c.args.name.now ≡ Some c.in-Some.at = sym c.find.ensures ∙ c.in-Some.is in
    let marks = c.args.self.now.marks.items in
    let lookup = c.get.ensures.lookup in
    let got : c.copied.result ≡ slice_get marks c.in-Some.at =
    c.copied.ensures ∙ got-copied c.get.result c.deref.result.now c.in-Some.at lookup.0 lookup.1 ∙ ap (λ (ms : List (Kind × ℕ)). slice_get ms c.in-Some.at) c.deref.ensures.value
    in
    looked-there (labels (types_view c.args.self.now.types.now)) c.args.self.now.names marks c.args.name.now c.in-Some.at c.copied.result
    c.args.self.now.named c.args.self.now.numbered place got

pub returns-in-None : goal.returns-in-None
returns-in-None c =
    looked-nowhere (labels (types_view c.args.self.now.types.now)) c.args.self.now.names c.args.name.now c.args.self.now.named (sym c.find.ensures ∙ c.in-None.is)
