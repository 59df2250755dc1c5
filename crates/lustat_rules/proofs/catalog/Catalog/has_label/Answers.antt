use Rattle.std.proofs.Common.{◌∙◌, ◌↔◌, IsTrue, Contains, ap, map, subst}
use Rattle.lutree.specs.declared.program.Program.{Program}
use Rattle.lutree.specs.Tree.{type_view}
use Rattle.lustat_rules.specs.Scope.{labels_of}
use Rattle.lustat_rules.proofs.catalog.Catalog.has_label.Goals as goal

pub returns : goal.returns
returns c =
    subst (λ row. IsTrue c.has.result ↔ Contains row c.args.name.now) (c.self.invariant.labels ∙ ap (λ (p : Program). labels_of (map type_view p.types)) c.self.view_is) c.has.ensures
