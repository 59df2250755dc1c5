use Rattle.std.proofs.Common.{◌∙◌, ap, sym, None, Some, arith, length, get_or}
use Rattle.std.specs.Option.{option_map}
use Rattle.lutree.specs.Tree.{node_view}
use Rattle.lubase.specs.Places.{first_place}
use Rattle.lustat_rules.specs.Scopes.{node_spellings}
use Rattle.lutree.specs.declared.program.Program.{Program}
use Rattle.lustat_rules.proofs.Declared.{found_called, within_nodes, read_at}
use Rattle.std.proofs.lemmas.Grind.{common_steps}
use Rattle.lustat_rules.proofs.catalog.Catalog.find.Goals as goal

pub returns-in-None : goal.returns-in-None
returns-in-None c =
    found_called c.args.self.now.nodes c.args.name.now None
    (sym c.in-None.is ∙ c.find.ensures ∙ ap (λ l. first_place l c.args.name.now) (c.self.invariant.nodes ∙ ap (λ (p : Program). node_spellings p.nodes) c.self.view_is))

pub index-requires : goal.index-requires
index-requires c =
    let nodes = c.args.self.now.nodes in
    let spelled = c.self.invariant.nodes ∙ ap (λ (p : Program). node_spellings p.nodes) c.self.view_is in
    let scopes = c.self.invariant.scopes ∙ ap (λ (p : Program). p.nodes) c.self.view_is in
    let lt = within_nodes nodes c.args.name.now c.in-Some.place (ap (λ l. first_place l c.args.name.now) (sym spelled) ∙ sym c.find.ensures ∙ c.in-Some.is) in
    grind (arith, common_steps, lt, ap length scopes)

pub returns-in-Some : goal.returns-in-Some
returns-in-Some c =
    let nodes = c.args.self.now.nodes in
    let k = c.in-Some.place in
    let spelled = c.self.invariant.nodes ∙ ap (λ (p : Program). node_spellings p.nodes) c.self.view_is in
    let scopes = c.self.invariant.scopes ∙ ap (λ (p : Program). p.nodes) c.self.view_is in
    let place = sym c.in-Some.is ∙ c.find.ensures ∙ ap (λ l. first_place l c.args.name.now) spelled in
    let lt = within_nodes nodes c.args.name.now k (sym place) in
    ap (option_map node_view) (read_at nodes k c.index.result.now lt (c.index.ensures ∙ ap (λ l. get_or l k c.index.result.now) scopes))
    ∙ found_called nodes c.args.name.now (Some k) place
