use Rattle.std.proofs.Common.{subst, sym, ap, ◌∙◌}
use Rattle.lutree.specs.declared.program.Program.{Program}
use Rattle.lutree.specs.Tree.{program_view}
use Rattle.lustat_rules.specs.Naming.{node_place}
use Rattle.luinside.specs.Sites.{Follows}
use Rattle.luinside.proofs.Following.{no_main}
use Rattle.luinside.proofs.sites.operator_at.Goals as goal

pub returns-in_default-clause-reads : goal.returns-in_default-clause-reads
returns-in_default-clause-reads c =
    let p = program_view c.args.program.now.program in
    let placed = ap (λ (g : Program). node_place (program_view g) c.main.result.now) (sym c.catalog-catalog.ensures.catalog) in
    let at_place = sym (ap (node_place p) c.main.ensures) ∙ placed ∙ sym c.place.ensures in
    (no_main p c.args.program.now.main c.args.place (at_place ∙ c.in_default.is)).0

pub returns-in_default-clause-faults : goal.returns-in_default-clause-faults
returns-in_default-clause-faults c =
    let p = program_view c.args.program.now.program in
    let placed = ap (λ (g : Program). node_place (program_view g) c.main.result.now) (sym c.catalog-catalog.ensures.catalog) in
    let at_place = sym (ap (node_place p) c.main.ensures) ∙ placed ∙ sym c.place.ensures in
    (no_main p c.args.program.now.main c.args.place (at_place ∙ c.in_default.is)).1

pub returns-clause-reads : goal.returns-clause-reads
returns-clause-reads c =
    let p = program_view c.args.program.now.program in
    let main = c.args.program.now.main in
    let placed = ap (λ (g : Program). node_place (program_view g) c.main.result.now) (sym c.catalog-catalog.ensures.catalog) in
    let at_place = sym (ap (node_place p) c.main.ensures) ∙ placed ∙ sym c.place.ensures in
    let follows = subst (λ (g : Program). Follows (program_view g) c.as_slice.result.now c.in-Some.main c.args.place c.in_ok-found.found) c.catalog-catalog.ensures.catalog c.in_ok-found.ensures in
    let follows' = subst (λ cs. Follows p cs c.in-Some.main c.args.place c.in_ok-found.found) c.as_slice.ensures.value follows in
    (follows' main (at_place ∙ c.in-Some.is) c.in_ok-counts.ensures.counted).0

pub returns-clause-faults : goal.returns-clause-faults
returns-clause-faults c =
    let p = program_view c.args.program.now.program in
    let main = c.args.program.now.main in
    let placed = ap (λ (g : Program). node_place (program_view g) c.main.result.now) (sym c.catalog-catalog.ensures.catalog) in
    let at_place = sym (ap (node_place p) c.main.ensures) ∙ placed ∙ sym c.place.ensures in
    let follows = subst (λ (g : Program). Follows (program_view g) c.as_slice.result.now c.in-Some.main c.args.place c.in_ok-found.found) c.catalog-catalog.ensures.catalog c.in_ok-found.ensures in
    let follows' = subst (λ cs. Follows p cs c.in-Some.main c.args.place c.in_ok-found.found) c.as_slice.ensures.value follows in
    (follows' main (at_place ∙ c.in-Some.is) c.in_ok-counts.ensures.counted).1
