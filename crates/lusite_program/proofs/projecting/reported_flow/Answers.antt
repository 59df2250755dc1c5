use Rattle.std.proofs.Common.{ap, sym, ◌∙◌}
use Rattle.std.specs.Prelude.{slice_get}
use Rattle.std.proofs.lemmas.Bool.{eq-eqb}
use Rattle.luworld.specs.Needs.{home}
use Rattle.lusite_program.specs.Programs.{places_of}
use Rattle.lusite_program.proofs.SiteFlows.{number_home, both}
use Rattle.lusite_program.proofs.projecting.reported_flow.Goals as goal

pub returns-then-home-site : goal.returns-then-home-site
returns-then-home-site c =
    let plan = c.args.plan.now in
    let s = c.args.site in
    let i = c.args.place in
    let r = c.requires in
    let e = sym c.home.ensures ∙ c.if-home-site.true in (
      both _ _ (eq-eqb (home plan i) s e) r.output,
      ap (slice_get (places_of plan s)) c.number_in.ensures ∙ number_home plan s i c.args.numbers.now r.plan r.numbers r.within e,
    )
