use Rattle.std.proofs.Common.{◌≡◌, subst, ◌∙◌}
use Rattle.luflow.specs.Program.{FlatView}
use Rattle.lublock.specs.Boards.{StandsStill}
use Rattle.lublock_site.proofs.Moving.{going_cycle}
use Rattle.lublock_site.proofs.site.RowSite.cycle_step.Goals as goal

pub returns-clause-going : goal.returns-clause-going
returns-clause-going c =
    let x = c.args.self.now in
    let job = x.job.value in
    let flat_is : c.deref-flat.result.now ≡ job.plan.flat = c.deref-flat.ensures ∙ c.requires.frame.code.flat in
    going_cycle x c.cycle.new.self _ c.requires
    (subst (λ (f : FlatView). StandsStill f job.inputs x.t x.len x.board c.cycle.new.self) flat_is (c.cycle.ensures.stands job.inputs x.t))
