use Rattle.std.proofs.Common.{refl, ap, ap₂, ◌∙◌, arith}
use Rattle.luworld.specs.Systems.{step}
use Rattle.luworld.specs.Jobs.{JobView, system_of}
use Rattle.luweave.specs.Worlds.{left_of}
use Rattle.luweave.proofs.Finishing.{later_none, later_more}
use Rattle.luweave.proofs.world.World.finish.Goals as goal

pub loop-site-init : goal.loop-site-init
loop-site-init c = record { job = refl; later = later_none c.args.self.now.job c.args.self.now.dones }

pub loop-site-preserved : goal.loop-site-preserved
loop-site-preserved c =
    let same = c.loop-site.invariant.job in
    record {
      job = c.turn.ensures.job ∙ same;
      later = later_more c.args.self.now.job c.args.self.now.dones c.loop-site.self.dones c.turn.new.self.dones c.in-Some.site c.loop-site.invariant.later
          (c.turn.ensures.dones ∙ ap (λ (j : JobView). step (system_of j) c.loop-site.self.dones c.in-Some.site) same);
    }

pub loop-site-smaller : goal.loop-site-smaller
loop-site-smaller c =
    let f = c.falls.ensures c.in-Some.site (c.in-Some.ensures.moves c.in-Some.site refl) in
    let e = ap₂ left_of c.turn.ensures.job c.turn.ensures.dones in
    omega (arith, f, e)
