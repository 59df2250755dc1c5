use Rattle.std.proofs.Common.{◌≡◌, ◌++◌, ap, subst, ◌∙◌, string_bytes}
use Rattle.luworld.specs.Systems.{reached, NoTurnMoves}
use Rattle.luworld.specs.Jobs.{JobView, system_of}
use Rattle.luweave_text.specs.Traced.{IsTraced}
use Rattle.lusdist_answers.proofs.Worlds.{world_job}
use Rattle.lusdist_answers.proofs.replaying.traced.Goals as goal

pub returns-clause-world : goal.returns-clause-world
returns-clause-world c =
    let world = c.in_ok-world.world in
    let traced = c.in_ok-world.ensures.traced in
    let same : world.job ≡ c.args.job.now = world_job c.args.job.now.plan c.in_ok-sites.sites.items world.job c.args.job.now c.in_ok-sites.ensures.new c.in_ok-world.ensures.job c.in_ok-sites.ensures.job in
    record {
      job_is = same;
      more = traced.more;
      dones_are = traced.dones_are ∙ ap (λ (j : JobView). reached (system_of j) (c.args.turns.now ++ traced.more)) same;
      no_more = traced.no_more;
      quiet = λ e. subst (λ (j : JobView). NoTurnMoves (system_of j) world.dones) same (traced.quiet e);
    }

pub returns-clause-notes : goal.returns-clause-notes
returns-clause-notes c =
    let world = c.in_ok-world.world in
    let same : world.job ≡ c.args.job.now = world_job c.args.job.now.plan c.in_ok-sites.sites.items world.job c.args.job.now c.in_ok-sites.ensures.new c.in_ok-world.ensures.job c.in_ok-sites.ensures.job in
    subst (λ (j : JobView). IsTraced j c.args.turns.now c.args.finish c.args.how world.dones (string_bytes c.in_ok-world.notes)) same c.in_ok-world.ensures.traced
