use Rattle.std.proofs.Common.{ℕ, List, [], ◌++◌, append-nil, ap, ap₂, sym, subst, refl, ◌∙◌}
use Rattle.luworld.specs.Systems.{run, reached, new_world, NoTurnMoves}
use Rattle.luworld.specs.Jobs.{JobView, system_of}
use Rattle.lusdist_answers.proofs.Worlds.{world_job, run_on}
use Rattle.lusdist_answers.proofs.replaying.replayed.Goals as goal

pub returns-then-not-finish-clause-world : goal.returns-then-not-finish-clause-world
returns-then-not-finish-clause-world c =
    let same = world_job c.args.job.now.plan c.in_ok-sites.sites.items c.in_ok-world.world.job c.args.job.now c.in_ok-sites.ensures.new c.in_ok-world.ensures.job c.in_ok-sites.ensures.job in
    record {
      job_is = same;
      more = [];
      dones_are = c.in_ok-world.ensures.dones ∙ ap₂ (λ (j : JobView) (ts : List ℕ). reached (system_of j) ts) same (sym (append-nil c.args.turns.now));
      no_more = λ e. refl;
      quiet = λ e. absurd cc;
    }

pub returns-clause-world : goal.returns-clause-world
returns-clause-world c =
    let same = world_job c.args.job.now.plan c.in_ok-sites.sites.items c.in_ok-world.world.job c.args.job.now c.in_ok-sites.ensures.new c.in_ok-world.ensures.job c.in_ok-sites.ensures.job in
    let own = c.in_ok-world.world.job in
    let turns = c.args.turns.now in
    let later = c.finish.ensures.turns in
    let whole = c.finish.ensures.job ∙ same in
    record {
      job_is = whole;
      more = later.0;
      dones_are = sym later.1
          ∙ ap (λ w. run (system_of own) w later.0) c.in_ok-world.ensures.dones
          ∙ sym (run_on (system_of own) (new_world (system_of own)) turns later.0)
          ∙ ap (λ (j : JobView). reached (system_of j) (turns ++ later.0)) same;
      no_more = λ e. absurd cc;
      quiet = λ e. subst (λ (j : JobView). NoTurnMoves (system_of j) c.finish.new.self.dones) whole c.finish.ensures.quiet;
    }
