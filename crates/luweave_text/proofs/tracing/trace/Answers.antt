use Rattle.std.proofs.Common.{[], refl, ap, ◌∙◌, arith, string_bytes}
use Rattle.luworld.specs.Jobs.{JobView}
use Rattle.luweave_text.specs.Traced.{HasMore}
use Rattle.luweave_text.proofs.Lines.{no_lines, traced_whole, world_plan}
use Rattle.luweave_text.proofs.tracing.trace.Goals as goal

pub traced_turns-requires : goal.traced_turns-requires
traced_turns-requires c = world_plan c.args.plan.now c.args.sites.items c.in_ok-world.world.job c.requires c.in_ok-world.ensures.job

pub traced_finish-requires-clause-plan_is : goal.traced_finish-requires-clause-plan_is
traced_finish-requires-clause-plan_is c =
    ap (λ (j : JobView). j.plan) c.traced_turns.ensures.job ∙ world_plan c.args.plan.now c.args.sites.items c.in_ok-world.world.job c.requires c.in_ok-world.ensures.job

pub traced_finish-requires-clause-room : goal.traced_finish-requires-clause-room
traced_finish-requires-clause-room c = omega (arith, c.in_ok-counts.ensures.moved)

pub returns-then-not-finish-clause-traced : goal.returns-then-not-finish-clause-traced
returns-then-not-finish-clause-traced c =
    let new = c.in_ok-world.world in
    let w = c.traced_turns.new.world in
    let how = c.args.how in
    let text = string_bytes c.traced_turns.new.text in
    let made = c.in_ok-counts.ensures in
    let plan = world_plan c.args.plan.now c.args.sites.items new.job c.requires c.in_ok-world.ensures.job in
    let none : HasMore how w c.in_ok-counts.counts text w.dones text = record { more = []; dones_are = refl; text_is = no_lines how w c.in_ok-counts.counts text } in
    traced_whole how c.args.plan.now c.args.turns.now c.args.finish new w w c.in_ok-counts.counts (string_bytes c.in_ok-text.text) text text c.in_ok-world.ensures.dones plan c.in_ok-text.ensures
    made.job made.dones made.counts made.text refl none (λ e. refl) (λ e. absurd cc)

pub returns-clause-traced : goal.returns-clause-traced
returns-clause-traced c =
    let new = c.in_ok-world.world in
    let w = c.traced_turns.new.world in
    let how = c.args.how in
    let made = c.in_ok-counts.ensures in
    let done = c.in_ok-traced_finish.ensures in
    let plan = world_plan c.args.plan.now c.args.sites.items new.job c.requires c.in_ok-world.ensures.job in
    traced_whole how c.args.plan.now c.args.turns.now c.args.finish new w c.traced_finish.new.world c.in_ok-counts.counts (string_bytes c.in_ok-text.text) (string_bytes c.traced_turns.new.text) (string_bytes c.traced_finish.new.text) c.in_ok-world.ensures.dones plan c.in_ok-text.ensures
    made.job made.dones made.counts made.text done.job done.more (λ e. absurd cc) (λ e. done.quiet)
