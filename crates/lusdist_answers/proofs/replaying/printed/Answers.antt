use Rattle.std.proofs.Common.{◌++◌, ℕ, List, Option, String, Global, ap, sym, subst, ◌∙◌, append_assoc, option_map, string_bytes}
use Rattle.luworld.specs.Systems.{reached}
use Rattle.luworld.specs.Jobs.{JobView, system_of}
use Rattle.luweave_text.specs.WorldText.{IsWorldText}
use Rattle.lusdist_call.specs.Files.{replay_path}
use Rattle.lusdist_call.specs.Noted.{warnings_of}
use Rattle.lusdist_call.specs.Waved.{IsWorldDump}
use Rattle.lusdist_answers.proofs.Worlds.{world_sites}
use Rattle.lusdist_answers.proofs.replaying.printed.Goals as goal

pub put_stands-requires-clause-plan_is : goal.put_stands-requires-clause-plan_is
put_stands-requires-clause-plan_is c =
    ap (λ (j : JobView). j.plan) c.in_ok-world.ensures.world.job_is ∙ sym c.plan.ensures.plan

pub put_stands-requires-clause-all_sites : goal.put_stands-requires-clause-all_sites
put_stands-requires-clause-all_sites c =
    world_sites c.plan.result.now c.in_ok-world.world.job c.in_ok-world.world.dones (c.args.turns.now ++ c.in_ok-world.ensures.world.more) (put_stands-requires-clause-plan_is c)
    (c.in_ok-world.ensures.world.dones_are ∙ sym (ap (λ (j : JobView). reached (system_of j) (c.args.turns.now ++ c.in_ok-world.ensures.world.more)) c.in_ok-world.ensures.world.job_is))

pub text_of_world-requires-clause-plan_is : goal.text_of_world-requires-clause-plan_is
text_of_world-requires-clause-plan_is c =
    ap (λ (j : JobView). j.plan) c.in_ok-world.ensures.world.job_is ∙ sym c.plan-2.ensures.plan

pub text_of_world-requires-clause-all_sites : goal.text_of_world-requires-clause-all_sites
text_of_world-requires-clause-all_sites c =
    world_sites c.plan-2.result.now c.in_ok-world.world.job c.in_ok-world.world.dones (c.args.turns.now ++ c.in_ok-world.ensures.world.more) (text_of_world-requires-clause-plan_is c)
    (c.in_ok-world.ensures.world.dones_are ∙ sym (ap (λ (j : JobView). reached (system_of j) (c.args.turns.now ++ c.in_ok-world.ensures.world.more)) c.in_ok-world.ensures.world.job_is))

pub world_violations-requires : goal.world_violations-requires
world_violations-requires c = ap (λ (j : JobView). j.plan) c.in_ok-world.ensures.world.job_is ∙ sym c.plan-4.ensures.plan

pub dump_of_world-requires : goal.dump_of_world-requires
dump_of_world-requires c = ap (λ (j : JobView). j.plan) c.in_ok-world.ensures.world.job_is ∙ sym c.plan-3.ensures.plan

pub returns-clause-printed : goal.returns-clause-printed
returns-clause-printed c = record {
  world = c.in_ok-world.world;
  world_is = c.in_ok-world.ensures.world;
  faithful = c.in_ok-world.ensures.faithful;
  text_is = subst (λ (t : String Global). IsWorldText c.in_ok-world.world (string_bytes t)) (sym c.in_ok-reply.ensures.text) c.in_ok-text.ensures;
  did = string_bytes c.put_stands.new.notes;
  did_are = record {
    of_turns = string_bytes c.in_ok-world.notes;
    of_sites = c.in_ok-put_stands.ensures.stands.0;
    turns_are = c.in_ok-world.ensures.notes;
    sites_are = c.in_ok-put_stands.ensures.stands.1;
    notes_are = c.in_ok-put_stands.ensures.stands.2
        ∙ ap (λ (xs : List ℕ). xs ++ c.in_ok-put_stands.ensures.stands.0) c.in_ok-put_warnings.ensures.warnings
        ∙ append_assoc (string_bytes c.in_ok-world.notes) (warnings_of c.args.request c.args.job.now c.args.turns.now) c.in_ok-put_stands.ensures.stands.0;
  };
  told = string_bytes c.in_ok-told.told;
  told_are = c.in_ok-told.ensures;
  notes_is = c.in_ok-reply.ensures.notes;
  violated_is = c.in_ok-reply.ensures.violated;
  dump_is = subst (λ (d : Option (String Global)). IsWorldDump c.args.request.main.now c.in_ok-world.world (replay_path c.args.request) (option_map string_bytes d)) (sym c.in_ok-reply.ensures.dump) c.in_ok-dump.ensures;
}
