use Rattle.std.proofs.Common.{◌≡◌, ℕ, ◌+◌, ◌<◌, List, ◌∷◌, [], ◌++◌, All, arith, sym, ap, subst, refl, ◌∙◌}
use Rattle.std.proofs.lemmas.Grind.{common_steps}
use Rattle.lusdist_shell.specs.RandomTurns.{next_state, state_after, site_at, random_turns}
use Rattle.lusdist_shell.proofs.RandomSteps.{state_more, turns_more, below_more_turn}
use Rattle.lusdist_shell.proofs.random.random_turns.Goals as goal

pub loop-init : goal.loop-init
unfolding state_after
loop-init c = record {
  room = grind (arith, common_steps);
  few = grind (arith, common_steps);
  state = refl;
  made = grind (arith, common_steps);
  below = λ k d lt. grind (arith, common_steps);
}

pub loop-preserved : goal.loop-preserved
loop-preserved c =
    let state : c.next_state-state.result ≡ state_after c.args.seed (c.loop.counter + 1) =
    c.next_state-state.ensures ∙ ap next_state c.loop.invariant.state ∙ sym (state_more c.args.seed c.loop.counter) in
    record {
      room = grind (arith, common_steps);
      few = grind (arith, common_steps);
      state = state;
      made = c.push_reserved.ensures.items
          ∙ ap (λ (ts : List ℕ). ts ++ c.site_at.result ∷ []) c.loop.invariant.made
          ∙ ap (λ (s : ℕ). random_turns c.args.seed c.args.sites c.loop.counter ++ s ∷ []) (c.site_at.ensures.turn ∙ ap (site_at c.args.sites) state)
          ∙ sym (turns_more c.args.seed c.args.sites c.loop.counter);
      below = subst (λ (ts : List ℕ). All (λ (s : ℕ). s < c.args.sites) ts) (sym c.push_reserved.ensures.items)
          (below_more_turn c.args.sites c.loop.turns.items c.site_at.result c.loop.invariant.below c.site_at.ensures.below);
    }
