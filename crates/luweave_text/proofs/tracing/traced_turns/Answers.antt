use Rattle.std.proofs.Common.{◌≡◌, ◌+◌, ◌∷◌, drop, get_or, ap, ◌∙◌, arith, string_bytes}
use Rattle.std.proofs.lemmas.List.{drop_more, drop_all}
use Rattle.luworld.specs.Systems.{step}
use Rattle.luworld.specs.Jobs.{system_of}
use Rattle.luweave_text.specs.declared.counts.Counts.{Counts}
use Rattle.luweave_text.specs.Traced.{turn_of}
use Rattle.luweave_text.proofs.Lines.{moved_few, progress_is, run_next, reported_next, text_next, text_whole, reported_whole}
use Rattle.luweave_text.proofs.tracing.traced_turns.Goals as goal

pub loop-site-preserved : goal.loop-site-preserved
loop-site-preserved c =
    let h = c.loop-site.invariant in
    let how = c.args.how in
    let turns = c.args.turns.now in
    let i = c.loop-site.site-index in
    let now = c.loop-site.world in
    let next = c.traced_turn.new.world in
    let s = get_or turns i 0 in
    let rest = drop (i + 1) turns in
    let first : drop i turns ≡ s ∷ rest = drop_more turns i 0 c.loop-site-test.true in
    let is = progress_is next now.job (step (system_of now.job) now.dones s) c.traced_turn.ensures.job c.in_ok-counts.ensures.dones in
    record {
      job = c.traced_turn.ensures.job ∙ h.job;
      dones = run_next how now next s (drop i turns) rest first is ∙ h.dones;
      text = text_next how now next s (drop i turns) rest first is c.loop-site.counts c.in_ok-counts.counts (string_bytes c.loop-site.text) (string_bytes c.traced_turn.new.text) _ c.in_ok-counts.ensures.counts c.in_ok-counts.ensures.text h.text;
      counts = reported_next how now next s (drop i turns) rest first is c.loop-site.counts c.in_ok-counts.counts _ c.in_ok-counts.ensures.counts h.counts;
      few = c.in_ok-counts.ensures.few;
      moved = let e = ap (λ (n : Counts). n.moved) c.in_ok-counts.ensures.counts in
          omega (arith, e, moved_few c.loop-site.counts.moved (turn_of now s), h.moved);
    }

pub returns-clause-text : goal.returns-clause-text
returns-clause-text c =
    let left = drop c.loop-site.site-index c.args.turns.now in
    text_whole c.args.how c.loop-site.world c.loop-site.counts left (string_bytes c.loop-site.text) _ (drop_all c.loop-site.site-index c.args.turns.now (omega (arith, c.loop-site-test.false))) c.loop-site.invariant.text

pub returns-clause-counts : goal.returns-clause-counts
returns-clause-counts c =
    let left = drop c.loop-site.site-index c.args.turns.now in
    reported_whole c.args.how c.loop-site.world c.loop-site.counts left _ (drop_all c.loop-site.site-index c.args.turns.now (omega (arith, c.loop-site-test.false))) c.loop-site.invariant.counts
