use Rattle.std.proofs.Common.{refl, ◌∙◌, arith, string_bytes}
use Rattle.luweave_text.proofs.Lines.{left_less, progress_is, reported_none, reported_more}
use Rattle.luweave_text.proofs.tracing.traced_finish.Goals as goal

pub loop-site-init : goal.loop-site-init
loop-site-init c = record {
  job = refl;
  has_reported = reported_none c.args.how c.args.world.now c.args.before (string_bytes c.args.text.now);
  few = c.requires.few;
  left = omega (arith, c.requires.room, c.left.ensures.left, c.left.ensures.few);
}

pub traced_turn-requires-clause-room : goal.traced_turn-requires-clause-room
traced_turn-requires-clause-room c = omega (arith, c.loop-site.invariant.left)

pub loop-site-preserved : goal.loop-site-preserved
loop-site-preserved c =
    let h = c.loop-site.invariant in
    let now = c.loop-site.world in
    record {
      job = c.traced_turn.ensures.job ∙ h.job;
      has_reported = reported_more c.args.how c.args.world.now c.args.before (string_bytes c.args.text.now) c.loop-site.counts now.dones (string_bytes c.loop-site.text) h.has_reported
          now (progress_is now c.args.world.now.job now.dones h.job refl) c.in-Some.site c.in_ok-counts.counts c.traced_turn.new.world.dones (string_bytes c.traced_turn.new.text)
          c.in_ok-counts.ensures.dones c.in_ok-counts.ensures.text c.in_ok-counts.ensures.counts;
      few = c.in_ok-counts.ensures.few;
      left = left_less c.args.how now c.loop-site.counts c.in-Some.site c.traced_turn.new.world c.in_ok-counts.counts c.left-in-Some.result
          (c.enabled.ensures.moves c.in-Some.site c.in-Some.is) c.left-in-Some.ensures.left c.left-in-Some.ensures.falls c.traced_turn.ensures.job c.in_ok-counts.ensures.dones c.in_ok-counts.ensures.counts h.left;
    }
