use Rattle.std.proofs.Common.{string_bytes}
use Rattle.luchart.specs.Signals.{signals_view}
use Rattle.luchart.proofs.Ranges.{text_more_zero}
use Rattle.luweave_text.specs.Waves.{scope}
use Rattle.luweave_text.proofs.waves.put_scopes.Goals as goal

pub loop-site-preserved : goal.loop-site-preserved
loop-site-preserved c =
    text_more_zero (scope c.args.plan.now (signals_view c.args.signals.now)) c.loop-site.site (string_bytes c.args.text.now) (string_bytes c.loop-site.text) (string_bytes c.put_scope.new.text) c.loop-site.invariant c.in_ok-put_scope.ensures
