use Rattle.std.proofs.Common.{string_bytes}
use Rattle.luweave_text.specs.Waits.{AreStandLines}
use Rattle.luweave_text.proofs.waits.text_of_stands.Given as goal

abbrev pub invariant-loop-site : goal.invariant-loop-site
invariant-loop-site l = AreStandLines l.world l.site (string_bytes l.text)
