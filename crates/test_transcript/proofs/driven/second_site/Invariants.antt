use Rattle.std.proofs.Common.{◌≡◌}
use Rattle.test_transcript.proofs.driven.second_site.Given as goal

abbrev pub invariant-loop-k : goal.invariant-loop-k
invariant-loop-k g l = (l.site.job ≡ l.initial.site.job) × (l.site.site ≡ l.initial.site.site) × (l.site.done ≡ l.k)
