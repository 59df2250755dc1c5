use Rattle.std.proofs.Common.{refl, arith}
use Rattle.lustat_rules.specs.Accepted.{Breaks}
use Rattle.lustat_rules.specs.EnumVectors.{halved}
use Rattle.lustat_rules.proofs.Stages.{stage_least}
use Rattle.lustat_rules.proofs.Switch.{accepted}
use Rattle.lustat_rules.proofs.Enumerated.{two_is_three}
use Rattle.lustat_rules.proofs.laws.enum_program_vectors_law.Goals as goal

pub returns : goal.returns
returns c = record {
  accepted = accepted;
  refused = record {
    broken = Breaks.equation 0 0 halved _ refl refl (λ f. two_is_three f.0.1.count);
    before = λ other lt. absurd (let least = stage_least other in omega (arith, lt, least));
  };
}
