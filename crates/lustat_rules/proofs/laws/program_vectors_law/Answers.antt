use Rattle.std.proofs.Common.{refl, sym, ◌∙◌, [], true≢false}
use Rattle.std.specs.Prelude.{codes}
use Rattle.lustat_rules.specs.Clocks.{base}
use Rattle.lustat_rules.specs.Accepted.{Breaks}
use Rattle.lustat_rules.specs.Vectors.{defines, int_variable, x}
use Rattle.lustat_rules.proofs.Worked.{zero_less, one_less}
use Rattle.lustat_rules.proofs.Sampler.{accepted}
use Rattle.lustat_rules.proofs.Delayed.{bare, kept_before}
use Rattle.lustat_rules.proofs.laws.program_vectors_law.Goals as goal

pub returns : goal.returns
returns c = record {
  accepted = accepted;
  refused = record {
    broken = Breaks.node 0 bare refl (λ h.
        true≢false (sym (h.1.raised 0 (defines (codes "y") x) zero_less refl 0 [] zero_less) ∙ (h.1.held 1 (int_variable (codes "y") base) one_less).output (0, zero_less, refl)));
    before = kept_before;
  };
}
