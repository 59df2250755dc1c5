use Rattle.std.proofs.Common.{refl, sym, ◌∙◌, [], true≢false, arith}
use Rattle.std.specs.Prelude.{codes}
use Rattle.lustat_rules.specs.Clocks.{base}
use Rattle.lustat_rules.specs.Vectors.{defines, int_variable, x}
use Rattle.lustat_rules.proofs.Worked.{zero_less, one_less, zero_less_two}
use Rattle.lustat_rules.proofs.laws.needed_vectors_law.Goals as goal

pub returns : goal.returns
returns c =
    let q = defines (codes "y") x in
    record {
      branch_of_merge = λ h. true≢false (h.1.needs 0 q zero_less).0;
      other_branch = λ h. true≢false (h.1.needs 0 q zero_less).2.0;
      variable_of_current = λ h. true≢false (sym (h.1.raised 0 q zero_less_two refl 0 [] zero_less) ∙ h.1.needs 1 q one_less);
      clock_variable = λ h. true≢false (sym (h.1.raised 0 q (omega arith) refl 0 [] zero_less) ∙ (h.1.held 4 (int_variable (codes "y") base) (omega arith)).clock);
      variable_of_merge = λ h. true≢false (sym (h.1.raised 0 q zero_less_two refl 0 [] zero_less) ∙ h.1.sampled 1 q one_less 0 [] zero_less);
      variable_of_when = λ h. true≢false (sym (h.1.raised 0 q zero_less_two refl 0 [] zero_less) ∙ h.1.sampled 1 q one_less 0 [] zero_less);
    }
