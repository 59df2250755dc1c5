use Rattle.std.proofs.Common.{inl, refl, ap, None, true, true≢false, arith}
use Rattle.std.specs.Prelude.{codes}
use Rattle.std.specs.Str.{bytes_eq}
use Rattle.lutree.specs.declared.expr.Pattern.TheVariants as patterns
use Rattle.lustat_rules.specs.Scope.{names_of}
use Rattle.lustat_rules.specs.Naming.{Reaches}
use Rattle.lustat_rules.specs.Clocks.{Ends}
use Rattle.lustat_rules.specs.Vectors.{sampler, one, two, faulty}
use Rattle.lustat_rules.proofs.Worked.{zero_less, one_less, some_is_none, false_is_true, neither, not_in, nothing_in, is_int, loops, reaches_none}
use Rattle.lustat_rules.proofs.laws.declaration_vectors_law.Goals as goal

pub returns : goal.returns
returns c = record {
  declared_twice = λ f. f.first (0, zero_less, refl);
  unknown_clock = λ f. false_is_true f.clock.0;
  undefined = neither (not_in (names_of faulty.inputs) (codes "y") refl (refl, (refl, (refl, tt)))) (nothing_in (codes "y"));
  input_is_given = inl (0, omega arith, refl);
  int_clock = λ f. true≢false (ap is_int f.typed);
  clock_of_itself = λ f. loops f.ends refl;
  clock = record { typed = refl; ends = Ends.after (record { variable = codes "c"; pattern = patterns.Truth true }) None refl Ends.at_base };
  clocked_input = λ f. some_is_none (f.0 (2, omega arith, refl));
  clocked_output = λ f. some_is_none (f.1 (1, one_less, refl) (λ e. false_is_true (ap (λ l. bytes_eq l (codes "two")) e)));
  clocked_output_of_main = ((λ i. absurd (not_in (names_of sampler.inputs) (codes "z") refl (refl, (refl, tt)) i)), (λ o other. absurd (other refl)));
  hidden_clock = λ f. neither (not_in (names_of faulty.inputs) (codes "l") refl (refl, (refl, (refl, tt)))) (not_in (names_of faulty.outputs) (codes "l") refl (refl, (refl, tt))) (f refl (1, one_less, refl));
  visible_clock = λ e o. inl (1, one_less, refl);
  two_nodes = λ f. f (0, zero_less, refl);
  calls_itself = λ f. f (Reaches.one (codes "one") (codes "one") (one, refl, (0, zero_less, refl)));
  calls_none = λ f. reaches_none (codes "two") two refl refl f refl;
  has_main = refl;
  has_no_main = λ f. false_is_true f;
}
