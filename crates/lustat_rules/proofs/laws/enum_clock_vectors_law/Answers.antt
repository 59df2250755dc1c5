use Rattle.std.proofs.Common.{◌∙◌, Option, Some, None, refl, ap, [], ◌∷◌}
use Rattle.std.specs.Prelude.{codes, unwrap_or}
use Rattle.std.proofs.lemmas.List.Elements.{All-from_recursion}
use Rattle.lutree.specs.declared.expr.Label.{Label}
use Rattle.lutree.specs.declared.expr.Pattern.TheVariants as patterns
use Rattle.lustat_rules.specs.Clocks.{base, HasClock, Ends}
use Rattle.lustat_rules.specs.Classes.{StartsWith}
use Rattle.lustat_rules.specs.EnumVectors.{up, down, m, switch}
use Rattle.lustat_rules.proofs.Fitting.{inside, outside}
use Rattle.lustat_rules.proofs.Switch.{names_clocks, whole_fits}
use Rattle.lustat_rules.proofs.Enumerated.{place_reported, number_reported, one_is_none, none_is_one, two_is_one, rises_so, rises_otherwise}
use Rattle.lustat_rules.proofs.Worked.{zero_less, none_is_some}
use Rattle.lustat_rules.proofs.laws.enum_clock_vectors_law.Goals as goal

pub returns : goal.returns
returns c = record {
  clocks = record {
    clock = (tt, refl);
    clock_of_another_type = λ f. two_is_one (ap place_reported f.1);
    clock_of_an_int = λ f. none_is_one (ap place_reported f.1);
    no_bool = λ f. one_is_none (ap place_reported f.1);
    merge = (names_clocks, ((tt, refl), (tt, (tt, tt))));
    merge_of_an_int = λ f. f.0.0;
    merge_of_a_bool_by_names = λ f. none_is_one (ap place_reported (f.0.1 0 (patterns.Label up) zero_less));
    declared_clock = record { typed = refl; ends = Ends.after (record { variable = codes "m"; pattern = patterns.Label down }) None refl Ends.at_base };
    declared_of_another_type = λ f. two_is_one (ap place_reported f.typed);
    declared_no_bool = λ f. one_is_none (ap place_reported f.typed);
    fits = (base, All-from_recursion (λ x. HasClock switch x base) (codes "y" ∷ []) (refl, tt), outside switch _ _ whole_fits);
    other_name = λ f. none_is_one (ap number_reported (ap Some (inside f.2).1.0.0));
    sum_of_two_names = λ f. one_is_none (ap number_reported (f.1 0 [] zero_less ∙ ap Some (inside f.2).1.0));
  };
  beginnings = record {
    name_arrow = rises_so _ (StartsWith.arrow m);
    name_fby = rises_so _ (StartsWith.followed m);
    other_name = rises_otherwise _ (λ e. one_is_none (ap (λ (o : Option Label). (unwrap_or o up).number) e));
    other_name_fby = rises_otherwise _ (λ e. one_is_none (ap (λ (o : Option Label). (unwrap_or o up).number) e));
    truth = rises_otherwise _ none_is_some;
    variable = rises_otherwise _ none_is_some;
  };
}
