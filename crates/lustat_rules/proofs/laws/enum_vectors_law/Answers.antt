use Rattle.std.proofs.Common.{refl, sym, ap, Some, [], ◌∷◌, true, false, true≢false, arith}
use Rattle.std.specs.Prelude.{codes}
use Rattle.std.proofs.lemmas.List.Elements.{All-from_recursion}
use Rattle.lutree.specs.declared.expr.Pattern.TheVariants as patterns
use Rattle.lustat_rules.specs.Scope.{IsVariable}
use Rattle.lustat_rules.specs.Typing.{IsNumbered, IsSign}
use Rattle.lustat_rules.specs.EnumVectors.{mode, side, of_side, up, down, left, lost, switch}
use Rattle.lustat_rules.proofs.OneNode.{each}
use Rattle.lustat_rules.proofs.Switch.{all_names, down_known}
use Rattle.lustat_rules.proofs.Enumerated.{is_named, lost_unknown, place_reported, first_sign, one_is_none, none_is_one, one_is_three, two_is_three}
use Rattle.lustat_rules.proofs.Worked.{zero_less, one_less, false_is_true, not_in, nothing_in}
use Rattle.lustat_rules.proofs.laws.enum_vectors_law.Goals as goal

pub returns : goal.returns
returns c = record {
  types = record { constant = refl; variable = refl; equality = refl; equality_of_both = refl; equality_with_int = refl; order = refl; sum = refl; arrow = refl; arrow_of_both = refl; choice = refl; choice_by_mode = refl; merged = refl; merged_names = refl; merged_of_both = refl; merged_of_none = refl };
  names = record {
    two_types = λ f. f (0, zero_less, refl);
    one_type = not_in (codes "mode" ∷ []) (codes "side") refl (refl, tt);
    twice_in_a_type = λ f. f (0, zero_less, refl);
    in_two_types = λ f. f (2, omega arith, refl);
    once = not_in (codes "Up" ∷ codes "Down" ∷ codes "Off" ∷ []) (codes "Left") refl (refl, (refl, (refl, tt)));
    variable_of_a_name = λ f. f.no_label (2, omega arith, refl);
    variable_of_a_type = record { first = nothing_in (codes "mode"); no_label = not_in (codes "Up" ∷ codes "Down" ∷ codes "Off" ∷ codes "Left" ∷ []) (codes "mode") refl (refl, (refl, (refl, (refl, tt)))) };
    unknown_type = λ f. is_named mode f.type.0 (codes "lost") f.type.1.0 f.type.2 refl refl;
    other_type = λ f. is_named side f.type.0 (codes "mode") f.type.1.0 f.type.2 refl refl;
    known_type = record { type = (side, (refl, refl), refl); clock = tt };
    unwritten_type = λ f. f.type;
    unknown_in_clock = λ f. lost_unknown f.clock.1;
    known_in_clock = record { type = tt; clock = (refl, down_known) };
    unknown_constant = λ f. lost_unknown f.parts;
    known_constant = record {
      left = All-from_recursion (IsVariable switch) (codes "y" ∷ []) (refl, tt);
      right = All-from_recursion (IsVariable switch) (codes "m" ∷ []) (refl, tt);
      parts = (tt, (side, (refl, refl), refl));
    };
    unknown_after_when = λ f. lost_unknown f.parts.1;
    unknown_branch = λ f. lost_unknown (f.parts.0 0 (patterns.Label lost) zero_less);
    current_of_a_name = λ f. false_is_true (f.right 0 [] zero_less);
    clock_on_a_name = λ f. false_is_true (f.right 1 [] one_less);
  };
  merges = record {
    all_names = ((refl, all_names), ((tt, tt), (tt, (tt, tt))));
    one_name = ((refl, record { count = refl; each = each (IsNumbered of_side) (patterns.Label left ∷ []) ((refl, refl), tt) }), (tt, tt));
    one_left_out = λ f. one_is_three f.0.1.count;
    turned = λ f. one_is_none (f.0.1.each 0 (patterns.Label down) refl).1;
    one_twice = λ f. none_is_one (f.0.1.each 1 (patterns.Label up) refl).1;
    other_names = λ f. let e = ap place_reported (ap (λ kind. Some kind) (f.0.1.each 0 (patterns.Label up) refl).0) in omega (arith, e);
    truths = λ f. two_is_three f.0.1.count;
    more_branches = λ f. two_is_three f.0.0;
    inside = λ f. one_is_three f.1.0.1.count;
    truths_turned = λ f. true≢false (ap first_sign (sym (f.0.1 (All-from_recursion IsSign (patterns.Truth false ∷ patterns.Truth true ∷ []) (tt, (tt, tt))))));
    names_on_a_bool = ((refl, λ all. absurd (all 0 (patterns.Label up) zero_less)), (tt, tt));
    names_on_an_int = ((refl, tt), (tt, tt));
    unjudged = λ known calls arities merges. absurd (one_is_three merges.0.1.count);
  };
}
