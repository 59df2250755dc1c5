-- The worked readings, by computing them.
use Rattle.std.proofs.Common.{◌≡◌, Ok, [], ◌∷◌, refl}
use Rattle.lutree.specs.Tree.{program_of}
use Rattle.lusyn_grammar.specs.Reading.{many, climb, operands, named, choice, inside, branch, by_truths, labelled, by_labels, merge, head, whole, expr, names, declaration, declarations, inputs, locals, single, call, tuple_names, tuple, equation, equations, heading, body, node, nodes, type_declaration, types, program, all_of}
use Rattle.lusyn_grammar.specs.Examples.{ExpressionsAre, RefusalsAre, program_tokens, program_node, switch_tokens, switch}

pub expressions : ExpressionsAre
unfolding many climb operands named choice inside branch by_truths labelled by_labels merge head whole expr
expressions = record { left_first = refl; right_first = refl; no_group = refl; tighter_left = refl; tighter_right = refl; clock_first = refl; current_ends = refl; product_first = refl; quotient_first = refl; sign_first = refl; sum_first = refl; negation_first = refl; equality_first = refl; conjunction_first = refl; implication_last = refl; arrows_last = refl; choice_last = refl; parentheses = refl; branches = refl; label_clock = refl; labels = refl; one_label = refl; clock_again = refl; operands = refl; no_choice = refl }

pub one_program : all_of program_tokens ≡ Ok (program_of (program_node ∷ []))
unfolding many climb operands named choice inside branch by_truths labelled by_labels merge head whole expr names declaration declarations inputs locals single call tuple_names tuple equation equations heading body node nodes type_declaration types program all_of
one_program = refl

pub one_switch : all_of switch_tokens ≡ Ok switch
unfolding many climb operands named choice inside branch by_truths labelled by_labels merge head whole expr names declaration declarations inputs locals single call tuple_names tuple equation equations heading body node nodes type_declaration types program all_of
one_switch = refl

pub refusals : RefusalsAre
unfolding many climb operands named choice inside branch by_truths labelled by_labels merge head whole expr names declaration declarations inputs locals single call tuple_names tuple equation equations heading body node nodes type_declaration types program all_of
refusals = record {
  second_comparison = refl;
  inner_choice = refl;
  clock_of_current = refl;
  closed_too_much = refl;
  one_name = refl;
  no_call = refl;
  no_locals = refl;
  no_node = refl;
  too_short = refl;
  no_variable = refl;
  negated_label = refl;
  label_second = refl;
  truth_second = refl;
  false_first = refl;
  no_names = refl;
  types_alone = refl;
  type_last = refl;
}
