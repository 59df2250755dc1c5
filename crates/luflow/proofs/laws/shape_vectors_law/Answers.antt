use Rattle.std.proofs.Common.{◌≡◌, ℕ, false, List, [], ◌∷◌, length, get_or, map, nat_eq, refl, sym, ap, ◌∙◌, true≢false, arith}
use Rattle.std.specs.Prelude.{codes, Contains, All}
use Rattle.std.specs.Str.{bytes_eq}
use Rattle.std.proofs.lemmas.Bool.{false≢true, eq-eqb}
use Rattle.std.proofs.lemmas.List.Folds.{list_any_at}
use Rattle.std.proofs.lemmas.Option.{none-some, same_Some}
use Rattle.std.proofs.lemmas.List.Elements.{All-from_recursion, All-nil}
use Rattle.lutree.specs.declared.expr.BinaryOperator.TheVariants.{Multiply}
use Rattle.lutree.specs.declared.program.Kind.TheVariants.{Int as Ints, Bool as Truths}
use Rattle.luflow.specs.declared.data.Datum.TheVariants.{Name, Nil}
use Rattle.luflow.specs.declared.form.Form.TheVariants.{Binary}
use Rattle.luflow.specs.declared.variable.Enum.{Enum}
use Rattle.luflow.specs.Rank.{has, reads_of}
use Rattle.luflow.specs.Sound.{IsConstantOf}
use Rattle.luflow.specs.Vectors.{ints, sampled_flow, number, sampled_sum, three_names, of_three}
use Rattle.luflow.specs.ShapeVectors.{reordered, of_x, of_c, truths, one_name}
use Rattle.luflow.proofs.Worked.{ranked, ordered, columns_long}
use Rattle.luflow.proofs.laws.shape_vectors_law.Goals as goal

not_has : (xs : List ℕ) (x : ℕ) → has xs x ≡ false → ¬ Contains xs x
not_has xs x e c = true≢false (sym (list_any_at (λ y. nat_eq y x) xs c.0 x c.1 (eq-eqb (get_or xs c.0 x) x c.2)) ∙ e)

two_ints : All (IsConstantOf Ints) (ints (1 ∷ 2 ∷ []))
two_ints = All-from_recursion (IsConstantOf Ints) (ints (1 ∷ 2 ∷ [])) ((tt, λ e. cc), ((tt, λ e. cc), tt))

two_truths : All (IsConstantOf Truths) truths
two_truths = All-from_recursion (IsConstantOf Truths) truths ((tt, λ e. cc), ((tt, λ e. cc), tt))

three_modes : All (IsConstantOf of_three) (map Name (0 ∷ 2 ∷ 1 ∷ []))
three_modes = All-from_recursion (IsConstantOf of_three) (map Name (0 ∷ 2 ∷ 1 ∷ [])) ((omega arith, λ e. cc), ((omega arith, λ e. cc), ((omega arith, λ e. cc), tt)))

pub returns : goal.returns
returns c = record {
  reads_are = record { operands = refl; on_base = refl; on_clock = refl; constant = refl; input = refl; of_sum = refl; of_ways = refl };
  orders = record {
    of_ranks = ranked (reads_of sampled_sum) (0 ∷ 1 ∷ 4 ∷ 5 ∷ 3 ∷ 6 ∷ 7 ∷ 2 ∷ []) refl refl;
    not_the_least = λ h. true≢false ((h.each 2 5 refl).least 4 (omega arith));
    reads_later = λ h. false≢true (h.each 2 3 refl).ready;
    one_twice = λ h. false≢true (h.each 7 0 refl).ready;
    too_few = λ h. omega (arith, h.count);
    ordered = ordered (reordered (0 ∷ 1 ∷ 5 ∷ 4 ∷ 3 ∷ 6 ∷ 7 ∷ 2 ∷ [])) refl refl refl refl refl refl;
    unordered = λ h. not_has (0 ∷ 1 ∷ []) 5 refl (h.reads_first 2 (sampled_flow 1 (Binary Multiply 5 4)) (omega arith) refl 0 0 (omega arith));
    clock_later = λ h. not_has (0 ∷ []) 1 refl (h.reads_first 1 (sampled_flow 1 (number 2)) (omega arith) refl 0 0 (omega arith));
    missing = λ h. not_has (0 ∷ 1 ∷ 4 ∷ 5 ∷ 3 ∷ 6 ∷ 7 ∷ []) 2 refl (h.all_flows 2 (omega arith));
    doubled = λ h. omega (arith, h.once 0 8 (omega arith) (omega arith) refl);
  };
  tables = record {
    columns = (refl, two_ints, (refl, two_truths, tt));
    other_name = λ h. false≢true (ap (λ l. bytes_eq l (codes "x")) h.0);
    other_second_name = λ h. false≢true (ap (λ l. bytes_eq l (codes "c")) h.2.0);
    turned = λ h. false≢true (ap (λ l. bytes_eq l (codes "x")) h.0);
    too_few = λ h. h.2;
    too_many = λ h. h.2.2;
    truth_for_int = λ h. (h.1 1 Nil (omega arith)).0;
    int_for_truth = λ h. (h.2.1 1 Nil (omega arith)).0;
    nil = λ h. (h.1 1 Nil (omega arith)).1 refl;
    no_instants = (refl, All-nil (IsConstantOf Ints), (refl, All-nil (IsConstantOf Truths), tt));
    modes = (refl, three_modes, tt);
    past_names = λ h. omega (arith, (h.1 1 Nil (omega arith)).0);
    truth_for_name = λ h. (h.1 0 Nil (omega arith)).0;
    int_for_name = λ h. (h.1 0 Nil (omega arith)).0;
    nil_for_name = λ h. (h.1 0 Nil (omega arith)).1 refl;
    name_for_int = λ h. (h.1 0 Nil (omega arith)).0;
    name_for_truth = λ h. (h.2.1 0 Nil (omega arith)).0;
    long = record { few = omega arith; long = columns_long (record { instants = 2; columns = of_x ∷ of_c ∷ [] }) refl };
    longer = λ h. omega (arith, h.long 0 of_x (omega arith));
    shorter = λ h. omega (arith, h.long 0 of_x (omega arith));
    second_shorter = λ h. omega (arith, h.long 1 of_x (omega arith));
    last = record { few = omega arith; long = columns_long (record { instants = 1000000; columns = [] }) refl };
    past_last = λ h. omega (arith, h.few);
  };
  types = record {
    int = tt;
    bool = tt;
    first = (three_names, refl, refl);
    second = (one_name, refl, refl);
    fewer = λ h. let same : three_names ≡ h.0 = same_Some three_names h.0 h.1 in omega (arith, ap (λ (t : Enum). length t.names) same, h.2);
    of_the_other = λ h. let same : one_name ≡ h.0 = same_Some one_name h.0 h.1 in omega (arith, ap (λ (t : Enum). length t.names) same, h.2);
    no_such_place = λ h. none-some h.0 h.1;
    unknown = λ h. none-some h.0 h.1;
    names_are = refl;
  };
  variables_are = record { inputs = refl; outputs = refl; by_number = refl; are_outputs = refl };
}
