-- The worked programs are flat programs, and their tables fit them.
use Rattle.std.proofs.Common.{◌≡◌, ℕ, ◌<◌, ◌≤◌, Bool, true, false, ◌||◌, Some, nat_eq, refl, ap, ◌∙◌, arith}
use Rattle.std.specs.Prelude.{length, slice_get, codes, pos}
use Rattle.std.proofs.lemmas.Bool.{le-ltb}
use Rattle.std.proofs.lemmas.List.Elements.{All-nil}
use Rattle.std.proofs.lemmas.Option.{slice_get_within}
use Rattle.lutree.specs.declared.expr.UnaryOperator.TheVariants.{Not}
use Rattle.lutree.specs.declared.expr.BinaryOperator.TheVariants.{Add, Divide}
use Rattle.lutree.specs.declared.program.Kind.TheVariants.{Int as Ints, Bool as Truths}
use Rattle.luflow.specs.declared.data.Status.TheVariants.{Absent}
use Rattle.luflow.specs.declared.form.Clock.{Clock}
use Rattle.luflow.specs.declared.form.Clock.TheVariants.{Base, On}
use Rattle.luflow.specs.declared.form.Form.{Form}
use Rattle.luflow.specs.declared.variable.Variable.{Variable}
use Rattle.lutree.specs.declared.program.Kind.{Kind}
use Rattle.luflow.specs.declared.form.Form.TheVariants.{Input, Constant, Unary, Binary, Pre, Arrow, When}
use Rattle.luflow.specs.declared.form.Flow.{Flow}
use Rattle.luflow.specs.declared.variable.Role.TheVariants as role
use Rattle.luflow.specs.Program.{FlatView, InputsView, IsOrdered, flow_at, flows_of, column_of}
use Rattle.luflow.specs.Rank.{reads_of}
use Rattle.luflow.specs.Streams.{Known, clock_at}
use Rattle.luflow.specs.Values.{under, value_at}
use Rattle.luflow.specs.Solution.{says, solution}
use Rattle.luflow.specs.Sound.{IsSound, IsFitFor, IsOn, AtMost, FormFits, ClockFits}
use Rattle.luflow.specs.Flats.{IsFlat}
use Rattle.luflow.specs.declared.data.Datum.TheVariants.{Int, Bool as Truth, Name}
use Rattle.luflow.specs.declared.form.FaultKind.TheVariants.{DivZero}
use Rattle.luflow.specs.Operators.{ZeroDivisor}
use Rattle.luflow.specs.Faults.{IsFault, OnBinary}
use Rattle.luflow.specs.Vectors.{int_flow, truth_flow, int_variable, truth_variable, number, IsWorked, two_counters, three, sampled_sum, four_samples, division, one_zero, one_two, held_sample, three_samples, chained, four_rows, three_names, of_three, mode_flow, three_ways, four_modes}
use Rattle.luflow.specs.FormVectors.{no_samples}
use Rattle.luflow.proofs.Solutions.{some_at, IsSolution-solution}
use Rattle.luflow.proofs.Patterns.{truth_pattern, name_pattern, some_values, some_names}
use Rattle.luflow.proofs.Worked.{each_at, ranked, ordered, places_below, inner, main_clocks, kinds, types, column, columns_long}

counters_ordered : IsOrdered two_counters
counters_ordered = ordered two_counters refl refl refl refl refl refl

sum_ordered : IsOrdered sampled_sum
sum_ordered = ordered sampled_sum refl refl refl refl refl refl

division_ordered : IsOrdered division
division_ordered = ordered division refl refl refl refl refl refl

-- flow r has this form
there : {flat : FlatView} {k : Clock} {s : Kind} {r : ℕ} (form : Form) → flow_at flat r ≡ Some (record { form = form; clock = k; kind = s }) → IsOn flat k s r
there form e = record { form = form; there = e }

-- a class that is never nil, and one that may be
never : {d : Bool} → AtMost false d
never e = cc

may : {c : Bool} → AtMost c true
may e = refl

abbrev IsInputThere : FlatView → ℕ → Flow → Type 0
IsInputThere flat i flow = (c : ℕ) → flow.form ≡ Input c → (c ≡ i) × (x : Variable) × (slice_get flat.variables i ≡ Some x) × (x.role ≡ role.Input)

abbrev IsInputFlow : FlatView → ℕ → Variable → Type 0
IsInputFlow flat v x = x.role ≡ role.Input → (flow : Flow) × (flow_at flat v ≡ Some flow) × (flow.form ≡ Input v) × (flow.kind ≡ x.kind)

-- `pre` and the sum may be nil at first
abbrev counters_class : ℕ → Bool
counters_class i = (nat_eq i 3 || nat_eq i 5) || (nat_eq i 7 || nat_eq i 9)

counters_sound : IsSound two_counters
counters_sound =
    record {
      class = counters_class;
      forms = each_at (λ i flow. FormFits two_counters counters_class flow.clock flow.kind (counters_class i) flow.form) two_counters.flows (
        (there (number 0) refl, there (Binary Add 3 4) refl, never),
        (
          (there (number 0) refl, there (Binary Add 7 8) refl, never),
          (
            (tt, λ e. cc),
            (
              (there (Arrow 6 9) refl, refl, refl),
              (
                (tt, λ e. cc),
                (
                  (Ints, refl, refl, there (Pre 1) refl, there (number 1) refl, may, never),
                  (
                    (tt, λ e. cc),
                    (
                      (there (Arrow 2 5) refl, refl, refl),
                      (
                        (tt, λ e. cc),
                        (
                          (Ints, refl, refl, there (Pre 0) refl, there (number 1) refl, may, never),
                          tt,
                        ),
                      ),
                    ),
                  ),
                ),
              ),
            ),
          ),
        ),
      );
      clocks = each_at (λ i flow. ClockFits two_counters counters_class flow.clock) two_counters.flows
          (tt, (tt, (tt, (tt, (tt, (tt, (tt, (tt, (tt, (tt, tt))))))))));
      outputs = each_at (λ v x. x.role ≡ role.Output → counters_class v ≡ false) two_counters.variables ((λ e. refl), ((λ e. refl), tt));
    }

pub counters_flat : IsFlat two_counters
counters_flat =
    record {
      ordered = counters_ordered;
      ranked = ranked (reads_of two_counters) two_counters.order refl refl;
      sound = counters_sound;
      few = omega arith;
      owners_len = refl;
      owners_in = places_below two_counters 2 two_counters.owners refl;
      inner = inner two_counters refl;
      main_clocks = main_clocks two_counters refl;
      input_there = λ i c flow here. each_at (IsInputThere two_counters) two_counters.flows
          ((λ c e. cc), ((λ c e. cc), ((λ c e. cc), ((λ c e. cc), ((λ c e. cc), ((λ c e. cc), ((λ c e. cc), ((λ c e. cc), ((λ c e. cc), ((λ c e. cc), tt))))))))))
          i flow here c;
      input_is = each_at (IsInputFlow two_counters) two_counters.variables ((λ e. cc), ((λ e. cc), tt));
      kinds = kinds two_counters (refl, (refl, tt));
      types = types two_counters (tt, (tt, (tt, (tt, (tt, (tt, (tt, (tt, (tt, (tt, tt))))))))));
      variables_first = omega arith;
      inputs_first = (_, refl);
    }

pub counters_worked : IsWorked two_counters three
counters_worked =
    record {
      flat_is = counters_flat;
      table_is = record { few = omega arith; long = All-nil (λ column. length column.values ≡ 3) };
      fit =
          record {
            columns = each_at (λ i flow. IsFitFor three flow.kind flow.form) two_counters.flows
                (tt, (tt, (tt, (tt, (tt, (tt, (tt, (tt, (tt, (tt, tt))))))))));
          };
    }

-- what is on the base clock is absent after the table
ends : (flat : FlatView) (inputs : InputsView) (i t : ℕ) (flow : Flow) → IsOrdered flat → flow_at flat i ≡ Some flow → flow.clock ≡ Base → inputs.instants ≤ t → solution flat inputs i t ≡ Known Absent
ends flat inputs i t flow ordered is base le =
    let σ = solution flat inputs in
    let v = value_at inputs σ flow.clock flow.form t in
    IsSolution-solution flat inputs ordered i t (slice_get_within flat.flows i flow is)
    ∙ ap (λ o. says inputs σ o t) is
    ∙ ap (λ k. under (clock_at inputs σ k t) v) base
    ∙ ap (λ b. under (Some b) v) (le-ltb t inputs.instants le)

pub counters_end : (i t : ℕ) → i < flows_of two_counters → 3 ≤ t → solution two_counters three i t ≡ Known Absent
counters_end i t l le =
    let x = some_at two_counters.flows i l in
    let base = each_at (λ i flow. flow.clock ≡ Base) two_counters.flows (refl, (refl, (refl, (refl, (refl, (refl, (refl, (refl, (refl, (refl, tt)))))))))) i x.0 x.1 in
    ends two_counters three i t x.0 counters_ordered x.1 base le

-- `pre y` and the sum may be nil at first
abbrev sum_class : ℕ → Bool
sum_class i = nat_eq i 6 || nat_eq i 7

-- the clock that is true where c is
on_c : ClockFits sampled_sum sum_class (On 1 (Truth true))
on_c = (Base, Truths, truth_pattern true, there (Input 1) refl, refl)

sum_sound : IsSound sampled_sum
sum_sound =
    record {
      class = sum_class;
      forms = each_at (λ i flow. FormFits sampled_sum sum_class flow.clock flow.kind (sum_class i) flow.form) sampled_sum.flows (
        refl,
        (
          refl,
          (
            (there (Input 0) refl, there (Binary Add 6 0) refl, never),
            (
              (Ints, refl, refl, there (number 2) refl, there (When 0) refl, never, never),
              (
                (1, Truth true, Truths, Base, refl, there (Input 1) refl, there (Input 0) refl, never),
                (
                  (tt, λ e. cc),
                  (
                    (there (Arrow 0 7) refl, refl, refl),
                    (
                      (Ints, refl, refl, there (Pre 2) refl, there (Input 0) refl, may, never),
                      tt,
                    ),
                  ),
                ),
              ),
            ),
          ),
        ),
      );
      clocks = each_at (λ i flow. ClockFits sampled_sum sum_class flow.clock) sampled_sum.flows
          (tt, (tt, (tt, (on_c, (on_c, (on_c, (tt, (tt, tt))))))));
      outputs = each_at (λ v x. x.role ≡ role.Output → sum_class v ≡ false) sampled_sum.variables
          ((λ e. refl), ((λ e. refl), ((λ e. refl), ((λ e. refl), ((λ e. refl), tt)))));
    }

pub sum_flat : IsFlat sampled_sum
sum_flat =
    record {
      ordered = sum_ordered;
      ranked = ranked (reads_of sampled_sum) sampled_sum.order refl refl;
      sound = sum_sound;
      few = omega arith;
      owners_len = refl;
      owners_in = places_below sampled_sum 5 sampled_sum.owners refl;
      inner = inner sampled_sum refl;
      main_clocks = main_clocks sampled_sum refl;
      input_there = λ i c flow here. each_at (IsInputThere sampled_sum) sampled_sum.flows (
        (λ c e. (cc, int_variable role.Input (codes "x"), refl, refl)),
        (
          (λ c e. (cc, truth_variable role.Input (codes "c"), refl, refl)),
          ((λ c e. cc), ((λ c e. cc), ((λ c e. cc), ((λ c e. cc), ((λ c e. cc), ((λ c e. cc), tt)))))),
        ),
      )
          i flow here c;
      input_is = each_at (IsInputFlow sampled_sum) sampled_sum.variables (
        (λ e. (int_flow (Input 0), refl, refl, refl)),
        (
          (λ e. (truth_flow (Input 1), refl, refl, refl)),
          ((λ e. cc), ((λ e. cc), ((λ e. cc), tt))),
        ),
      );
      kinds = kinds sampled_sum (refl, (refl, (refl, (refl, (refl, tt)))));
      types = types sampled_sum (tt, (tt, (tt, (tt, (tt, (tt, (tt, (tt, tt))))))));
      variables_first = omega arith;
      inputs_first = (_, refl);
    }

pub sum_worked : IsWorked sampled_sum four_samples
sum_worked =
    record {
      flat_is = sum_flat;
      table_is = record { few = omega arith; long = columns_long four_samples refl };
      fit =
          record {
            columns = each_at (λ i flow. IsFitFor four_samples flow.kind flow.form) sampled_sum.flows
                (column Ints (column_of four_samples 0) refl, (column Truths (column_of four_samples 1) refl, (tt, (tt, (tt, (tt, (tt, (tt, tt))))))));
          };
    }

division_sound : IsSound division
division_sound =
    record {
      class = λ i. nat_eq i 3;
      forms = each_at (λ i flow. FormFits division (λ i. nat_eq i 3) flow.clock flow.kind (nat_eq i 3) flow.form) division.flows (
        refl,
        (
          (there (number 0) refl, there (Pre 2) refl, never),
          (
            (Ints, refl, refl, there (number 1) refl, there (Input 0) refl, never, never),
            (
              (there (Binary Divide 4 0) refl, refl, refl),
              (
                (tt, λ e. cc),
                (
                  (tt, λ e. cc),
                  tt,
                ),
              ),
            ),
          ),
        ),
      );
      clocks = each_at (λ i flow. ClockFits division (λ i. nat_eq i 3) flow.clock) division.flows
          (tt, (tt, (tt, (tt, (tt, (tt, tt))))));
      outputs = each_at (λ v x. x.role ≡ role.Output → nat_eq v 3 ≡ false) division.variables
          ((λ e. refl), ((λ e. refl), ((λ e. refl), ((λ e. cc), tt))));
    }

pub division_flat : IsFlat division
division_flat =
    record {
      ordered = division_ordered;
      ranked = ranked (reads_of division) division.order refl refl;
      sound = division_sound;
      few = omega arith;
      owners_len = refl;
      owners_in = places_below division 4 division.owners refl;
      inner = inner division refl;
      main_clocks = main_clocks division refl;
      input_there = λ i c flow here. each_at (IsInputThere division) division.flows (
        (λ c e. (cc, int_variable role.Input (codes "x"), refl, refl)),
        ((λ c e. cc), ((λ c e. cc), ((λ c e. cc), ((λ c e. cc), ((λ c e. cc), tt))))),
      )
          i flow here c;
      input_is = each_at (IsInputFlow division) division.variables
          ((λ e. (int_flow (Input 0), refl, refl, refl)), ((λ e. cc), ((λ e. cc), ((λ e. cc), tt))));
      kinds = kinds division (refl, (refl, (refl, (refl, tt))));
      types = types division (tt, (tt, (tt, (tt, (tt, (tt, tt))))));
      variables_first = omega arith;
      inputs_first = (_, refl);
    }

pub division_worked : IsWorked division one_zero
division_worked =
    record {
      flat_is = division_flat;
      table_is = record { few = omega arith; long = columns_long one_zero refl };
      fit =
          record {
            columns = each_at (λ i flow. IsFitFor one_zero flow.kind flow.form) division.flows
                (column Ints (column_of one_zero 0) refl, (tt, (tt, (tt, (tt, (tt, tt))))));
          };
    }

pub quotient_worked : IsWorked division one_two
quotient_worked =
    record {
      flat_is = division_flat;
      table_is = record { few = omega arith; long = columns_long one_two refl };
      fit =
          record {
            columns = each_at (λ i flow. IsFitFor one_two flow.kind flow.form) division.flows
                (column Ints (column_of one_two 0) refl, (tt, (tt, (tt, (tt, (tt, tt))))));
          };
    }

-- y divides 1 by 0 at its second instant
pub division_fault : IsFault division one_zero (solution division one_zero) 2 1 DivZero
unfolding solution
division_fault =
    record {
      flow = int_flow (Binary Divide 4 0);
      there = refl;
      clock = refl;
      fault = OnBinary Divide 4 0 (Int (pos 1)) (Int (pos 0)) DivZero refl refl (ZeroDivisor _);
    }

-- `pre c` and its negation may be nil at first
abbrev held_class : ℕ → Bool
held_class i = nat_eq i 6 || nat_eq i 7

-- the clock that is true where c is, or where it isn't
on_held : (sign : Bool) → ClockFits held_sample held_class (On 3 (Truth sign))
on_held sign = (Base, Truths, truth_pattern sign, there (Arrow 5 7) refl, refl)

held_sound : IsSound held_sample
held_sound =
    record {
      class = held_class;
      forms = each_at (λ i flow. FormFits held_sample held_class flow.clock flow.kind (held_class i) flow.form) held_sample.flows (
        refl,
        (
          (3, Truth true, there (When 0) refl, refl, record { kind = Truths; first = 5; then = 7; there = refl; constant = refl; pattern = truth_pattern true }),
          (
            (Truths, some_values, there (Arrow 5 7) refl, refl, (there (When 0) refl, refl, (there (When 8) refl, refl, tt))),
            (
              (there (Constant (Truth true)) refl, there (Unary Not 6) refl, never),
              (
                (3, Truth true, Truths, Base, refl, there (Arrow 5 7) refl, there (Input 0) refl, never),
                (
                  (tt, λ e. cc),
                  (
                    (there (Arrow 5 7) refl, refl, refl),
                    (
                      (refl, there (Pre 3) refl, may),
                      (
                        (tt, λ e. cc),
                        (
                          (3, Truth false, Truths, Base, refl, there (Arrow 5 7) refl, there (number 0) refl, never),
                          tt,
                        ),
                      ),
                    ),
                  ),
                ),
              ),
            ),
          ),
        ),
      );
      clocks = each_at (λ i flow. ClockFits held_sample held_class flow.clock) held_sample.flows
          (tt, (tt, (tt, (tt, (on_held true, (tt, (tt, (tt, (tt, (on_held false, tt))))))))));
      outputs = each_at (λ v x. x.role ≡ role.Output → held_class v ≡ false) held_sample.variables
          ((λ e. refl), ((λ e. refl), ((λ e. refl), ((λ e. refl), ((λ e. refl), tt)))));
    }

held_flat : IsFlat held_sample
held_flat =
    record {
      ordered = ordered held_sample refl refl refl refl refl refl;
      ranked = ranked (reads_of held_sample) held_sample.order refl refl;
      sound = held_sound;
      few = omega arith;
      owners_len = refl;
      owners_in = places_below held_sample 5 held_sample.owners refl;
      inner = inner held_sample refl;
      main_clocks = main_clocks held_sample refl;
      input_there = λ i c flow here. each_at (IsInputThere held_sample) held_sample.flows (
        (λ c e. (cc, int_variable role.Input (codes "x"), refl, refl)),
        ((λ c e. cc), ((λ c e. cc), ((λ c e. cc), ((λ c e. cc), ((λ c e. cc), ((λ c e. cc), ((λ c e. cc), ((λ c e. cc), ((λ c e. cc), tt))))))))),
      )
          i flow here c;
      input_is = each_at (IsInputFlow held_sample) held_sample.variables
          ((λ e. (int_flow (Input 0), refl, refl, refl)), ((λ e. cc), ((λ e. cc), ((λ e. cc), ((λ e. cc), tt)))));
      kinds = kinds held_sample (refl, (refl, (refl, (refl, (refl, tt)))));
      types = types held_sample (tt, (tt, (tt, (tt, (tt, (tt, (tt, (tt, (tt, (tt, tt))))))))));
      variables_first = omega arith;
      inputs_first = (_, refl);
    }

pub held_worked : IsWorked held_sample three_samples
held_worked =
    record {
      flat_is = held_flat;
      table_is = record { few = omega arith; long = columns_long three_samples refl };
      fit =
          record {
            columns = each_at (λ i flow. IsFitFor three_samples flow.kind flow.form) held_sample.flows
                (column Ints (column_of three_samples 0) refl, (tt, (tt, (tt, (tt, (tt, (tt, (tt, (tt, (tt, tt))))))))));
          };
    }

-- nothing is ever nil
abbrev never_nil : ℕ → Bool
never_nil i = false

on_b : ClockFits chained never_nil (On 1 (Truth true))
on_b = (Base, Truths, truth_pattern true, there (Input 1) refl, refl)

on_chained : ClockFits chained never_nil (On 3 (Truth true))
on_chained = (On 1 (Truth true), Truths, truth_pattern true, there (When 2) refl, refl)

chained_sound : IsSound chained
chained_sound =
    record {
      class = never_nil;
      forms = each_at (λ i flow. FormFits chained never_nil flow.clock flow.kind false flow.form) chained.flows (
        refl,
        (
          refl,
          (
            refl,
            (
              (1, Truth true, Truths, Base, refl, there (Input 1) refl, there (Input 2) refl, never),
              (
                (there (When 6) refl, never),
                (
                  (3, Truth true, Truths, On 1 (Truth true), refl, there (When 2) refl, there (When 0) refl, never),
                  ((1, Truth true, Truths, Base, refl, there (Input 1) refl, there (Input 0) refl, never), tt),
                ),
              ),
            ),
          ),
        ),
      );
      clocks = each_at (λ i flow. ClockFits chained never_nil flow.clock) chained.flows
          (tt, (tt, (tt, (on_b, (on_chained, (on_chained, (on_b, tt)))))));
      outputs = λ v x e o. refl;
    }

chained_flat : IsFlat chained
chained_flat =
    record {
      ordered = ordered chained refl refl refl refl refl refl;
      ranked = ranked (reads_of chained) chained.order refl refl;
      sound = chained_sound;
      few = omega arith;
      owners_len = refl;
      owners_in = places_below chained 6 chained.owners refl;
      inner = inner chained refl;
      main_clocks = main_clocks chained refl;
      input_there = λ i c flow here. each_at (IsInputThere chained) chained.flows (
        (λ c e. (cc, int_variable role.Input (codes "x"), refl, refl)),
        (
          (λ c e. (cc, truth_variable role.Input (codes "b"), refl, refl)),
          (
            (λ c e. (cc, truth_variable role.Input (codes "d"), refl, refl)),
            ((λ c e. cc), ((λ c e. cc), ((λ c e. cc), ((λ c e. cc), tt)))),
          ),
        ),
      )
          i flow here c;
      input_is = each_at (IsInputFlow chained) chained.variables (
        (λ e. (int_flow (Input 0), refl, refl, refl)),
        (
          (λ e. (truth_flow (Input 1), refl, refl, refl)),
          ((λ e. (truth_flow (Input 2), refl, refl, refl)), ((λ e. cc), ((λ e. cc), ((λ e. cc), tt)))),
        ),
      );
      kinds = kinds chained (refl, (refl, (refl, (refl, (refl, (refl, tt))))));
      types = types chained (tt, (tt, (tt, (tt, (tt, (tt, (tt, tt)))))));
      variables_first = omega arith;
      inputs_first = (_, refl);
    }

pub chained_worked : IsWorked chained four_rows
chained_worked =
    record {
      flat_is = chained_flat;
      table_is = record { few = omega arith; long = columns_long four_rows refl };
      fit =
          record {
            columns = each_at (λ i flow. IsFitFor four_rows flow.kind flow.form) chained.flows
                (column Ints (column_of four_rows 0) refl, (column Truths (column_of four_rows 1) refl, (column Truths (column_of four_rows 2) refl, (tt, (tt, (tt, (tt, tt)))))));
          };
    }

-- the clock that is true where m has a name
on_name : (k : ℕ) → k < 3 → ClockFits three_ways never_nil (On 0 (Name k))
on_name k l = (Base, of_three, name_pattern 0 3 k l, there (Input 0) refl, refl)

ways_sound : IsSound three_ways
ways_sound =
    record {
      class = never_nil;
      forms = each_at (λ i flow. FormFits three_ways never_nil flow.clock flow.kind false flow.form) three_ways.flows (
        refl,
        (
          refl,
          (
            (of_three, some_names 0 2, there (Input 0) refl, refl, (there (When 1) refl, refl, (there (When 1) refl, refl, (there (When 6) refl, refl, tt)))),
            (
              (of_three, refl, refl, there (Input 0) refl, there (Constant (Name 1)) refl, never, never),
              (
                (0, Name 1, of_three, Base, refl, there (Input 0) refl, there (Input 1) refl, never),
                (
                  (0, Name 0, of_three, Base, refl, there (Input 0) refl, there (Input 1) refl, never),
                  (
                    (tt, λ e. cc),
                    (
                      (0, Name 2, of_three, Base, refl, there (Input 0) refl, there (number 7) refl, never),
                      (
                        (omega arith, λ e. cc),
                        tt,
                      ),
                    ),
                  ),
                ),
              ),
            ),
          ),
        ),
      );
      clocks = each_at (λ i flow. ClockFits three_ways never_nil flow.clock) three_ways.flows
          (tt, (tt, (tt, (tt, (on_name 1 (omega arith), (on_name 0 (omega arith), (tt, (on_name 2 (omega arith), (tt, tt)))))))));
      outputs = λ v x e o. refl;
    }

ways_flat : IsFlat three_ways
ways_flat =
    record {
      ordered = ordered three_ways refl refl refl refl refl refl;
      ranked = ranked (reads_of three_ways) three_ways.order refl refl;
      sound = ways_sound;
      few = omega arith;
      owners_len = refl;
      owners_in = places_below three_ways 5 three_ways.owners refl;
      inner = inner three_ways refl;
      main_clocks = main_clocks three_ways refl;
      input_there = λ i c flow here. each_at (IsInputThere three_ways) three_ways.flows (
        (λ c e. (cc, record { name = codes "m"; role = role.Input; kind = of_three }, refl, refl)),
        (
          (λ c e. (cc, int_variable role.Input (codes "x"), refl, refl)),
          ((λ c e. cc), ((λ c e. cc), ((λ c e. cc), ((λ c e. cc), ((λ c e. cc), ((λ c e. cc), ((λ c e. cc), tt))))))),
        ),
      )
          i flow here c;
      input_is = each_at (IsInputFlow three_ways) three_ways.variables (
        (λ e. (mode_flow (Input 0), refl, refl, refl)),
        (
          (λ e. (int_flow (Input 1), refl, refl, refl)),
          ((λ e. cc), ((λ e. cc), ((λ e. cc), tt))),
        ),
      );
      kinds = kinds three_ways (refl, (refl, (refl, (refl, (refl, tt)))));
      types = types three_ways
          ((three_names, refl, refl), (tt, (tt, (tt, (tt, (tt, (tt, (tt, ((three_names, refl, refl), tt)))))))));
      variables_first = omega arith;
      inputs_first = (_, refl);
    }

pub ways_worked : IsWorked three_ways four_modes
ways_worked =
    record {
      flat_is = ways_flat;
      table_is = record { few = omega arith; long = columns_long four_modes refl };
      fit =
          record {
            columns = each_at (λ i flow. IsFitFor four_modes flow.kind flow.form) three_ways.flows
                (column of_three (column_of four_modes 0) refl, (column Ints (column_of four_modes 1) refl, (tt, (tt, (tt, (tt, (tt, (tt, (tt, tt)))))))));
          };
    }

-- without instants
pub idle_worked : IsWorked sampled_sum no_samples
idle_worked =
    record {
      flat_is = sum_flat;
      table_is = record { few = omega arith; long = columns_long no_samples refl };
      fit =
          record {
            columns = each_at (λ i flow. IsFitFor no_samples flow.kind flow.form) sampled_sum.flows
                (column Ints (column_of no_samples 0) refl, (column Truths (column_of no_samples 1) refl, (tt, (tt, (tt, (tt, (tt, (tt, tt))))))));
          };
    }
