use Rattle.std.proofs.Common.{◌≡◌, ◌<◌, ◌≤◌, ℕ, zero, suc, List, [], ◌∷◌, length, Some, refl, ap, ◌∙◌, subst, arith}
use Rattle.std.specs.Prelude.{slice_get, codes}
use Rattle.std.proofs.lemmas.Option.{same_Some}
use Rattle.lutree.specs.Tree.{EquationTree, NodeTree, program_of}
use Rattle.luflow.specs.declared.form.Flow.{Flow}
use Rattle.luflow.specs.Vectors as flat
use Rattle.lucore_laws.specs.ListVectors.{division, held_sample, delay, delayed_call, delay_list, delayed_flat, pair, two_calls, pair_list, two_calls_flat, turn, turning, turning_flat}
use Rattle.lucore_laws.specs.Layout.{AreLists, IsLaidOut, node_flows}
use Rattle.lucore_laws.specs.Sizes.{node_size}
use Rattle.lucore_laws.specs.ListLaws.{DefineSomething, HasColumns}
use Rattle.lucore_laws.proofs.Whole.{agrees}
use Rattle.lustat_rules.specs.Vectors.{sampler}
use Rattle.lustat_rules.proofs.Sampler.{accepted}
use Rattle.luflow.proofs.Vectors.{sum_flat}
use Rattle.lucore_laws.proofs.list_laws.vectors_law.Goals as goal

-- the list of a program of one node
one_list : (node : NodeTree) (flows : List Flow) → flows ≡ node_flows (program_of (node ∷ [])) (flows ∷ []) node → AreLists (program_of (node ∷ [])) (flows ∷ [])
one_list node flows e = record { count = refl; each = each }
  where
    each : (i : ℕ) (n : NodeTree) → slice_get (node ∷ []) i ≡ Some n → slice_get (flows ∷ []) i ≡ Some (node_flows (program_of (node ∷ [])) (flows ∷ []) n)
    each zero n same = ap Some e ∙ ap (λ n. Some (node_flows (program_of (node ∷ [])) (flows ∷ []) n)) (same_Some node n same)
    each (suc i) n same = cc

delayed_lists : AreLists (program_of (delay ∷ delayed_call ∷ [])) (delay_list ∷ delayed_flat.flows ∷ [])
delayed_lists = record { count = refl; each = each }
  where
    each : (i : ℕ) (n : NodeTree) → slice_get (delay ∷ delayed_call ∷ []) i ≡ Some n → slice_get (delay_list ∷ delayed_flat.flows ∷ []) i ≡ Some (node_flows (program_of (delay ∷ delayed_call ∷ [])) (delay_list ∷ delayed_flat.flows ∷ []) n)
    each zero n same = ap (λ n. Some (node_flows (program_of (delay ∷ delayed_call ∷ [])) (delay_list ∷ delayed_flat.flows ∷ []) n)) (same_Some delay n same)
    each (suc zero) n same = ap (λ n. Some (node_flows (program_of (delay ∷ delayed_call ∷ [])) (delay_list ∷ delayed_flat.flows ∷ []) n)) (same_Some delayed_call n same)
    each (suc (suc i)) n same = cc

call_lists : AreLists (program_of (two_calls ∷ delay ∷ pair ∷ [])) (two_calls_flat.flows ∷ delay_list ∷ pair_list ∷ [])
call_lists = record { count = refl; each = each }
  where
    each : (i : ℕ) (n : NodeTree) → slice_get (two_calls ∷ delay ∷ pair ∷ []) i ≡ Some n → slice_get (two_calls_flat.flows ∷ delay_list ∷ pair_list ∷ []) i ≡ Some (node_flows (program_of (two_calls ∷ delay ∷ pair ∷ [])) (two_calls_flat.flows ∷ delay_list ∷ pair_list ∷ []) n)
    each zero n same = ap (λ n. Some (node_flows (program_of (two_calls ∷ delay ∷ pair ∷ [])) (two_calls_flat.flows ∷ delay_list ∷ pair_list ∷ []) n)) (same_Some two_calls n same)
    each (suc zero) n same = ap (λ n. Some (node_flows (program_of (two_calls ∷ delay ∷ pair ∷ [])) (two_calls_flat.flows ∷ delay_list ∷ pair_list ∷ []) n)) (same_Some delay n same)
    each (suc (suc zero)) n same = ap (λ n. Some (node_flows (program_of (two_calls ∷ delay ∷ pair ∷ [])) (two_calls_flat.flows ∷ delay_list ∷ pair_list ∷ []) n)) (same_Some pair n same)
    each (suc (suc (suc i))) n same = cc

turn_lists : AreLists turning (turning_flat.flows ∷ [])
turn_lists = record { count = refl; each = each }
  where
    each : (i : ℕ) (n : NodeTree) → slice_get (turn ∷ []) i ≡ Some n → slice_get (turning_flat.flows ∷ []) i ≡ Some (node_flows turning (turning_flat.flows ∷ []) n)
    each zero n same = ap (λ n. Some (node_flows turning (turning_flat.flows ∷ []) n)) (same_Some turn n same)
    each (suc i) n same = cc

sums : IsLaidOut (program_of (sampler ∷ [])) (codes "main") flat.sampled_sum
sums =
    record {
      lists = flat.sampled_sum.flows ∷ [];
      are_lists = one_list sampler flat.sampled_sum.flows refl;
      node = sampler;
      is_main = refl;
      flows = refl;
      owners = refl;
      variables = refl;
      types = refl;
    }

-- the premises of the agreement
define : DefineSomething (program_of (sampler ∷ []))
define zero j node q e at = subst (λ (n : NodeTree). slice_get n.equations j ≡ Some q → 0 < length q.left) (same_Some sampler node e) (one_left j) at
  where
    one_left : (j : ℕ) → slice_get sampler.equations j ≡ Some q → 0 < length q.left
    one_left zero same = subst (λ (q : EquationTree). 0 < length q.left) (same_Some _ q same) (omega arith)
    one_left (suc zero) same = subst (λ (q : EquationTree). 0 < length q.left) (same_Some _ q same) (omega arith)
    one_left (suc (suc zero)) same = subst (λ (q : EquationTree). 0 < length q.left) (same_Some _ q same) (omega arith)
    one_left (suc (suc (suc j))) same = cc
define (suc i) j node q e at = cc

columns : HasColumns (program_of (sampler ∷ [])) (codes "main") flat.four_samples
columns node e = subst (λ (n : NodeTree). length n.inputs ≤ 2) (same_Some sampler node e) (omega arith)

sizes : (i : ℕ) (n : NodeTree) → slice_get (two_calls ∷ delay ∷ pair ∷ []) i ≡ Some n → slice_get (23 ∷ 4 ∷ 8 ∷ []) i ≡ Some (node_size (program_of (two_calls ∷ delay ∷ pair ∷ [])) (23 ∷ 4 ∷ 8 ∷ []) n)
sizes zero n same = ap (λ n. Some (node_size (program_of (two_calls ∷ delay ∷ pair ∷ [])) (23 ∷ 4 ∷ 8 ∷ []) n)) (same_Some two_calls n same)
sizes (suc zero) n same = ap (λ n. Some (node_size (program_of (two_calls ∷ delay ∷ pair ∷ [])) (23 ∷ 4 ∷ 8 ∷ []) n)) (same_Some delay n same)
sizes (suc (suc zero)) n same = ap (λ n. Some (node_size (program_of (two_calls ∷ delay ∷ pair ∷ [])) (23 ∷ 4 ∷ 8 ∷ []) n)) (same_Some pair n same)
sizes (suc (suc (suc i))) n same = cc

pub returns : goal.returns
returns c = record {
  sums = sums;
  divisions = record { lists = flat.division.flows ∷ []; are_lists = one_list division flat.division.flows refl; node = division; is_main = refl; flows = refl; owners = refl; variables = refl; types = refl };
  samples = record { lists = flat.held_sample.flows ∷ []; are_lists = one_list held_sample flat.held_sample.flows refl; node = held_sample; is_main = refl; flows = refl; owners = refl; variables = refl; types = refl };
  delayed = record { lists = delay_list ∷ delayed_flat.flows ∷ []; are_lists = delayed_lists; node = delayed_call; is_main = refl; flows = refl; owners = refl; variables = refl; types = refl };
  calls = record { lists = two_calls_flat.flows ∷ delay_list ∷ pair_list ∷ []; are_lists = call_lists; node = two_calls; is_main = refl; flows = refl; owners = refl; variables = refl; types = refl };
  turns = record { lists = turning_flat.flows ∷ []; are_lists = turn_lists; node = turn; is_main = refl; flows = refl; owners = refl; variables = refl; types = refl };
  sizes = record { count = refl; each = sizes };
  sums_agree = agrees (program_of (sampler ∷ [])) (codes "main") flat.four_samples flat.sampled_sum accepted define sums sum_flat.ordered columns;
}
