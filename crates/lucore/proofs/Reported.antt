-- What is reported of an accepted program, from what is laid out for it.
use Rattle.std.proofs.Common.{◌≡◌, ℕ, ◌<◌, ◌≤◌, List, [], length, map, Some, Bool, true, false, ⊎_elim, arith, subst}
use Rattle.std.specs.Prelude.{slice_get, slice_index, All}
use Rattle.std.proofs.lemmas.Bool.{cases_lt}
use Rattle.std.proofs.lemmas.List.{length-map}
use Rattle.std.proofs.lemmas.Option.{slice_get-get_or}
use Rattle.lutree.specs.declared.program.Program.{Program}
use Rattle.lutree.specs.Tree.{ProgramTree, program_view}
use Rattle.luflow.specs.declared.variable.Variable.{Variable}
use Rattle.luflow.specs.Program.{FlatView, reads}
use Rattle.luflow.specs.Rank.{IsRankOrder, Chain}
use Rattle.luflow.proofs.Solutions.{some_at}
use Rattle.lustat_rules.specs.Accepted.{IsAccepted}
use Rattle.lucore_laws.specs.Layout.{IsLaidOut}
use Rattle.lucore_laws.specs.ListLaws.{IsClosed}
use Rattle.lucore_laws.proofs.There.{flat_list_law}
use Rattle.lucore_laws.proofs.ToSource.{owners_own}
use Rattle.lucore_laws.specs.Rank.{AreClosed, IsLeastOnCycle}
use Rattle.lucore_build.specs.Counted.{IsTooLong}
use Rattle.lucore_build.specs.declared.laying.FlatList.{FlatList}
use Rattle.lucore_build.specs.Listed.{IsListOf}
use Rattle.lucore.specs.Result.{IsFlatOf, IsTooLarge, ReadsItself}
use Rattle.lucore.proofs.Whole.{chain_inside, define_something, closed, rows_closed, whole}

-- its list is too large where it has more flows than that
pub too_large : (p : ProgramTree) (main : List ℕ) → IsAccepted p main → (large : Bool) → IsTooLong p main large → large ≡ true → IsTooLarge p main
too_large p main accepted large long is =
    let there = flat_list_law p main accepted in
    record { flat = there.0; laid_out = there.1; large = (long there.0 there.1).0 is }

-- what is laid out from the same program and name
pub listed_for : (program catalog : Program) (main name : List ℕ) (laid : FlatList) → catalog ≡ program → name ≡ main → IsListOf (program_view catalog) name laid → IsListOf (program_view program) main laid
listed_for program catalog main name laid same_program same_name listed =
    subst (λ name. IsListOf (program_view program) name laid) same_name (subst (λ g. IsListOf (program_view g) name laid) same_program listed)

module _ (p : ProgramTree) (main : List ℕ) (laid : FlatList) (accepted : IsAccepted p main) (listed : IsListOf p main laid) where
  abbrev pub flat_with : List ℕ → FlatView
  flat_with order = record { types = laid.types.items; flows = laid.flows.items; order = order; owners = laid.owners.items; variables = laid.variables.items }

  abbrev rows : List (List ℕ)
  rows = map reads laid.flows.items

  -- what is laid out is the program's list
  pub laid_out : (order : List ℕ) → IsLaidOut p main (flat_with order)
  laid_out order =
      let out = (flat_list_law p main accepted).1 in
      let main_list = listed out.node out.is_main in
      let node_list = main_list.0 out.lists out.are_lists in
      record {
        lists = out.lists;
        are_lists = out.are_lists;
        node = out.node;
        is_main = out.is_main;
        flows = node_list.0;
        owners = node_list.1;
        variables = main_list.1;
        types = main_list.2;
      }

  list_closed : IsClosed (flat_with [])
  list_closed = closed p main (flat_with []) accepted (laid_out [])

  pub are_closed : AreClosed rows
  are_closed = rows_closed p main (flat_with []) accepted (laid_out [])

  pub few_if : (large : Bool) → IsTooLong p main large → large ≡ false → length laid.flows.items ≤ 4096
  few_if large long is =
      let same = long (flat_with []) (laid_out []) in
      ⊎_elim
      (λ (more : 4096 < length laid.flows.items). let yes : large ≡ true = same.1 more in cc)
      (λ (few : length laid.flows.items ≤ 4096). few)
      (cases_lt 4096 (length laid.flows.items))

  pub flat_is : (order : List ℕ) → length laid.flows.items ≤ 4096 → IsRankOrder rows order → ((x : ℕ) → ¬ Chain rows x x) → IsFlatOf p main (flat_with order)
  flat_is order few ranked straight = whole p main (flat_with order) accepted (laid_out order) few ranked straight

  pub has_owner : (place : ℕ) → Chain rows place place → place < length laid.owners.items
  has_owner place chain =
      let lt = chain_inside rows place place chain in
      let len = length-map laid.flows.items reads in
      let owned = list_closed.owners_len in
      omega (arith, lt, len, owned)

  pub owners_in : All (λ v. v < length laid.variables.items) laid.owners.items
  owners_in = list_closed.owners_in

  -- the name is that of the variable in whose equation the least flow on a cycle stands
  pub cycle_reported : (name : List ℕ) (place : ℕ) → length laid.flows.items ≤ 4096 → IsLeastOnCycle rows place
      → ((x : Variable) → slice_get laid.variables.items (slice_index laid.owners.items place) ≡ Some x → name ≡ x.name)
      → ReadsItself p main name
  cycle_reported name place few least named =
      let inside = has_owner place least.cycle in
      let v = slice_index laid.owners.items place in
      let x = some_at laid.variables.items v (owners_in place 0 inside) in
      let out = laid_out [] in
      let own = owners_own p main (flat_with []) out.node accepted (define_something p main accepted) out out.is_main place v least.cycle (slice_get-get_or laid.owners.items place 0 inside) in
      record {
        flat = flat_with [];
        laid_out = out;
        few = few;
        place = place;
        least = least;
        owner = x.0;
        is_owner = x.1;
        named = named x.0 x.1;
        occurrence = own.0;
        leads = own.1;
        owns = own.2;
      }
