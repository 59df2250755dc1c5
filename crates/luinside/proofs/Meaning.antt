-- The list that is made has all instances, with their flows in the flat program.
use Rattle.std.proofs.Common.{◌≡◌, ◌<◌, ◌≤◌, ℕ, ◌+◌, List, [], length, Some, None, sym, ap, ◌∙◌, subst, arith}
use Rattle.std.specs.Prelude.{slice_index}
use Rattle.std.proofs.lemmas.Option.{none-some, slice_get_within}
use Rattle.lutree.specs.Tree.{ProgramTree}
use Rattle.luflow.specs.Program.{FlatView, flows_of}
use Rattle.luflow.specs.declared.form.Flow.{Flow}
use Rattle.lusource.specs.Names.{variables_of, place_of}
use Rattle.lusource.specs.Instances.{instance_at}
use Rattle.lusource.specs.Agreement.{IsFlowOf}
use Rattle.lustat_rules.specs.Naming.{node_place, Reaches, IsCallOrder}
use Rattle.lustat_rules.specs.Accepted.{Rule}
use Rattle.lustat_rules.proofs.Calling as calling
use Rattle.lutype.proofs.CallPlaces.{means}
use Rattle.lucore_laws.specs.Layout.{list_of}
use Rattle.lucore_laws.specs.ListLaws.{DefineSomething}
use Rattle.lucore_laws.specs.Sizes.{size_at, size_of}
use Rattle.lucore_laws.proofs.Names.{all_imp, listed}
use Rattle.lucore_laws.proofs.Facts.{never_round}
use Rattle.lucore_laws.proofs.Counting as counting
use Rattle.lucore_laws.proofs.ListInstances.{flow_place, place_inside}
use Rattle.lucore_laws.proofs.Whole.{same_flow}
use Rattle.lucore_build.specs.Counted.{AreCounted}
use Rattle.lucore.specs.Result.{IsFlatOf}
use Rattle.luinside.specs.declared.listing.Instance.{Instance}
use Rattle.luinside.specs.Listing.{all_from}
use Rattle.luinside.specs.Listed.{IsInstance, AreInstances, ListsInstances}
use Rattle.luinside.proofs.Bounds.{bounds, less_at}
use Rattle.luinside.proofs.Standing.{Found, all_found}
use Rattle.luinside.proofs.Complete.{all_listed, short, increasing, ordered, once}

module _ (p : ProgramTree) (main : List ℕ) (flat : FlatView) (is : IsFlatOf p main flat) (counts : List ℕ) (counted : AreCounted p counts) where
  abbrev pub lists : List (List Flow)
  lists = is.laid_out.lists

  pub something : DefineSomething p
  something i j node q n e = ((is.accepted Rule.wrong_arity).equations i j node q n e).some

  pub never : (f : List ℕ) → ¬ Reaches p f f
  never f = never_round p main is.accepted something f

  -- a list is as long as its size says
  pub long : (f : List ℕ) → length (list_of p lists f) ≡ size_of p counted.0 f
  long f = counting.counted p lists counted.0 is.laid_out.are_lists counted.1 never f

  main_long : flows_of flat ≡ length (list_of p lists main)
  main_long = ap length is.laid_out.flows ∙ sym (ap length (listed p lists is.laid_out.are_lists main is.laid_out.node is.laid_out.is_main))

  -- the main node is small
  pub few : (i : ℕ) → node_place p main ≡ Some i → slice_index counts i ≤ 4096
  few i at_place =
      let l = long main in
      let m = main_long in
      let size = ap (size_at counted.0) at_place in
      let less = less_at counted.0 i in
      let same = ap (λ xs. slice_index xs i) counted.2 in
      omega (arith, l, m, size, less, same, is.is_flat.few)

  is_instance : (x : Instance) → Found p lists is.laid_out.are_lists main [] 0 x → IsInstance p main flat x
  is_instance x found =
      let s = found.stands in
      let rest = found.rest in
      record {
        node = s.node;
        is_node = s.is_node;
        at_path = subst (λ q. instance_at p main q ≡ Some s.node) (sym found.path_is) s.at_path;
        flows = λ y has.
            let v = place_of (variables_of s.node) y in
            let start = found.start_is in
            let flow = s.flow y in
            let at : flow_place p lists main rest y ≡ x.start + v = omega (arith, start, flow) in
            let inside = place_inside p lists is.laid_out.are_lists rest main s.node y s.at_path has in
            let m = main_long in
            let here : IsFlowOf p main flat rest y (flow_place p lists main rest y) = record {
              is_flow = omega (arith, inside, m);
              same = λ inputs σ τ sol sol' t. same_flow p main flat is.accepted something is.laid_out inputs is.is_flat.ordered σ τ sol sol' rest s.node y s.at_path has t;
            } in
            subst (λ q. IsFlowOf p main flat q y (x.start + v)) (sym found.path_is) (subst (IsFlowOf p main flat rest y) at here);
      }

  are_instances : (order : List ℕ) → IsCallOrder p order → (i : ℕ) → node_place p main ≡ Some i → AreInstances p main flat (all_from p counts (length order) [] i 0)
  are_instances order o i at_place =
      let d = length order in
      let list = all_from p counts d [] i 0 in
      let inside = slice_get_within p.nodes i (means p main i at_place).node (means p main i at_place).there in
      let in_order = ordered list (increasing p counts d [] i 0) in
      record {
        each = all_imp (Found p lists is.laid_out.are_lists main [] 0) (IsInstance p main flat) list is_instance
            (all_found p lists is.laid_out.are_lists counts counted.0 counted.2 (bounds p counts counted) long d main i [] 0 at_place (few i at_place));
        all = λ path node here. all_listed p counts d main i [] 0 path node at_place here (let lt = short p order o main i path node at_place inside here in omega (arith, lt));
        once = once list in_order;
        ordered = in_order;
      }

-- the list that is made for the main node, if that is small enough
pub made_list : (p : ProgramTree) (main counts order : List ℕ) (list : List Instance) (i : ℕ) → AreCounted p counts → IsCallOrder p order → node_place p main ≡ Some i
    → (slice_index counts i ≤ 4096 → list ≡ all_from p counts (length order) [] i 0) → ListsInstances p main list
made_list p main counts order list i counted o at_place made flat is =
    subst (AreInstances p main flat) (sym (made (few p main flat is counts counted i at_place))) (are_instances p main flat is counts counted order o i at_place)

-- where the main node is too large, there is no flat program
pub too_large : (p : ProgramTree) (main counts : List ℕ) (list : List Instance) (i : ℕ) → AreCounted p counts → node_place p main ≡ Some i → 4096 < slice_index counts i → ListsInstances p main list
too_large p main counts list i counted at_place large flat is = let le = few p main flat is counts counted i at_place in absurd (omega (arith, le, large))

-- where there is no main node, there is no flat program
pub no_main : (p : ProgramTree) (main : List ℕ) (list : List Instance) → node_place p main ≡ None → ListsInstances p main list
no_main p main list none flat is =
    let h = calling.place_of p main is.laid_out.node is.laid_out.is_main in
    absurd (none-some h.place (sym none ∙ h.at_place))
