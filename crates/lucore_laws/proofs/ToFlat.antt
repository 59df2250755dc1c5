-- A cycle of the source is one of the flat list.
use Rattle.std.proofs.Common.{◌≡◌, ℕ, ◌⊎◌, inl, inr, true, List, [], ◌∷◌, length, map, Option, Some, None, refl, sym, ap, ◌∙◌, subst}
use Rattle.std.specs.Prelude.{slice_get, option_map, unwrap_or, IfSome}
use Rattle.std.proofs.lemmas.Option.{slice_get-map}
use Rattle.lutree.specs.Tree.{EquationTree, NodeTree, ProgramTree}
use Rattle.luflow.specs.declared.form.Flow.{Flow}
use Rattle.luflow.specs.Program.{FlatView, reads}
use Rattle.luflow.specs.Rank.{has, row, reads_of, Chain}
use Rattle.lucore_laws.proofs.Orders.{has_from_contains}
use Rattle.lustat_rules.specs.Scope.{node_called}
use Rattle.lustat_rules.specs.Naming.{value_count}
use Rattle.lustat_rules.specs.Accepted.{Rule, IsAccepted}
use Rattle.lucore_laws.specs.Layout.{list_of, IsLaidOut}
use Rattle.lucore_laws.specs.ListLaws.{DefineSomething}
use Rattle.lucore_laws.proofs.Names.{listed, placed}
use Rattle.lucore_laws.proofs.Facts.{facts}
use Rattle.lucore_laws.specs.Reads.{Occurrence, Instance, Item, items_of, items_in_node, main_instance, IsInstance, Reads, Leads}
use Rattle.lucore_laws.specs.Reads.Occurrence.{variable, operator}
use Rattle.lucore_laws.specs.Reads.Item.{reading, calling}
use Rattle.lucore_laws.specs.CausalityLaws.{HasCycle, HasFlatCycle}
use Rattle.lucore_laws.proofs.Graph.{Every, every_of, every_get, targets, Solves}
use Rattle.lucore_laws.proofs.ToSource.{outer, targets_read}
use Rattle.lucore_laws.proofs.Expressions.{ItemHolds}
use Rattle.lucore_laws.proofs.Places.{spotted, IsVariable, IsOperator, FlatReads, Step, Placed}
use Rattle.lucore_laws.proofs.Instances.{node_good}

every_same : (P : ℕ → Type 0) (xs : List ℕ) → Every P xs → Every P (map (λ x. x) xs)
every_same P [] h = tt
every_same P (x ∷ xs) h = (h.0, every_same P xs h.1)

module _ (p : ProgramTree) (main : List ℕ) (flat : FlatView) (accepted : IsAccepted p main) (some : DefineSomething p) (out : IsLaidOut p main flat) where
  abbrev G : ℕ → ℕ → Type 0
  G = FlatReads p out.lists main flat

  abbrev Steps : Occurrence → Occurrence → Type 0
  Steps = Step p out.lists main flat

  abbrev IsPlaced : Instance → Type 0
  IsPlaced = Placed p out.lists main flat

  abbrev Good : Item → Type 0
  Good = ItemHolds Steps IsPlaced

  abbrev at_place : Occurrence → ℕ
  at_place = spotted p out.lists main

  reads_there : (x : ℕ) (f : Flow) → slice_get flat.flows x ≡ Some f → Every (G x) (targets (outer (λ x. x)) f)
  reads_there x f e =
      let is : row (reads_of flat) x ≡ reads f = ap (λ o. unwrap_or o []) (slice_get-map reads flat.flows x ∙ ap (option_map reads) e) in
      subst (Every (G x)) (sym (targets_read (λ x. x) f))
      (every_same (G x) (reads f) (every_of (G x) (reads f) (λ y c. subst (λ l. has l y ≡ true) (sym is) (has_from_contains (reads f) y c))))

  main_placed : IsPlaced (main_instance main)
  main_placed =
      let flows_are : list_of p out.lists main ≡ flat.flows = listed p out.lists out.are_lists main out.node out.is_main ∙ sym out.flows in
      record {
        model = outer (λ x. x);
        found = refl;
        base_is = refl;
        given_are = λ n e r lt. refl;
        solves = subst (Solves G (outer (λ x. x))) (sym flows_are) reads_there;
      }

  values : (f : List ℕ) (node : NodeTree) → node_called p f ≡ Some node → (n : ℕ) (q : EquationTree) → slice_get node.equations n ≡ Some q → IfSome (value_count p q.right) (λ count. length q.left ≡ count)
  values f node e n q at = let here = placed p f node e in ((accepted Rule.wrong_arity).equations here.place n node q here.node at).values

  items_good : (a : Instance) → IsPlaced a → Every Good (items_of p a)
  items_good a is = go (node_called p a.node) refl
    where
      go : (o : Option NodeTree) → node_called p a.node ≡ o → Every Good (items_in_node p a o)
      go None e = tt
      go (Some node) e =
          node_good p out.lists main flat node (facts p main accepted some a.node node e) a (λ f n e. (facts p main accepted some f n e).apart) e is.model is.found is.base_is (λ r lt. is.given_are node e r lt) (values a.node node e)
          (subst (Solves G is.model) (listed p out.lists out.are_lists a.node node e) is.solves)

  all_placed : (a : Instance) → IsInstance p main a → IsPlaced a
  all_placed _ IsInstance.first = main_placed
  all_placed _ (IsInstance.called a b is c) = every_get Good (items_of p a) (calling b) (items_good a (all_placed a is)) c

  read_step : (x y : Occurrence) → Reads p main x y → Steps x y
  read_step x y r =
      let a = r.instance in
      let h = every_get Good (items_of p a) (reading x r.all) (items_good a (all_placed a r.is_instance)) r.there in
      every_get (Steps x) r.all y h r.among

  not_both : (x : Occurrence) → IsOperator p out.lists main x → IsVariable p out.lists main x → ⊥
  not_both (variable path x) o v = o
  not_both (operator path t) o v = v

  abbrev Same : Occurrence → Occurrence → Type 0
  Same x y = (at_place x ≡ at_place y) × IsVariable p out.lists main x × IsOperator p out.lists main y

  abbrev Way : Occurrence → Occurrence → Type 0
  Way x y = Chain (reads_of flat) (at_place x) (at_place y) ⊎ Same x y

  then_step : (x y z : Occurrence) → Way x y → Steps y z → Way x z
  then_step x y z (inl way) (inl g) = inl (Chain.more (at_place x) (at_place y) (at_place z) way g)
  then_step x y z (inl way) (inr same) = inl (subst (Chain (reads_of flat) (at_place x)) same.0 way)
  then_step x y z (inr same) (inl g) = inl (Chain.one (at_place x) (at_place z) (subst (λ n. G n (at_place z)) (sym same.0) g))
  then_step x y z (inr same) (inr also) = absurd (not_both y same.2 also.1)

  first_step : (x y : Occurrence) → Steps x y → Way x y
  first_step x y (inl g) = inl (Chain.one (at_place x) (at_place y) g)
  first_step x y (inr same) = inr same

  leads_way : (x y : Occurrence) → Leads p main x y → Way x y
  leads_way x y (Leads.one _ _ r) = first_step x y (read_step x y r)
  leads_way x z (Leads.more _ y _ way r) = then_step x y z (leads_way x y way) (read_step y z r)

  closed : (x : Occurrence) → Way x x → HasFlatCycle flat
  closed x (inl way) = (at_place x, way)
  closed x (inr same) = absurd (not_both x same.2 same.1)

  pub to_flat : HasCycle p main → HasFlatCycle flat
  to_flat cycle = closed cycle.0 (leads_way cycle.0 cycle.0 cycle.1)
