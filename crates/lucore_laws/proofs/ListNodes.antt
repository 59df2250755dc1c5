-- Each node's list has the solutions of the node.
use Rattle.std.proofs.Common.{◌≡◌, ℕ, ◌+◌, ◌<◌, List, [], ◌∷◌, length, get_or, Some, sym, ap, ◌∙◌, subst, arith}
use Rattle.std.specs.Prelude.{slice_get}
use Rattle.std.proofs.lemmas.Option.{slice_get_within, slice_get-get_or, get_or_from_slice_get}
use Rattle.lutree.specs.Tree.{NodeTree, ProgramTree}
use Rattle.luflow.specs.declared.form.Flow.{Flow}
use Rattle.luflow.specs.Streams.{Stream, Ticks}
use Rattle.lusource.specs.Names.{variables_of, place_of}
use Rattle.lustat_rules.specs.Scope.{node_called}
use Rattle.lusource.specs.Source.{If, InstanceHolds, Path, SourceStreams, HoldsAt}
use Rattle.lustat_rules.specs.Naming.{Reaches}
use Rattle.lustat_rules.specs.Accepted.{IsAccepted}
use Rattle.lucore_laws.specs.Layout.{list_of, AreLists}
use Rattle.lucore_laws.specs.ListLaws.{DefineSomething}
use Rattle.lucore_laws.specs.Open.{Model, IsOpenSolution, HasGiven, SameOnNode, NodesLaw}
use Rattle.lucore_laws.proofs.Names.{place_at}
use Rattle.lucore_laws.proofs.Open.{nothing}
use Rattle.lucore_laws.proofs.Spots.{place_named, streams_of}
use Rattle.lucore_laws.proofs.Facts.{NodeFacts, facts, never_round}
use Rattle.lucore_laws.proofs.NodeToSource.{reads}
use Rattle.lucore_laws.proofs.NodeToFlat.{gives_all}
use Rattle.lucore_laws.proofs.Closed.{declared}
use Rattle.lucore_laws.proofs.Whole.{has_itself}

module _ (p : ProgramTree) (main : List ℕ) (lists : List (List Flow)) (accepted : IsAccepted p main) (some : DefineSomething p) (are : AreLists p lists) (f : List ℕ) (node : NodeTree) (found : node_called p f ≡ Some node) where
  fs : (g : List ℕ) (n : NodeTree) → node_called p g ≡ Some n → NodeFacts p n
  fs g n e = facts p main accepted some g n e

  never : (g : List ℕ) → ¬ Reaches p g g
  never g = never_round p main accepted some g

  place_is : (v : ℕ) (x : List ℕ) → slice_get (variables_of node) v ≡ Some x → place_of (variables_of node) x ≡ v
  place_is v x e = place_at (variables_of node) x v (fs f node found).apart e

  to_list : (base : Ticks) (given : List Stream) (σ : SourceStreams) → ((path : Path) → HoldsAt p f base given σ path) → (m : Model) × IsOpenSolution base m (list_of p lists f) × HasGiven node given m × SameOnNode node m σ
  to_list base given σ sol =
      let g = gives_all p lists are fs never f node found base given σ sol in
      let m : Model = record { on = λ x. get_or g.0 x nothing; given = λ r. get_or given r nothing } in
      let r = g.2 m (has_itself g.0 0 m (λ x. let z : 0 + x ≡ x = omega arith in ap m.on z)) (λ r s e. get_or_from_slice_get given r s nothing e) in
      let here = subst (λ o. If o (λ node. InstanceHolds p node base given (σ []) (λ i. σ (i ∷ [])))) found (sol []) in (
        m,
        r.0,
        (λ i lt.
            let d = declared node.inputs i lt in
            slice_get-get_or given i nothing (slice_get_within given i (σ [] d.0.name) (here.inputs i d.0 d.1))),
        λ v x e.
            let same = place_is v x e in
            ap m.on (sym same) ∙ r.1 x (subst (λ n. n < length (variables_of node)) (sym same) (slice_get_within (variables_of node) v x e)),
      )

  to_source : (base : Ticks) (given : List Stream) (m : Model) → IsOpenSolution base m (list_of p lists f) → HasGiven node given m → (σ : SourceStreams) × ((path : Path) → HoldsAt p f base given σ path) × SameOnNode node m σ
  to_source base given m sol given_are = (
    streams_of p lists f m.on,
    reads p lists are fs never f node found base given m sol given_are,
    λ v x e. ap m.on (sym (place_is v x e)) ∙ ap (λ o. m.on (place_named o x)) (sym found),
  )

pub nodes_agree : NodesLaw
nodes_agree p main lists accepted some are f node found =
    record { to_list = to_list p main lists accepted some are f node found; to_source = to_source p main lists accepted some are f node found }
