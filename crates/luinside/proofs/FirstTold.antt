-- The operator of the first fault, with the data of its operands.
use Rattle.std.proofs.Common.{◌≡◌, ℕ, List, [], ◌∷◌, ◌++◌, Option, Some, None, sym, ap, ◌∙◌, subst}
use Rattle.std.proofs.lemmas.Option.{same_Some}
use Rattle.lutree.specs.declared.expr.Condition.{Condition}
use Rattle.lutree.specs.declared.expr.Prefix.TheVariants.{Data as Data1, Pre as Before}
use Rattle.lutree.specs.declared.expr.Infix.TheVariants.{Data as Data2, Arrow as Starts, FollowedBy}
use Rattle.lutree.specs.Tree.{Tree, NodeTree, ProgramTree}
use Rattle.lutree.specs.Tree as tree
use Rattle.luflow.specs.declared.data.Datum.{Datum}
use Rattle.luflow.specs.declared.data.Status.TheVariants.{Present}
use Rattle.luflow.specs.Flats.{IsFlat}
use Rattle.luflow.specs.Operators.{IsFaultOf, IsFaultOfOne}
use Rattle.luflow.specs.Program.{FlatView, InputsView}
use Rattle.luflow.specs.Solution.{solution}
use Rattle.luflow.specs.Streams.{Known, Mark, Stream, Streams, Ticks, datum_of}
use Rattle.luflow.proofs.Solutions.{IsSolution-solution}
use Rattle.lusource.specs.Source.{Named}
use Rattle.lucore.specs.Result.{IsFlatOf}
use Rattle.lueval.specs.declared.faults.FoundFault.{FoundFault}
use Rattle.lueval.specs.declared.faults.Reads.{Reads}
use Rattle.luinside.specs.declared.sites.FaultSite.{FaultSite}
use Rattle.lueval.specs.Faults.{HasSecond, TellsFirstFault}
use Rattle.luinside.specs.First.{FailsWith, TellsFirst}
use Rattle.luinside.specs.Sites.{FailsHere, ReadsAsItsFlow, TellsFaults}

-- one status has one datum
same_datum : (m : Mark) (x y : Datum) → m ≡ Known (Present x) → m ≡ Known (Present y) → x ≡ y
same_datum m x y is other = same_Some x y (ap datum_of (sym is ∙ other))

module _ (p : ProgramTree) (node : NodeTree) (base : Ticks) (var : Named) (inner : ℕ → Named) (τ : Streams) (r : Reads) (x : FoundFault) where
  abbrev Here : Tree → Option Condition → ℕ → Type 0
  Here = FailsHere p node base var inner τ x.instant x.kind r

  abbrev With : Tree → Option Condition → ℕ → Type 0
  With = FailsWith p node base var inner x

  with_data : (e : Tree) (k : Option Condition) (i : ℕ) → Here e k i → τ r.left x.instant ≡ Known (Present x.left) → HasSecond τ x.instant r.right x.right → With e k i
  with_data (tree.number n) k i h left right = absurd h
  with_data (tree.truth b) k i h left right = absurd h
  with_data (tree.label l) k i h left right = absurd h
  with_data (tree.variable v) k i h left right = absurd h
  with_data (tree.unary (Data1 op) a) k i (one, at, none) left right =
      let here = sym (ap (λ (u : Stream). u x.instant) at) ∙ left in
      (one.clock, here, subst (λ o. HasSecond τ x.instant o x.right) none right, subst (λ d. IsFaultOfOne op d x.kind) (same_datum _ one.x x.left one.operand here) one.fault)
  with_data (tree.unary Before a) k i h left right = absurd h
  with_data (tree.binary (Data2 op) a b) k i (two, at, (place, is, at')) left right =
      let here = sym (ap (λ (u : Stream). u x.instant) at) ∙ left in
      let second = subst (λ o. HasSecond τ x.instant o x.right) is right in
      let there = sym (ap (λ (u : Stream). u x.instant) at') ∙ second.2 in
      let fault = subst (λ d. IsFaultOf op d two.y x.kind) (same_datum _ two.x x.left two.left here) two.fault in
      (two.clock, here, (second.0, second.1, there, subst (λ d. IsFaultOf op x.left d x.kind) (same_datum _ two.y second.0 two.right there) fault))
  with_data (tree.binary Starts a b) k i h left right = absurd h
  with_data (tree.binary FollowedBy a b) k i h left right = absurd h
  with_data (tree.choice c a b) k i h left right = absurd h
  with_data (tree.when a c) k i h left right = absurd h
  with_data (tree.current v) k i h left right = absurd h
  with_data (tree.merge c ps all) k i h left right = absurd h
  with_data (tree.call f all) k i h left right = absurd h

module _ (p : ProgramTree) (main : List ℕ) (flat : FlatView) (inputs : InputsView) (found : FoundFault) (is_flat : IsFlat flat) (flat_of : IsFlatOf p main flat) (first : TellsFirstFault flat inputs (Some found)) where
  pub first_told : (site : FaultSite) → ReadsAsItsFlow p main found.place (Some site) → TellsFaults p main found.place (Some site) → TellsFirst p main flat inputs (Some (record { found = found; site = site }))
  first_told site reads faults =
      let τ = solution flat inputs in
      let one = IsSolution-solution flat inputs is_flat.ordered in
      let f = first τ one in
      let same : site.reads ≡ f.reads = same_Some site.reads f.reads (reads flat flat_of ∙ f.reads_are) in (
        first,
        λ σ sol.
            let h = faults flat flat_of inputs σ τ sol one found.instant found.kind f.fault in
            record {
              node = h.node;
              is_node = h.is_node;
              at_path = h.at_path;
              equation = h.equation;
              is_equation = h.is_equation;
              part = h.part;
              is_part = h.is_part;
              base = h.base;
              given = h.given;
              holds = h.holds;
              fails = with_data p h.node h.base (σ site.path) (λ i. σ (site.path ++ i ∷ [])) τ site.reads found h.part.expression h.part.clock h.part.before h.fails
                  (subst (λ (r : Reads). τ r.left found.instant ≡ Known (Present found.left)) (sym same) f.left) (subst (λ (r : Reads). HasSecond τ found.instant r.right found.right) (sym same) f.right);
            },
      )

  pub always_found : ReadsAsItsFlow p main found.place None → ⊥
  always_found reads =
      let f = first (solution flat inputs) (IsSolution-solution flat inputs is_flat.ordered) in
      let none : None ≡ Some f.reads = reads flat flat_of ∙ f.reads_are in
      cc
