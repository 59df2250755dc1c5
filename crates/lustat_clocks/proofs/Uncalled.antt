-- Calls of the main node.
use Rattle.std.proofs.Common.{◌≡◌, ◌↔◌, ℕ, Bool, List, IsTrue, sym, subst, All}
use Rattle.std.specs.Option.{IfSome}
use Rattle.std.specs.Prelude.{Option, Some}
use Rattle.std.proofs.lemmas.List.Elements.{All-weaker, All-nil, All-cons, All-head, All-tail, All-map}
use Rattle.std.specs.Prelude.{[], ◌∷◌, map}
use Rattle.lutree.specs.declared.program.Declaration.{Declaration}
use Rattle.lutree.specs.declared.program.Node.{Node}
use Rattle.lutree.specs.Tree.{Tree, DeclarationTree, NodeTree, ProgramTree, declaration_view, node_view}
use Rattle.lustat_rules.specs.Scope.{node_called}
use Rattle.lustat_rules.specs.Naming.{Call, calls_in}
use Rattle.lustat_rules.specs.Clocks.{base, HasUnclockedOutputs}
use Rattle.lustat_clocks.specs.Named.{EachCall, IsOther}
use Rattle.lustat_clocks.proofs.Named.{Named, calls_listed, calls_each}

abbrev KeepsCall : ProgramTree → List ℕ → Call → Type 0
KeepsCall p main c = c.node ≡ main → IfSome (node_called p c.node) HasUnclockedOutputs

-- where the main node has a clocked output, it is called nowhere
pub uncalled : (p : ProgramTree) (main : List ℕ) (e : Tree) (b : Bool) → (IfSome (node_called p main) HasUnclockedOutputs → ⊥) → (IsTrue b ↔ EachCall (IsOther main) e) →
    IsTrue b ↔ All (λ (c : Call). c.node ≡ main → IfSome (node_called p c.node) HasUnclockedOutputs) (calls_in e)
uncalled p main e b clocked same = (
  λ h. All-weaker (Named (IsOther main)) (KeepsCall p main) (λ c other is. absurd (other.differs is)) (calls_in e) (calls_listed (IsOther main) e (same.0 h)),
  λ h. same.1 (calls_each (IsOther main) e (All-weaker (KeepsCall p main) (Named (IsOther main)) (λ c keeps. record { differs = λ is. clocked (subst (λ f. IfSome (node_called p f) HasUnclockedOutputs) is (keeps is)) }) (calls_in e) h)),
)

pub all_of_map : {X Y : Type 0} (P : X → Type 0) (f : Y → X) (ys : List Y) → All P (map f ys) → All (λ y. P (f y)) ys
all_of_map P f [] h = All-nil (λ y. P (f y))
all_of_map P f (y ∷ ys) h = All-cons (λ y. P (f y)) y ys (All-head P (f y) (map f ys) h) (all_of_map P f ys (All-tail P (f y) (map f ys) h))

-- a node that is found has its outputs on the base clock where all of them, in memory, are
pub found_unclocked : (m : Node) (o : Option NodeTree) (b : Bool) → o ≡ Some (node_view m) → (IsTrue b ↔ All (λ (d : Declaration). d.clock ≡ base) m.outputs) →
    IsTrue b ↔ IfSome o HasUnclockedOutputs
found_unclocked m o b found same =
    let P : DeclarationTree → Type 0 = λ d. d.clock ≡ base in
    let Q : Option NodeTree → Type 0 = λ o. IsTrue b ↔ IfSome o HasUnclockedOutputs in
    subst Q (sym found) (λ h. All-map P declaration_view m.outputs (same.0 h), λ h. same.1 (all_of_map P declaration_view m.outputs h))
