-- Which warnings stand before which.
use Rattle.std.proofs.Common.{◌≡◌, ◌≢◌, ◌∙◌, ◌<◌, ◌≤◌, get_or, ◌⊎◌, inl, inr, ⊎_elim, ℕ, List, [], sym, ap, subst, arith}
use Rattle.std.specs.Prelude.{AllPairs}
use Rattle.lutree.specs.declared.program.Declaration.{Declaration}
use Rattle.lutree.specs.declared.program.Equation.{Equation}
use Rattle.lutree.specs.declared.program.Node.{Node}
use Rattle.lutree.specs.declared.program.Program.{Program}
use Rattle.lutree.specs.Tree.{node_view, program_view}
use Rattle.lustat_warn.specs.declared.warning.WarningKind.{WarningKind}
use Rattle.lustat_warn.specs.declared.warning.WarningKind.TheVariants.{UnusedNode, UnusedInput, UnusedLocal, DividingBranch}
use Rattle.lustat_warn.specs.declared.warning.Warning.{Warning}
use Rattle.lustat_warn.specs.Warnings.{names_read, names_called, Among, UnusedNodeAt, UnreadIn, DividingIn, InNode, IsWarning, part, IsBefore}
use Rattle.lustat_warn.specs.Scans.{AreAll, Adds}
use Rattle.lustat_warn.proofs.Adding.{adds_then, all_of_added}

abbrev pub warning_of : WarningKind → ℕ → ℕ → ℕ → Warning
warning_of kind i j byte = record { kind = kind; node = i; number = j; byte = byte }

-- IN ONE PART OF A NODE

in_part : (kind : WarningKind) (i j k a b : ℕ) (v w : Warning) → j < k → v ≡ warning_of kind i j a → w ≡ warning_of kind i k b → IsBefore v w
in_part kind i j k a b v w lt first later =
    let numbers : v.number < w.number = (let m = ap (λ (x : Warning). x.number) first in let n = ap (λ (x : Warning). x.number) later in omega (arith, lt, m, n)) in
    inr (ap (λ (x : Warning). x.node) first ∙ sym (ap (λ (x : Warning). x.node) later), inr (ap (λ (x : Warning). part x.kind) first ∙ sym (ap (λ (x : Warning). part x.kind) later), numbers))

pub unread_ascend : (read : List (List ℕ)) (kind : WarningKind) (i : ℕ) (j k : ℕ) (d e : Declaration) (v w : Warning) → j < k → UnreadIn read kind i j d v → UnreadIn read kind i k e w → IsBefore v w
unread_ascend read kind i j k d e v w lt first later = in_part kind i j k d.byte e.byte v w lt first.is later.is

pub dividing_ascend : (i : ℕ) (j k : ℕ) (q r : Equation) (v w : Warning) → j < k → DividingIn i j q v → DividingIn i k r w → IsBefore v w
dividing_ascend i j k q r v w lt first later = in_part DividingBranch i j k q.byte r.byte v w lt first.is later.is

-- IN ONE NODE

-- a warning of a node and of this part of it, or of a later one
abbrev IsAt : ℕ → ℕ → Warning → Type 0
IsAt i p w = (w.node ≡ i) × (part w.kind ≡ p)

abbrev IsFrom : ℕ → ℕ → Warning → Type 0
IsFrom i p w = (w.node ≡ i) × (p ≤ part w.kind)

at_of : (kind : WarningKind) (i j byte : ℕ) (w : Warning) → w ≡ warning_of kind i j byte → IsAt i (part kind) w
at_of kind i j byte w is = (ap (λ (x : Warning). x.node) is, ap (λ (x : Warning). part x.kind) is)

from_at : (i p q : ℕ) (w : Warning) → q ≤ p → IsAt i p w → IsFrom i q w
from_at i p q w le h = (h.0, (let e = h.1 in omega (arith, le, e)))

in_node : (i p q : ℕ) (v w : Warning) → p < q → IsAt i p v → IsFrom i q w → IsBefore v w
in_node i p q v w lt first later = inr (first.0 ∙ sym later.0, inl (let e = first.1 in let le = later.1 in omega (arith, lt, e, le)))

at_unread : (read : List (List ℕ)) (kind : WarningKind) (i : ℕ) (ds : List Declaration) (w : Warning) → Among ds (UnreadIn read kind i) w → IsAt i (part kind) w
at_unread read kind i ds w h = at_of kind i h.0 h.1.byte w h.3.is

at_dividing : (i : ℕ) (qs : List Equation) (w : Warning) → Among qs (DividingIn i) w → IsAt i 3 w
at_dividing i qs w h = at_of DividingBranch i h.0 h.1.byte w h.3.is

at_node : (called : List (List ℕ)) (main : List ℕ) (i : ℕ) (n : Node) (w : Warning) → UnusedNodeAt called main i n w → IsAt i 0 w
at_node called main i n w h = at_of UnusedNode i 0 n.byte w h.is

module _ (called : List (List ℕ)) (main : List ℕ) (i : ℕ) (n : Node) where
  abbrev Itself : Warning → Type 0
  Itself = UnusedNodeAt called main i n

  abbrev OfInputs : Warning → Type 0
  OfInputs = Among n.inputs (UnreadIn (names_read (node_view n)) UnusedInput i)

  abbrev OfLocals : Warning → Type 0
  OfLocals = Among n.locals (UnreadIn (names_read (node_view n)) UnusedLocal i)

  abbrev OfEquations : Warning → Type 0
  OfEquations = Among n.equations (DividingIn i)

  from_locals : (w : Warning) → OfLocals w ⊎ OfEquations w → IsFrom i 2 w
  from_locals w h = ⊎_elim {C = IsFrom i 2 w} (λ l. from_at i 2 2 w (omega arith) (at_unread _ UnusedLocal i n.locals w l)) (λ q. from_at i 3 2 w (omega arith) (at_dividing i n.equations w q)) h

  from_inputs : (w : Warning) → OfInputs w ⊎ (OfLocals w ⊎ OfEquations w) → IsFrom i 1 w
  from_inputs w h =
      ⊎_elim {C = IsFrom i 1 w} (λ l. from_at i 1 1 w (omega arith) (at_unread _ UnusedInput i n.inputs w l)) (λ r. let f = from_locals w r in (f.0, (let le = f.1 in omega (arith, le)))) h

  -- all warnings of a node, part by part
  pub adds_in_node : (a b c d e : List Warning) → Adds Itself a b → Adds OfInputs b c → Adds OfLocals c d → Adds OfEquations d e → Adds (InNode called main i n) a e
  adds_in_node a b c d e first inputs locals equations =
      adds_then Itself (λ w. OfInputs w ⊎ (OfLocals w ⊎ OfEquations w)) a b e (λ v w s t. in_node i 0 1 v w (omega arith) (at_node called main i n v s) (from_inputs w t)) first
      (adds_then OfInputs (λ w. OfLocals w ⊎ OfEquations w) b c e (λ v w s t. in_node i 1 2 v w (omega arith) (at_unread _ UnusedInput i n.inputs v s) (from_locals w t)) inputs
      (adds_then OfLocals OfEquations c d e (λ v w s t. in_node i 2 3 v w (omega arith) (at_unread _ UnusedLocal i n.locals v s) (from_at i 3 3 w (omega arith) (at_dividing i n.equations w t))) locals equations))

-- IN DIFFERENT NODES

node_of : (called : List (List ℕ)) (main : List ℕ) (i : ℕ) (n : Node) (w : Warning) → InNode called main i n w → w.node ≡ i
node_of called main i n w h = ⊎_elim {C = w.node ≡ i} (λ s. (at_node called main i n w s).0) (λ r. (from_inputs called main i n w r).0) h

pub nodes_ascend : (called : List (List ℕ)) (main : List ℕ) (j k : ℕ) (m n : Node) (v w : Warning) → j < k → InNode called main j m v → InNode called main k n w → IsBefore v w
nodes_ascend called main j k m n v w lt first later = inl (let a = node_of called main j m v first in let b = node_of called main k n w later in omega (arith, lt, a, b))

-- IN A PROGRAM

pub all_of_program : (p : Program) (main : List ℕ) (called : List (List ℕ)) (nodes : List Node) (a b : List Warning) → called ≡ names_called (program_view p) → nodes ≡ p.nodes → a ≡ []
    → Adds (Among nodes (InNode called main)) a b → AreAll (IsWarning p main) b
all_of_program p main called nodes a b calls whole empty h =
    all_of_added (IsWarning p main) a b empty (subst (λ ns. Adds (Among ns (InNode (names_called (program_view p)) main)) a b) whole (subst (λ cs. Adds (Among nodes (InNode cs main)) a b) calls h))

-- no warning stands before itself, so none of a list in order stands in it twice
pub each_once : (ws : List Warning) → AllPairs IsBefore ws → AllPairs (λ v w. v ≢ w) ws
each_once ws up i j d lt within same = not_itself (get_or ws i d) (subst (IsBefore (get_or ws i d)) (sym same) (up i j d lt within))
  where
    not_itself : (w : Warning) → IsBefore w w → ⊥
    not_itself w (inl h) = omega (arith, h)
    not_itself w (inr (same, inl h)) = omega (arith, h)
    not_itself w (inr (same, inr (part_same, h))) = omega (arith, h)
