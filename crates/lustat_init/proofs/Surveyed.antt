-- The faults that a search for those of initialisation finds.
use Rattle.std.proofs.Common.{inl, inr, ℕ}
use Rattle.lutree.specs.declared.program.TypeDeclaration.{TypeDeclaration}
use Rattle.lutree.specs.declared.program.Node.{Node}
use Rattle.lutree.specs.declared.program.Program.{Program}
use Rattle.lustat_rules.specs.declared.error.StatError.{StatError}
use Rattle.lustat_rules.specs.Stages.{BrokenInType, BrokenInside, BrokenIn}
use Rattle.lustat_init.specs.Faults.{EquationFault, InNodeFault, IsFault}

abbrev pub InType : ℕ → TypeDeclaration → StatError → Type 0
InType = BrokenInType (λ _ _ _. ⊥) (λ _ _ _ _ _. ⊥)

abbrev pub InNode : ℕ → Node → StatError → Type 0
InNode = BrokenInside (λ _ _ _. ⊥) (λ _ _ _ _. ⊥) (λ n _ q. EquationFault n q)

-- a type has no faults
no_type : (i : ℕ) (t : TypeDeclaration) (e : StatError) → InType i t e → ⊥
no_type i t e (inl h) = h
no_type i t e (inr h) = h.3

-- a node's only faults are those of its equations
only_equations : (i : ℕ) (n : Node) (e : StatError) → InNode i n e → InNodeFault n e
only_equations i n e (inl h) = absurd h
only_equations i n e (inr (inl h)) = absurd h.3
only_equations i n e (inr (inr h)) = h

pub only_nodes : (p : Program) (e : StatError) → BrokenIn p InType InNode e → IsFault p.nodes e
only_nodes p e (inl h) = absurd (no_type h.0 h.1 e h.3)
only_nodes p e (inr h) = (h.0, h.1, h.2, only_equations h.0 h.1 e h.3)

pub all_nodes : (p : Program) (e : StatError) → IsFault p.nodes e → BrokenIn p InType InNode e
all_nodes p e h = inr (h.0, h.1, h.2, inr (inr h.3))
