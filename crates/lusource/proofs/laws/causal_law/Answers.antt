use Rattle.luflow.specs.Solution.{solution}
use Rattle.luflow.proofs.Prefixes.{prefix_same}
use Rattle.luflow.proofs.Solutions.{IsSolution-solution}
use Rattle.std.proofs.Common.{sym, ◌∙◌}
use Rattle.lusource.proofs.laws.causal_law.Goals as goal

pub returns : goal.returns
returns c = λ program main flat one other n ordered flows agree σ σ' a b path node x t here has early.
    let w = flows path node x here has in
    let τ = solution flat one in
    let τ' = solution flat other in
    let s = IsSolution-solution flat one ordered in
    let s' = IsSolution-solution flat other ordered in
    w.1.same one σ τ a s t ∙ prefix_same flat one other n ordered agree τ τ' s s' w.0 t w.1.is_flow early ∙ sym (w.1.same other σ' τ' b s' t)
