use Rattle.std.proofs.Common.{◌∙◌, ◌↔◌, IsTrue, All, sym, subst}
use Rattle.lutree.specs.Tree.{node_view}
use Rattle.lustat_init.specs.Judged.{IsFree}
use Rattle.lustat_init.proofs.judge.keeps_classes.Goals as goal

pub returns : goal.returns
returns c =
    let free = subst (λ xs. IsTrue c.are_free.result ↔ All (IsFree (node_view c.args.scope.now)) xs) c.as_slice.ensures c.are_free.ensures in
    let one = sym c.is_one.ensures ∙ c.if-not-is_one.false in (
      λ h. record { needs = c.needs_met.ensures.0 c.if-not-needs_met.false; held = λ _. free.0 h },
      λ k. free.1 (k.held one),
    )
