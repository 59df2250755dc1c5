use Rattle.std.proofs.lemmas.List.Elements.{All-weaker}
use Rattle.lutree.specs.Tree.{node_view, view}
use Rattle.lustat_rules.specs.Classes.{ClockIsTrueAtFirst, currents_in}
use Rattle.lustat_init.specs.Currents.{IsStarted}
use Rattle.lustat_init.proofs.Naming.{currents_listed, currents_each}
use Rattle.lustat_init.proofs.current.Firsts.currents_start.Goals as goal

pub returns : goal.returns
returns c =
    let n = node_view c.args.self.now in
    let e = view c.args.equation.now.right in (
      λ h. All-weaker (IsStarted n) (ClockIsTrueAtFirst n) (λ x k. k.clock) (currents_in e) (currents_listed (IsStarted n) e (c.all_start.ensures.0 h)),
      λ h. c.all_start.ensures.1 (currents_each (IsStarted n) e (All-weaker (ClockIsTrueAtFirst n) (IsStarted n) (λ x k. record { clock = k }) (currents_in e) h)),
    )
