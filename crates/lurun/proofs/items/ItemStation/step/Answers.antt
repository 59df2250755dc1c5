use Rattle.std.proofs.Common.{sym, subst}
use Rattle.lurun.specs.Items.{ItemsView}
use Rattle.lurun.specs.Cuts.{IsOver}
use Rattle.lurun.proofs.items.ItemStation.step.Goals as goal

pub returns-clause-over : goal.returns-clause-over
returns-clause-over g c = λ e. subst (λ (x : ItemsView). IsOver x.at x.txs x.rxs) (sym c.note.ensures) (c.try_item-turn.ensures.over e)
