use Rattle.std.proofs.Common.{subst, drop}
use Rattle.std.specs.Arc.{arc_value}
use Rattle.std.proofs.lemmas.List.{take-append-drop}
use Rattle.luworld.specs.WorldViews.{IsPrefixOf}
use Rattle.lulink.specs.Lists.{list_of}
use Rattle.lulink.specs.Views.{ReceiverView}
use Rattle.lulink.specs.Insides.{given_list}
use Rattle.lulink.proofs.receiver.Rx.taken_begins_law.Goals as goal

pub returns : goal.returns
returns c =
    let list = given_list (arc_value c.self.inside.ring).shared.key in
    subst (λ (x : ReceiverView). IsPrefixOf x.taken (list_of x.job x.link)) c.self.view_is (drop c.self.inside.side.count list, take-append-drop c.self.inside.side.count list)
