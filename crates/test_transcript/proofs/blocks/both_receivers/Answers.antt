use Rattle.std.proofs.Common.{List, [], ◌∷◌, ◌++◌, ap, ◌∙◌}
use Rattle.lulink.specs.Views.{IsUnusedReceiver, ReceiverView}
use Rattle.test_transcript.proofs.Ends.{two_each}
use Rattle.test_transcript.proofs.blocks.both_receivers.Goals as goal

pub returns : goal.returns
returns c =
    let x = c.args.first in
    let y = c.args.second in
    two_each (IsUnusedReceiver c.args.job.now) x y c.push_reserved-2.new.self.items
    (c.push_reserved-2.ensures.items ∙ ap (λ (xs : List ReceiverView). xs ++ y ∷ []) (c.push_reserved.ensures.items ∙ ap (λ (xs : List ReceiverView). xs ++ x ∷ []) c.in_ok-rxs.ensures.items)) c.requires.first c.requires.second
