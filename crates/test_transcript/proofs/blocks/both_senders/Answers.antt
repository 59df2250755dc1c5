use Rattle.std.proofs.Common.{List, [], ◌∷◌, ◌++◌, ap, ◌∙◌}
use Rattle.lulink.specs.Views.{IsUnusedSender, SenderView}
use Rattle.test_transcript.proofs.Ends.{two_each}
use Rattle.test_transcript.proofs.blocks.both_senders.Goals as goal

pub returns : goal.returns
returns c =
    let x = c.args.first in
    let y = c.args.second in
    two_each (IsUnusedSender c.args.job.now) x y c.push_reserved-2.new.self.items
    (c.push_reserved-2.ensures.items ∙ ap (λ (xs : List SenderView). xs ++ y ∷ []) (c.push_reserved.ensures.items ∙ ap (λ (xs : List SenderView). xs ++ x ∷ []) c.in_ok-txs.ensures.items)) c.requires.first c.requires.second
