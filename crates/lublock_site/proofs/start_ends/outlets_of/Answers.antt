use Rattle.std.proofs.Common.{rules, ◌≡◌, ◌∷◌, [], ◌+◌, length, Some, sym, ap, ◌∙◌, length-append}
use Rattle.std.specs.Prelude.{slice_get}
use Rattle.lublock_site.specs.Starts.{IsFirstOutlet}
use Rattle.lublock_site.proofs.Pushed.{matched_more}
use Rattle.lublock_site.proofs.start_ends.outlets_of.Goals as goal

pub loop-tx-preserved : goal.loop-tx-preserved
loop-tx-preserved c =
    let inv = c.loop-tx.invariant in
    let links = c.args.links.now in
    let outlets = c.loop-tx.outlets.items in
    let link = c.in-Some-link_at.link in
    let at : slice_get links (length outlets) ≡ Some link = search rules in
    record {
      first = matched_more IsFirstOutlet links c.loop-tx.yielded c.in-Some.tx outlets c.push.new.self.items link c.in-Some-outlet_of.outlet inv.len at c.in_ok-push.ensures.items c.in-Some-outlet_of.ensures inv.first;
      len = ap length c.in_ok-push.ensures.items ∙ length-append outlets (c.in-Some-outlet_of.outlet ∷ []) ∙ ap (λ n. n + 1) inv.len ∙ sym (length-append c.loop-tx.yielded (c.in-Some.tx ∷ []));
    }
