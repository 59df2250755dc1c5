use Rattle.std.proofs.Common.{rules, ◌≡◌, ◌∷◌, [], ◌+◌, length, Some, sym, ap, ◌∙◌, length-append}
use Rattle.std.specs.Prelude.{slice_get}
use Rattle.lublock_site.specs.Starts.{IsFirstSource}
use Rattle.lublock_site.proofs.Pushed.{matched_more}
use Rattle.lublock_site.proofs.start_ends.sources_of.Goals as goal

pub loop-rx-preserved : goal.loop-rx-preserved
loop-rx-preserved c =
    let inv = c.loop-rx.invariant in
    let links = c.args.links.now in
    let sources = c.loop-rx.sources.items in
    let link = c.in-Some-link_at.link in
    let at : slice_get links (length sources) ≡ Some link = search rules in
    record {
      first = matched_more IsFirstSource links c.loop-rx.yielded c.in-Some.rx sources c.push.new.self.items link c.in-Some-source_of.source inv.len at c.in_ok-push.ensures.items c.in-Some-source_of.ensures inv.first;
      len = ap length c.in_ok-push.ensures.items ∙ length-append sources (c.in-Some-source_of.source ∷ []) ∙ ap (λ n. n + 1) inv.len ∙ sym (length-append c.loop-rx.yielded (c.in-Some.rx ∷ []));
    }
