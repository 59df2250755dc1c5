use Rattle.std.proofs.Common.{rules, ◌≡◌, suc, List, All, Some, sym, subst, ap, ◌∙◌}
use Rattle.std.specs.Prelude.{slice_get}
use Rattle.std.proofs.lemmas.List.Elements.{All-push}
use Rattle.luflow.proofs.Solutions.{all_at}
use Rattle.lulink.specs.Views.{IsUnusedReceiver, ReceiverView}
use Rattle.lulist.specs.declared.ends.Source.{Source}
use Rattle.lulist.specs.Starts.{IsFirstSource, IsListLink}
use Rattle.lueval_lines.proofs.Elements.{got}
use Rattle.lulist.proofs.start.sources_of.Goals as goal

pub loop-rx-init : goal.loop-rx-init
loop-rx-init c = record {
  first = λ job places unused links. search rules;
  rest = λ j x there. (j, ap (λ (xs : List ReceiverView). slice_get xs j) (sym c.into_iter-rx-iterator.ensures.into_iter_gives.0) ∙ there);
}

pub loop-rx-preserved : goal.loop-rx-preserved
loop-rx-preserved c =
    let inv = c.loop-rx.invariant in
    let gone = c.in-Some.ensures.steps.0 in
    let first = inv.rest 0 c.in-Some.rx (ap (λ (xs : List ReceiverView). slice_get xs 0) gone) in
    let here : slice_get c.args.links.now c.len-in-loop-rx.result ≡ Some c.in-Some-get.link.now = got c.args.links.now c.len-in-loop-rx.result c.in-Some-get.link.now c.in-Some-get.ensures.lookup.3.0 c.in-Some-get.ensures.lookup.1 in
    record {
      first = λ job places unused links.
          let P = IsFirstSource job places in
          let one = c.in-Some-source_of.ensures job places (all_at (IsUnusedReceiver job) c.args.rxs.items first.0 c.in-Some.rx unused first.1) (all_at (IsListLink job.plan places) c.args.links.now c.len-in-loop-rx.result c.in-Some-get.link.now links here) in
          subst (All P) (sym {A = List Source} c.in_ok-push.ensures.items) (All-push P c.loop-rx.sources.items c.in-Some-source_of.source (inv.first job places unused links) one);
      rest = λ j x there. inv.rest (suc j) x (ap (λ (xs : List ReceiverView). slice_get xs (suc j)) gone ∙ there);
    }
