use Rattle.std.proofs.Common.{rules, ◌≡◌, suc, List, All, Some, sym, subst, ap, ◌∙◌}
use Rattle.std.specs.Prelude.{slice_get}
use Rattle.std.proofs.lemmas.List.Elements.{All-push}
use Rattle.luflow.proofs.Solutions.{all_at}
use Rattle.lulink.specs.Views.{IsUnusedSender, SenderView}
use Rattle.lulist.specs.declared.ends.Outlet.{Outlet}
use Rattle.lulist.specs.Starts.{IsFirstOutlet, IsListLink}
use Rattle.lueval_lines.proofs.Elements.{got}
use Rattle.lulist.proofs.start.outlets_of.Goals as goal

pub loop-tx-init : goal.loop-tx-init
loop-tx-init c = record {
  first = λ job places unused links. search rules;
  rest = λ j x there. (j, ap (λ (xs : List SenderView). slice_get xs j) (sym c.into_iter-tx-iterator.ensures.into_iter_gives.0) ∙ there);
}

pub loop-tx-preserved : goal.loop-tx-preserved
loop-tx-preserved c =
    let inv = c.loop-tx.invariant in
    let gone = c.in-Some.ensures.steps.0 in
    let first = inv.rest 0 c.in-Some.tx (ap (λ (xs : List SenderView). slice_get xs 0) gone) in
    let here : slice_get c.args.links.now c.len-in-loop-tx.result ≡ Some c.in-Some-get.link.now = got c.args.links.now c.len-in-loop-tx.result c.in-Some-get.link.now c.in-Some-get.ensures.lookup.3.0 c.in-Some-get.ensures.lookup.1 in
    record {
      first = λ job places unused links.
          let P = IsFirstOutlet job places in
          let one = c.in-Some-outlet_of.ensures job places (all_at (IsUnusedSender job) c.args.txs.items first.0 c.in-Some.tx unused first.1) (all_at (IsListLink job.plan places) c.args.links.now c.len-in-loop-tx.result c.in-Some-get.link.now links here) in
          subst (All P) (sym {A = List Outlet} c.in_ok-push.ensures.items) (All-push P c.loop-tx.outlets.items c.in-Some-outlet_of.outlet (inv.first job places unused links) one);
      rest = λ j x there. inv.rest (suc j) x (ap (λ (xs : List SenderView). slice_get xs (suc j)) gone ∙ there);
    }
