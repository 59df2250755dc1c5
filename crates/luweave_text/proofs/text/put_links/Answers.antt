use Rattle.std.proofs.Common.{◌≡◌, ◌++◌, ℕ, List, Some, get_or, length, sym, ap, ap₂, ◌∙◌, string_bytes}
use Rattle.std.specs.Prelude.{slice_get}
use Rattle.std.proofs.lemmas.Option.{slice_get-get_or}
use Rattle.luflow.specs.declared.message.Msg.{Msg}
use Rattle.luworld.specs.declared.link.Link.{Link}
use Rattle.luworld.specs.Needs.{PlanView}
use Rattle.luweave_text.specs.WorldText.{link_line, links_text, line_of}
use Rattle.luweave_text.proofs.Texts.{then_more, links_more}
use Rattle.luweave_text.proofs.text.put_links.Goals as goal

pub loop-number-preserved : goal.loop-number-preserved
loop-number-preserved c =
    let w = c.args.world.now in
    let n = c.loop-number.number in
    let items = c.links-link-items.result.now in
    let none : Link = record { flow = 0; from = 0; to = 0 } in
    let link : Link = get_or items n none in
    let at : slice_get w.job.plan.links n ≡ Some link =
    ap (λ (q : PlanView). slice_get q.links n) c.requires ∙ ap (λ (xs : List Link). slice_get xs n) (sym c.links-link-items.ensures) ∙ slice_get-get_or items n none c.loop-number-test.true in
    let line : link_line c.args.plan.now link c.taken.result.now (length c.queued-queued.result.now) ≡ line_of w (Some link) n =
    ap (λ (q : PlanView). link_line q link c.taken.result.now (length c.queued-queued.result.now)) (sym c.requires)
    ∙ ap₂ (λ (xs : List Msg) (ys : List Msg). link_line w.job.plan link xs (length ys)) c.taken.ensures.exact c.queued-queued.ensures.exact in
    let new : string_bytes c.put_link.new.text ≡ string_bytes c.loop-number.text ++ line_of w (Some link) n =
    c.in_ok-put_link.ensures ∙ ap (λ (xs : List ℕ). string_bytes c.loop-number.text ++ xs) line in
    then_more (string_bytes c.args.text.now) (string_bytes c.loop-number.text) (string_bytes c.put_link.new.text) (links_text w n) (line_of w (Some link) n) c.loop-number.invariant new
    ∙ ap (λ (xs : List ℕ). string_bytes c.args.text.now ++ xs) (sym (links_more w n link at))
