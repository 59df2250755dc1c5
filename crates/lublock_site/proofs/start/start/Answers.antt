use Rattle.std.proofs.Common.{rules, Bool, List, ap, refl, subst, ◌∙◌}
use Rattle.lublock_site.specs.Marks.{marked}
use Rattle.lublock_site.specs.Starts.{AreFirstOutlets, AreFirstSources}
use Rattle.lublock_site.specs.declared.code_links.SiteLink.{SiteLink}
use Rattle.lublock_site.proofs.Starting.{first_ends, first_going, none_marked}
use Rattle.lublock_site.proofs.start.start.Goals as goal

pub returns-clause-going : goal.returns-clause-going
returns-clause-going c =
    let job = c.args.inputs.job in
    let site = c.args.inputs.site in
    let parts = c.args.parts in
    let code = c.requires.code in
    let rxs = c.args.rxs.items in
    let txs = c.args.txs.items in
    let sources = c.in-Some.sources.items in
    let outlets = c.in-Some-2.outlets.items in
    let are : AreFirstSources parts.into.items rxs sources =
    subst (λ (links : List SiteLink). AreFirstSources links rxs sources) c.as_slice.ensures.value (rw c.in-Some.is at c.in_ok-sources.ensures) in
    let are_out : AreFirstOutlets parts.out.items txs outlets =
    subst (λ (links : List SiteLink). AreFirstOutlets links txs outlets) c.as_slice-2.ensures.value (rw c.in-Some-2.is at c.in_ok-outlets.ensures) in
    first_going _ job site c.take_apart-given.ensures.job c.site-site.ensures.site refl c.next_len-len.ensures
    (record {
      run = c.site-site.ensures.run;
      code = record { inside = code.code.inside; flat = code.code.flat; marks = code.code.marks; needs = code.code.needs };
      given = c.take_apart-given.ensures.columns;
      instants = c.instants-instants.ensures;
    })
    c.in_ok-board.ensures
    (λ i. ap (λ (bs : List Bool). marked bs i) (c.in_ok-sure.ensures.items_if_clones_equal (λ y k. search rules)) ∙ none_marked _ i)
    (first_ends job _ parts.into.items parts.out.items rxs txs sources outlets code.into code.out c.requires.receivers c.requires.senders are are_out)
    c.in_ok-columns.ensures
