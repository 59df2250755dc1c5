use Rattle.std.proofs.Common.{◌≡◌, ◌<◌, ◌≤◌, ℕ, length, take, get_or, sym, ◌∙◌, subst, arith}
use Rattle.std.proofs.lemmas.List.{take_more, take_all}
use Rattle.lubase.specs.declared.link.Link.{Link}
use Rattle.lubase.specs.Reach.{link}
use Rattle.lubase.specs.ReachStates.{HasRows}
use Rattle.lubase.proofs.LinkRows.{one_more}
use Rattle.lubase.proofs.link.rows_of.Goals as goal

pub loop-link-preserved : goal.loop-link-preserved
loop-link-preserved c =
    let links = c.args.links.now in
    let i : ℕ = c.loop-link.link-index in
    let l : Link = get_or links i (link 0 0) in
    let lt : i < length links = omega (arith, c.loop-link-test.true) in
    let new = c.push_at.new.rows.items in
    let h = c.in_ok-push_at.ensures in
    let e : length new ≡ c.args.size = h.long ∙ c.loop-link.invariant.long in
    record {
      long = e;
      linked = subst (HasRows new) (sym (take_more links i (link 0 0) lt)) (one_more c.loop-link.rows.items new (take i links) l c.loop-link.invariant.linked h.pushed h.others);
    }

pub returns-clause-linked : goal.returns-clause-linked
returns-clause-linked c =
    let le : length c.args.links.now ≤ c.loop-link.link-index = omega (arith, c.loop-link-test.false) in
    subst (HasRows c.loop-link.rows.items) (take_all c.loop-link.link-index c.args.links.now le) c.loop-link.invariant.linked
