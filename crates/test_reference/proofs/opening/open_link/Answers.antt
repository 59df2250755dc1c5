use Rattle.std.proofs.Common.{◌≡◌, ap, sym, ◌∙◌, subst, [], ◌++◌}
use Rattle.crossbeam_channel.specs.Claims.{view, IsSeatAt}
use Rattle.crossbeam_channel.specs.Ends.{ruled_capacity}
use Rattle.lulink.specs.Lists.{list_of}
use Rattle.test_reference.specs.Links.{sender, receiver}
use Rattle.test_reference.proofs.opening.open_link.Goals as goal

pub invariant_of-rx : goal.invariant_of-rx
invariant_of-rx c =
    let ends = c.in_ok-sends.ensures in
    let r = c.part-other.ensures.receiver in
    let none : (view c.part-other.result).done ≡ [] = ap (λ v. v.done) r.1 in (
      subst (λ ch. IsSeatAt ch c.part-other.result) (sym ends.0) r.0,
      r.1 ∙ (λ i. receiver ((sym ends.1 ∙ ap ruled_capacity (sym ends.0)) i) (list_of (sym c.of-2.ensures i) c.args.link) (sym none i)),
      (list_of c.of-2.result.value c.args.link, ap (λ l. l ++ list_of c.of-2.result.value c.args.link) none),
    )

pub invariant_of-tx : goal.invariant_of-tx
invariant_of-tx c =
    let ends = c.in_ok-sends.ensures in
    let s = c.part-other.ensures.sender in
    let none : (view c.part-other.new.first).done ≡ [] = ap (λ v. v.done) s.1 in (
      s.0,
      s.1 ∙ (λ i. sender (sym ends.1 i) (list_of (sym c.of.ensures i) c.args.link) (sym none i)),
      (list_of c.of.result.value c.args.link, ap (λ l. l ++ list_of c.of.result.value c.args.link) none),
    )
