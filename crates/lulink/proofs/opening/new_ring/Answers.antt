use Rattle.std.proofs.Common.{◌≡◌, ◌<◌, ◌^◌, length, ap, sym, refl, ◌∙◌, subst, inl, arith}
use Rattle.std.specs.Arc.{arc_value}
use Rattle.luworld.specs.Jobs.{JobView}
use Rattle.lulink.specs.Lists.{list_of}
use Rattle.lulink.specs.declared.rule.Terms.{Terms}
use Rattle.lulink.specs.Rings.{fresh}
use Rattle.lulink.specs.Insides.{IsRing}
use Rattle.lulink.proofs.Steps.{parts}
use Rattle.lulink.proofs.Ends.{Holding}
use Rattle.lulink.proofs.Closing.{small_list}
use Rattle.lulink.proofs.opening.new_ring.Goals as goal

pub vacant-requires : goal.vacant-requires
vacant-requires c =
    let room = c.from-room.ensures in
    let some_room = c.requires in (
      (omega arith),
      subst (λ (j : JobView). length (list_of j c.args.link) < 2 ^ 62) (sym c.of.ensures) (small_list c.args.job.now c.args.link c.recall_invariant.ensures),
      inl record { words = refl; homes = refl; views = refl },
    )

pub split_seat-other-requires : goal.split_seat-other-requires
split_seat-other-requires c =
    let e = c.in_ok-ring.ensures in
    (e.2, (let two = e.0 in omega arith), parts _ _ _ _ (ap (λ (m : Holding). m.0) e.4 ∙ ap (λ (k : Terms). fresh k.capacity (list_of k.job.value k.link)) (sym e.5)))

pub returns-clause-ring : goal.returns-clause-ring
returns-clause-ring c =
    let e = c.in_ok-ring.ensures in
    let b = c.in_ok-ring-2.ensures.ok in
    let room = c.from-room.ensures in
    let some_room = c.requires in
    let fits = c.ranges.capacity.fits in
    let key : (arc_value c.in_ok-ring-2.ring).shared.key ≡ record { job = c.of.result; link = c.args.link; capacity = c.from-room.result } = ap (λ x. x.shared.key) b ∙ e.5 in
    subst (λ (k : Terms). IsRing (arc_value c.in_ok-ring-2.ring).shared.table_id k) (sym key) record {
      words = ap (λ x. x.shared.table_id.words) b ∙ e.0;
      slots = ap (λ x. x.shared.table_id.slots) b ∙ e.1;
      room = omega arith;
      below = omega arith;
      small = subst (λ (j : JobView). length (list_of j c.args.link) < 2 ^ 62) (sym c.of.ensures) (small_list c.args.job.now c.args.link c.recall_invariant.ensures);
    }
