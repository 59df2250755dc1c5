use Rattle.std.proofs.Common.{◌≡◌, ap, ap₂, sym, ◌∙◌, arith, ◌+◌, ◌-◌, ◌*◌, ℕ, Bool, true, false, drop}
use Rattle.lusite.specs.declared.state.SiteState.{SiteState}
use Rattle.lusite.specs.Machine.{IsSet}
use Rattle.lusite_program.specs.Programs.{rank_at}
use Rattle.lusite.specs.Widths.{widths}
use Rattle.lusite.proofs.SiteStates.{going}
use Rattle.lusite.proofs.Widths.{state_early, state_late, widths_first}
use Rattle.lusite.proofs.state.SiteState.left.Goals as goal

from_here : (a : SiteState) → IsSet a → (early : Bool) → widths a.program early (drop (rank_at a.program a.row) a.program.plan.flat.order) ≡ widths a.program early (drop a.place.value a.program.plan.flat.order)
from_here a set early = ap (λ (p : ℕ). widths a.program early (drop p a.program.plan.flat.order)) (sym set.rank_is)

pub overflow_sub-here : goal.overflow_sub-here
overflow_sub-here c =
    let a = c.args.self.now in
    let g = going a c.requires.set c.requires.stands c.requires.going in
    let h = (state_early a g c.requires.ready (omega (arith, c.if-self-instants.true, c.instants-instants.ensures))).1 in
    let e = from_here a c.requires.set true in
    omega (arith, h, e, c.widths.ensures.sum)

pub overflow_sub-result : goal.overflow_sub-result
overflow_sub-result c =
    let a = c.args.self.now in
    let g = going a c.requires.set c.requires.stands c.requires.going in
    let h = (state_late a g c.requires.ready (omega (arith, c.if-self-instants.false, c.instants-instants.ensures))).1 in
    let e = from_here a c.requires.set false in
    omega (arith, h, e, c.widths-else-self-instants.ensures.sum)

pub returns-then-self-instants-clause-left : goal.returns-then-self-instants-clause-left
returns-then-self-instants-clause-left c =
    let a = c.args.self.now in
    let g = going a c.requires.set c.requires.stands c.requires.going in
    let h = (state_early a g c.requires.ready (omega (arith, c.if-self-instants.true, c.instants-instants.ensures))).0 in
    let n = c.instants-instants.result in
    let order = a.program.plan.flat.order in
    let whole = c.widths-then-self-instants.ensures.sum ∙ widths_first a c.requires.set true in
    let closes = c.widths-then-self-instants-2.ensures.sum ∙ widths_first a c.requires.set false in
    let here = from_here a c.requires.set true in
    let e = ap₂ (λ (m : ℕ) (k : ℕ). ((n - a.instant) - 1) * m + k) whole closes in
    let f = ap (λ (t : ℕ). ((t - a.instant) - 1) * widths a.program true (drop 0 order) + widths a.program false (drop 0 order)) c.instants-instants.ensures in
    omega (arith, h, here, c.widths.ensures.sum, e ∙ f)

pub returns-else-self-instants-clause-left : goal.returns-else-self-instants-clause-left
returns-else-self-instants-clause-left c =
    let a = c.args.self.now in
    let g = going a c.requires.set c.requires.stands c.requires.going in
    let h = (state_late a g c.requires.ready (omega (arith, c.if-self-instants.false, c.instants-instants.ensures))).0 in
    let e = from_here a c.requires.set false in
    omega (arith, h, e, c.widths-else-self-instants.ensures.sum)
