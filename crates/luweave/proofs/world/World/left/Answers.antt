use Rattle.std.proofs.Common.{◌≡◌, ◌↔◌, ℕ, ◌+◌, ◌<◌, ◌≤◌, sym, ap, ◌∙◌, subst, arith}
use Rattle.luworld.specs.declared.turn.Turn.TheVariants.{Moved}
use Rattle.luworld.specs.Systems.{turn, step, total_below}
use Rattle.luworld.specs.Needs.{sites_of}
use Rattle.luworld.specs.Outline.{left_at}
use Rattle.luworld.specs.Jobs.{outline, streams_of, system_of, NoFault}
use Rattle.luworld.specs.WorldViews.{WorldView, AllEnded}
use Rattle.luflow.proofs.Solutions.{some_at}
use Rattle.luweave.specs.Worlds.{dones_of, left_of, undone}
use Rattle.luweave.proofs.Worlds.{along}
use Rattle.luweave.proofs.Finishing.{left_falls, left_enough, left_none, left_more, sites_few, sites_long}
use Rattle.luweave.proofs.world.World.left.Goals as goal

-- what is left of the first s sites of a world
abbrev first_left : ℕ → WorldView → ℕ
first_left s x = total_below (left_at (outline x.job (streams_of x.job)) x.dones) s

abbrev IsMore : ℕ → ℕ → WorldView → Type 0
IsMore s n x = first_left (s + 1) x ≡ first_left s x + n

pub overflow_add-total : goal.overflow_add-total
overflow_add-total c =
    let a = c.self.inside in
    let j = a.first.value.job in
    let v = some_at a.sites.items c.loop-s.s (omega (arith, c.len-s-end.ensures, c.loop-s-test.true)) in
    let few = sites_few j a.sites.items a.link_queues.items a.capacity c.self.invariant c.loop-s.s v.0 v.1 (c.left_at-total.ensures.run v.0 v.1) in
    omega (arith, few, c.len-s-end.ensures, c.loop-s-test.true, c.loop-s.invariant.few, c.left_at-total.ensures.few)

pub loop-s-preserved : goal.loop-s-preserved
loop-s-preserved c =
    let a = c.self.inside in
    let j = a.first.value.job in
    let v = some_at a.sites.items c.loop-s.s (omega (arith, c.len-s-end.ensures, c.loop-s-test.true)) in
    let more = along (IsMore c.loop-s.s c.left_at-total.result) c.args.self.now (record { job = j; dones = dones_of a.sites.items }) c.self.view_is
    (left_more j a.sites.items a.link_queues.items a.capacity c.self.invariant c.loop-s.s v.0 c.left_at-total.result v.1 (c.left_at-total.ensures.left v.0 v.1)) in
    let few = sites_few j a.sites.items a.link_queues.items a.capacity c.self.invariant c.loop-s.s v.0 v.1 (c.left_at-total.ensures.run v.0 v.1) in
    record {
      sum = omega (arith, more, c.loop-s.invariant.sum);
      few = omega (arith, c.left_at-total.ensures.few, c.loop-s.invariant.few);
      sites = omega (arith, few, c.len-s-end.ensures, c.loop-s-test.true);
    }

pub returns-clause-few : goal.returns-clause-few
returns-clause-few c = omega (arith, c.loop-s.invariant.few, c.loop-s.invariant.sites)

-- what the sum over all sites is
whole : (x : WorldView) (s total : ℕ) → total ≡ first_left s x → s ≡ sites_of x.job.plan → total ≡ left_of x.job x.dones
whole x s total sum all = sum ∙ ap (λ n. first_left n x) all

abbrev sites_in : WorldView → ℕ
sites_in x = sites_of x.job.plan

pub returns-clause-left : goal.returns-clause-left
returns-clause-left c =
    let a = c.self.inside in
    let n = sites_long a.first.value.job a.sites.items a.link_queues.items a.capacity c.self.invariant in
    let v = ap sites_in c.self.view_is in
    whole c.args.self.now c.loop-s.s c.loop-s.total c.loop-s.invariant.sum (omega (arith, n, v, c.len-s-end.ensures, c.loop-s-test.false))

abbrev IsEnough : WorldView → Type 0
IsEnough x = undone x.job x.dones ≤ left_of x.job x.dones

pub returns-clause-enough : goal.returns-clause-enough
returns-clause-enough c =
    let a = c.self.inside in
    let j = a.first.value.job in
    let n = sites_long j a.sites.items a.link_queues.items a.capacity c.self.invariant in
    let v = ap sites_in c.self.view_is in
    let e = whole c.args.self.now c.loop-s.s c.loop-s.total c.loop-s.invariant.sum (omega (arith, n, v, c.len-s-end.ensures, c.loop-s-test.false)) in
    let h = along IsEnough c.args.self.now (record { job = j; dones = dones_of a.sites.items }) c.self.view_is (left_enough j a.sites.items a.link_queues.items a.capacity c.self.invariant) in
    omega (arith, e, h)

abbrev Falls : WorldView → Type 0
Falls x = (s : ℕ) → turn (system_of x.job) x.dones s ≡ Moved → left_of x.job (step (system_of x.job) x.dones s) < left_of x.job x.dones

pub returns-clause-falls : goal.returns-clause-falls
returns-clause-falls c s moves =
    let a = c.self.inside in
    let j = a.first.value.job in
    let n = sites_long j a.sites.items a.link_queues.items a.capacity c.self.invariant in
    let v = ap sites_in c.self.view_is in
    let e = whole c.args.self.now c.loop-s.s c.loop-s.total c.loop-s.invariant.sum (omega (arith, n, v, c.len-s-end.ensures, c.loop-s-test.false)) in
    let h = along Falls c.args.self.now (record { job = j; dones = dones_of a.sites.items }) c.self.view_is (left_falls j a.sites.items a.link_queues.items a.capacity c.self.invariant) s moves in
    omega (arith, e, h)

abbrev EndsAtNone : WorldView → Type 0
EndsAtNone x = NoFault x.job → (left_of x.job x.dones ≡ 0) ↔ AllEnded x.job x.dones

pub returns-clause-ended : goal.returns-clause-ended
returns-clause-ended c fine =
    let a = c.self.inside in
    let j = a.first.value.job in
    let x = c.args.self.now in
    let n = sites_long j a.sites.items a.link_queues.items a.capacity c.self.invariant in
    let v = ap sites_in c.self.view_is in
    let e = whole x c.loop-s.s c.loop-s.total c.loop-s.invariant.sum (omega (arith, n, v, c.len-s-end.ensures, c.loop-s-test.false)) in
    let h = along EndsAtNone x (record { job = j; dones = dones_of a.sites.items }) c.self.view_is (left_none j a.sites.items a.link_queues.items a.capacity c.self.invariant) fine in
    subst (λ (k : ℕ). (k ≡ 0) ↔ AllEnded x.job x.dones) (sym e) h
