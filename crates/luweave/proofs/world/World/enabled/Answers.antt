use Rattle.std.proofs.Common.{◌≡◌, ◌≢◌, ℕ, ◌<◌, length, sym, ◌∙◌, subst, arith}
use Rattle.std.proofs.lemmas.Option.{same_Some}
use Rattle.luworld.specs.declared.turn.Turn.TheVariants.{Moved}
use Rattle.luworld.specs.Systems.{turn, NoTurnMoves}
use Rattle.luworld.specs.Jobs.{system_of, NoFault}
use Rattle.luworld.specs.WorldViews.{WorldView, AllEnded}
use Rattle.luweave.specs.Worlds.{dones_of}
use Rattle.luweave.proofs.Worlds.{along, unstuck}
use Rattle.luweave.proofs.Moving.{number_is, quiet_all, quiet_ended}
use Rattle.luweave.proofs.world.World.enabled.Goals as goal

pub returns-then-would_move-clause-moves : goal.returns-then-would_move-clause-moves
returns-then-would_move-clause-moves c s e =
    let a = c.self.inside in
    let here = number_is a.first.value.job a.sites.items a.link_queues.items a.capacity c.loop-s.s c.number_of.result c.self.invariant (omega (arith, c.len-s-end.ensures, c.loop-s-test.true)) c.number_of.ensures in
    subst (λ (n : ℕ). turn (system_of c.args.self.now.job) c.args.self.now.dones n ≡ Moved) (sym here ∙ same_Some c.number_of.result s e) (c.would_move.ensures.0 c.if-would_move.true)

pub returns-then-would_move-clause-least : goal.returns-then-would_move-clause-least
returns-then-would_move-clause-least c s r e lt =
    let a = c.self.inside in
    let here = number_is a.first.value.job a.sites.items a.link_queues.items a.capacity c.loop-s.s c.number_of.result c.self.invariant (omega (arith, c.len-s-end.ensures, c.loop-s-test.true)) c.number_of.ensures in
    let same = same_Some c.number_of.result s e in
    c.loop-s.invariant.quiet r (omega (arith, lt, here, same))

-- no site's turn moves
abbrev Quiet : ℕ → WorldView → Type 0
Quiet n x = (r : ℕ) → r < n → turn (system_of x.job) x.dones r ≢ Moved

pub returns-clause-none : goal.returns-clause-none
returns-clause-none c _ =
    let a = c.self.inside in
    let j = a.first.value.job in
    let w : WorldView = record { job = j; dones = dones_of a.sites.items } in
    let each = along (Quiet (length a.sites.items)) w c.args.self.now (sym c.self.view_is) (λ r lt. c.loop-s.invariant.quiet r (omega (arith, lt, c.len-s-end.ensures, c.loop-s-test.false))) in
    along (λ x. NoTurnMoves (system_of x.job) x.dones) c.args.self.now w c.self.view_is (quiet_all j a.sites.items a.link_queues.items a.capacity c.self.invariant each)

pub returns-clause-unstuck : goal.returns-clause-unstuck
returns-clause-unstuck c _ =
    let a = c.self.inside in
    let j = a.first.value.job in
    let w : WorldView = record { job = j; dones = dones_of a.sites.items } in
    let each = along (Quiet (length a.sites.items)) w c.args.self.now (sym c.self.view_is) (λ r lt. c.loop-s.invariant.quiet r (omega (arith, lt, c.len-s-end.ensures, c.loop-s-test.false))) in
    along (λ x. NoFault x.job → AllEnded x.job x.dones) c.args.self.now w c.self.view_is
    (quiet_ended j (dones_of a.sites.items) (unstuck j a.sites.items a.link_queues.items a.capacity c.self.invariant) (quiet_all j a.sites.items a.link_queues.items a.capacity c.self.invariant each))
