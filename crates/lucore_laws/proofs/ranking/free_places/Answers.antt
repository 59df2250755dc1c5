use Rattle.std.proofs.Common.{List, ℕ, take, sym, subst, arith}
use Rattle.lucore_laws.specs.Search.{AreFree}
use Rattle.lucore_laws.proofs.Free.{free_none, free_yes, free_no, free_all}
use Rattle.lucore_laws.proofs.ranking.free_places.Goals as goal

pub loop-place-init : goal.loop-place-init
loop-place-init c = subst (λ (xs : List ℕ). AreFree (take 0 c.args.missing.now) xs) (sym c.in_ok-ready.ensures) (free_none c.args.missing.now)

pub loop-place-preserved-then-count-ne0 : goal.loop-place-preserved-then-count-ne0
loop-place-preserved-then-count-ne0 c =
    free_no c.args.missing.now c.loop-place.ready c.loop-place.place (omega arith) c.loop-place.invariant c.if-count-ne0.true

pub loop-place-preserved : goal.loop-place-preserved
loop-place-preserved c =
    free_yes c.args.missing.now c.loop-place.ready c.loop-place.place (omega arith) c.loop-place.invariant c.push.new.self c.if-count-ne0.false c.in_ok-push.ensures

pub returns : goal.returns
returns c = free_all c.args.missing.now c.loop-place.ready c.loop-place.place c.loop-place-test.false c.loop-place.invariant
