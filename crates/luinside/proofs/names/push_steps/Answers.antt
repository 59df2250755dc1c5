use Rattle.std.proofs.Common.{◌≡◌, ◌<◌, List, ℕ, [], length, Some, sym, ap, ◌∙◌, arith}
use Rattle.std.specs.Prelude.{slice_get, option_map}
use denote.Ref.{Bor}
use Rattle.std.proofs.lemmas.List.{length-map}
use Rattle.std.proofs.lemmas.Option.{slice_get-map, slice_get-get_or, get_or_from_slice_get}
use Rattle.luinside.specs.Passing.{spelled}
use Rattle.luinside.proofs.Calling.{steps_pushed}
use Rattle.luinside.proofs.names.push_steps.Goals as goal

pub loop-k-preserved : goal.loop-k-preserved
loop-k-preserved c =
    let called = c.in_ok-called.called.items in
    let k = c.loop-k.k in
    let here = c.index.result.now in
    let now = λ (x : Bor (List ℕ)). x.now in
    let lt : k < length called = let a = c.loop-k-test.true in let b = c.len-k-end.ensures in omega (arith, a, b) in
    let at : slice_get (spelled called) k ≡ Some here.now = slice_get-map now called k ∙ ap (option_map now) (slice_get-get_or called k here lt ∙ ap Some (sym c.index.ensures)) in
    let long = length-map called now in
    steps_pushed c.args.steps.now.items c.loop-k.steps.items c.push.new.self.items c.name_in-first.result.now (spelled called) k here.now c.in_ok-step_name.field-0
    (omega (arith, lt, long)) (sym (get_or_from_slice_get (spelled called) k here.now [] at)) c.in_ok-step_name.ensures c.loop-k.invariant c.in_ok-push.ensures.items
