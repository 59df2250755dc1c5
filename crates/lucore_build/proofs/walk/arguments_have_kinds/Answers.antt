use Rattle.std.proofs.Common.{◌≡◌, false, None, ◌<◌, ◌≤◌, sym, ◌∙◌, length, arith}
use Rattle.lucore_build.proofs.Fit.{fit_end, too_many, unfit}
use Rattle.lucore_build.proofs.walk.arguments_have_kinds.Goals as goal
use Rattle.lucore_build.proofs.walk.arguments_have_kinds.Goals.{then-i-inputs-via-then-i-inputs, then-i-inputs-via-else-i-inputs+then-not-is_of_kind}

pub returns : goal.returns
returns c = fit_end c.args.arguments.now c.args.inputs.now c.loop-i.i (omega arith) (omega arith) ∙ c.loop-i.invariant.so_far

pub returns-then-i-inputs : goal.returns-then-i-inputs
returns-then-i-inputs c =
    let es = c.args.arguments.now in
    let ds = c.args.inputs.now in
    let i = c.loop-i.i in
    let lt : i < length es = omega arith in
    elim c.then-i-inputs.branch [
      | then-i-inputs-via-then-i-inputs w ↦
          let le : length ds ≤ i = omega arith in
          sym (too_many es ds i lt le) ∙ c.loop-i.invariant.so_far
      | then-i-inputs-via-else-i-inputs+then-not-is_of_kind w ↦
          let le : i < length ds = omega arith in
          let differs : w.is_of_kind.result ≡ false = grind (arith, w.if-not-is_of_kind.true) in
          sym (unfit es ds i (record { place = 0; kind = None }) w.index-inputs-i.result lt le (sym w.is_of_kind.ensures ∙ differs)) ∙ c.loop-i.invariant.so_far
    ]
