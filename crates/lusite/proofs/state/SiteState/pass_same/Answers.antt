use Rattle.std.proofs.Common.{refl, sym, ap, ◌∙◌, arith}
use Rattle.lusite.specs.States.{IsGoing}
use Rattle.std.specs.Prelude.{is_some}
use Rattle.lusite.proofs.Moves.{place_within}
use Rattle.lusite.proofs.Shut.{shut_same, none_here, shut_before}
use Rattle.lusite.proofs.state.SiteState.pass_same.Goals as goal

pub pass-requires-clause-within : goal.pass-requires-clause-within
pass-requires-clause-within c = place_within c.same.self c.same.invariant.goes_on.in_order.set (c.same-test.ensures.within refl)

pub pass-requires-clause-all : goal.pass-requires-clause-all
pass-requires-clause-all c =
    let b = c.same.self in
    let inv = c.same.invariant in
    let on : IsGoing b = record { in_order = inv.goes_on.in_order; going = ap is_some inv.goes_on.fault ∙ c.requires.going.going } in
    let l = c.same-test.ensures.within refl in
    inv.first ∙ sym (none_here b on l inv.early (shut_same b on l inv.early inv.shut (c.same-test.ensures.same refl)))

pub same-preserved : goal.same-preserved
same-preserved c =
    let b = c.same.self in
    let inv = c.same.invariant in
    let p = c.pass.ensures in
    let on : IsGoing b = record { in_order = inv.goes_on.in_order; going = ap is_some inv.goes_on.fault ∙ c.requires.going.going } in
    let l = c.same-test.ensures.within refl in
    let run = p.goes_on.same in
    let instants = ap (λ x. x.job.inputs.instants) run.inputs_is in
    record {
      goes_on = record {
        same = record { program_is = run.program_is ∙ inv.goes_on.same.program_is; inputs_is = run.inputs_is ∙ inv.goes_on.same.inputs_is };
        in_order = p.goes_on.in_order;
        fault = p.goes_on.fault ∙ inv.goes_on.fault;
      };
      done = p.done ∙ inv.done;
      less = let one = p.less in let all = inv.less in omega (arith, one, all);
      first = p.first;
      early = let lt = inv.early in let same = p.instant in omega (arith, lt, same, instants);
      shut = shut_before b c.pass.new.self on l run.program_is run.inputs_is p.instant p.row (shut_same b on l inv.early inv.shut (c.same-test.ensures.same refl));
    }
