use Rattle.std.proofs.Common.{◌≡◌, ◌<◌, ℕ, length, true, Some, sym, ap, ◌∙◌, subst}
use Rattle.std.specs.Prelude.{Contains, slice_get}
use Rattle.luflow.specs.Program.{flows_of}
use Rattle.lueval.specs.Whole.{IsAnswer}
use Rattle.lueval.proofs.FirstFaults.{told_answer, told_within}
use Rattle.lueval.proofs.Listing.{flow_streams}
use Rattle.lueval.proofs.evaluator.whole_flows.Goals as goal

pub returns-clause-streams : goal.returns-clause-streams
returns-clause-streams c =
    let flat = c.args.flat.now in
    let notes = c.run.new.notes in
    let kept = c.in_ok-kept.kept.items in
    let count : length c.flows-count.result.now ≡ flows_of flat = ap length c.flows-count.ensures.flows in
    let all : (i : ℕ) → i < flows_of flat → slice_get c.args.wanted.now i ≡ Some true → Contains kept i =
    λ i lt yes. c.in_ok-kept.ensures.all i (subst (λ n. i < n) (sym count) lt) yes in
    flow_streams flat c.args.inputs.now c.args.wanted.now notes.kept.items notes.columns.items c.recall_invariant.ensures
    (λ i lt yes. subst (λ ks. Contains ks.items i) (sym c.in-None.ensures.kept) (all i lt yes)) (c.in-None.ensures.len ∙ c.in_ok-columns.ensures.len ∙ count) c.in-None.ensures.columns

pub error_of-requires : goal.error_of-requires
error_of-requires c = told_within c.args.flat.now c.args.inputs.now c.in-Some.found c.recall_invariant.ensures c.in-Some.ensures.fault

pub returns-in-Some-clause-fault : goal.returns-in-Some-clause-fault
returns-in-Some-clause-fault c =
    subst (IsAnswer c.args.flat.now c.args.inputs.now) (sym c.error_of.ensures) (told_answer c.args.flat.now c.args.inputs.now c.in-Some.found c.recall_invariant.ensures c.in-Some.ensures.fault)
