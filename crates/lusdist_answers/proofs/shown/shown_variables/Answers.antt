use Rattle.std.proofs.Common.{subst, ◌∙◌, ap, List, ℕ}
use Rattle.std.proofs.lemmas.Result.{IfOk-weaker}
use Rattle.luflow.specs.declared.variable.Variable.{Variable}
use Rattle.lutree.specs.Tree.{program_view}
use Rattle.lucore.specs.Result.{IsFlatOf}
use Rattle.luinside.specs.Variables.{ListsDeepVariables}
use Rattle.lusdist_call.specs.Shown.{listed_from}
use Rattle.lusdist_answers.proofs.Lists.{deep_can, deep_list, main_can, main_list}
use Rattle.lusdist_answers.proofs.shown.shown_variables.Goals as goal

pub returns-then-request-clause-can : goal.returns-then-request-clause-can
returns-then-request-clause-can c =
    let p = program_view c.args.program.now.program in
    let flat = c.args.flat.now in
    IfOk-weaker c.deep_variables.result _ _ (λ list h. deep_can c.args.request.deep c.args.request.all p c.args.program.now.main flat list.items c.if-request.true (h flat c.requires.flat)) c.deep_variables.ensures

pub returns-then-request-clause-list : goal.returns-then-request-clause-list
returns-then-request-clause-list c =
    let p = program_view c.args.program.now.program in
    let flat = c.args.flat.now in
    let is = subst (λ (main : List ℕ). IsFlatOf p main flat) c.requires.main c.requires.flat in
    IfOk-weaker c.deep_variables.result _ _ (λ list h. deep_list c.args.request p flat list.items c.if-request.true is (subst (λ (main : List ℕ). ListsDeepVariables p main list.items) c.requires.main h)) c.deep_variables.ensures

pub returns-clause-can : goal.returns-clause-can
returns-clause-can c =
    let same = ap (λ (xs : List Variable). listed_from c.args.request.all 0 xs) c.variables.ensures in
    IfOk-weaker c.listed.result _ _ (λ list e. main_can c.args.request.deep c.args.request.all c.args.flat.now list.items c.if-request.false (e ∙ same)) c.listed.ensures

pub returns-clause-list : goal.returns-clause-list
returns-clause-list c =
    let same = ap (λ (xs : List Variable). listed_from c.args.request.all 0 xs) c.variables.ensures in
    IfOk-weaker c.listed.result _ _ (λ list e. main_list c.args.request (program_view c.args.program.now.program) c.args.flat.now list.items c.if-request.false (e ∙ same)) c.listed.ensures
