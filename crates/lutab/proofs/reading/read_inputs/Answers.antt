use Rattle.std.proofs.Common.{List, subst}
use Rattle.luflow.specs.declared.variable.Enum.{Enum}
use Rattle.luflow.specs.declared.variable.Variable.{Variable}
use Rattle.luflow.specs.Variables.{inputs_of}
use Rattle.lutab.specs.Filling.{ReadsText}
use Rattle.lutab.proofs.Reported.{spells, is_short, reports, only_table, only_refusal, fitting}
use Rattle.lutab.proofs.reading.read_inputs.Goals as goal

pub returns : goal.returns
returns c =
    let types = c.args.flat.now.types in
    let inputs = inputs_of c.args.flat.now.variables in
    let text = c.args.text.now in
    let r = c.read_text.result in
    let h : ReadsText types inputs text r =
    subst (λ (ts : List Enum). ReadsText ts inputs text r) c.types.ensures
    (subst (λ (xs : List Variable). ReadsText c.types.result.now xs text r) c.inputs.ensures.inputs c.read_text.ensures) in
    record {
      spelled = spells types inputs text r h;
      short = is_short types inputs text r h;
      only = only_table types inputs text r h;
      refused = reports types inputs text r h;
      refuses = only_refusal types inputs text r h;
      fits = fitting c.args.flat.now text r h;
    }
