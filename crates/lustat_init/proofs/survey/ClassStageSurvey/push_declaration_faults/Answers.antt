use Rattle.lustat_rules.proofs.Gaining.{gains_none}
use Rattle.lustat_init.proofs.survey.ClassStageSurvey.push_declaration_faults.Goals as goal

pub returns : goal.returns
returns c = gains_none (λ _. ⊥) c.args._found.now.items (λ e no. no)
