use Rattle.std.proofs.Common.{rules, ◌≤◌, length, subst}
use Rattle.luplace_file.specs.Answers.{Gives, or_bad_key}
use Rattle.luplace_file.proofs.Walks.{some_texts_are}
use Rattle.luplace_file.proofs.choice.some_texts_in.Goals as goal

pub returns : goal.returns
returns c =
    let some : 1 ≤ length c.args.values.now = search rules in
    subst (λ reported. Gives (or_bad_key reported) c.texts_in.result) (some_texts_are c.args.values.now some) c.texts_in.ensures
