use Rattle.lusdist_answers.proofs.call.perform.Goals as goal

pub returns-in-Err : goal.returns-in-Err
returns-in-Err g c =
    let e = c.put_stop.ensures in
    (e.0, e.1, e.2 g.W.Write.contents)
