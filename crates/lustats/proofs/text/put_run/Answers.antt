use Rattle.std.proofs.Common.{◌++◌, codes, rules}
use Rattle.lustats.specs.Text.{Adds, seconds, rate, run_head}
use Rattle.lustats.proofs.Adding.{adds_after}
use Rattle.lustats.proofs.text.put_run.Goals as goal

pub returns : goal.returns
returns c =
    let r = c.push_str.result in
    let end = c.push_str.new.self in
    let micros = c.args.micros in
    let last : Adds r c.put_rate.new.text end (codes "\n") = search rules in
    adds_after r c.args.text.now c.put_run_head.new.text end (run_head c.args.instants) (seconds micros ++ (rate micros c.args.instants ++ codes "\n")) c.in_ok-put_run_head.ensures
    (adds_after r c.put_run_head.new.text c.put_seconds.new.text end (seconds micros) (rate micros c.args.instants ++ codes "\n") c.in_ok-put_seconds.ensures
    (adds_after r c.put_seconds.new.text c.put_rate.new.text end (rate micros c.args.instants) (codes "\n") c.in_ok-put_rate.ensures last))
