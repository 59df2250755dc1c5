use Rattle.lustat_warn.proofs.Parts.{all_of_program, each_once}
use Rattle.lustat_warn.proofs.survey.warnings.Goals as goal

pub returns-clause-only : goal.returns-clause-only
returns-clause-only c =
    (all_of_program c.args.program.now c.args.main.now c.in_ok-called.called c.as_slice.result.now c.new-found.result.items c.push_of_nodes.new.found.items c.in_ok-called.ensures c.as_slice.ensures c.new-found.ensures.items c.in_ok-push_of_nodes.ensures).only

pub returns-clause-all : goal.returns-clause-all
returns-clause-all c =
    (all_of_program c.args.program.now c.args.main.now c.in_ok-called.called c.as_slice.result.now c.new-found.result.items c.push_of_nodes.new.found.items c.in_ok-called.ensures c.as_slice.ensures c.new-found.ensures.items c.in_ok-push_of_nodes.ensures).all

pub returns-clause-in_order : goal.returns-clause-in_order
returns-clause-in_order c =
    (all_of_program c.args.program.now c.args.main.now c.in_ok-called.called c.as_slice.result.now c.new-found.result.items c.push_of_nodes.new.found.items c.in_ok-called.ensures c.as_slice.ensures c.new-found.ensures.items c.in_ok-push_of_nodes.ensures).in_order

pub returns-clause-once : goal.returns-clause-once
returns-clause-once c =
    each_once c.push_of_nodes.new.found.items
    (all_of_program c.args.program.now c.args.main.now c.in_ok-called.called c.as_slice.result.now c.new-found.result.items c.push_of_nodes.new.found.items c.in_ok-called.ensures c.as_slice.ensures c.new-found.ensures.items c.in_ok-push_of_nodes.ensures).in_order
