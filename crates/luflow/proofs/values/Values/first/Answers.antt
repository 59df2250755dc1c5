use Rattle.std.proofs.Common.{ap, ◌∙◌, map, take}
use Rattle.std.proofs.lemmas.List.{take-map}
use Rattle.luflow.specs.declared.data.Datum.TheVariants.{Int, Bool, Name}
use Rattle.luflow.proofs.values.Values.first.Goals as goal

pub returns-in_ok-from_slice-in-Numbers : goal.returns-in_ok-from_slice-in-Numbers
returns-in_ok-from_slice-in-Numbers c = rw (c.in-Numbers.is, take-map Int c.args.count c.in-Numbers.numbers.items) (ap (map Int) (c.in_ok-from_slice-in-Numbers.ensures.items ∙ ap (take c.args.count) c.deref.ensures.value))

pub returns-in_ok-from_slice-in-Truths : goal.returns-in_ok-from_slice-in-Truths
returns-in_ok-from_slice-in-Truths c = rw (c.in-Truths.is, take-map Bool c.args.count c.in-Truths.truths.items) (ap (map Bool) (c.in_ok-from_slice-in-Truths.ensures.items ∙ ap (take c.args.count) c.deref-in-Truths.ensures.value))

pub returns-in_ok-from_slice-in-Names : goal.returns-in_ok-from_slice-in-Names
returns-in_ok-from_slice-in-Names c = rw (c.in-Names.is, take-map Name c.args.count c.in-Names.names.items) (ap (map Name) (c.in_ok-from_slice-in-Names.ensures.items ∙ ap (take c.args.count) c.deref-in-Names.ensures.value))
