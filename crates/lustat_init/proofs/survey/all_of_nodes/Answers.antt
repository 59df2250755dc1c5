use Rattle.std.specs.Prelude.{Vec}
use Rattle.std.specs.Global.{Global}
use Rattle.std.proofs.lemmas.Option.{slice_get_within}
use Rattle.std.proofs.lemmas.Result.{IfOk-weaker}
use Rattle.lustat_rules.specs.declared.error.StatError.{StatError}
use Rattle.lustat_rules.specs.Stages.{BrokenIn}
use Rattle.lustat_rules.specs.AllFaults.{AreAllFaults}
use Rattle.lustat_rules.proofs.Ordering.{all_faults_same}
use Rattle.lustat_init.specs.Faults.{IsFault}
use Rattle.lustat_init.proofs.Surveyed.{InType, InNode, only_nodes, all_nodes}
use Rattle.lustat_init.proofs.survey.all_of_nodes.Goals as goal

pub invariant_of-all_faults : goal.invariant_of-all_faults
invariant_of-all_faults c =
    record {
      least = record { long = c.requires.long; each = λ i n at. (c.requires.each i n (slice_get_within c.args.catalog.now.nodes i n at) at).least };
    }

pub returns : goal.returns
returns c =
    let p = c.args.catalog.now in
    IfOk-weaker c.all_faults.result (λ (xs : Vec StatError Global). AreAllFaults (BrokenIn p InType InNode) xs.items) (λ (xs : Vec StatError Global). AreAllFaults (IsFault p.nodes) xs.items)
    (λ xs h. all_faults_same (BrokenIn p InType InNode) (IsFault p.nodes) xs.items (only_nodes p) (all_nodes p) h)
    c.all_faults.ensures
