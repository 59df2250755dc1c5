use Rattle.std.proofs.Common.{subst}
use Rattle.lutree.specs.Tree.{program_view}
use Rattle.lueval.specs.Faults.{TellsFirstFault}
use Rattle.luinside.specs.Sites.{ReadsAsItsFlow, TellsFaults}
use Rattle.luinside.proofs.FirstTold.{always_found, first_told}
use Rattle.luinside.proofs.first.first_fault.Goals as goal

pub unreachable-requires : goal.unreachable-requires
unreachable-requires c =
    let p = program_view c.args.program.now.program in
    let main = c.args.program.now.main in
    let flat = c.args.flat.now in
    let inputs = c.args.inputs.now in
    let x = c.in-Some.found in
    let first = subst (TellsFirstFault flat inputs) c.in-Some.is c.in_ok-found.ensures in
    always_found p main flat inputs x c.recall_invariant.ensures c.requires.flat first (subst (ReadsAsItsFlow p main x.place) c.in-None.is c.in_ok-site.ensures.reads)

pub returns : goal.returns
returns c =
    let p = program_view c.args.program.now.program in
    let main = c.args.program.now.main in
    let flat = c.args.flat.now in
    let inputs = c.args.inputs.now in
    let x = c.in-Some.found in
    let first = subst (TellsFirstFault flat inputs) c.in-Some.is c.in_ok-found.ensures in
    first_told p main flat inputs x c.recall_invariant.ensures c.requires.flat first c.in-Some-2.site (subst (ReadsAsItsFlow p main x.place) c.in-Some-2.is c.in_ok-site.ensures.reads) (subst (TellsFaults p main x.place) c.in-Some-2.is c.in_ok-site.ensures.faults)
