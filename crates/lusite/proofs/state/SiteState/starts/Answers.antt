use Rattle.std.proofs.Common.{◌<◌, length, ap, arith}
use Rattle.lusite_program.specs.Programs.{places_of}
use Rattle.lusite.proofs.Begun.{begun_local, begun_first, begun_same}
use Rattle.lusite.proofs.state.SiteState.starts.Goals as goal

pub returns-then-site_flow-2-clause-ready : goal.returns-then-site_flow-2-clause-ready
returns-then-site_flow-2-clause-ready c _ =
    let a = c.args.self.now in
    let l : a.row < length (places_of a.program.plan a.program.site) = let no = c.if-self-places.false in omega (arith, no, ap length c.places.ensures) in
    begun_same a c.requires.going l c.requires.early c.if-self-eq0.true c.code.result.1.now c.code.result.2.now c.code.result.0.now c.code.ensures _ c.if-site_flow.true c.if-site_flow-2.true (c.requires.follows c.if-follows.true)

pub returns-then-site_flow-2-clause-local : goal.returns-then-site_flow-2-clause-local
returns-then-site_flow-2-clause-local c _ =
    let a = c.args.self.now in
    let l : a.row < length (places_of a.program.plan a.program.site) = let no = c.if-self-places.false in omega (arith, no, ap length c.places.ensures) in
    begun_local a c.requires.going l c.requires.early c.if-self-eq0.true c.code.result.1.now c.code.result.2.now c.code.result.0.now c.code.ensures _ c.if-site_flow.true

pub returns-then-site_flow-clause-ready : goal.returns-then-site_flow-clause-ready
returns-then-site_flow-clause-ready c on =
    let a = c.args.self.now in
    let l : a.row < length (places_of a.program.plan a.program.site) = let no = c.if-self-places.false in omega (arith, no, ap length c.places.ensures) in
    begun_first a c.requires.going l c.requires.early c.if-self-eq0.true c.code.result.1.now c.code.result.2.now c.code.result.0.now c.code.ensures _ c.if-site_flow.true c.has_first.result c.has_first.ensures on

pub returns-then-site_flow-clause-local : goal.returns-then-site_flow-clause-local
returns-then-site_flow-clause-local c _ =
    let a = c.args.self.now in
    let l : a.row < length (places_of a.program.plan a.program.site) = let no = c.if-self-places.false in omega (arith, no, ap length c.places.ensures) in
    begun_local a c.requires.going l c.requires.early c.if-self-eq0.true c.code.result.1.now c.code.result.2.now c.code.result.0.now c.code.ensures _ c.if-site_flow.true
