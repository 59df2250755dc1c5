use Rattle.std.proofs.Common.{◌≡◌, ◌∙◌, List, Bool, refl, sym, ap, subst, length}
use Rattle.std.specs.Prelude.{Vec}
use Rattle.std.specs.Global.{Global}
use Rattle.std.proofs.lemmas.Option.{slice_get_read}
use Rattle.lutree.specs.Tree.{node_view}
use Rattle.lustat_rules.specs.Classes.{IsLeast}
use Rattle.lustat_init.specs.Assigned.{assigned}
use Rattle.lustat_init.specs.Rows.{plain, row_at}
use Rattle.lustat_init.proofs.Rowing.{row_in, row_within}
use Rattle.lustat_init.proofs.search.ClassStageStage.prepare.Goals as goal

pub bounds-self-place : goal.bounds-self-place
bounds-self-place c =
    row_within c.args.self.now.catalog.now.nodes c.args.self.now.rows.now c.args.place c.args.scope.now c.args.self.now.least.long c.requires

pub returns : goal.returns
returns c =
    let s = c.args.self.now in
    let n = c.args.scope.now in
    let i = c.args.place in
    let rows : List (Vec Bool Global) = s.rows.now in
    let row = c.index-self-place.result in
    let lt = row_within s.catalog.now.nodes rows i n s.least.long c.requires in
    let there = slice_get_read rows (length rows) i row refl lt c.index-self-place.is in
    let own : row_at (plain rows) i ≡ c.as_slice-marks.result.now = row_in rows i row there ∙ ap (λ (r : Vec Bool Global). r.items) c.index-self-place.is ∙ sym c.as_slice-marks.ensures.value in
    record {
      named_by_clocks = c.in_ok-named.ensures;
      own = c.in_ok-firsts.ensures;
      least = subst (λ marks. IsLeast (assigned (node_view n) marks) (node_view n)) own (s.least.each i n c.requires);
    }
