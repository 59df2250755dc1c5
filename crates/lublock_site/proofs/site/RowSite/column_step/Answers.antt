use Rattle.std.proofs.Common.{◌≡◌, Option, List, sym, subst, ◌∙◌}
use Rattle.luflow.specs.declared.values.Values.{Values}
use Rattle.luflow.specs.Program.{FlatView}
use Rattle.lublock.specs.Boards.{StandsStill}
use Rattle.lublock_site.specs.Given.{AreGiven}
use Rattle.lublock_site.proofs.Moving.{going_still}
use Rattle.lublock_site.proofs.Owned.{own_given}
use Rattle.lublock_site.proofs.site.RowSite.column_step.Goals as goal

pub returns-clause-going : goal.returns-clause-going
returns-clause-going c =
    let x = c.args.self.now in
    let job = x.job.value in
    let flat_is : c.deref-flat.result.now ≡ job.plan.flat = c.deref-flat.ensures ∙ c.requires.frame.code.flat in
    let given : AreGiven job.inputs c.as_slice-given.result.now = subst (λ (xs : List (Option Values)). AreGiven job.inputs xs) (sym c.as_slice-given.ensures.value) (own_given job x.site x.frame.given.items c.requires.frame.given) in
    going_still x c.own_column.new.board c.requires
    (subst (λ (f : FlatView). StandsStill f job.inputs x.t x.len x.board c.own_column.new.board) flat_is (c.own_column.ensures.stands job.inputs given))
