use Rattle.std.proofs.Common.{rules, ◌∙◌, arith}
use Rattle.std.proofs.lemmas.Option.{slice_get_within}
use Rattle.lublock_kernels.proofs.Written.{branches_more}
use Rattle.lublock_kernels.proofs.clocked.solve_branches.Goals as goal

pub loop-k-preserved : goal.loop-k-preserved
loop-k-preserved c = record {
  len = search rules;
  kept = λ n l. c.solve_branch.ensures.kept n l ∙ c.loop-k.invariant.kept n l;
  words = branches_more c.args.rows.now c.args.spans.now c.args.kind c.args.to c.args.c.now c.loop-k.k c.args.branches.now c.loop-k.row c.solve_branch.new.row c.loop-k.invariant.words (c.solve_branch.ensures.words c.if-solve_branch.false) c.solve_branch.ensures.stays;
}

pub returns-clause-words : goal.returns-clause-words
returns-clause-words c = λ e k x there. c.loop-k.invariant.words k x (let l = slice_get_within c.args.branches.now k x there in omega (arith, l)) there
