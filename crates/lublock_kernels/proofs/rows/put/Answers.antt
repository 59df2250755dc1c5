use Rattle.std.proofs.Common.{rules, ◌≡◌, ◌+◌, set, subst, sym, SFits, to_z, of_z, w64, ℤ}
use Rattle.std.proofs.lemmas.Int.{to_z-of_z}
use Rattle.lublock_kernels.specs.Rows.{IsPut}
use Rattle.lublock_kernels.proofs.Filling.{is_put}
use Rattle.lublock_kernels.proofs.rows.put.Goals as goal

pub returns-clause-put : goal.returns-clause-put
returns-clause-put c =
    let fits : SFits w64 c.args.word = search rules in
    let same : to_z w64 (of_z w64 c.args.word) ≡ c.args.word = grind (rules, to_z-of_z) in
    subst (λ (z : ℤ). IsPut c.args.row.now c.args.tick c.args.word (set c.args.row.now (c.args.tick + 1) z)) (sym same) (is_put c.args.row.now c.args.tick c.args.word c.requires)
