use Rattle.std.proofs.Common.{arith, ◌≡◌, ℕ, inl, inr, get_or, subst, ap, ◌∙◌}
use Rattle.std.proofs.lemmas.Bool.{cases_lt}
use Rattle.std.proofs.lemmas.Option.{slice_get_within, get_or_from_slice_get}
use Rattle.lublock_site.specs.Sure.{ReadsSure}
use Rattle.lublock_site.proofs.sure.read_marked.Goals as goal

pub loop-k-preserved : goal.loop-k-preserved
loop-k-preserved c =
    let flows = c.args.flows.now in
    record {
      reads = λ j i l there. elim (cases_lt j c.loop-k.k) [
        | inl h ↦ c.loop-k.invariant.reads j i h there
        | inr h ↦
            let e : c.loop-k.k ≡ j = omega arith in
            let same : get_or flows c.loop-k.k 0 ≡ i = ap (λ (m : ℕ). get_or flows m 0) e ∙ get_or_from_slice_get flows j i 0 there in
            subst (ReadsSure c.args.flat.now c.args.own.now c.args.marks.now) same (c.reads_marked.ensures c.if-not-reads_marked.false)
      ];
    }

pub returns : goal.returns
returns c = λ e k i there. c.loop-k.invariant.reads k i (let l = slice_get_within c.args.flows.now k i there in omega (arith, l)) there
