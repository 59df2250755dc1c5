use Rattle.std.proofs.Common.{◌∙◌, ◌<◌, length, sym, refl, arith}
use Rattle.lusyn_parser.specs.Tables.{names_of, marks_of}
use Rattle.lusyn_parser.proofs.Tables.{few-types, few-names, names-append, marks-append, rows-next, rows-all}
use Rattle.lusyn_parser.proofs.labels.Labels.new.Goals as goal

pub kind_at-kind-requires-clause-names : goal.kind_at-kind-requires-clause-names
kind_at-kind-requires-clause-names c = few-names c.args.types.now c.requires c.loop-place.place c.index-types-place.result (omega (arith, c.loop-place-test.true)) (sym c.index-types-place.is)

pub put_names-requires : goal.put_names-requires
put_names-requires c =
    rw c.as_slice.ensures (few-names c.args.types.now c.requires c.loop-place.place c.index-types-place.result (omega (arith, c.loop-place-test.true)) (sym c.index-types-place.is))

pub loop-place-preserved : goal.loop-place-preserved
loop-place-preserved c =
    let types = c.args.types.now in
    let i = c.loop-place.place in
    let here : i < length types = omega (arith, c.loop-place-test.true) in
    record {
      names = rows-next names_of names-append types i c.index-types-place.result _ _ _ c.kind_at-kind.result c.as_slice.result.now here c.index-types-place.is c.kind_at-kind.ensures c.as_slice.ensures
          c.loop-place.invariant.names c.in_ok-put_names.ensures.names;
      marks = rows-next marks_of marks-append types i c.index-types-place.result _ _ _ c.kind_at-kind.result c.as_slice.result.now here c.index-types-place.is c.kind_at-kind.ensures c.as_slice.ensures
          c.loop-place.invariant.marks c.in_ok-put_names.ensures.marks;
    }

pub invariant_of-result : goal.invariant_of-result
invariant_of-result c =
    let types = c.args.types.now in
    let far = c.loop-place-test.false in
    record {
      few = few-types types c.requires;
      short = few-names types c.requires;
      named = c.in_ok-names.ensures ∙ rows-all names_of refl types c.loop-place.place _ _ (omega (arith, far)) c.loop-place.invariant.names;
      numbered = rows-all marks_of refl types c.loop-place.place _ _ (omega (arith, far)) c.loop-place.invariant.marks;
    }
