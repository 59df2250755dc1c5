use Rattle.std.proofs.Common.{◌≡◌, ◌∙◌, ◌++◌, ap, sym, subst, arith, length, map, take, ◌+◌}
use Rattle.std.proofs.lemmas.Grind.{common_steps}
use Rattle.lutree.specs.Tree.{type_view}
use Rattle.lustat_rules.specs.Scope.{labels_of}
use Rattle.lustat_rules.specs.Scopes.{label_spellings, AreStarts}
use Rattle.lustat_rules.proofs.Labelled.{labels_more, push_start, start_is}
use Rattle.lustat_rules.proofs.catalog.fill.Goals as goal

pub loop-t-preserved : goal.loop-t-preserved
loop-t-preserved c =
    let ts = c.args.types.now in
    let i = c.loop-t.t-index in
    let t = c.t-item.result in
    let before = c.loop-t.invariant in
    let size : c.len.result ≡ length c.loop-t.names.items = grind (arith, common_steps, c.len.ensures) in
    let start = size ∙ start_is c.loop-t.names.items ts i before.names in
    record {
      names = c.in_ok-push_labels.ensures ∙ ap (λ l. l ++ label_spellings c.as_slice.result.now) before.names ∙ ap (λ l. labels_of (map type_view (take i ts)) ++ label_spellings l) c.as_slice.ensures
          ∙ sym (labels_more ts i t c.loop-t-test.true c.t-item.is);
      starts = subst (AreStarts (i + 1) (map type_view ts)) (sym c.in_ok-push.ensures.items) (push_start (map type_view ts) i c.loop-t.starts.items c.len.result before.starts start);
    }
