use Rattle.std.proofs.Common.{◌≡◌, ◌∙◌, ◌<◌, ◌+◌, ℕ, [], List, length, sym, ap, subst, arith, refl, set, get_or, true≢false, Vec, Global}
use Rattle.std.specs.Prelude.{slice_get, Some, IsTrue}
use Rattle.std.proofs.lemmas.List.{length-map, map-set}
use Rattle.std.proofs.lemmas.Option.{slice_get-get_or}
use Rattle.std.proofs.Math.ListN.{length-set}
use Rattle.lutree.specs.Tree.{NodeTree, ProgramTree, program_view, node_view}
use Rattle.luflow.specs.declared.form.Flow.{Flow}
use Rattle.lucore_laws.specs.Layout.{node_flows}
use Rattle.lucore_build.specs.Walks.{plain}
use Rattle.lucore_build.specs.Listed.{AreBuilt}
use Rattle.lucore_build.proofs.Building.{one_built, none_more}
use Rattle.lucore_build.proofs.laying.lists_before.Goals as goal
use Rattle.lucore_build.proofs.laying.lists_before.Goals.{then-place-count+then-has_mark+in_ok-list, else-place-count, else-place-count-via-then-place-count+else-has_mark, else-place-count-via-else-place-count}

unnamed : NodeTree
unnamed = record { name = []; inputs = []; outputs = []; locals = []; equations = [] }

pub loop-number-preserved : goal.loop-number-preserved
loop-number-preserved c =
    let p : ProgramTree = program_view c.args.catalog.now in
    let order = c.args.order.now in
    let marks = c.args.marks.now in
    let k = c.loop-number.number in
    let i : ℕ = get_or order k 0 in
    let lists : List (Vec Flow Global) = c.loop-number.lists.items in
    let built : List (List Flow) = plain lists in
    let inv = c.loop-number.invariant in
    let lt : k < length order = let a = c.loop-number-test.true in let b = c.requires.inside in omega (arith, a, b) in
    let at : slice_get order k ≡ Some i = slice_get-get_or order k 0 lt in
    let count : length c.scopes-count.result.now ≡ length p.nodes = ap length c.scopes-count.ensures ∙ sym (length-map c.args.catalog.now.nodes node_view) in
    let long : length built ≡ length p.nodes = length-map lists (λ (v : Vec Flow Global). v.items) ∙ inv.long ∙ count in
    elim c.if-place-count.branch [
      | then-place-count+then-has_mark+in_ok-list w ↦
          let list = w.in_ok-list.list.flows in
          let items : c.if-place-count.lists.items ≡ set lists i list = ap (λ (v : Vec (Vec Flow Global) Global). v.items) w.lists-is in
          let inside : i < length p.nodes = let a = w.if-place-count.true in omega (arith, a, count) in
          let n : NodeTree = get_or p.nodes i unnamed in
          let there : slice_get p.nodes i ≡ Some n = slice_get-get_or p.nodes i unnamed inside in
          let has = w.has_mark.ensures.0 (subst IsTrue (sym w.if-has_mark.true) refl) in
          let is : list.items ≡ node_flows p built n = w.in_ok-list.ensures.flows n there ∙ ap (λ (ls : List (Vec Flow Global)). node_flows p (plain ls) n) w.deref.ensures.value in
          let same : plain c.if-place-count.lists.items ≡ set built i list.items = ap plain items ∙ map-set (λ (v : Vec Flow Global). v.items) lists i list in
          let done = one_built p order marks c.requires.calls c.requires.closed k i built inv.built at n there has list.items is (omega (arith, inside, long)) in
          record {
            long = ap length items ∙ length-set lists i list ∙ inv.long;
            built = subst (AreBuilt p order marks (k + 1)) (sym same) done;
          }
      | else-place-count w ↦
          let same : c.if-place-count.lists.items ≡ lists = ap (λ (v : Vec (Vec Flow Global) Global). v.items) w.lists-is in
          elim w.else-place-count.branch [
            | else-place-count-via-then-place-count+else-has_mark x ↦
                record {
                  long = ap length same ∙ inv.long;
                  built = subst (λ (ls : List (Vec Flow Global)). AreBuilt p order marks (k + 1) (plain ls)) (sym same)
                      (none_more p order marks c.requires.calls c.requires.closed k i built inv.built at long (λ inside has. true≢false (sym (x.has_mark.ensures.1 has) ∙ x.if-has_mark.false)));
                }
            | else-place-count-via-else-place-count x ↦
                record {
                  long = ap length same ∙ inv.long;
                  built = subst (λ (ls : List (Vec Flow Global)). AreBuilt p order marks (k + 1) (plain ls)) (sym same)
                      (none_more p order marks c.requires.calls c.requires.closed k i built inv.built at long (λ inside has. let a = x.if-place-count.false in omega (arith, a, inside, count)));
                }
          ]
    ]
