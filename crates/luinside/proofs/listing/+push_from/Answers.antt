use Rattle.std.specs.Prelude.{◌≡◌, slice_get}
use Rattle.std.proofs.Common.{◌+◌, ◌-◌, ◌∷◌, [], ◌++◌, None, arith, sym, ap, ◌∙◌, get_or}
use Rattle.std.proofs.lemmas.List.{append-nil}
use Rattle.lutree.specs.Tree.{program_view}
use Rattle.lucore_laws.specs.Sizes.{size_at}
use Rattle.luinside.specs.declared.listing.Instance.{Instance}
use Rattle.luinside.specs.Starts.{starts_in}
use Rattle.luinside.specs.Listing.{of_node, all_from}
use Rattle.luinside.proofs.Going.{inner_of, step, all_calls, call_fits}
use Rattle.luinside.proofs.listing.+push_from.Goals as goal
use Rattle.luinside.proofs.listing.+push_from.Goals.{in-Some+in_ok-with_call+in_ok-push_from, in_default}

pub overflow_add-inner : goal.overflow_add-inner
overflow_add-inner t c =
    let cs = c.deref-call-items.result.now in
    let x = c.args.here.now in
    let fits = call_fits (program_view c.args.catalog.now) c.args.counts.now x.node x.start cs c.loop-k.k (record { node = None; at = 0 }) (c.deref-call-items.ensures.value ∙ c.in_ok-starts.ensures)
    c.requires.bounds c.requires.small c.loop-k-test.true in
    omega (arith, fits)

pub push_from-requires : goal.push_from-requires
push_from-requires t c =
    let cs = c.deref-call-items.result.now in
    let x = c.args.here.now in
    let fits = call_fits (program_view c.args.catalog.now) c.args.counts.now x.node x.start cs c.loop-k.k (record { node = None; at = 0 }) (c.deref-call-items.ensures.value ∙ c.in_ok-starts.ensures)
    c.requires.bounds c.requires.small c.loop-k-test.true in
    let size = ap (size_at c.args.counts.now) c.in-Some.is in
    let some = c.if-depth-eq0.false in
    (omega (arith, some, c.decreases), (c.requires.bounds, omega (arith, fits, size)))

pub loop-k-preserved : goal.loop-k-preserved
loop-k-preserved t c =
    let p = program_view c.args.catalog.now in
    let counts = c.args.counts.now in
    let cs = c.deref-call-items.result.now in
    let k = c.loop-k.k in
    let d = c.args.depth - 1 in
    let path = c.args.here.now.path in
    let call = get_or cs k (record { node = None; at = 0 }) in
    let at = c.args.here.now.start + call.at in
    let inner = inner_of p counts d path c.args.here.now.start in
    elim c.match-call.branch [
      | in-Some+in_ok-with_call+in_ok-push_from w ↦
          let node = w.in-Some.node in
          let more = all_from p counts d w.in_ok-with_call.field-0 node at in
          let same = ap (λ path. all_from p counts d path node at) (w.in_ok-with_call.ensures ∙ ap (λ path. path ++ k ∷ []) w.as_slice.ensures) in
          let is = same ∙ sym (ap (λ o. of_node o (λ j. all_from p counts d (path ++ k ∷ []) j at)) w.in-Some.is) in
          step inner c.push.new.self.items c.loop-k.found.items c.match-call.found.items more cs k (record { node = None; at = 0 }) c.loop-k-test.true c.loop-k.invariant
          (ap (λ v. v.items) w.found-is ∙ w.in_ok-push_from.ensures) is
      | in_default w ↦
          let is = sym (ap (λ o. of_node o (λ j. all_from p counts d (path ++ k ∷ []) j at)) w.in_default.is) in
          step inner c.push.new.self.items c.loop-k.found.items c.match-call.found.items [] cs k (record { node = None; at = 0 }) c.loop-k-test.true c.loop-k.invariant
          (ap (λ v. v.items) w.found-is ∙ sym (append-nil c.loop-k.found.items)) is
    ]

pub returns : goal.returns
returns t c =
    let x = c.args.here.now in
    let cs = c.deref-call-items.result.now in
    let some = c.if-depth-eq0.false in
    let old = c.args.found.now.items in
    let at = λ (x : Instance). old ++ x ∷ [] in
    let first : c.push.new.self.items ≡ at c.in_ok-copied.field-0 = c.in_ok-push.ensures.items in
    let are : cs ≡ starts_in (program_view c.args.catalog.now) c.args.counts.now (slice_get (program_view c.args.catalog.now).nodes x.node) = c.deref-call-items.ensures.value ∙ c.in_ok-starts.ensures in
    all_calls (program_view c.args.catalog.now) c.args.counts.now c.args.depth x.path x.node x.start old c.push.new.self.items c.loop-k.found.items cs c.loop-k.k (omega (arith, some))
    (first ∙ ap at c.in_ok-copied.ensures) are (omega (arith, c.loop-k-test.false)) c.loop-k.invariant
