use Rattle.std.proofs.Common.{◌≡◌, ◌<◌, ◌++◌, [], ◌∷◌, ℕ, true, length, get_or, set, sym, ◌∙◌, ap, subst, arith, Contains}
use Rattle.std.specs.Prelude.{unwrap_or, IfSome}
use Rattle.std.specs.Bool.{OnTrue, OnFalse}
use Rattle.lubase.specs.Graph.{row_of, PointsTo}
use Rattle.lubase.specs.Search.{Lacks}
use Rattle.lubase.specs.Grouped.{IsLeft, IsFlagged, IsGrouping}
use Rattle.lubase.proofs.Pushed.{each_last}
use Rattle.lubase.proofs.Stepping.{points_to}
use Rattle.lubase.proofs.Grouping.{at, frame_of, bounds_below, pushed, dropped}
use Rattle.lubase.proofs.Going.{gone_on, at_frame, reach_all, same_parts}
use Rattle.lubase.proofs.Leaving.{group_left}
use Rattle.lubase.proofs.groups.Groups.advance.Goals as goal

pub drop_bound-requires-clause-below : goal.drop_bound-requires-clause-below
drop_bound-requires-clause-below c =
    let g = c.args.graph.now in
    let me = c.args.self.now in
    let entered = me.entered.items in
    let left = me.left.items in
    let looped = me.looped.items in
    let places = me.places.items in
    let stack = me.stack.items in
    let bounds = me.bounds.items in
    let frames = me.frames.items in
    let f = c.args.frame in
    let cut = c.cut.new.bounds.items in
    let row = c.row_at-row.result.now in
    let found = c.look_along-found.result in
    let whole : ℕ = unwrap_or found.edge (length row) in
    let u = c.index.result.now in
    let vertex : u ≡ at stack f.place = at_frame g entered left looped places stack bounds frames f u c.requires c.index.ensures in
    let its_row : row ≡ row_of g (at stack f.place) = c.row_at-row.ensures ∙ ap (row_of g) vertex in
    let on : IsGrouping g entered left looped places stack cut (frames ++ frame_of f.place whole ∷ []) =
    gone_on g entered left looped places stack bounds frames f cut found.low whole c.requires c.in_ok-cut.ensures.rising c.in_ok-cut.ensures.fewer c.in_ok-cut.ensures.below
    c.in_ok-cut.ensures.kept c.look_along-found.ensures.least row c.deref.result.now c.deref-2.result.now c.deref-3.result.now its_row c.deref.ensures.value c.deref-2.ensures.value
    c.deref-3.ensures.value c.look_along-found.ensures.low c.look_along-found.ensures.looked in
    bounds_below g entered left looped places stack cut frames (frame_of f.place whole) on.framed

pub mark_group-requires-clause-from : goal.mark_group-requires-clause-from
mark_group-requires-clause-from c =
    let me = c.args.self.now in
    let inside : c.args.frame.place < length me.stack.items = each_last (λ x. x.place < length me.stack.items) me.frames.items c.args.frame c.requires.framed.inside in
    subst (λ xs. c.args.frame.place < length xs) (sym c.deref-then-branch.ensures.value) inside

pub returns-in_ok-enter-clause-sound : goal.returns-in_ok-enter-clause-sound
returns-in_ok-enter-clause-sound c =
    let g = c.args.graph.now in
    let me = c.args.self.now in
    let entered = me.entered.items in
    let left = me.left.items in
    let looped = me.looped.items in
    let places = me.places.items in
    let stack = me.stack.items in
    let bounds = me.bounds.items in
    let frames = me.frames.items in
    let f = c.args.frame in
    let cut = c.cut.new.bounds.items in
    let row = c.row_at-row.result.now in
    let found = c.look_along-found.result in
    let whole : ℕ = unwrap_or found.edge (length row) in
    let u = c.index.result.now in
    let vertex : u ≡ at stack f.place = at_frame g entered left looped places stack bounds frames f u c.requires c.index.ensures in
    let its_row : row ≡ row_of g (at stack f.place) = c.row_at-row.ensures ∙ ap (row_of g) vertex in
    let on : IsGrouping g entered left looped places stack cut (frames ++ frame_of f.place whole ∷ []) =
    gone_on g entered left looped places stack bounds frames f cut found.low whole c.requires c.in_ok-cut.ensures.rising c.in_ok-cut.ensures.fewer c.in_ok-cut.ensures.below
    c.in_ok-cut.ensures.kept c.look_along-found.ensures.least row c.deref.result.now c.deref-2.result.now c.deref-3.result.now its_row c.deref.ensures.value c.deref-2.ensures.value
    c.deref-3.ensures.value c.look_along-found.ensures.low c.look_along-found.ensures.looked in
    let k = c.in-Some.edge in
    let v : ℕ = get_or row k 0 in
    let to_edge : whole ≡ k = ap (λ o. unwrap_or o (length row)) c.in-Some.is in
    let here : IsGrouping g entered left looped places stack cut (frames ++ frame_of f.place k ∷ []) =
    subst (λ n. IsGrouping g entered left looped places stack cut (frames ++ frame_of f.place n ∷ [])) to_edge on in
    let within : k < length row = subst (λ o. IfSome o (λ j. j < length row)) c.in-Some.is c.look_along-found.ensures.within in
    let inside : v < length c.deref.result.now = subst (λ o. IfSome o (λ j. get_or row j 0 < length c.deref.result.now)) c.in-Some.is c.look_along-found.ensures.vertex in
    let is_fresh : Lacks c.deref.result.now v = subst (λ o. IfSome o (λ j. Lacks c.deref.result.now (get_or row j 0))) c.in-Some.is c.look_along-found.ensures.fresh in
    let low : v < length g = omega (arith, inside, ap length c.deref.ensures.value, c.requires.marking.entered_long) in
    let fresh : Lacks entered v = subst (λ xs. Lacks xs v) c.deref.ensures.value is_fresh in
    let edge : PointsTo g (at stack f.place) v = points_to g (at stack f.place) row k its_row within low in
    let done = pushed g entered left looped places stack cut (frames ++ frame_of f.place k ∷ []) v here low fresh
    (reach_all g entered left looped places stack cut frames (frame_of f.place k) v here edge) in
    let e = c.in_ok-enter.ensures in
    same_parts g (set entered v true) c.enter.new.self.entered.items left c.enter.new.self.left.items looped c.enter.new.self.looped.items
    (set places v (length stack)) c.enter.new.self.places.items (stack ++ v ∷ []) c.enter.new.self.stack.items (cut ++ length stack ∷ []) c.enter.new.self.bounds.items
    (frames ++ frame_of f.place k ∷ [] ++ frame_of (length stack) 0 ∷ []) c.enter.new.self.frames.items
    e.entered e.left e.looped e.places e.stack e.bounds (e.frames ∙ ap (λ xs. xs ++ frame_of (length stack) 0 ∷ []) c.in_ok-push.ensures.items) done

pub returns-then-branch-clause-sound : goal.returns-then-branch-clause-sound
returns-then-branch-clause-sound c =
    let g = c.args.graph.now in
    let me = c.args.self.now in
    let entered = me.entered.items in
    let left = me.left.items in
    let looped = me.looped.items in
    let places = me.places.items in
    let stack = me.stack.items in
    let bounds = me.bounds.items in
    let frames = me.frames.items in
    let f = c.args.frame in
    let cut = c.cut.new.bounds.items in
    let row = c.row_at-row.result.now in
    let found = c.look_along-found.result in
    let whole : ℕ = unwrap_or found.edge (length row) in
    let u = c.index.result.now in
    let vertex : u ≡ at stack f.place = at_frame g entered left looped places stack bounds frames f u c.requires c.index.ensures in
    let its_row : row ≡ row_of g (at stack f.place) = c.row_at-row.ensures ∙ ap (row_of g) vertex in
    let on : IsGrouping g entered left looped places stack cut (frames ++ frame_of f.place whole ∷ []) =
    gone_on g entered left looped places stack bounds frames f cut found.low whole c.requires c.in_ok-cut.ensures.rising c.in_ok-cut.ensures.fewer c.in_ok-cut.ensures.below
    c.in_ok-cut.ensures.kept c.look_along-found.ensures.least row c.deref.result.now c.deref-2.result.now c.deref-3.result.now its_row c.deref.ensures.value c.deref-2.ensures.value
    c.deref-3.ensures.value c.look_along-found.ensures.low c.look_along-found.ensures.looked in
    let h = frame_of f.place whole in
    let all : whole ≡ length (row_of g (at stack f.place)) = ap (λ o. unwrap_or o (length row)) c.in_default.is ∙ ap length its_row in
    let parted : cut ≡ c.drop_bound.new.bounds.items ++ f.place ∷ [] = subst (λ t. OnTrue t (cut ≡ c.drop_bound.new.bounds.items ++ f.place ∷ [])) c.if-branch.true c.in_ok-drop_bound.ensures.dropped in
    let there = subst (λ xs. IsGrouping g entered left looped places stack xs (frames ++ h ∷ [])) parted on in
    let same : c.deref-then-branch.result.now ≡ stack = c.deref-then-branch.ensures.value in
    let gone = subst (λ xs. IsLeft left c.mark_group.new.left.items xs f.place (length xs)) same c.mark_group.ensures.left in
    let flagged = subst (λ xs. IsFlagged g looped c.mark_group.new.looped.items xs f.place (length xs)) same c.mark_group.ensures.looped in
    let done = group_left g entered left looped c.mark_group.new.left.items c.mark_group.new.looped.items places stack c.drop_bound.new.bounds.items frames h there all gone flagged in
    subst (λ xs. IsGrouping g entered c.mark_group.new.left.items c.mark_group.new.looped.items places xs c.drop_bound.new.bounds.items frames) (sym c.truncate.ensures.items) done

pub returns-else-branch-clause-sound : goal.returns-else-branch-clause-sound
returns-else-branch-clause-sound c =
    let g = c.args.graph.now in
    let me = c.args.self.now in
    let entered = me.entered.items in
    let left = me.left.items in
    let looped = me.looped.items in
    let places = me.places.items in
    let stack = me.stack.items in
    let bounds = me.bounds.items in
    let frames = me.frames.items in
    let f = c.args.frame in
    let cut = c.cut.new.bounds.items in
    let row = c.row_at-row.result.now in
    let found = c.look_along-found.result in
    let whole : ℕ = unwrap_or found.edge (length row) in
    let u = c.index.result.now in
    let vertex : u ≡ at stack f.place = at_frame g entered left looped places stack bounds frames f u c.requires c.index.ensures in
    let its_row : row ≡ row_of g (at stack f.place) = c.row_at-row.ensures ∙ ap (row_of g) vertex in
    let on : IsGrouping g entered left looped places stack cut (frames ++ frame_of f.place whole ∷ []) =
    gone_on g entered left looped places stack bounds frames f cut found.low whole c.requires c.in_ok-cut.ensures.rising c.in_ok-cut.ensures.fewer c.in_ok-cut.ensures.below
    c.in_ok-cut.ensures.kept c.look_along-found.ensures.least row c.deref.result.now c.deref-2.result.now c.deref-3.result.now its_row c.deref.ensures.value c.deref-2.ensures.value
    c.deref-3.ensures.value c.look_along-found.ensures.low c.look_along-found.ensures.looked in
    let h = frame_of f.place whole in
    let all : whole ≡ length (row_of g (at stack f.place)) = ap (λ o. unwrap_or o (length row)) c.in_default.is ∙ ap length its_row in
    let same : c.drop_bound.new.bounds.items ≡ cut = subst (λ t. OnFalse t (c.drop_bound.new.bounds.items ≡ cut)) c.if-branch.false c.in_ok-drop_bound.ensures.same in
    let none : ¬ Contains cut f.place = subst (λ t. OnFalse t (¬ Contains cut f.place)) c.if-branch.false c.in_ok-drop_bound.ensures.none in
    subst (λ xs. IsGrouping g entered left looped places stack xs frames) (sym same) (dropped g entered left looped places stack cut frames h on all none)
