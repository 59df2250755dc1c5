use Rattle.std.proofs.Common.{◌≡◌, ◌<◌, ◌++◌, [], ◌∷◌, Bool, List, All, Contains, vec_len, length, sym, ◌∙◌, ap, subst, arith}
use Rattle.std.proofs.lemmas.List.Elements.{Contains-push}
use Rattle.lubase.specs.Graph.{row_of}
use Rattle.lubase.proofs.Marks.{has_inside}
use Rattle.lubase.specs.ReachStates.{IsEntered, IsSearching}
use Rattle.lubase.proofs.Reaching.{begun, gone_on, row_within, done, popped_empty}
use Rattle.lubase.proofs.reach.reached.Goals as goal

pub loop-v-init : goal.loop-v-init
loop-v-init c =
    let rows = c.in_ok-rows.rows.items in
    let marks : List Bool = c.in_ok-marks.marks.items in
    let long : length marks ≡ length rows = c.in_ok-marks.ensures.long ∙ sym c.in_ok-rows.ensures.long in
    let none = c.in_ok-marks.ensures.none in
    let e : IsEntered c.args.starts.now marks c.enter.new.marks.items [] c.enter.new.stack.items =
    subst (λ xs. IsEntered c.args.starts.now marks c.enter.new.marks.items xs c.enter.new.stack.items) c.in_ok-stack.ensures.items c.in_ok-enter.ensures in
    begun c.args.starts.now c.args.links.now rows c.in_ok-rows.ensures.linked marks c.enter.new.marks.items c.enter.new.stack.items long none e

pub row_at-requires : goal.row_at-requires
row_at-requires c =
    let v = c.in-Some.v in
    let on_stack : Contains c.loop-v.stack.items v = subst (λ xs. Contains xs v) (sym c.in-Some.ensures.items) (Contains-push c.pop.new.self.items v) in
    let inside : v < length c.loop-v.marks.items = has_inside c.loop-v.marks.items v (c.loop-v.invariant.marked v on_stack) in
    omega (arith, inside, c.loop-v.invariant.long, ap length c.deref.ensures.value)

pub enter-requires-in-Some : goal.enter-requires-in-Some
enter-requires-in-Some c =
    let rows = c.in_ok-rows.rows.items in
    let marks = c.loop-v.marks.items in
    let row : c.row_at.result.now ≡ row_of rows c.in-Some.v = c.row_at.ensures ∙ ap (λ g. row_of g c.in-Some.v) c.deref.ensures.value in
    let same : c.args.size ≡ length marks = sym c.in_ok-rows.ensures.long ∙ sym c.loop-v.invariant.long in
    let within = row_within c.args.starts.now c.args.links.now rows c.in_ok-rows.ensures.linked c.args.size c.in-Some.v c.requires.links in
    subst (λ xs. All (λ u. u < length marks) xs) (sym row) (subst (λ n. All (λ u. u < n) (row_of rows c.in-Some.v)) same within)

pub loop-v-preserved : goal.loop-v-preserved
loop-v-preserved c =
    let rows = c.in_ok-rows.rows.items in
    let v = c.in-Some.v in
    let stack = c.pop.new.self.items in
    let after = c.enter-in-Some.new.stack.items in
    let marks = c.loop-v.marks.items in
    let new = c.enter-in-Some.new.marks.items in
    let row : c.row_at.result.now ≡ row_of rows v = c.row_at.ensures ∙ ap (λ g. row_of g v) c.deref.ensures.value in
    let s : IsSearching c.args.starts.now c.args.links.now rows marks (stack ++ v ∷ []) =
    subst (IsSearching c.args.starts.now c.args.links.now rows marks) c.in-Some.ensures.items c.loop-v.invariant in
    let e : IsEntered (row_of rows v) marks new stack after = subst (λ xs. IsEntered xs marks new stack after) row c.in_ok-enter-2.ensures in
    gone_on c.args.starts.now c.args.links.now rows c.in_ok-rows.ensures.linked v stack after marks new s e

pub returns-clause-exact : goal.returns-clause-exact
returns-clause-exact c =
    let s = c.loop-v.invariant in
    let rows = c.in_ok-rows.rows.items in
    let empty : c.loop-v.stack.items ≡ [] = popped_empty c.loop-v.stack.items c.pop.new.self.items (vec_len c.loop-v.stack) c.in_default.ensures.cases.0 c.in_default.ensures.items c.in_default.ensures.rest in
    λ v. (s.sound v, done c.args.starts.now c.args.links.now rows c.in_ok-rows.ensures.linked c.loop-v.marks.items (subst (IsSearching c.args.starts.now c.args.links.now rows c.loop-v.marks.items) empty s) v)
