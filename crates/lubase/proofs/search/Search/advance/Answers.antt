use Rattle.std.proofs.Common.{◌≡◌, ◌<◌, ◌≤◌, ◌++◌, [], ◌∷◌, ℕ, true, false, length, get_or, set, sym, ◌∙◌, ap, subst, arith}
use Rattle.lubase.specs.Graph.{row_of, PointsTo}
use Rattle.lubase.specs.Search.{Has, Lacks, IsPassed, IsSearch}
use Rattle.lubase.proofs.Pushed.{each_last}
use Rattle.lubase.proofs.Marks.{fewer_lack}
use Rattle.lubase.proofs.Stepping.{points_to, read_mark, through_row, visit_of, IsThrough, resumed, entered_next, reach_next, closed, placed_last}
use Rattle.lubase.proofs.search.Search.advance.Goals as goal

pub returns-then-index-clause-cycle : goal.returns-then-index-clause-cycle
returns-then-index-clause-cycle c =
    let g = c.args.graph.now in
    let row = c.row_at-row.result.now in
    let entered = c.args.self.now.entered.items in
    let placed = c.args.self.now.placed.items in
    let next : ℕ = get_or row c.in-Some.edge 0 in
    let low : next < length placed = subst (λ xs. next < length xs) c.deref.ensures.value c.in-Some.ensures.vertex in
    let inside : next < length g = omega (arith, low, c.requires.placed_long) in
    let edge : PointsTo g c.args.visit.vertex next = points_to g c.args.visit.vertex row c.in-Some.edge c.row_at-row.ensures c.in-Some.ensures.within inside in
    let lacks : Lacks placed next = subst (λ xs. Lacks xs next) c.deref.ensures.value c.in-Some.ensures.waiting in
    let has : Has entered next = read_mark entered next c.index.result.now true (omega (arith, inside, c.requires.entered_long)) c.index.ensures c.if-index.true in
    closed g entered placed c.args.self.now.path.items c.args.self.now.order.items c.args.visit next c.requires edge has lacks

pub index_mut-requires-in_default : goal.index_mut-requires-in_default
index_mut-requires-in_default c =
    let within : c.args.visit.vertex < length c.args.graph.now = each_last (λ z. z.vertex < length c.args.graph.now) c.args.self.now.path.items c.args.visit c.requires.way.inside in
    omega (arith, within, c.requires.placed_long)

pub returns-in_ok-push-2-clause-sound : goal.returns-in_ok-push-2-clause-sound
returns-in_ok-push-2-clause-sound c =
    let g = c.args.graph.now in
    let row = c.row_at-row.result.now in
    let entered = c.args.self.now.entered.items in
    let placed = c.args.self.now.placed.items in
    let path = c.args.self.now.path.items in
    let order = c.args.self.now.order.items in
    let x = c.args.visit in
    let k : ℕ = c.in-Some.edge in
    let next : ℕ = get_or row k 0 in
    let low : next < length placed = subst (λ xs. next < length xs) c.deref.ensures.value c.in-Some.ensures.vertex in
    let inside : next < length g = omega (arith, low, c.requires.placed_long) in
    let edge : PointsTo g x.vertex next = points_to g x.vertex row k c.row_at-row.ensures c.in-Some.ensures.within inside in
    let lacks : Lacks entered next = read_mark entered next c.index.result.now false (omega (arith, inside, c.requires.entered_long)) c.index.ensures c.if-index.false in
    let passed : (j : ℕ) → x.next ≤ j → j < k → IsPassed placed row j = subst (λ xs. (j : ℕ) → x.next ≤ j → j < k → IsPassed xs row j) c.deref.ensures.value c.in-Some.ensures.passed in
    let through : IsThrough g placed (visit_of x.vertex k) = through_row g placed x row k k c.row_at-row.ensures (each_last (IsThrough g placed) path x c.requires.way.passed) passed (omega arith) in
    let again = resumed g entered placed path order x k c.requires through in
    let reach = reach_next g entered placed path order x next c.requires edge k in
    let done = entered_next g entered placed (path ++ visit_of x.vertex k ∷ []) order next again inside lacks reach in
    let e : c.push-in-Some.new.self.items ≡ path ++ visit_of x.vertex k ∷ [] ++ visit_of next 0 ∷ [] = c.in_ok-push-2.ensures.items ∙ ap (λ xs. xs ++ visit_of next 0 ∷ []) c.in_ok-push.ensures.items in
    subst (λ xs. IsSearch g (set entered next true) placed xs order) (sym e) done

pub returns-in_ok-push-3-clause-sound : goal.returns-in_ok-push-3-clause-sound
returns-in_ok-push-3-clause-sound c =
    let g = c.args.graph.now in
    let row = c.row_at-row.result.now in
    let entered = c.args.self.now.entered.items in
    let placed = c.args.self.now.placed.items in
    let path = c.args.self.now.path.items in
    let order = c.args.self.now.order.items in
    let x = c.args.visit in
    let after : (j : ℕ) → x.next ≤ j → j < length row → IsPassed placed row j = subst (λ xs. (j : ℕ) → x.next ≤ j → j < length row → IsPassed xs row j) c.deref.ensures.value c.in_default.ensures.none in
    let through : IsThrough g placed (visit_of x.vertex (length row)) = through_row g placed x row (length row) (length row) c.row_at-row.ensures (each_last (IsThrough g placed) path x c.requires.way.passed) after (omega arith) in
    let passed : (j : ℕ) → j < length (row_of g x.vertex) → IsPassed placed (row_of g x.vertex) j = λ j lt. through j (omega (arith, lt, ap length c.row_at-row.ensures)) lt in
    let done = placed_last g entered placed path order x c.requires passed in
    subst (IsSearch g entered (set placed x.vertex true) path) (sym c.in_ok-push-3.ensures.items) done

pub returns-in_ok-push-3-clause-less : goal.returns-in_ok-push-3-clause-less
returns-in_ok-push-3-clause-less c =
    let placed = c.args.self.now.placed.items in
    let x = c.args.visit in
    let path = c.args.self.now.path.items in
    let within : x.vertex < length c.args.graph.now = each_last (λ z. z.vertex < length c.args.graph.now) path x c.requires.way.inside in
    let low : x.vertex < length placed = omega (arith, within, c.requires.placed_long) in
    let lacks : Lacks placed x.vertex = each_last (λ z. Lacks placed z.vertex) path x c.requires.way.unplaced in
    omega (arith, fewer_lack placed x.vertex low lacks)
