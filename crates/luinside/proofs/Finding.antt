-- The part of an expression among whose own flows the target is, and what its flows read.
use Rattle.std.proofs.Common.{◌≡◌, ℕ, zero, suc, ◌+◌, ◌-◌, ◌<◌, ◌≤◌, List, [], ◌∷◌, length, map, Option, Some, None, refl, ap, ◌∙◌, arith, length-append}
use Rattle.std.specs.Prelude.{slice_get, option_map, option_and_then}
use Rattle.std.proofs.lemmas.Option.{slice_get-map}
use Rattle.lutree.specs.declared.expr.Condition.{Condition}
use Rattle.lutree.specs.declared.expr.Prefix.TheVariants.{Data as Data1, Pre as Before}
use Rattle.lutree.specs.declared.expr.Infix.TheVariants.{Data as Data2, Arrow as Starts, FollowedBy}
use Rattle.lutree.specs.Tree.{Tree, NodeTree, ProgramTree}
use Rattle.lutree.specs.Tree as tree
use Rattle.luflow.specs.declared.form.Clock.{Clock}
use Rattle.luflow.specs.declared.form.Form.{Form}
use Rattle.luflow.specs.declared.form.Form.TheVariants.{Input, Constant, Copied, Unary, Binary, If, Pre, Arrow, When, Current, Merge}
use Rattle.luflow.specs.declared.form.Flow.{Flow}
use Rattle.lucore_laws.specs.Layout.{Root, Walk, root_flows, made, root_place, place, moved, moved_form, walk}
use Rattle.lucore_laws.specs.Layout.Root.{own, at}
use Rattle.lucore_laws.specs.Sizes.{root_size, made_size}
use Rattle.luinside.specs.Parts.{operands, operand_clock, calls_among, Part, part_at}
use Rattle.luinside.specs.Owns.{Among, own_size, sum_made, IsOwn}
use Rattle.lueval.specs.Reads.{one, two, form_reads, reads_at}
use Rattle.luinside.specs.Reads.{moved_by, operand_place, expression_reads}
use Rattle.luinside.proofs.Operands.{own_at, root_same}
use Rattle.luinside.proofs.Descent.{Counted, made_is, own_inside, part_inside, counted_inside, flow_inside, end_here}

-- no call
abbrev pub NoCall : Tree → Type 0
NoCall (tree.call f all) = ⊥
NoCall e = Unit {0}

module _ (p : ProgramTree) (lists : List (List Flow)) (node : NodeTree) (sizes : List ℕ) (sized : (a : Tree) (k : Option Condition) (s : ℕ) → Counted p lists node sizes a → length (made (walk p lists node a k s)) ≡ made_size p sizes a) where
  abbrev W : Tree → Option Condition → ℕ → Walk
  W = walk p lists node

  abbrev C : Tree → Type 0
  C = Counted p lists node sizes

  -- THE PART

  module _ (target : ℕ) (G : Tree → Option Condition → ℕ → ℕ → Type 0)
      (down : (e : Tree) (k : Option Condition) (i s : ℕ) → C e → (n : ℕ) (x : Among (operands e) n) → G e k i s → G x.operand (operand_clock node e k n) (i + calls_among x.front) (s + sum_made p sizes x.front)) where
    pub record Located (e : Tree) (k : Option Condition) (i s : ℕ) (rest : List ℕ) (f : Tree) (b c : ℕ) : Type 0 where
      pub part : Part
      pub is_part : part_at node (record { expression = e; clock = k; before = i }) rest ≡ Some part
      pub begins : ℕ
      pub found : f ≡ part.expression
      pub behind : b ≡ begins + sum_made p sizes (operands part.expression)
      pub before : c ≡ part.before + calls_among (operands part.expression)
      pub above : b ≤ target
      pub below : target < b + own_size p sizes part.expression
      pub counted : C part.expression
      pub good : G part.expression part.clock part.before begins
      pub same : (j : ℕ) → target ≡ s + j → slice_get (made (W e k s)) j ≡ slice_get (made (W part.expression part.clock begins)) (target - begins)

    pub located : (rest : List ℕ) (e : Tree) (k : Option Condition) (i s : ℕ) (f : Tree) (b c : ℕ) → C e → G e k i s → IsOwn p sizes target e s i rest f b c → Located e k i s rest f b c
    located [] e k i s f b c counted good h = record {
      part = record { expression = e; clock = k; before = i };
      is_part = refl;
      begins = s;
      found = h.0;
      behind = h.1;
      before = h.2;
      above = h.3;
      below = h.4;
      counted = counted;
      good = good;
      same = λ j at. let z : j ≡ target - s = omega (arith, at) in ap (slice_get (made (W e k s))) z;
    }
    located (n ∷ rest) e k i s f b c counted good (x, h) =
        let k' = operand_clock node e k n in
        let i' = i + calls_among x.front in
        let s' = s + sum_made p sizes x.front in
        let deep = located rest x.operand k' i' s' f b c (counted_inside p lists node sizes sized e k s counted n x) (down e k i s counted n x good) h in
        let inside = own_inside p sizes target rest x.operand s' i' f b c h in
        let low = inside.0 in
        let high = inside.1 in
        record {
          part = deep.part;
          is_part = part_inside node (record { expression = e; clock = k; before = i }) n x rest ∙ deep.is_part;
          begins = deep.begins;
          found = deep.found;
          behind = deep.behind;
          before = deep.before;
          above = deep.above;
          below = deep.below;
          counted = deep.counted;
          good = deep.good;
          same = λ j at.
              let r = target - s' in
              let z : j ≡ sum_made p sizes x.front + r = omega (arith, at, low) in
              let y : target ≡ s' + r = omega (arith, low) in
              let lt : r < made_size p sizes x.operand = omega (arith, low, high) in
              ap (slice_get (made (W e k s))) z ∙ flow_inside p lists node sizes sized e k s counted n x r lt ∙ deep.same r y;
        }

  -- ROOTS

  root_long : (e : Tree) (k : Option Condition) (s : ℕ) → length (root_flows (own_at p lists node e k s).root) ≡ root_size e
  root_long (tree.number n) k s = refl
  root_long (tree.truth b) k s = refl
  root_long (tree.label x) k s = refl
  root_long (tree.variable x) k s = refl
  root_long (tree.unary (Data1 op) a) k s = refl
  root_long (tree.unary Before a) k s = refl
  root_long (tree.binary (Data2 op) a b) k s = refl
  root_long (tree.binary Starts a b) k s = refl
  root_long (tree.binary FollowedBy a b) k s = refl
  root_long (tree.choice c a b) k s = refl
  root_long (tree.when a c) k s = refl
  root_long (tree.current x) k s = refl
  root_long (tree.merge c ps all) k s = refl
  root_long (tree.call f all) k s = refl

  -- all flows but the root's
  pub inner_long : (e : Tree) (k : Option Condition) (s : ℕ) → C e → length (W e k s).inner ≡ made_size p sizes e - root_size e
  inner_long e k s counted =
      let m = sized e k s counted in
      let r = ap (λ r. length (root_flows r)) (root_same p lists node e k s) ∙ root_long e k s in
      omega (arith, m, r, length-append (W e k s).inner (root_flows (W e k s).root))

  own_last : (root : Root) (n : ℕ) → length (root_flows root) ≡ 1 → root_place n root ≡ n
  own_last (own flow) n e = refl
  own_last (at a) n e = absurd (omega (arith, e))

  last_place : (e : Tree) (k : Option Condition) (s : ℕ) → C e → root_size e ≡ 1 → place s (W e k s) ≡ (s + made_size p sizes e) - 1
  last_place e k s counted one =
      let r = ap (λ r. length (root_flows r)) (root_same p lists node e k s) ∙ root_long e k s in
      let m = sized e k s counted in
      own_last (W e k s).root (s + length (W e k s).inner) (r ∙ one) ∙ omega (arith, m, r, one, length-append (W e k s).inner (root_flows (W e k s).root))

  -- an operand's place
  pub place_is : (e : Tree) (k : Option Condition) (s : ℕ) → C e → place s (W e k s) ≡ operand_place p sizes node e (s + made_size p sizes e)
  place_is (tree.number n) k s h = last_place (tree.number n) k s h refl
  place_is (tree.truth b) k s h = last_place (tree.truth b) k s h refl
  place_is (tree.label x) k s h = last_place (tree.label x) k s h refl
  place_is (tree.variable x) k s h = refl
  place_is (tree.unary op a) k s h = last_place (tree.unary op a) k s h refl
  place_is (tree.binary op a b) k s h = last_place (tree.binary op a b) k s h refl
  place_is (tree.choice c a b) k s h = last_place (tree.choice c a b) k s h refl
  place_is (tree.when a c) k s h = last_place (tree.when a c) k s h refl
  place_is (tree.current x) k s h = last_place (tree.current x) k s h refl
  place_is (tree.merge c ps all) k s h = last_place (tree.merge c ps all) k s h refl
  place_is (tree.call f all) k s h =
      let e = tree.call f all in
      let root = ap (root_place (s + length (W e k s).inner)) (root_same p lists node e k s) in
      let end = end_here p lists node sizes sized e k s h in
      let m = made_is p sizes e in
      root ∙ omega (arith, end, m)

  -- READS

  -- what a list reads where it is moved
  form_moved : (b : ℕ) (xs : List ℕ) (form : Form) → form_reads (moved_form b xs form) ≡ option_map (moved_by b) (form_reads form)
  form_moved b xs (Input r) = refl
  form_moved b xs (Constant d) = refl
  form_moved b xs (Copied x) = refl
  form_moved b xs (Unary op x) = refl
  form_moved b xs (Binary op x y) = refl
  form_moved b xs (If c x y) = refl
  form_moved b xs (Pre x) = refl
  form_moved b xs (Arrow x y) = refl
  form_moved b xs (When x) = refl
  form_moved b xs (Current x) = refl
  form_moved b xs (Merge c ys) = refl

  pub moved_reads : (b : ℕ) (k : Clock) (xs : List ℕ) (flows : List Flow) (j : ℕ) → reads_at (map (moved b k xs) flows) j ≡ option_map (moved_by b) (reads_at flows j)
  moved_reads b k xs flows j = ap (option_and_then (λ (f : Flow). form_reads f.form)) (slice_get-map (moved b k xs) flows j) ∙ go (slice_get flows j)
    where
      go : (o : Option Flow) → option_and_then (λ (f : Flow). form_reads f.form) (option_map (moved b k xs) o) ≡ option_map (moved_by b) (option_and_then (λ (f : Flow). form_reads f.form) o)
      go None = refl
      go (Some f) = form_moved b xs f.form

  -- what the own flows of an expression read, of which the operands end before b
  pub own_reads : (e : Tree) (k : Option Condition) (s j b : ℕ) → C e → NoCall e → j < own_size p sizes e → b ≡ s + sum_made p sizes (operands e) → reads_at (made (own_at p lists node e k s)) j ≡ expression_reads p sizes node e b
  own_reads (tree.number n) k s zero b h quiet lt is = refl
  own_reads (tree.truth v) k s zero b h quiet lt is = refl
  own_reads (tree.label x) k s zero b h quiet lt is = refl
  own_reads (tree.unary (Data1 op) a) k s zero b h quiet lt is =
      let z : s + made_size p sizes a ≡ b = omega (arith, is) in
      ap (λ n. Some (one n)) (place_is a k s h ∙ ap (operand_place p sizes node a) z)
  own_reads (tree.unary Before a) k s zero b h quiet lt is = refl
  own_reads (tree.binary (Data2 op) x y) k s zero b h quiet lt is =
      let e = tree.binary (Data2 op) x y in
      let hx = counted_inside p lists node sizes sized e k s h 0 (record { front = []; operand = x; back = y ∷ []; are = refl; number = refl }) in
      let hy = counted_inside p lists node sizes sized e k s h 1 (record { front = x ∷ []; operand = y; back = []; are = refl; number = refl }) in
      let S = s + length (made (W x k s)) in
      let m = sized x k s hx in
      let zx : s + made_size p sizes x ≡ b - made_size p sizes y = omega (arith, is) in
      let zy : S + made_size p sizes y ≡ b = omega (arith, is, m) in
      ap (λ n. Some (two n (place S (W y k S)))) (place_is x k s hx ∙ ap (operand_place p sizes node x) zx)
      ∙ ap (λ n. Some (two (operand_place p sizes node x (b - made_size p sizes y)) n)) (place_is y k S hy ∙ ap (operand_place p sizes node y) zy)
  own_reads (tree.binary Starts x y) k s zero b h quiet lt is = refl
  own_reads (tree.binary FollowedBy x y) k s zero b h quiet lt is = refl
  own_reads (tree.binary FollowedBy x y) k s (suc zero) b h quiet lt is = refl
  own_reads (tree.choice c x y) k s zero b h quiet lt is = refl
  own_reads (tree.when a c) k s zero b h quiet lt is = refl
  own_reads (tree.current x) k s zero b h quiet lt is = refl
  own_reads (tree.merge c ps all) k s zero b h quiet lt is = refl
  own_reads (tree.call f all) k s j b h quiet lt is = absurd quiet
  own_reads (tree.number n) k s (suc j) b h quiet lt is = absurd (omega (arith, lt))
  own_reads (tree.truth v) k s (suc j) b h quiet lt is = absurd (omega (arith, lt))
  own_reads (tree.label x) k s (suc j) b h quiet lt is = absurd (omega (arith, lt))
  own_reads (tree.variable x) k s j b h quiet lt is = absurd (omega (arith, lt))
  own_reads (tree.unary op a) k s (suc j) b h quiet lt is = absurd (omega (arith, lt))
  own_reads (tree.binary (Data2 op) x y) k s (suc j) b h quiet lt is = absurd (omega (arith, lt))
  own_reads (tree.binary Starts x y) k s (suc j) b h quiet lt is = absurd (omega (arith, lt))
  own_reads (tree.binary FollowedBy x y) k s (suc (suc j)) b h quiet lt is = absurd (omega (arith, lt))
  own_reads (tree.choice c x y) k s (suc j) b h quiet lt is = absurd (omega (arith, lt))
  own_reads (tree.when a c) k s (suc j) b h quiet lt is = absurd (omega (arith, lt))
  own_reads (tree.current x) k s (suc j) b h quiet lt is = absurd (omega (arith, lt))
  own_reads (tree.merge c ps all) k s (suc j) b h quiet lt is = absurd (omega (arith, lt))
