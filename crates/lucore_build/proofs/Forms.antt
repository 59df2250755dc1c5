-- The walk of each form of expression, from those of its operands.
use Rattle.std.proofs.Common.{◌≡◌, ℕ, suc, ◌+◌, ◌<◌, take, get_or, List, [], ◌∷◌, ◌++◌, Bool, Option, Some, length, refl, sym, ap, ◌∙◌, subst, arith}
use Rattle.std.specs.Prelude.{pos}
use Rattle.std.proofs.Math.Path.{fun_ext}
use Rattle.std.proofs.lemmas.List.{take_more, map-append, append-nil, length-map, length-take}
use Rattle.lutree.specs.declared.expr.Prefix.{Prefix}
use Rattle.lutree.specs.declared.expr.Prefix.TheVariants.{Data as Data1, Pre as Before}
use Rattle.lutree.specs.declared.expr.Infix.{Infix}
use Rattle.lutree.specs.declared.expr.Infix.TheVariants.{Data as Data2, Arrow as Starts, FollowedBy}
use Rattle.lutree.specs.declared.expr.Label.{Label}
use Rattle.lutree.specs.declared.expr.Pattern.{Pattern}
use Rattle.lutree.specs.declared.expr.Condition.{Condition}
use Rattle.lutree.specs.declared.program.Kind.{Kind}
use Rattle.lutree.specs.declared.program.Kind.TheVariants.{Int as Ints, Bool as Truths}
use Rattle.luflow.specs.declared.data.Datum.TheVariants.{Int, Bool as Truth, Name}
use Rattle.lustat_rules.specs.Scope.{kind_of}
use Rattle.lutree.specs.declared.expr.Expr.{Expr}
use Rattle.lutree.specs.Tree.{Tree, Trees, trees_of, NodeTree, ProgramTree, view, views}
use Rattle.lutree.specs.Tree as tree
use Rattle.luflow.specs.declared.form.Form.TheVariants.{Constant, Unary, Binary, If, Pre, Arrow, When, Current, Merge}
use Rattle.luflow.specs.declared.form.Flow.{Flow}
use Rattle.lusource.specs.Names.{clock_of}
use Rattle.lusource.specs.Source.{condition, first_pattern, next_patterns}
use Rattle.lustat_rules.specs.Typing.{agreed, agreed_all, double_kind, choice_kind, type_of, types_of}
use Rattle.lucore_laws.specs.Layout.{Root, Walking, made, place as place_in, leaf, after, clock_place, flow_of, variable_place, walk, walk_all, walk_branches}
use Rattle.lucore_laws.specs.Layout.Root.{own, at}
use Rattle.lucore_build.specs.declared.operand.Operand.{Operand}
use Rattle.lucore_build.specs.Walks.{IsWalked, flow_on, prefix_form, prefix_kind, infix_walk, infix_kind, kinds_of, pattern_at}
use Rattle.lucore_build.specs.Operands.{places_of}
use Rattle.lucore_build.proofs.Walking.{IsMade, after_is, leaf_is}

module _ (p : ProgramTree) (l : List (List Flow)) (n : NodeTree) where
  pub unary_is : (op : Prefix) (a : Tree) (k : Option Condition) (old mid : List Flow) (x : Operand) → IsMade (walk p l n a k) old mid x.place → x.kind ≡ type_of p n a →
      IsWalked (walk p l n (tree.unary op a) k) old mid (own (flow_on (clock_place n k) (prefix_kind op x.kind) (prefix_form op x.place)))
  unary_is (Data1 o) a k old mid x m e =
      let op = Data1 o in
      after_is (walk p l n a k) (λ i. leaf (flow_of p l n (tree.unary op a) k (Unary o i))) old mid mid x.place (own (flow_on (clock_place n k) (prefix_kind op x.kind) (Unary o x.place))) m
      (leaf_is (flow_of p l n (tree.unary op a) k (Unary o x.place)) (flow_on (clock_place n k) (prefix_kind op x.kind) (Unary o x.place)) mid (ap (λ q. flow_on (clock_place n k) (prefix_kind op q) (Unary o x.place)) e))
  unary_is Before a k old mid x m e =
      after_is (walk p l n a k) (λ i. leaf (flow_of p l n (tree.unary Before a) k (Pre i))) old mid mid x.place (own (flow_on (clock_place n k) x.kind (Pre x.place))) m
      (leaf_is (flow_of p l n (tree.unary Before a) k (Pre x.place)) (flow_on (clock_place n k) x.kind (Pre x.place)) mid (ap (λ q. flow_on (clock_place n k) q (Pre x.place)) e))

  both : (k : Option Condition) (a b : Tree) (rest : ℕ → ℕ → Walking) (old m1 m2 new : List Flow) (x y : ℕ) (r : Root) → IsMade (walk p l n a k) old m1 x → IsMade (walk p l n b k) m1 m2 y →
      IsWalked (rest x y) m2 new r → IsWalked (after (walk p l n a k) (λ i. after (walk p l n b k) (λ j. rest i j))) old new r
  both k a b rest old m1 m2 new x y r ma mb h =
      after_is (walk p l n a k) (λ i. after (walk p l n b k) (λ j. rest i j)) old m1 new x r ma
      (after_is (walk p l n b k) (λ j. rest x j) m1 m2 new y r mb h)

  kinds : (f : Option Kind → Option Kind → Walking) (a b c d : Option Kind) → a ≡ c → b ≡ d → f a b ≡ f c d
  kinds f a b c d e g = ap (λ q. f q b) e ∙ ap (λ q. f c q) g

  pub binary_is : (op : Infix) (a b : Tree) (k : Option Condition) (old m1 m2 new : List Flow) (x y : Operand) (r : Root) →
      IsMade (walk p l n a k) old m1 x.place → IsMade (walk p l n b k) m1 m2 y.place → x.kind ≡ type_of p n a → y.kind ≡ type_of p n b →
      IsWalked (infix_walk (clock_place n k) op x y) m2 new r → IsWalked (walk p l n (tree.binary op a b) k) old new r
  binary_is (Data2 o) a b k old m1 m2 new x y r ma mb e g h =
      let ck = clock_place n k in
      both k a b (λ i j. leaf (flow_of p l n (tree.binary (Data2 o) a b) k (Binary o i j))) old m1 m2 new x.place y.place r ma mb
      (subst (λ w. IsWalked w m2 new r) (kinds (λ s t. leaf (flow_on ck (double_kind o s t) (Binary o x.place y.place))) x.kind y.kind (type_of p n a) (type_of p n b) e g) h)
  binary_is Starts a b k old m1 m2 new x y r ma mb e g h =
      let ck = clock_place n k in
      both k a b (λ i j. leaf (flow_of p l n (tree.binary Starts a b) k (Arrow i j))) old m1 m2 new x.place y.place r ma mb
      (subst (λ w. IsWalked w m2 new r) (kinds (λ s t. leaf (flow_on ck (agreed s t) (Arrow x.place y.place))) x.kind y.kind (type_of p n a) (type_of p n b) e g) h)
  binary_is FollowedBy a b k old m1 m2 new x y r ma mb e g h =
      let ck = clock_place n k in
      both k a b (λ i j. after (leaf (flow_of p l n (tree.unary Before b) k (Pre j))) (λ z. leaf (flow_of p l n (tree.binary FollowedBy a b) k (Arrow i z)))) old m1 m2 new x.place y.place r ma mb
      (subst (λ w. IsWalked w m2 new r) (kinds (λ s t. after (leaf (flow_on ck t (Pre y.place))) (λ z. leaf (flow_on ck (agreed s t) (Arrow x.place z)))) x.kind y.kind (type_of p n a) (type_of p n b) e g) h)

  pub choice_is : (c a b : Tree) (k : Option Condition) (old m0 m1 m2 : List Flow) (z x y : Operand) →
      IsMade (walk p l n c k) old m0 z.place → IsMade (walk p l n a k) m0 m1 x.place → IsMade (walk p l n b k) m1 m2 y.place →
      z.kind ≡ type_of p n c → x.kind ≡ type_of p n a → y.kind ≡ type_of p n b →
      IsWalked (walk p l n (tree.choice c a b) k) old m2 (own (flow_on (clock_place n k) (choice_kind z.kind x.kind y.kind) (If z.place x.place y.place)))
  choice_is c a b k old m0 m1 m2 z x y mc ma mb d e g =
      let ck = clock_place n k in
      let f = λ (i j : ℕ) (h : ℕ). leaf (flow_of p l n (tree.choice c a b) k (If i j h)) in
      let root = flow_on ck (choice_kind z.kind x.kind y.kind) (If z.place x.place y.place) in
      let same : root ≡ flow_of p l n (tree.choice c a b) k (If z.place x.place y.place) =
      ap (λ q. flow_on ck (choice_kind q x.kind y.kind) (If z.place x.place y.place)) d
      ∙ ap (λ q. flow_on ck (choice_kind (type_of p n c) q y.kind) (If z.place x.place y.place)) e
      ∙ ap (λ q. flow_on ck (choice_kind (type_of p n c) (type_of p n a) q) (If z.place x.place y.place)) g in
      after_is (walk p l n c k) (λ i. after (walk p l n a k) (λ j. after (walk p l n b k) (λ h. f i j h))) old m0 m2 z.place (own root) mc
      (both k a b (λ j h. f z.place j h) m0 m1 m2 m2 x.place y.place (own root) ma mb
      (leaf_is (flow_of p l n (tree.choice c a b) k (If z.place x.place y.place)) root m2 same))

  pub when_is : (a : Tree) (c : Condition) (k : Option Condition) (old mid : List Flow) (x : Operand) →
      IsMade (walk p l n a (clock_of n c.variable)) old mid x.place → x.kind ≡ type_of p n a →
      IsWalked (walk p l n (tree.when a c) k) old mid (own (flow_on (clock_place n (Some c)) x.kind (When x.place)))
  when_is a c k old mid x m e =
      let ck = clock_place n (Some c) in
      after_is (walk p l n a (clock_of n c.variable)) (λ i. leaf (flow_of p l n (tree.when a c) (Some c) (When i))) old mid mid x.place (own (flow_on ck x.kind (When x.place))) m
      (leaf_is (flow_of p l n (tree.when a c) (Some c) (When x.place)) (flow_on ck x.kind (When x.place)) mid (ap (λ q. flow_on ck q (When x.place)) e))

  -- ARGUMENTS

  -- whatever stands behind these arguments gets their places
  pub record AreMade (all : Trees) (k : Option Condition) (old new : List Flow) (xs : List ℕ) : Type 0 where
    pub behind : (rest : List ℕ → Walking) (last : List Flow) (r : Root) → IsWalked (rest xs) new last r → IsWalked (walk_all p l n all k rest) old last r

  pub none_made : (k : Option Condition) (old : List Flow) → AreMade tree.none k old old []
  none_made k old = record { behind = λ rest last r h. h }

  more_walk : (es : List Tree) (a : Tree) (k : Option Condition) (rest : List ℕ → Walking) →
      walk_all p l n (trees_of (es ++ a ∷ [])) k rest ≡ walk_all p l n (trees_of es) k (λ xs. after (walk p l n a k) (λ x. rest (xs ++ x ∷ [])))
  more_walk [] a k rest = refl
  more_walk (e ∷ es) a k rest =
      ap (λ (f : ℕ → Walking). after (walk p l n e k) f) (fun_ext (λ i. more_walk es a k (λ xs. rest (i ∷ xs))))

  pub more_made : (es : List Tree) (a : Tree) (k : Option Condition) (old mid new : List Flow) (xs : List ℕ) (x : ℕ) →
      AreMade (trees_of es) k old mid xs → IsMade (walk p l n a k) mid new x → AreMade (trees_of (es ++ a ∷ [])) k old new (xs ++ x ∷ [])
  more_made es a k old mid new xs x before m =
      record {
        behind = λ rest last r h.
            subst (λ w. IsWalked w old last r) (sym (more_walk es a k rest))
            (before.behind (λ xs. after (walk p l n a k) (λ x. rest (xs ++ x ∷ []))) last r
            (after_is (walk p l n a k) (λ x. rest (xs ++ x ∷ [])) mid new last x r m h));
      }

  pub types_more : (es : List Tree) (a : Tree) → types_of p n (trees_of (es ++ a ∷ [])) ≡ types_of p n (trees_of es) ++ type_of p n a ∷ []
  types_more [] a = refl
  types_more (e ∷ es) a = ap (λ ts. type_of p n e ∷ ts) (types_more es a)

  pub argument_made : (args : List Expr) (i : ℕ) (a : Expr) (k : Option Condition) (old mid new : List Flow) (ops ops' : List Operand) (x : Operand) → i < length args → a ≡ get_or args i a →
      AreMade (trees_of (views (take i args))) k old mid (places_of ops) → IsMade (walk p l n (view a) k) mid new x.place → ops' ≡ ops ++ x ∷ [] →
      AreMade (trees_of (views (take (i + 1) args))) k old new (places_of ops')
  argument_made args i a k old mid new ops ops' x lt is before m e =
      let same : views (take (i + 1) args) ≡ views (take i args) ++ view a ∷ [] =
      ap views (take_more args i a lt) ∙ map-append view (take i args) (get_or args i a ∷ []) ∙ ap (λ b. views (take i args) ++ view b ∷ []) (sym is) in
      let places : places_of ops' ≡ places_of ops ++ x.place ∷ [] = ap places_of e ∙ map-append (λ (x : Operand). x.place) ops (x ∷ []) in
      subst (λ es. AreMade (trees_of es) k old new (places_of ops')) (sym same)
      (subst (λ xs. AreMade (trees_of (views (take i args) ++ view a ∷ [])) k old new xs) (sym places)
      (more_made (views (take i args)) (view a) k old mid new (places_of ops) x.place before m))

  pub argument_typed : (args : List Expr) (i : ℕ) (a : Expr) (ops ops' : List Operand) (x : Operand) → i < length args → a ≡ get_or args i a →
      kinds_of ops ≡ types_of p n (trees_of (views (take i args))) → x.kind ≡ type_of p n (view a) → ops' ≡ ops ++ x ∷ [] →
      kinds_of ops' ≡ types_of p n (trees_of (views (take (i + 1) args)))
  argument_typed args i a ops ops' x lt is before now e =
      let same : views (take (i + 1) args) ≡ views (take i args) ++ view a ∷ [] =
      ap views (take_more args i a lt) ∙ map-append view (take i args) (get_or args i a ∷ []) ∙ ap (λ b. views (take i args) ++ view b ∷ []) (sym is) in
      ap kinds_of e ∙ map-append (λ (x : Operand). x.kind) ops (x ∷ []) ∙ ap (λ ks. ks ++ x.kind ∷ []) before ∙ ap (λ q. types_of p n (trees_of (views (take i args))) ++ q ∷ []) now
      ∙ sym (types_more (views (take i args)) (view a)) ∙ ap (λ es. types_of p n (trees_of es)) (sym same)

  -- BRANCHES

  -- whatever stands behind these branches gets their places
  pub record BranchesAreMade (c : List ℕ) (ps : List Pattern) (all : Trees) (old new : List Flow) (xs : List ℕ) : Type 0 where
    pub behind : (rest : List ℕ → Walking) (last : List Flow) (r : Root) → IsWalked (rest xs) new last r → IsWalked (walk_branches p l n c ps all rest) old last r

  pub no_branches : (c : List ℕ) (ps : List Pattern) (old : List Flow) → BranchesAreMade c ps tree.none old old []
  no_branches c ps old = record { behind = λ rest last r h. h }

  first_is : (ps : List Pattern) → pattern_at ps 0 ≡ first_pattern ps
  first_is [] = refl
  first_is (p ∷ ps) = refl

  next_is : (ps : List Pattern) (i : ℕ) → pattern_at ps (suc i) ≡ pattern_at (next_patterns ps) i
  next_is [] i = refl
  next_is (p ∷ ps) i = refl

  branch_walk : (c : List ℕ) (ps : List Pattern) (es : List Tree) (a : Tree) (rest : List ℕ → Walking) →
      walk_branches p l n c ps (trees_of (es ++ a ∷ [])) rest ≡ walk_branches p l n c ps (trees_of es) (λ xs. after (walk p l n a (condition c (pattern_at ps (length es)))) (λ x. rest (xs ++ x ∷ [])))
  branch_walk c ps [] a rest = ap (λ q. after (walk p l n a (condition c q)) (λ x. rest (x ∷ []))) (sym (first_is ps))
  branch_walk c ps (e ∷ es) a rest =
      let z : suc (length es) ≡ length (e ∷ es) = omega arith in
      let q : pattern_at (next_patterns ps) (length es) ≡ pattern_at ps (length (e ∷ es)) = sym (next_is ps (length es)) ∙ ap (pattern_at ps) z in
      ap (λ (f : ℕ → Walking). after (walk p l n e (condition c (first_pattern ps))) f)
      (fun_ext (λ i. branch_walk c (next_patterns ps) es a (λ xs. rest (i ∷ xs))
      ∙ ap (λ q. walk_branches p l n c (next_patterns ps) (trees_of es) (λ xs. after (walk p l n a (condition c q)) (λ x. rest (i ∷ (xs ++ x ∷ []))))) q))

  more_branches : (c : List ℕ) (ps : List Pattern) (es : List Tree) (a : Tree) (old mid new : List Flow) (xs : List ℕ) (x : ℕ) →
      BranchesAreMade c ps (trees_of es) old mid xs → IsMade (walk p l n a (condition c (pattern_at ps (length es)))) mid new x → BranchesAreMade c ps (trees_of (es ++ a ∷ [])) old new (xs ++ x ∷ [])
  more_branches c ps es a old mid new xs x before m =
      record {
        behind = λ rest last r h.
            let w = walk p l n a (condition c (pattern_at ps (length es))) in
            subst (λ w. IsWalked w old last r) (sym (branch_walk c ps es a rest))
            (before.behind (λ xs. after w (λ x. rest (xs ++ x ∷ []))) last r
            (after_is w (λ x. rest (xs ++ x ∷ [])) mid new last x r m h));
      }

  pub branch_made : (c : List ℕ) (ps : List Pattern) (args : List Expr) (i : ℕ) (a : Expr) (old mid new : List Flow) (ops ops' : List Operand) (x : Operand) → i < length args → a ≡ get_or args i a →
      BranchesAreMade c ps (trees_of (views (take i args))) old mid (places_of ops) → IsMade (walk p l n (view a) (condition c (pattern_at ps i))) mid new x.place → ops' ≡ ops ++ x ∷ [] →
      BranchesAreMade c ps (trees_of (views (take (i + 1) args))) old new (places_of ops')
  branch_made c ps args i a old mid new ops ops' x lt is before m e =
      let same : views (take (i + 1) args) ≡ views (take i args) ++ view a ∷ [] =
      ap views (take_more args i a lt) ∙ map-append view (take i args) (get_or args i a ∷ []) ∙ ap (λ b. views (take i args) ++ view b ∷ []) (sym is) in
      let places : places_of ops' ≡ places_of ops ++ x.place ∷ [] = ap places_of e ∙ map-append (λ (x : Operand). x.place) ops (x ∷ []) in
      let long : length (views (take i args)) ≡ i = omega (arith, length-map (take i args) view, length-take i args, lt) in
      subst (λ es. BranchesAreMade c ps (trees_of es) old new (places_of ops')) (sym same)
      (subst (λ xs. BranchesAreMade c ps (trees_of (views (take i args) ++ view a ∷ [])) old new xs) (sym places)
      (more_branches c ps (views (take i args)) (view a) old mid new (places_of ops) x.place before
      (subst (λ j. IsMade (walk p l n (view a) (condition c (pattern_at ps j))) mid new x.place) (sym long) m)))

  pub merge_is : (c : List ℕ) (ps : List Pattern) (args : List Expr) (k : Option Condition) (old new : List Flow) (ops : List Operand) →
      BranchesAreMade c ps (trees_of (views args)) old new (places_of ops) → kinds_of ops ≡ types_of p n (trees_of (views args)) →
      IsWalked (walk p l n (tree.merge c ps (trees_of (views args))) k) old new (own (flow_on (clock_place n k) (agreed_all (kinds_of ops)) (Merge (variable_place p l n c) (places_of ops))))
  merge_is c ps args k old new ops made kinds =
      let e = tree.merge c ps (trees_of (views args)) in
      let form = Merge (variable_place p l n c) (places_of ops) in
      made.behind (λ xs. leaf (flow_of p l n e k (Merge (variable_place p l n c) xs))) new (own (flow_on (clock_place n k) (agreed_all (kinds_of ops)) form))
      (leaf_is (flow_of p l n e k form) (flow_on (clock_place n k) (agreed_all (kinds_of ops)) form) new (ap (λ ks. flow_on (clock_place n k) (agreed_all ks) form) kinds))

  -- an operand in memory
  pub operand_is : (a d : Expr) (k : Option Condition) (old new : List Flow) (x : ℕ) → d ≡ a → new ≡ old ++ made (walk p l n (view d) k (length old))
      → x ≡ place_in (length old) (walk p l n (view d) k (length old)) → IsMade (walk p l n (view a) k) old new x
  operand_is a d k old new x e more here = subst (λ d. IsMade (walk p l n (view d) k) old new x) e (record { flows = more; place = here })

  pub operand_typed : (a d : Expr) (x : Option Kind) → d ≡ a → x ≡ type_of p n (view d) → x ≡ type_of p n (view a)
  operand_typed a d x e h = h ∙ ap (λ d. type_of p n (view d)) e

  -- an expression in memory, by its form
  pub formed : (e t : Tree) (k : Option Condition) (old new : List Flow) (r r' : Root) → e ≡ t → r ≡ r' → IsWalked (walk p l n t k) old new r' → IsWalked (walk p l n e k) old new r
  formed e t k old new r r' same root h =
      subst (λ e. IsWalked (walk p l n e k) old new r) (sym same) (subst (λ r. IsWalked (walk p l n t k) old new r) (sym root) h)

  -- TYPES

  pub prefix_typed : (op : Prefix) (a : Tree) (x : Option Kind) → x ≡ type_of p n a → prefix_kind op x ≡ type_of p n (tree.unary op a)
  prefix_typed (Data1 o) a x e = ap (prefix_kind (Data1 o)) e
  prefix_typed Before a x e = e

  pub infix_typed : (op : Infix) (a b : Tree) (x y : Option Kind) → x ≡ type_of p n a → y ≡ type_of p n b → infix_kind op x y ≡ type_of p n (tree.binary op a b)
  infix_typed (Data2 o) a b x y e g = ap (λ q. double_kind o q y) e ∙ ap (double_kind o (type_of p n a)) g
  infix_typed Starts a b x y e g = ap (λ q. agreed q y) e ∙ ap (agreed (type_of p n a)) g
  infix_typed FollowedBy a b x y e g = ap (λ q. agreed q y) e ∙ ap (agreed (type_of p n a)) g

  pub choice_typed : (c a b : Tree) (z x y : Option Kind) → z ≡ type_of p n c → x ≡ type_of p n a → y ≡ type_of p n b → choice_kind z x y ≡ type_of p n (tree.choice c a b)
  choice_typed c a b z x y d e g =
      ap (λ q. choice_kind q x y) d ∙ ap (λ q. choice_kind (type_of p n c) q y) e ∙ ap (choice_kind (type_of p n c) (type_of p n a)) g

  -- WITHOUT OPERANDS

  pub number_is : (a : ℕ) (k : Option Condition) (old : List Flow) → IsWalked (walk p l n (tree.number a) k) old old (own (flow_on (clock_place n k) (Some Ints) (Constant (Int (pos a)))))
  number_is a k old = leaf_is (flow_of p l n (tree.number a) k (Constant (Int (pos a)))) (flow_on (clock_place n k) (Some Ints) (Constant (Int (pos a)))) old refl

  pub truth_is : (b : Bool) (k : Option Condition) (old : List Flow) → IsWalked (walk p l n (tree.truth b) k) old old (own (flow_on (clock_place n k) (Some Truths) (Constant (Truth b))))
  truth_is b k old = leaf_is (flow_of p l n (tree.truth b) k (Constant (Truth b))) (flow_on (clock_place n k) (Some Truths) (Constant (Truth b))) old refl

  pub label_is : (x : Label) (k : Option Condition) (old : List Flow) → IsWalked (walk p l n (tree.label x) k) old old (own (flow_on (clock_place n k) (Some x.kind) (Constant (Name x.number))))
  label_is x k old = leaf_is (flow_of p l n (tree.label x) k (Constant (Name x.number))) (flow_on (clock_place n k) (Some x.kind) (Constant (Name x.number))) old refl

  pub variable_is : (x : List ℕ) (k : Option Condition) (old : List Flow) → IsWalked (walk p l n (tree.variable x) k) old old (at (variable_place p l n x))
  variable_is x k old = record { flows = sym (append-nil old); root = refl }

  pub current_is : (x : List ℕ) (k : Option Condition) (old : List Flow) → IsWalked (walk p l n (tree.current x) k) old old (own (flow_on (clock_place n k) (kind_of n x) (Current (variable_place p l n x))))
  current_is x k old = leaf_is (flow_of p l n (tree.current x) k (Current (variable_place p l n x))) (flow_on (clock_place n k) (kind_of n x) (Current (variable_place p l n x))) old refl
