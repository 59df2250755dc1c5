-- Reading of programs looks at no token after the one that it refuses, so no text goes on with that token.
use Rattle.std.proofs.Common.{◌≡◌, ◌≤◌, ◌+◌, ℕ, suc, Bool, ◌||◌, List, [], ◌∷◌, ◌++◌, map, length, Option, Some, None, Result, Ok, Err, refl, ap, sym, ◌∙◌, arith}
use Rattle.std.proofs.lemmas.List.{length-append}
use Rattle.lutree.specs.declared.expr.Condition.{Condition}
use Rattle.lutree.specs.Tree.{Tree, trees_of, TypeTree, DeclarationTree, EquationTree, NodeTree, ProgramTree}
use Rattle.lutree.specs.Tree as t
use Rattle.lusyn_grammar.specs.declared.token.Fixed.TheVariants as f
use Rattle.lusyn_grammar.specs.Tokens.{Tok, identifier, number, fixed}
use Rattle.lusyn_grammar.specs.Grammar.{WrittenType, int, bool, named, declared, Spells}
use Rattle.lusyn_grammar.specs.Reading.{Read, ◌>>=◌, after, begins, begins_name, past, past_by, name, condition, many, expr, operands, further_name, names, kind, clock_by, clocked, declaration, further_declaration, declarations, inputs, ended, ended_declaration, locals_by, locals, single, call, tuple_names, tuple, equation_by, equation, ended_equation, begins_equation, equations, heading, body, node, further_node, nodes, type_declaration, types, program, to_the_end, all_of}
use Rattle.lusyn_grammar.proofs.Local.{left_of, Same, read, refused, beyond, Local, Strict, local_of, local_less, strict_along, local_ok, local_bind, strict_bind, Step, takes, refuses, strict_step, strict_after, local_after, local_case, strict_case, local_if, local_many}
use Rattle.lusyn_grammar.proofs.LocalExpressions.{first_begins, strict_name, local_name, local_condition, local_operands, local_expr}
use Rattle.lusyn_grammar.proofs.CompletePrograms.{program-again}

ended-bind : {A : Type 0} (r : Read A) → ended r ≡ (r >>= λ y. after f.Semicolon y.1 >>= λ us. Ok (y.0, us))
ended-bind (Ok y) = refl
ended-bind (Err ts) = refl

first_name : (y : Tok) (ts vs : List Tok) → begins_name (y ∷ ts) ≡ begins_name (y ∷ vs)
first_name (identifier v) ts vs = refl
first_name (number n) ts vs = refl
first_name (fixed g) ts vs = refl

first_equation : (y : Tok) (ts vs : List Tok) → begins_equation (y ∷ ts) ≡ begins_equation (y ∷ vs)
first_equation y ts vs = ap (λ (b : Bool). b || begins f.Open (y ∷ ts)) (first_name y ts vs) ∙ ap (λ (b : Bool). begins_name (y ∷ vs) || b) (first_begins f.Open y ts vs)

module _ (x : Tok) (rest us : List Tok) where
  local_kind : (k : ℕ) → Local x rest us k kind kind
  local_kind k = local_less x rest us (suc k) k (omega arith) (local_of x rest us (suc k) (strict_step x rest us k kind kind refl by_head))
    where
      by_head : (y : Tok) → Step x rest us k kind kind y
      by_head (identifier v) = takes (λ ts. Ok (named v, ts)) (λ ts. Ok (named v, ts)) (local_ok x rest us k (named v)) (λ ts. refl) (λ ts. refl)
      by_head (number n) = refuses (λ ts. refl) (λ ts. refl)
      by_head (fixed f.Int) = takes (λ ts. Ok (int, ts)) (λ ts. Ok (int, ts)) (local_ok x rest us k int) (λ ts. refl) (λ ts. refl)
      by_head (fixed f.Bool) = takes (λ ts. Ok (bool, ts)) (λ ts. Ok (bool, ts)) (local_ok x rest us k bool) (λ ts. refl) (λ ts. refl)
      by_head (fixed _) = refuses (λ ts. refl) (λ ts. refl)

  local_clocked : (k : ℕ) → Local x rest us k clocked clocked
  local_clocked k =
      let on : List Tok → Read (Option Condition) = λ ts. condition ts >>= λ y. Ok (Some y.0, y.1) in
      local_case x rest us k f.When clock_by clock_by on (λ ts. Ok (None, ts)) on (λ ts. Ok (None, ts)) (λ ts vs. refl) (λ ts vs. refl) (λ ts vs. refl) (λ ts vs. refl)
      (local_bind x rest us k condition condition (λ c ts. Ok (Some c, ts)) (λ c ts. Ok (Some c, ts)) (local_condition x rest us k) (λ c. local_ok x rest us k (Some c))) (local_ok x rest us k None)

  strict_ended : {A : Type 0} (k : ℕ) (p o : List Tok → Read A) → Strict x rest us (suc k) p o → Strict x rest us (suc k) (λ ts. ended (p ts)) (λ ts. ended (o ts))
  strict_ended {A = A} k p o l =
      let c : A → List Tok → Read A = λ v ts. after f.Semicolon ts >>= λ vs. Ok (v, vs) in
      strict_along x rest us (suc k) (λ ts. ended (p ts)) (λ ts. ended (o ts)) (λ ts. p ts >>= λ y. c y.0 y.1) (λ ts. o ts >>= λ y. c y.0 y.1) (λ ts. ended-bind (p ts)) (λ ts. ended-bind (o ts))
      (strict_bind x rest us k p o c c l (λ v. local_after x rest us k f.Semicolon (λ vs. Ok (v, vs)) (λ vs. Ok (v, vs)) (local_ok x rest us k v)))

  strict_further_name : (k : ℕ) (found : List (List ℕ)) → Strict x rest us (suc k) (further_name found) (further_name found)
  strict_further_name k found =
      let one : List Tok → Read (List (List ℕ)) = λ ts. name ts >>= λ y. Ok (found ++ y.0 ∷ [], y.1) in
      strict_after x rest us k f.Comma one one
      (local_bind x rest us k name name (λ v ts. Ok (found ++ v ∷ [], ts)) (λ v ts. Ok (found ++ v ∷ [], ts)) (local_name x rest us k) (λ v. local_ok x rest us k (found ++ v ∷ [])))

  -- after something, past a semicolon
  local_past : {A : Type 0} (k : ℕ) (v : A) → Local x rest us k (λ ts. Ok (v, past f.Semicolon ts)) (λ ts. Ok (v, past f.Semicolon ts))
  local_past {A = A} k v =
      let h : List Tok → Result (List Tok) (List Tok) → Read A = λ ts r. Ok (v, past_by ts r) in
      local_case x rest us k f.Semicolon h h (λ ts. Ok (v, ts)) (λ ts. Ok (v, ts)) (λ ts. Ok (v, ts)) (λ ts. Ok (v, ts)) (λ ts vs. refl) (λ ts vs. refl) (λ ts vs. refl) (λ ts vs. refl)
      (local_ok x rest us k v) (local_ok x rest us k v)

  module _ (n m : ℕ) (up : n ≤ m) where
    many_names : (found : List (List ℕ)) → Local x rest us n (many (begins f.Comma) further_name n found) (many (begins f.Comma) further_name m found)
    many_names found = local_many x rest us n (begins f.Comma) further_name further_name (first_begins f.Comma) (strict_further_name n) n m n found (omega arith) up (omega arith)

    strict_names : Strict x rest us (suc n) (names n) (names m)
    unfolding names
    strict_names =
        strict_bind x rest us n name name (λ v. many (begins f.Comma) further_name n (v ∷ [])) (λ v. many (begins f.Comma) further_name m (v ∷ [])) (strict_name x rest us n) (λ v. many_names (v ∷ []))

    strict_declaration : (found : List DeclarationTree) → Strict x rest us (suc n) (declaration n found) (declaration m found)
    unfolding declaration
    strict_declaration found =
        let third : List (List ℕ) → WrittenType → List Tok → Read (List DeclarationTree) = λ xs k ts. clocked ts >>= λ c. Ok (found ++ map (declared k c.0) xs, c.1) in
        let second : List (List ℕ) → List Tok → Read (List DeclarationTree) = λ xs ts. kind ts >>= λ k. third xs k.0 k.1 in
        let first : List (List ℕ) → List Tok → Read (List DeclarationTree) = λ xs ts. after f.Colon ts >>= second xs in
        strict_bind x rest us n (names n) (names m) first first strict_names (λ xs.
        local_after x rest us n f.Colon (second xs) (second xs) (
        local_bind x rest us n kind kind (third xs) (third xs) (local_kind n) (λ k.
        local_bind x rest us n clocked clocked (λ c ts. Ok (found ++ map (declared k c) xs, ts)) (λ c ts. Ok (found ++ map (declared k c) xs, ts)) (local_clocked n) (λ c.
        local_ok x rest us n (found ++ map (declared k c) xs)))))

    local_declaration : (found : List DeclarationTree) → Local x rest us n (declaration n found) (declaration m found)
    local_declaration found = local_less x rest us (suc n) n (omega arith) (local_of x rest us (suc n) (strict_declaration found))

    strict_further_declaration : (found : List DeclarationTree) → Strict x rest us (suc n) (further_declaration n found) (further_declaration m found)
    strict_further_declaration found = strict_after x rest us n f.Semicolon (declaration n found) (declaration m found) (local_declaration found)

    local_declarations : Local x rest us n (declarations n) (declarations m)
    unfolding declarations
    local_declarations =
        local_bind x rest us n (declaration n []) (declaration m []) (many (begins f.Semicolon) (further_declaration n) n) (many (begins f.Semicolon) (further_declaration m) m) (local_declaration []) (λ ds.
        local_many x rest us n (begins f.Semicolon) (further_declaration n) (further_declaration m) (first_begins f.Semicolon) strict_further_declaration n m n ds (omega arith) up (omega arith))

    local_inputs : Local x rest us n (inputs n) (inputs m)
    unfolding inputs
    local_inputs = local_if x rest us n (begins f.Close) (λ ts. Ok ([], ts)) (declarations n) (λ ts. Ok ([], ts)) (declarations m) (first_begins f.Close) (local_ok x rest us n []) local_declarations

    strict_ended_declaration : (found : List DeclarationTree) → Strict x rest us (suc n) (ended_declaration n found) (ended_declaration m found)
    strict_ended_declaration found = strict_ended n (declaration n found) (declaration m found) (strict_declaration found)

    local_locals : Local x rest us n (locals n) (locals m)
    unfolding locals
    local_locals =
        local_case x rest us n f.Var (locals_by n) (locals_by m) (λ ts. ended_declaration n [] ts >>= λ y. many begins_name (ended_declaration n) n y.0 y.1) (λ ts. Ok ([], ts))
        (λ ts. ended_declaration m [] ts >>= λ y. many begins_name (ended_declaration m) m y.0 y.1) (λ ts. Ok ([], ts)) (λ ts vs. refl) (λ ts vs. refl) (λ ts vs. refl) (λ ts vs. refl)
        (local_bind x rest us n (ended_declaration n []) (ended_declaration m []) (many begins_name (ended_declaration n) n) (many begins_name (ended_declaration m) m)
        (local_less x rest us (suc n) n (omega arith) (local_of x rest us (suc n) (strict_ended_declaration []))) (λ ds.
        local_many x rest us n begins_name (ended_declaration n) (ended_declaration m) first_name strict_ended_declaration n m n ds (omega arith) up (omega arith)))
        (local_ok x rest us n [])

    abbrev defined : List (List ℕ) → Tree → EquationTree
    defined l r = record { left = l; right = r }

    strict_single : Strict x rest us (suc n) (single n) (single m)
    unfolding single
    strict_single =
        let second : ℕ → List ℕ → List Tok → Read EquationTree = λ k v ts. expr k 0 ts >>= λ e. Ok (defined (v ∷ []) e.0, e.1) in
        strict_bind x rest us n name name (λ v ts. after f.Equal ts >>= second n v) (λ v ts. after f.Equal ts >>= second m v) (strict_name x rest us n) (λ v.
        local_after x rest us n f.Equal (second n v) (second m v) (
        local_bind x rest us n (expr n 0) (expr m 0) (λ e ts. Ok (defined (v ∷ []) e, ts)) (λ e ts. Ok (defined (v ∷ []) e, ts)) (local_expr x rest us n m up 0) (λ e. local_ok x rest us n (defined (v ∷ []) e))))

    local_call : Local x rest us n (call n) (call m)
    unfolding call
    local_call =
        let second : ℕ → List ℕ → List Tok → Read Tree = λ k g ts. operands (expr k) k ts >>= λ xs. Ok (t.call g (trees_of xs.0), xs.1) in
        local_bind x rest us n name name (λ g ts. after f.Open ts >>= second n g) (λ g ts. after f.Open ts >>= second m g) (local_name x rest us n) (λ g.
        local_after x rest us n f.Open (second n g) (second m g) (
        local_bind x rest us n (operands (expr n) n) (operands (expr m) m) (λ xs ts. Ok (t.call g (trees_of xs), ts)) (λ xs ts. Ok (t.call g (trees_of xs), ts))
        (local_operands x rest us (expr n) (expr m) n (local_expr x rest us n m up) n m (omega arith) up) (λ xs. local_ok x rest us n (t.call g (trees_of xs)))))

    local_tuple_names : Local x rest us n (tuple_names n) (tuple_names m)
    unfolding tuple_names
    local_tuple_names =
        let last : List (List ℕ) → List Tok → Read (List (List ℕ)) = λ zs ts. after f.Close ts >>= λ vs. Ok (zs, vs) in
        let second : ℕ → List (List ℕ) → List Tok → Read (List (List ℕ)) = λ k ys ts. many (begins f.Comma) further_name k ys ts >>= λ zs. last zs.0 zs.1 in
        local_bind x rest us n name name (λ v ts. further_name (v ∷ []) ts >>= λ y. second n y.0 y.1) (λ v ts. further_name (v ∷ []) ts >>= λ y. second m y.0 y.1) (local_name x rest us n) (λ v.
        local_bind x rest us n (further_name (v ∷ [])) (further_name (v ∷ [])) (second n) (second m) (local_less x rest us (suc n) n (omega arith) (local_of x rest us (suc n) (strict_further_name n (v ∷ [])))) (λ ys.
        local_bind x rest us n (many (begins f.Comma) further_name n ys) (many (begins f.Comma) further_name m ys) last last (many_names ys) (λ zs.
        local_after x rest us n f.Close (λ vs. Ok (zs, vs)) (λ vs. Ok (zs, vs)) (local_ok x rest us n zs))))

    local_tuple : Local x rest us n (tuple n) (tuple m)
    unfolding tuple
    local_tuple =
        let second : ℕ → List (List ℕ) → List Tok → Read EquationTree = λ k xs ts. call k ts >>= λ e. Ok (defined xs e.0, e.1) in
        local_bind x rest us n (tuple_names n) (tuple_names m) (λ xs ts. after f.Equal ts >>= second n xs) (λ xs ts. after f.Equal ts >>= second m xs) local_tuple_names (λ xs.
        local_after x rest us n f.Equal (second n xs) (second m xs) (
        local_bind x rest us n (call n) (call m) (λ e ts. Ok (defined xs e, ts)) (λ e ts. Ok (defined xs e, ts)) local_call (λ e. local_ok x rest us n (defined xs e))))

    strict_equation : Strict x rest us (suc n) (equation n) (equation m)
    unfolding equation
    strict_equation =
        strict_case x rest us n f.Open (equation_by n) (equation_by m) (tuple n) (single n) (tuple m) (single m) (λ ts vs. refl) (λ ts vs. refl) (λ ts vs. refl) (λ ts vs. refl) local_tuple strict_single

    strict_ended_equation : (found : List EquationTree) → Strict x rest us (suc n) (ended_equation n found) (ended_equation m found)
    strict_ended_equation found =
        strict_bind x rest us n (λ ts. ended (equation n ts)) (λ ts. ended (equation m ts)) (λ e ts. Ok (found ++ e ∷ [], ts)) (λ e ts. Ok (found ++ e ∷ [], ts))
        (strict_ended n (equation n) (equation m) strict_equation) (λ e. local_ok x rest us n (found ++ e ∷ []))

    local_equations : Local x rest us n (equations n) (equations m)
    unfolding equations
    local_equations = local_many x rest us n begins_equation (ended_equation n) (ended_equation m) first_equation strict_ended_equation n m n [] (omega arith) up (omega arith)

    abbrev headed : List ℕ → List DeclarationTree → List DeclarationTree → NodeTree
    headed v ins outs = record { name = v; inputs = ins; outputs = outs; locals = []; equations = [] }

    strict_heading : Strict x rest us (suc n) (heading n) (heading m)
    unfolding heading
    strict_heading =
        let last : List ℕ → List DeclarationTree → List DeclarationTree → List Tok → Read NodeTree = λ v ins outs ts. after f.Close ts >>= λ vs. Ok (headed v ins outs, past f.Semicolon vs) in
        let outs_of : ℕ → List ℕ → List DeclarationTree → List Tok → Read NodeTree = λ k v ins ts. declarations k ts >>= λ outs. last v ins outs.0 outs.1 in
        let opened : ℕ → List ℕ → List DeclarationTree → List Tok → Read NodeTree = λ k v ins ts. after f.Open ts >>= outs_of k v ins in
        let returned : ℕ → List ℕ → List DeclarationTree → List Tok → Read NodeTree = λ k v ins ts. after f.Returns ts >>= opened k v ins in
        let closes : ℕ → List ℕ → List DeclarationTree → List Tok → Read NodeTree = λ k v ins ts. after f.Close ts >>= returned k v ins in
        let ins_of : ℕ → List ℕ → List Tok → Read NodeTree = λ k v ts. inputs k ts >>= λ ins. closes k v ins.0 ins.1 in
        let named : ℕ → List ℕ → List Tok → Read NodeTree = λ k v ts. after f.Open ts >>= ins_of k v in
        strict_after x rest us n f.Node (λ ts. name ts >>= λ v. named n v.0 v.1) (λ ts. name ts >>= λ v. named m v.0 v.1) (
        local_bind x rest us n name name (named n) (named m) (local_name x rest us n) (λ v.
        local_after x rest us n f.Open (ins_of n v) (ins_of m v) (
        local_bind x rest us n (inputs n) (inputs m) (closes n v) (closes m v) local_inputs (λ ins.
        local_after x rest us n f.Close (returned n v ins) (returned m v ins) (
        local_after x rest us n f.Returns (opened n v ins) (opened m v ins) (
        local_after x rest us n f.Open (outs_of n v ins) (outs_of m v ins) (
        local_bind x rest us n (declarations n) (declarations m) (last v ins) (last v ins) local_declarations (λ outs.
        local_after x rest us n f.Close (λ vs. Ok (headed v ins outs, past f.Semicolon vs)) (λ vs. Ok (headed v ins outs, past f.Semicolon vs)) (local_past n (headed v ins outs))))))))))

    local_body : Local x rest us n (body n) (body m)
    unfolding body
    local_body =
        let last : List EquationTree → List Tok → Read (List EquationTree) = λ es ts. after f.Tel ts >>= λ vs. Ok (es, past f.Semicolon vs) in
        local_after x rest us n f.Let (λ ts. equations n ts >>= λ es. last es.0 es.1) (λ ts. equations m ts >>= λ es. last es.0 es.1) (
        local_bind x rest us n (equations n) (equations m) last last local_equations (λ es.
        local_after x rest us n f.Tel (λ vs. Ok (es, past f.Semicolon vs)) (λ vs. Ok (es, past f.Semicolon vs)) (local_past n es)))

    abbrev completed : NodeTree → List DeclarationTree → List EquationTree → NodeTree
    completed h ls es = record { name = h.name; inputs = h.inputs; outputs = h.outputs; locals = ls; equations = es }

    strict_node : Strict x rest us (suc n) (node n) (node m)
    unfolding node
    strict_node =
        let second : ℕ → NodeTree → List DeclarationTree → List Tok → Read NodeTree = λ k h ls ts. body k ts >>= λ es. Ok (completed h ls es.0, es.1) in
        strict_bind x rest us n (heading n) (heading m) (λ h ts. locals n ts >>= λ ls. second n h ls.0 ls.1) (λ h ts. locals m ts >>= λ ls. second m h ls.0 ls.1) strict_heading (λ h.
        local_bind x rest us n (locals n) (locals m) (second n h) (second m h) local_locals (λ ls.
        local_bind x rest us n (body n) (body m) (λ es ts. Ok (completed h ls es, ts)) (λ es ts. Ok (completed h ls es, ts)) local_body (λ es. local_ok x rest us n (completed h ls es))))

    strict_further_node : (found : List NodeTree) → Strict x rest us (suc n) (further_node n found) (further_node m found)
    strict_further_node found =
        strict_bind x rest us n (node n) (node m) (λ p ts. Ok (found ++ p ∷ [], ts)) (λ p ts. Ok (found ++ p ∷ [], ts)) strict_node (λ p. local_ok x rest us n (found ++ p ∷ []))

    local_nodes : Local x rest us n (nodes n) (nodes m)
    unfolding nodes
    local_nodes =
        local_bind x rest us n (further_node n []) (further_node m []) (many (begins f.Node) (further_node n) n) (many (begins f.Node) (further_node m) m)
        (local_less x rest us (suc n) n (omega arith) (local_of x rest us (suc n) (strict_further_node []))) (λ ps.
        local_many x rest us n (begins f.Node) (further_node n) (further_node m) (first_begins f.Node) strict_further_node n m n ps (omega arith) up (omega arith))

    abbrev enumeration : List ℕ → List (List ℕ) → TypeTree
    enumeration v xs = record { name = v; names = xs }

    strict_type_declaration : (found : List TypeTree) → Strict x rest us (suc n) (type_declaration n found) (type_declaration m found)
    unfolding type_declaration
    strict_type_declaration found =
        let last : List ℕ → List (List ℕ) → List Tok → Read (List TypeTree) = λ v xs ts. after f.Semicolon ts >>= λ vs. Ok (found ++ enumeration v xs ∷ [], vs) in
        let closes : List ℕ → List (List ℕ) → List Tok → Read (List TypeTree) = λ v xs ts. after f.CloseBrace ts >>= last v xs in
        let listed : ℕ → List ℕ → List Tok → Read (List TypeTree) = λ k v ts. names k ts >>= λ xs. closes v xs.0 xs.1 in
        let opened : ℕ → List ℕ → List Tok → Read (List TypeTree) = λ k v ts. after f.OpenBrace ts >>= listed k v in
        let counted : ℕ → List ℕ → List Tok → Read (List TypeTree) = λ k v ts. after f.Enum ts >>= opened k v in
        let equal : ℕ → List ℕ → List Tok → Read (List TypeTree) = λ k v ts. after f.Equal ts >>= counted k v in
        strict_after x rest us n f.Type (λ ts. name ts >>= λ v. equal n v.0 v.1) (λ ts. name ts >>= λ v. equal m v.0 v.1) (
        local_bind x rest us n name name (equal n) (equal m) (local_name x rest us n) (λ v.
        local_after x rest us n f.Equal (counted n v) (counted m v) (
        local_after x rest us n f.Enum (opened n v) (opened m v) (
        local_after x rest us n f.OpenBrace (listed n v) (listed m v) (
        local_bind x rest us n (names n) (names m) (closes v) (closes v) (local_less x rest us (suc n) n (omega arith) (local_of x rest us (suc n) strict_names)) (λ xs.
        local_after x rest us n f.CloseBrace (last v xs) (last v xs) (
        local_after x rest us n f.Semicolon (λ vs. Ok (found ++ enumeration v xs ∷ [], vs)) (λ vs. Ok (found ++ enumeration v xs ∷ [], vs)) (local_ok x rest us n (found ++ enumeration v xs ∷ [])))))))))

    local_types : Local x rest us n (types n) (types m)
    unfolding types
    local_types = local_many x rest us n (begins f.Type) (type_declaration n) (type_declaration m) (first_begins f.Type) strict_type_declaration n m n [] (omega arith) up (omega arith)

    abbrev whole : List TypeTree → List NodeTree → ProgramTree
    whole ds ns = record { types = ds; nodes = ns }

    pub local_program : Local x rest us n (program n) (program m)
    unfolding program
    local_program =
        let last : ℕ → List TypeTree → List Tok → Read ProgramTree = λ k ds ts. nodes k ts >>= λ ns. Ok (whole ds ns.0, ns.1) in
        local_bind x rest us n (types n) (types m) (last n) (last m) local_types (λ ds.
        local_bind x rest us n (nodes n) (nodes m) (λ ns ts. Ok (whole ds ns, ts)) (λ ns ts. Ok (whole ds ns, ts)) local_nodes (λ ns. local_ok x rest us n (whole ds ns)))

  longer : (r : Read ProgramTree) → length (left_of r) ≤ length rest → (r >>= to_the_end) ≡ Err (x ∷ rest) → ⊥
  longer (Ok (ps, [])) b e = absurd cc
  longer (Ok (ps, y ∷ ts)) b e = let h : y ∷ ts ≡ x ∷ rest = same_rest (y ∷ ts) (x ∷ rest) e in absurd (omega (arith, ap length h))
    where
      same_rest : (a b : List Tok) → ◌≡◌ {A = Result ProgramTree (List Tok)} (Err a) (Err b) → a ≡ b
      same_rest a b e = cc
  longer (Err ts) b e = let h : ts ≡ x ∷ rest = same_rest ts (x ∷ rest) e in absurd (omega (arith, ap length h))
    where
      same_rest : (a b : List Tok) → ◌≡◌ {A = Result ProgramTree (List Tok)} (Err a) (Err b) → a ≡ b
      same_rest a b e = cc

  not_read : (q : List Tok) (v found : ProgramTree) → ◌≡◌ {A = Read ProgramTree} (Ok (v, q ++ x ∷ us)) (Ok (found, [])) → ⊥
  not_read q v found e = not_empty q (ap (λ (r : Read ProgramTree). left_of r) e)
    where
      not_empty : (u : List Tok) → u ++ x ∷ us ≡ [] → ⊥
      not_empty [] h = absurd (omega (arith, ap length h))
      not_empty (y ∷ u) h = absurd (omega (arith, ap length h))

  not_refused : (ts : List Tok) (found : ProgramTree) → ◌≡◌ {A = Read ProgramTree} (Err ts) (Ok (found, [])) → ⊥
  not_refused ts found e = absurd cc

  refused_alike : (k : ℕ) (r s : Read ProgramTree) (found : ProgramTree) → Same x rest us k r s → (r >>= to_the_end) ≡ Err (x ∷ rest) → s ≡ Ok (found, []) → ⊥
  refused_alike k r s found (read v q b e h) at_x reported = not_read q v found (sym h ∙ reported)
  refused_alike k r s found (refused q e h) at_x reported = not_refused (q ++ x ∷ us) found (sym h ∙ reported)
  refused_alike k r s found (beyond b) at_x reported = longer r b at_x

-- no text goes on with the token that is refused
pub no_text : (before : List Tok) (x : Tok) (rest us : List Tok) (found : ProgramTree) → all_of (before ++ x ∷ rest) ≡ Err (x ∷ rest) → Spells (before ++ x ∷ us) found → ⊥
unfolding all_of
no_text before x rest us found at_x s =
    let n : ℕ = suc (length (before ++ x ∷ rest)) in
    let m : ℕ = n + suc (length (before ++ x ∷ us)) in
    let l : Local x rest us n (program n) (program m) = local_program x rest us n m (omega arith) in
    refused_alike x rest us (suc (length before)) (program n (before ++ x ∷ rest)) (program m (before ++ x ∷ us)) found
    (l.near before (omega (arith, length-append before (x ∷ rest)))) at_x (program-again m (before ++ x ∷ us) found (omega arith) s)
