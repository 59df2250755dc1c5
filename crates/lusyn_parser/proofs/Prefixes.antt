-- An operator before its operand, where an expression begins.
use Rattle.std.proofs.Common.{◌≡◌, ◌<◌, ◌≤◌, ◌+◌, ℕ, Bool, nat_le, List, ◌∷◌, Result, Ok, Err, Some, ap, sym, ◌∙◌, cond}
use Rattle.std.proofs.lemmas.Bool.{lt-leb, le-leb}
use Rattle.lutree.specs.declared.expr.Prefix.{Prefix}
use Rattle.lutree.specs.Tree.{Tree, view}
use Rattle.lutree.specs.Tree as t
use Rattle.lusyn_grammar.specs.declared.token.Fixed.{Fixed}
use Rattle.lusyn_grammar.specs.declared.token.Fixed.TheVariants as f
use Rattle.lusyn_grammar.specs.declared.token.Lexeme.{Lexeme}
use Rattle.lusyn_grammar.specs.Tokens.{Tok, fixed, prefix_of}
use Rattle.lusyn_grammar.specs.Reading.{Read, ◌>>=◌, head, at_level, allowed, prefixed}
use Rattle.lusyn_parser.specs.declared.error.Stop.{Stop}
use Rattle.lusyn_parser.specs.declared.error.Stop.TheVariants as stops_by
use Rattle.lusyn_parser.specs.declared.pieces.Operand.{Operand}
use Rattle.lusyn_parser.specs.Gives.{Fails, ahead, operand_view}
use Rattle.lusyn_parser.proofs.Atoms.{Reader}
use Rattle.lusyn_parser.proofs.Loops.{Fails-along}

abbrev refused : List Tok → Result (ℕ × Tree × List Tok) (List Tok)
refused ts = Err ts

abbrev levelled : ℕ → Tree → List Tok → Result (ℕ × Tree × List Tok) (List Tok)
levelled at found ts = Ok (at, found, ts)

abbrev one : Tree → Result Tree (List Tok)
one a = Ok a

abbrev given : {Y : Type 0} → Y → Result Y (List Tok)
given x = Ok x

module _ (read : Reader) (n least : ℕ) where
  begins_prefix : (g : Fixed) (op : Prefix) (rest : List Tok) → prefix_of g ≡ Some op
      → head read n least (fixed g ∷ rest) ≡ allowed 8 least (fixed g ∷ rest) (prefixed read (fixed g ∷ rest) (Some op) rest)
  unfolding head
  begins_prefix f.Pre op rest e = ap (λ o. allowed 8 least (fixed f.Pre ∷ rest) (prefixed read (fixed f.Pre ∷ rest) o rest)) e
  begins_prefix f.Not op rest e = ap (λ o. allowed 8 least (fixed f.Not ∷ rest) (prefixed read (fixed f.Not ∷ rest) o rest)) e
  begins_prefix f.Minus op rest e = ap (λ o. allowed 8 least (fixed f.Minus ∷ rest) (prefixed read (fixed f.Minus ∷ rest) o rest)) e
  begins_prefix _ op rest e = absurd cc

  module _ (ls : List Lexeme) (at : ℕ) (g : Fixed) (op : Prefix) (is : prefix_of g ≡ Some op) (here : ahead ls at ≡ fixed g ∷ ahead ls (at + 1)) where
    -- the operator, and its operand behind it
    abbrev unary_read : Read Tree
    unary_read = read 8 (ahead ls (at + 1)) >>= λ x. Ok (t.unary op x.0, x.1)

    begun : head read n least (ahead ls at) ≡ cond (nat_le least 8) (at_level 8 unary_read) (Err (fixed g ∷ ahead ls (at + 1)))
    begun = ap (head read n least) here ∙ begins_prefix g op (ahead ls (at + 1)) is

    pub prefix_refused : 8 < least → head read n least (ahead ls at) ≡ Err (ahead ls at)
    prefix_refused above =
        begun
        ∙ ap (λ (b : Bool). cond b (at_level 8 unary_read) (Err (fixed g ∷ ahead ls (at + 1)))) (lt-leb least 8 above)
        ∙ ap (λ (ts : List Tok). refused ts) (sym here)

    taken : least ≤ 8 → head read n least (ahead ls at) ≡ at_level 8 unary_read
    taken enough = begun ∙ ap (λ (b : Bool). cond b (at_level 8 unary_read) (Err (fixed g ∷ ahead ls (at + 1)))) (le-leb least 8 enough)

    behind_fails : (error : Stop) → Fails ls error (read 8 (ahead ls (at + 1))) → Fails ls error (at_level 8 unary_read)
    behind_fails stops_by.OutOfMemory h = tt
    behind_fails (stops_by.Refused q) h = ap (λ (r : Read Tree). at_level 8 (r >>= λ x. Ok (t.unary op x.0, x.1))) h

    pub prefix_fails : least ≤ 8 → (error : Stop) → Fails ls error (read 8 (ahead ls (at + 1))) → Fails ls error (head read n least (ahead ls at))
    prefix_fails enough error h = Fails-along ls error _ _ (taken enough) (behind_fails error h)

    pub prefix_taken : least ≤ 8 → (a all : Tree) (next : ℕ) (x : Operand) → read 8 (ahead ls (at + 1)) ≡ Ok (a, ahead ls next) → one (t.unary op a) ≡ Ok all
        → x.level ≡ 8 → view x.found ≡ all → x.next ≡ next → head read n least (ahead ls at) ≡ Ok (operand_view ls x)
    prefix_taken enough a all next x e whole level found behind =
        taken enough
        ∙ ap (λ (r : Read Tree). at_level 8 (r >>= λ x. Ok (t.unary op x.0, x.1))) e
        ∙ ap (λ (r : Result Tree (List Tok)). at_level 8 (r >>= λ y. Ok (y, ahead ls next))) whole
        ∙ ap (λ (n : ℕ). levelled n all (ahead ls next)) (sym level)
        ∙ ap (λ (y : Tree). levelled x.level y (ahead ls next)) (sym found)
        ∙ ap (λ (m : ℕ). levelled x.level (view x.found) (ahead ls m)) (sym behind)

-- where memory ran out nothing is said
pub fails_any : {Y Z : Type 0} (ls : List Lexeme) (error : Stop) (x : Y) (read : Result Z (List Tok)) → Fails ls error (given x) → Fails ls error read
fails_any ls stops_by.OutOfMemory x read h = tt
fails_any ls (stops_by.Refused q) x read h = absurd cc
