-- Where worked expressions are at fault, and where they aren't.
use Rattle.std.proofs.Common.{◌≡◌, ℕ, zero, suc, inl, inr, pos, [], ◌∷◌, Some, true, refl, sym, ap, ◌∙◌}
use Rattle.std.specs.Prelude.{codes, None, false}
use Rattle.std.specs.Str.{bytes_eq}
use Rattle.lutree.specs.declared.expr.BinaryOperator.{BinaryOperator}
use Rattle.lutree.specs.declared.expr.BinaryOperator.TheVariants.{Divide}
use Rattle.luflow.specs.declared.data.Datum.{Datum}
use Rattle.luflow.specs.declared.data.Datum.TheVariants.{Int, Nil}
use Rattle.luflow.specs.declared.data.Status.TheVariants.{Present}
use Rattle.luflow.specs.declared.form.FaultKind.{FaultKind}
use Rattle.luflow.specs.declared.form.FaultKind.TheVariants.{Overflow, DivZero}
use Rattle.luflow.specs.declared.form.Outcome.TheVariants.{Gives, Faults}
use Rattle.luflow.specs.Operators.{double_of, ZeroDivisor}
use Rattle.luflow.specs.Streams.{Known, Stream, Ticks}
use Rattle.luflow.proofs.Faults.{fault_value}
use Rattle.lusource.specs.Faults.{TwoFail}
use Rattle.lutree.specs.declared.expr.Prefix.TheVariants.{Pre}
use Rattle.lutree.specs.declared.expr.Infix.TheVariants.{Data as Data2}
use Rattle.lutree.specs.Tree as tree
use Rattle.luflow.specs.Vectors.{one_zero}
use Rattle.lusource.specs.Faults.{IsSourceFault}
use Rattle.lusource.specs.Vectors.{where_c, x}
use Rattle.lusource.specs.FaultVectors.{quotient, IsFailing, divide, calls_divide, falling, FaultVectorsLaw}

same_present : (x y : Datum) → Known (Present x) ≡ Known (Present y) → x ≡ y
same_present x y e = cc

-- at operands whose data are known, an operator fails only by what it gives there
sound : (op : BinaryOperator) (k : Ticks) (a b : Stream) (t : ℕ) (kind : FaultKind) (x y : Datum) → a t ≡ Known (Present x) → b t ≡ Known (Present y) → TwoFail op k a b t kind → double_of op x y ≡ Faults kind
sound op k a b t kind x y left right h =
    let ex : x ≡ h.x = same_present x h.x (sym left ∙ h.left) in
    let ey : y ≡ h.y = same_present y h.y (sym right ∙ h.right) in
    ap (λ x. double_of op x y) ex ∙ ap (double_of op h.x) ey ∙ fault_value op h.x h.y kind h.fault

off : (op : BinaryOperator) (k : Ticks) (a b : Stream) (t : ℕ) (kind : FaultKind) → k t ≡ Some false → TwoFail op k a b t kind → ⊥
off op k a b t kind e h = let clash : Some false ≡ Some true = sym e ∙ h.clock in cc

no_fault : (d : Datum) (kind : FaultKind) → Gives d ≡ Faults kind → ⊥
no_fault d kind e = cc

other_kind : Faults DivZero ≡ Faults Overflow → ⊥
other_kind e = cc

not_later : IsFailing quotient None 1 DivZero → ⊥
not_later (inl h) = no_fault _ DivZero (sound _ _ _ _ _ _ (Int (pos 1)) (Int (pos 1)) refl refl h)
not_later (inr (inl h)) = absurd h
not_later (inr (inr (inl h))) = no_fault _ DivZero (sound _ _ _ _ _ _ (Int (pos 2)) (Int (pos 1)) refl refl h)
not_later (inr (inr (inr (inl h)))) = absurd h
not_later (inr (inr (inr (inr h)))) = absurd h

by_no_overflow : IsFailing quotient None 0 Overflow → ⊥
by_no_overflow (inl h) = other_kind (sound _ _ _ _ _ _ (Int (pos 1)) (Int (pos 0)) refl refl h)
by_no_overflow (inr (inl h)) = absurd h
by_no_overflow (inr (inr (inl h))) = no_fault _ Overflow (sound _ _ _ _ _ _ (Int (pos 1)) (Int (pos 1)) refl refl h)
by_no_overflow (inr (inr (inr (inl h)))) = absurd h
by_no_overflow (inr (inr (inr (inr h)))) = absurd h

on_no_other : IsFailing quotient (where_c false) 0 DivZero → ⊥
on_no_other (inl h) = off _ _ _ _ _ _ refl h
on_no_other (inr (inl h)) = absurd h
on_no_other (inr (inr (inl h))) = off _ _ _ _ _ _ refl h
on_no_other (inr (inr (inr (inl h)))) = absurd h
on_no_other (inr (inr (inr (inr h)))) = absurd h

by_nil : IsFailing (tree.binary (Data2 Divide) (tree.number 1) (tree.unary Pre x)) None 0 DivZero → ⊥
by_nil (inl h) = no_fault _ DivZero (sound _ _ _ _ _ _ (Int (pos 1)) Nil refl refl h)
by_nil (inr (inl h)) = absurd h
by_nil (inr (inr h)) = absurd h

not_before : IsSourceFault (tree.program_of (divide ∷ [])) (codes "divide") one_zero falling (codes "y") 0 DivZero → ⊥
not_before (zero, h) = absurd h
not_before (suc depth, inl (same, inl h)) =
    no_fault _ DivZero (sound _ _ _ _ _ _ (Int (pos 1)) (Int (pos 1)) refl refl h)
not_before (suc depth, inl (same, inr (inl h))) = absurd h
not_before (suc depth, inl (same, inr (inr h))) = absurd h
not_before (suc depth, inr h) = absurd h

of_main : IsSourceFault calls_divide (codes "main") one_zero falling (codes "y") 1 DivZero → ⊥
of_main (zero, h) = absurd h
of_main (suc depth, inl (same, h)) =
    let clash : false ≡ true = ap (λ l. bytes_eq l (codes "y")) same in cc
of_main (suc depth, inr h) = absurd h

pub fault_vectors : FaultVectorsLaw
fault_vectors =
    record {
      expressions = record {
        divided = inl (record { clock = refl; x = Int (pos 1); y = Int (pos 0); left = refl; right = refl; fault = ZeroDivisor _ });
        not_later = not_later;
        by_no_overflow = by_no_overflow;
        on_its_clock = inl (record { clock = refl; x = Int (pos 1); y = Int (pos 0); left = refl; right = refl; fault = ZeroDivisor _ });
        on_no_other = on_no_other;
        in_operand = inl (record { clock = refl; x = Int (pos 1); y = Int (pos 0); left = refl; right = refl; fault = ZeroDivisor _ });
        by_nil = by_nil;
        in_argument = inl (inl (inl (record { clock = refl; x = Int (pos 1); y = Int (pos 0); left = refl; right = refl; fault = ZeroDivisor _ })));
      };
      programs = record {
        own = (1, inl (refl, inl (record { clock = refl; x = Int (pos 1); y = Int (pos 0); left = refl; right = refl; fault = ZeroDivisor _ })));
        not_before = not_before;
        called = (2, inl (refl, inr (codes "y", inl (refl, inl (record { clock = refl; x = Int (pos 1); y = Int (pos 0); left = refl; right = refl; fault = ZeroDivisor _ })))));
        of_main = of_main;
      };
    }
