-- An operator's value is a fault exactly where the language says so.
use Rattle.std.proofs.Common.{◌≡◌, ◌≢◌, zero, suc, Bool, true, false, cond, ℤ, pos, negsuc, subst, refl, sym, ap, ◌∙◌, arith}
use Rattle.std.specs.Prelude.{FitsSigned}
use Rattle.std.specs.Int.{w64}
use Rattle.std.proofs.lemmas.Int.{ints}
use Rattle.luflow.specs.declared.data.Datum.{Datum}
use Rattle.luflow.specs.declared.data.Datum.TheVariants.{Int, Bool as Truth, Name, Nil}
use Rattle.lutree.specs.declared.expr.UnaryOperator.{UnaryOperator}
use Rattle.lutree.specs.declared.expr.BinaryOperator.{BinaryOperator}
use Rattle.luflow.specs.declared.form.FaultKind.{FaultKind}
use Rattle.luflow.specs.declared.form.FaultKind.TheVariants.{Overflow, DivZero}
use Rattle.luflow.specs.declared.form.Outcome.TheVariants.{Gives, Faults, Stuck}
use Rattle.luflow.specs.Operators.{fits, is_zero, int_of, Exact, whole, divided, verdict, nothing, settled, at_int, at_truth, at_ints, at_truths, at_names, single_of, double_of, IsFaultAt, ZeroDivisor, OverDivided, OverWhole, IsFaultOf, IsFaultOfOne}

pub fits_from : (z : ℤ) → FitsSigned w64 z → fits z ≡ true
fits_from z h = grind (arith, ints)

pub fits_to : (z : ℤ) → fits z ≡ true → FitsSigned w64 z
fits_to z h = grind (arith, ints)

not_fits : (z : ℤ) (b : Bool) → fits z ≡ b → (FitsSigned w64 z → ⊥) → b ≡ false
not_fits z true e h = absurd (h (fits_to z e))
not_fits z false e h = refl

never_fits : (z : ℤ) → fits z ≡ false → FitsSigned w64 z → ⊥
never_fits z e h = let f = fits_from z h in let clash : false ≡ true = sym e ∙ f in cc

over : (z : ℤ) → (FitsSigned w64 z → ⊥) → int_of z ≡ Faults Overflow
over z h = ap (λ b. cond b (Gives (Int z)) (Faults Overflow)) (not_fits z (fits z) refl h)

is_zero_no : (y : ℤ) → y ≢ pos 0 → is_zero y ≡ false
is_zero_no (pos zero) h = absurd (h refl)
is_zero_no (pos (suc n)) h = refl
is_zero_no (negsuc n) h = refl

is_zero_yes : (y : ℤ) → is_zero y ≡ true → y ≡ pos 0
is_zero_yes (pos zero) h = refl
is_zero_yes (pos (suc n)) h = let f : false ≡ true = h in cc
is_zero_yes (negsuc n) h = let f : false ≡ true = h in cc

-- what an operator gives has a fault exactly where the language says so
fault_settled : (x : Exact) (kind : FaultKind) → IsFaultAt x kind → settled x ≡ Faults kind
fault_settled _ _ (ZeroDivisor z) = refl
fault_settled _ _ (OverDivided y z n h) = ap (λ b. cond b (Faults DivZero) (int_of z)) (is_zero_no y n) ∙ over z h
fault_settled _ _ (OverWhole z h) = over z h

not_zero : (y : ℤ) → is_zero y ≡ false → y ≢ pos 0
not_zero y e h = let f : is_zero y ≡ true = ap is_zero h in let clash : false ≡ true = sym e ∙ f in cc

over_back : (x : Exact) (z : ℤ) (kind : FaultKind) (b : Bool) → fits z ≡ b → ((FitsSigned w64 z → ⊥) → IsFaultAt x Overflow) → cond b (Gives (Int z)) (Faults Overflow) ≡ Faults kind → IsFaultAt x kind
over_back x z kind true e f h = let clash : Gives (Int z) ≡ Faults kind = h in cc
over_back x z kind false e f h =
    let k : Faults Overflow ≡ Faults kind = h in
    let g : Overflow ≡ kind = cc in
    subst (IsFaultAt x) g (f (never_fits z e))

divided_back : (y z : ℤ) (kind : FaultKind) (b : Bool) → is_zero y ≡ b → cond b (Faults DivZero) (int_of z) ≡ Faults kind → IsFaultAt (divided y z) kind
divided_back y z kind true e h =
    let k : Faults DivZero ≡ Faults kind = h in
    let g : DivZero ≡ kind = cc in
    subst (IsFaultAt (divided y z)) g (subst (λ (y : ℤ). IsFaultAt (divided y z) DivZero) (sym (is_zero_yes y e)) (ZeroDivisor z))
divided_back y z kind false e h = over_back (divided y z) z kind (fits z) refl (OverDivided y z (not_zero y e)) h

settled_fault : (x : Exact) (kind : FaultKind) → settled x ≡ Faults kind → IsFaultAt x kind
settled_fault (whole z) kind h = over_back (whole z) z kind (fits z) refl (OverWhole z) h
settled_fault (divided y z) kind h = divided_back y z kind (is_zero y) refl h
settled_fault (verdict b) kind h = let f : Gives (Truth b) ≡ Faults kind = h in cc
settled_fault nothing kind h = let f : Stuck ≡ Faults kind = h in cc

nil_no : (kind : FaultKind) → Gives Nil ≡ Faults kind → ⊥
nil_no kind h = cc

stuck_no : (kind : FaultKind) → Stuck ≡ Faults kind → ⊥
stuck_no kind h = cc

pub fault_value : (op : BinaryOperator) (x y : Datum) (kind : FaultKind) → IsFaultOf op x y kind → double_of op x y ≡ Faults kind
fault_value op Nil y kind f = absurd f
fault_value op (Int a) Nil kind f = absurd f
fault_value op (Int a) (Int b) kind f = fault_settled (at_ints op a b) kind f
fault_value op (Int a) (Truth b) kind f = absurd f
fault_value op (Truth a) Nil kind f = absurd f
fault_value op (Truth a) (Int b) kind f = absurd f
fault_value op (Truth a) (Truth b) kind f = fault_settled (at_truths op a b) kind f
fault_value op (Int a) (Name b) kind f = absurd f
fault_value op (Truth a) (Name b) kind f = absurd f
fault_value op (Name a) Nil kind f = absurd f
fault_value op (Name a) (Int b) kind f = absurd f
fault_value op (Name a) (Truth b) kind f = absurd f
fault_value op (Name a) (Name b) kind f = fault_settled (at_names op a b) kind f

pub fault_value_one : (op : UnaryOperator) (x : Datum) (kind : FaultKind) → IsFaultOfOne op x kind → single_of op x ≡ Faults kind
fault_value_one op Nil kind f = absurd f
fault_value_one op (Int a) kind f = fault_settled (at_int op a) kind f
fault_value_one op (Truth a) kind f = fault_settled (at_truth op a) kind f
fault_value_one op (Name a) kind f = absurd f

pub fault_back : (op : BinaryOperator) (x y : Datum) (kind : FaultKind) → double_of op x y ≡ Faults kind → IsFaultOf op x y kind
fault_back op Nil y kind h = nil_no kind h
fault_back op (Int a) Nil kind h = nil_no kind h
fault_back op (Int a) (Int b) kind h = settled_fault (at_ints op a b) kind h
fault_back op (Int a) (Truth b) kind h = stuck_no kind h
fault_back op (Truth a) Nil kind h = nil_no kind h
fault_back op (Truth a) (Int b) kind h = stuck_no kind h
fault_back op (Truth a) (Truth b) kind h = settled_fault (at_truths op a b) kind h
fault_back op (Int a) (Name b) kind h = stuck_no kind h
fault_back op (Truth a) (Name b) kind h = stuck_no kind h
fault_back op (Name a) Nil kind h = nil_no kind h
fault_back op (Name a) (Int b) kind h = stuck_no kind h
fault_back op (Name a) (Truth b) kind h = stuck_no kind h
fault_back op (Name a) (Name b) kind h = settled_fault (at_names op a b) kind h

pub fault_back_one : (op : UnaryOperator) (x : Datum) (kind : FaultKind) → single_of op x ≡ Faults kind → IsFaultOfOne op x kind
fault_back_one op Nil kind h = nil_no kind h
fault_back_one op (Int a) kind h = settled_fault (at_int op a) kind h
fault_back_one op (Truth a) kind h = settled_fault (at_truth op a) kind h
fault_back_one op (Name a) kind h = stuck_no kind h
