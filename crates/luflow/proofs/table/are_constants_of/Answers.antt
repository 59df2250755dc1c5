use Rattle.std.proofs.Common.{subst, sym}
use Rattle.std.specs.Prelude.{All}
use Rattle.luflow.specs.declared.data.Datum.TheVariants.{Int, Bool, Name}
use Rattle.luflow.specs.Sound.{IsConstantOf}
use Rattle.luflow.proofs.Columns.{all_mapped}
use Rattle.luflow.proofs.table.are_constants_of.Goals as goal

pub returns-in-Numbers : goal.returns-in-Numbers
returns-in-Numbers c =
    let same = all_mapped (λ d. IsConstantOf c.args.kind d) Int c.in-Numbers.numbers.items in
    let is = c.are_numbers.ensures in
    let all = c.deref.ensures.value in
    rw (c.in-Numbers.is) (λ yes. same.0 (subst (λ xs. All (λ z. IsConstantOf c.args.kind (Int z)) xs) all (is.0 yes)), λ h. is.1 (subst (λ xs. All (λ z. IsConstantOf c.args.kind (Int z)) xs) (sym all) (same.1 h)))

pub returns-in-Truths : goal.returns-in-Truths
returns-in-Truths c =
    let same = all_mapped (λ d. IsConstantOf c.args.kind d) Bool c.in-Truths.truths.items in
    let is = c.are_truths.ensures in
    let all = c.deref-in-Truths.ensures.value in
    rw (c.in-Truths.is) (λ yes. same.0 (subst (λ xs. All (λ b. IsConstantOf c.args.kind (Bool b)) xs) all (is.0 yes)), λ h. is.1 (subst (λ xs. All (λ b. IsConstantOf c.args.kind (Bool b)) xs) (sym all) (same.1 h)))

pub returns-in-Names : goal.returns-in-Names
returns-in-Names c =
    let same = all_mapped (λ d. IsConstantOf c.args.kind d) Name c.in-Names.names.items in
    let is = c.are_names.ensures in
    let all = c.deref-in-Names.ensures.value in
    rw (c.in-Names.is) (λ yes. same.0 (subst (λ xs. All (λ k. IsConstantOf c.args.kind (Name k)) xs) all (is.0 yes)), λ h. is.1 (subst (λ xs. All (λ k. IsConstantOf c.args.kind (Name k)) xs) (sym all) (same.1 h)))
