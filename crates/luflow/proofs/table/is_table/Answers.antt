use Rattle.std.proofs.Common.{◌≡◌, ◌≤◌, List, length, map, subst, arith}
use Rattle.std.specs.Prelude.{All}
use Rattle.std.proofs.lemmas.List.Elements.{All-map}
use Rattle.std.proofs.lemmas.List.{length-map, get_or-map}
use Rattle.luflow.specs.Program.{Column}
use Rattle.luflow.specs.Tables.{column_view}
use Rattle.luflow.proofs.table.is_table.Goals as goal

all_back : {X Y : Type 0} (P : Y → Type 0) (f : X → Y) (xs : List X) → All P (map f xs) → All (λ x. P (f x)) xs
all_back P f xs h = λ k d l. let n = length-map xs f in subst P (get_or-map f xs k d (f d) l) (h k (f d) (omega (arith, n)))

pub returns-then-instants-le-MOST_INSTANTS : goal.returns-then-instants-le-MOST_INSTANTS
returns-then-instants-le-MOST_INSTANTS c =
    let n = c.args.instants in
    let xs = c.args.columns.now in
    let few : n ≤ 1000000 = omega (arith, c.if-instants-le-MOST_INSTANTS.true) in (
      λ yes. record { few = few; long = All-map (λ (y : Column). length y.values ≡ n) column_view xs (c.are_long.ensures.0 yes) },
      λ is. c.are_long.ensures.1 (all_back (λ (y : Column). length y.values ≡ n) column_view xs is.long),
    )
