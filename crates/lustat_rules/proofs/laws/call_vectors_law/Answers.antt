use Rattle.std.proofs.Common.{refl, [], ◌∷◌}
use Rattle.std.specs.Prelude.{codes, Contains}
use Rattle.std.proofs.lemmas.List.Elements.{All-from_recursion}
use Rattle.lutree.specs.Tree.{NodeTree}
use Rattle.lustat_rules.specs.Naming.{Reaches, called_by}
use Rattle.lustat_rules.specs.Chains.{calling, round}
use Rattle.lustat_rules.proofs.Worked.{zero_less, none_below, not_in}
use Rattle.lustat_rules.proofs.Rounds.{of_called, last_caller, behind, placed}
use Rattle.lustat_rules.proofs.laws.call_vectors_law.Goals as goal

pub returns : goal.returns
returns c =
    let f = codes "f" in
    let g = codes "g" in
    let uncalled = All-from_recursion (λ (n : NodeTree). ¬ Contains (called_by n) (codes "h")) round.nodes
    (not_in (codes "g" ∷ []) (codes "h") refl (refl, tt), (not_in (codes "f" ∷ []) (codes "h") refl (refl, tt), (not_in (codes "f" ∷ []) (codes "h") refl (refl, tt), tt))) in
    record {
      first_of_two = λ none. none (Reaches.more f g f (Reaches.one f g (calling f g, refl, (0, zero_less, refl))) (calling g f, refl, (0, zero_less, refl)));
      second_of_two = λ none. none (Reaches.more g f g (Reaches.one g f (calling g f, refl, (0, zero_less, refl))) (calling f g, refl, (0, zero_less, refl)));
      none_of_both = λ way.
          let last = last_caller round (codes "h") (codes "h") way in
          of_called (λ (n : NodeTree). ¬ Contains (called_by n) (codes "h")) round last.0 last.1.0 uncalled last.1.1 last.1.2;
      backward = record { all = placed; after = behind };
      forward = λ o. none_below (o.after 0 0 1 (calling f g) g refl refl (0, zero_less, refl) refl).1;
    }
