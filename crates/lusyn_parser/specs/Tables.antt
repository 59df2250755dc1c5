-- The labels of a program's types, as rows side by side.
use Rattle.std.specs.Prelude.{◌≡◌, ℕ, ◌≤◌, ◌<◌, List, map, length, slice_index_or}
use Rattle.lubase.specs.Limits.{most_types, most_names}
use Rattle.lutree.specs.declared.expr.Label.{Label}
use Rattle.lutree.specs.declared.program.Kind.{Kind}
use Rattle.lutree.specs.declared.program.TypeDeclaration.{TypeDeclaration}
use Rattle.lutree.specs.Tree.{TypeTree, type_view}
use Rattle.lusyn_grammar.specs.Grammar.{Each}

-- what types in memory are
abbrev pub types_view : List TypeDeclaration → List TypeTree
types_view = map type_view

-- what a label knows besides its name
abbrev pub mark : Label → Kind × ℕ
mark l = (l.kind, l.number)

abbrev pub marked : List ℕ → Kind × ℕ → Label
marked x m = record { name = x; kind = m.0; number = m.1 }

abbrev pub marks_of : List Label → List (Kind × ℕ)
marks_of = map mark

abbrev pub names_of : List Label → List (List ℕ)
names_of = map (λ l. l.name)

-- no more types, and no more names in one, than a program may have
abbrev pub AreFew : List TypeTree → Type 0
AreFew types = (length types ≤ most_types) × Each (λ x. length x.names ≤ most_names) types

-- no type at any place has more names than that
abbrev pub AreShort : List TypeDeclaration → Type 0
AreShort ts = (i : ℕ) (t : TypeDeclaration) → i < length ts → slice_index_or ts i t ≡ t
    → length t.names ≤ most_names
