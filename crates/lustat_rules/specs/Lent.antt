-- The declarations of a node as they are lent.
use Rattle.std.proofs.Common.{List, map, Bor}
use Rattle.lutree.specs.declared.program.Declaration.{Declaration}
use Rattle.lutree.specs.Tree.{DeclarationTree, declaration_view}

-- declarations that are lent, without where they stand in the text
abbrev pub lent_view : List (Bor Declaration) → List DeclarationTree
lent_view = map (λ d. declaration_view d.now)
