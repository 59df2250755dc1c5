use Rattle.std.proofs.Common.{◌≡◌, ◌∙◌, ◌+◌, ◌<◌, ◌++◌, ℕ, List, [], ◌∷◌, length, map, take, get_or, sym, ap, ap₂, arith}
use Rattle.std.proofs.lemmas.List.{take_more, map-append}
use Rattle.lutree.specs.declared.program.DeclaredName.{DeclaredName}
use Rattle.lutree.specs.declared.program.TypeDeclaration.{TypeDeclaration}
use Rattle.lutree.specs.Tree.{type_view}
use Rattle.luflow.specs.declared.variable.Enum.{Enum}
use Rattle.lucore_laws.specs.Layout.{enum_of}
use Rattle.lucore_build.proofs.types.types_in.Goals as goal

pub loop-declared-preserved : goal.loop-declared-preserved
loop-declared-preserved c =
    let ds : List TypeDeclaration = c.args.types.now in
    let i = c.loop-declared.declared-index in
    let d : TypeDeclaration = c.declared-item.result in
    let lt : i < length ds = omega (arith, c.loop-declared-test.true) in
    let before = map enum_of (map type_view (take i ds)) in
    let enum : List ℕ → List (List ℕ) → Enum = λ name names. record { name = name; names = names } in
    let made = ap₂ enum c.in_ok-name.ensures (c.in_ok-names.ensures ∙ ap (map (λ (x : DeclaredName). x.name)) c.as_slice.ensures) in
    let more : map enum_of (map type_view (take (i + 1) ds)) ≡ before ++ enum_of (type_view d) ∷ [] =
    ap (λ l. map enum_of (map type_view l)) (take_more ds i d lt)
    ∙ ap (map enum_of) (map-append type_view (take i ds) (get_or ds i d ∷ []))
    ∙ map-append enum_of (map type_view (take i ds)) (type_view (get_or ds i d) ∷ [])
    ∙ ap (λ (e : TypeDeclaration). before ++ enum_of (type_view e) ∷ []) (sym c.declared-item.is) in
    c.in_ok-push.ensures.items ∙ ap (λ (l : List Enum). l ++ enum c.in_ok-name.name c.in_ok-names.names ∷ []) c.loop-declared.invariant ∙ ap (λ (e : Enum). before ++ e ∷ []) made ∙ sym more
