use Rattle.std.proofs.Common.{◌≡◌, ◌∙◌, ◌+◌, ◌<◌, ◌≤◌, ◌++◌, [], ◌∷◌, List, length, map, take, Bor, sym, ap, subst, arith}
use Rattle.std.proofs.lemmas.List.{take_more, take_all, map-append}
use Rattle.lutree.specs.declared.program.Declaration.{Declaration}
use Rattle.lustat_rules.specs.Scope.{Clock}
use Rattle.lustat_rules.specs.Scopes.{clock_list}
use Rattle.lustat_init.specs.Beginnings.{begun_view, IsBegun, AreMarked}
use Rattle.lustat_init.proofs.Beginning.{marked_push}
use Rattle.lustat_init.proofs.current.starts_of.Goals as goal

pub loop-d-preserved : goal.loop-d-preserved
loop-d-preserved c =
    let ds : List (Bor Declaration) = c.args.declarations.now in
    let i = c.loop-d.d-index in
    let d : Bor Declaration = c.d-item.result in
    let P : Clock → Type 0 = IsBegun (map begun_view c.args.table.now.all.items) in
    let lt : i < length ds = omega (arith, c.loop-d-test.true) in
    let now : Bor Declaration → Declaration = λ d. d.now in
    let clocks : clock_list (map now (take (i + 1) ds)) ≡ clock_list (map now (take i ds)) ++ d.now.clock ∷ [] =
    ap (λ l. clock_list (map now l)) (take_more ds i d lt ∙ ap (λ (b : Bor Declaration). take i ds ++ b ∷ []) (sym c.d-item.is))
    ∙ ap clock_list (map-append now (take i ds) (d ∷ [])) ∙ map-append (λ (b : Declaration). b.clock) (map now (take i ds)) (d.now ∷ []) in
    subst (AreMarked P c.push.new.self.items) (sym clocks)
    (subst (λ bs. AreMarked P bs (clock_list (map now (take i ds)) ++ d.now.clock ∷ [])) (sym c.in_ok-push.ensures.items)
    (marked_push P c.loop-d.marks.items (clock_list (map now (take i ds))) c.starts_by.result d.now.clock c.loop-d.invariant c.starts_by.ensures))

pub returns : goal.returns
returns c =
    let ds : List (Bor Declaration) = c.args.declarations.now in
    let le : length ds ≤ c.loop-d.d-index = omega (arith, c.loop-d-test.false) in
    subst (λ l. AreMarked (IsBegun (map begun_view c.args.table.now.all.items)) c.loop-d.marks.items (clock_list (map (λ (d : Bor Declaration). d.now) l))) (take_all c.loop-d.d-index ds le) c.loop-d.invariant
