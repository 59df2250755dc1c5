use Rattle.std.proofs.Common.{◌≡◌, ◌∙◌, ◌+◌, ◌<◌, ◌≤◌, ◌++◌, [], ◌∷◌, length, map, take, get_or, Contains, true, false, inl, inr, sym, ap, subst}
use Rattle.std.proofs.lemmas.List.{take_more, take_all, map-append}
use Rattle.std.proofs.lemmas.List.Elements.{Contains-push_cases}
use Rattle.lustat_rules.specs.ClockRefs.{the_pattern}
use Rattle.lustat_init.specs.declared.begun.Beginning.{Beginning}
use Rattle.lustat_init.specs.Beginnings.{Begun, begun_view}
use Rattle.lustat_init.proofs.begun.BeginningTable.has_among.Goals as goal

pub loop-b-preserved : goal.loop-b-preserved
loop-b-preserved c h =
    let all = c.args.self.now.all.items in
    let i = c.loop-b.b-index in
    let x : Beginning = c.b-item.result in
    let b : Begun = record { name = c.args.name.now; pattern = the_pattern c.args.pattern.now } in
    let here : x ≡ get_or all i x = c.b-item.is ∙ ap (λ l. get_or l i x) c.deref-b-items.ensures.value in
    let lt : i < length all = subst (λ l. i < length l) c.deref-b-items.ensures.value c.loop-b-test.true in
    let more : map begun_view (take (i + 1) all) ≡ map begun_view (take i all) ++ begun_view x ∷ [] =
    ap (map begun_view) (take_more all i x lt) ∙ map-append begun_view (take i all) (get_or all i x ∷ []) ∙ ap (λ (y : Beginning). map begun_view (take i all) ++ begun_view y ∷ []) (sym here) in
    elim (Contains-push_cases (map begun_view (take i all)) (begun_view x) b (subst (λ l. Contains l b) more h)) [
      | inl before ↦ c.loop-b.invariant before
      | inr same ↦ let no : true ≡ false = sym (c.is.ensures.1 same) ∙ c.if-is.false in absurd cc
    ]

pub returns : goal.returns
returns c =
    let all = c.args.self.now.all.items in
    let b : Begun = record { name = c.args.name.now; pattern = the_pattern c.args.pattern.now } in
    let le : length all ≤ c.loop-b.b-index = subst (λ l. length l ≤ c.loop-b.b-index) c.deref-b-items.ensures.value c.loop-b-test.false in (
      λ h. absurd (let no : false ≡ true = h in cc),
      λ h. absurd (c.loop-b.invariant (subst (λ l. Contains (map begun_view l) b) (sym (take_all c.loop-b.b-index all le)) h)),
    )
