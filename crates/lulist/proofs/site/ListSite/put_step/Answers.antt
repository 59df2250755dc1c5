use Rattle.std.proofs.Common.{rules, ◌≡◌, ◌+◌, Some, None, sym, subst, ap, ◌∙◌}
use Rattle.std.specs.Prelude.{slice_get}
use Rattle.std.proofs.lemmas.Option.{same_Some}
use Rattle.luflow.specs.declared.message.Body.TheVariants.{Value}
use Rattle.lulink.specs.Views.{IsNextToPut}
use Rattle.lueval_lines.specs.Cells.{held}
use Rattle.lulist.specs.declared.ends.Outlet.{Outlet}
use Rattle.lueval_lines.proofs.Elements.{got}
use Rattle.lulist.proofs.Linked.{going_passed, going_sent, going_unsent, value_next}
use Rattle.lulist.proofs.site.ListSite.put_step.Goals as goal

pub returns-in_default-clause-going : goal.returns-in_default-clause-going
returns-in_default-clause-going c =
    let x = c.args.self.now in
    let s = c.index-outlet.result.now in
    let cell = c.index.result.now in
    let there : slice_get x.outlets.items c.args.e ≡ Some s = got x.outlets.items c.args.e s (search rules) c.index-outlet.ensures in
    let shows : slice_get x.shown.items s.row ≡ Some cell = got x.shown.items s.row cell (search rules) c.index.ensures in
    let none : held cell ≡ None = sym c.datum_of.ensures ∙ c.in_default.is in
    going_passed x c.requires.going c.args.e s there (search rules) (search rules) c.requires.early (search rules) cell shows c.skip_at.new.outlets c.saturating_add-self.result none (c.skip_at.ensures s there)

pub put_at-requires-clause-next : goal.put_at-requires-clause-next
put_at-requires-clause-next c = λ o found.
    let x = c.args.self.now in
    let s = c.index-outlet.result.now in
    let cell = c.index.result.now in
    let there : slice_get x.outlets.items c.args.e ≡ Some s = got x.outlets.items c.args.e s (search rules) c.index-outlet.ensures in
    let shows : slice_get x.shown.items s.row ≡ Some cell = got x.shown.items s.row cell (search rules) c.index.ensures in
    let holds : held cell ≡ Some c.in-Some.datum = sym c.datum_of.ensures ∙ c.in-Some.is in
    let same : s ≡ o = same_Some s o (sym there ∙ found) in
    subst (λ (p : Outlet). IsNextToPut p.tx (record { no = s.number; body = Value c.in-Some.datum })) same
    (value_next x c.requires.going c.args.e s there (search rules) (search rules) c.requires.early (search rules) cell shows c.in-Some.datum holds)

pub put_at-requires-clause-number : goal.put_at-requires-clause-number
put_at-requires-clause-number c = λ o found.
    let x = c.args.self.now in
    let s = c.index-outlet.result.now in
    let there : slice_get x.outlets.items c.args.e ≡ Some s = got x.outlets.items c.args.e s (search rules) c.index-outlet.ensures in
    let same : s ≡ o = same_Some s o (sym there ∙ found) in
    c.in-Some-checked_add.ensures.1 ∙ ap (λ (p : Outlet). p.number + 1) same

pub returns-in-Moved-clause-going : goal.returns-in-Moved-clause-going
returns-in-Moved-clause-going c =
    let x = c.args.self.now in
    let s = c.index-outlet.result.now in
    let cell = c.index.result.now in
    let there : slice_get x.outlets.items c.args.e ≡ Some s = got x.outlets.items c.args.e s (search rules) c.index-outlet.ensures in
    let shows : slice_get x.shown.items s.row ≡ Some cell = got x.shown.items s.row cell (search rules) c.index.ensures in
    let holds : held cell ≡ Some c.in-Some.datum = sym c.datum_of.ensures ∙ c.in-Some.is in
    let t = c.in-Moved.ensures s there in
    going_sent x c.requires.going c.args.e s there (search rules) (search rules) c.requires.early (search rules) cell shows c.put_at.new.outlets t.0 c.saturating_add-self-in-Moved.result (record { no = s.number; body = Value c.in-Some.datum }) c.in-Some.datum holds t.1 t.2

pub returns-in-Blocked-clause-going : goal.returns-in-Blocked-clause-going
returns-in-Blocked-clause-going c =
    let x = c.args.self.now in
    let s = c.index-outlet.result.now in
    let there : slice_get x.outlets.items c.args.e ≡ Some s = got x.outlets.items c.args.e s (search rules) c.index-outlet.ensures in
    let t = c.in-Blocked.ensures s there in
    going_unsent x c.requires.going c.args.e s there (search rules) (search rules) c.put_at.new.outlets t.0 (x.t + 1) (record { no = s.number; body = Value c.in-Some.datum }) t.1 t.2
