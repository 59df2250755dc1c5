use Rattle.std.proofs.Common.{rules, ◌≡◌, ◌+◌, ◌<◌, List, length, set, Some, refl, sym, subst, ap, ◌∙◌}
use Rattle.std.specs.Prelude.{slice_get, true}
use Rattle.std.proofs.lemmas.Option.{same_Some}
use Rattle.luflow.specs.declared.message.Body.TheVariants.{Close}
use Rattle.lulink.specs.Views.{IsNextToPut}
use Rattle.lusite_program.proofs.Written.{slice_get-set_same}
use Rattle.lulist.specs.declared.ends.Outlet.{Outlet}
use Rattle.lueval_lines.proofs.Elements.{got, len_set, set_twice}
use Rattle.lulist.proofs.Linked.{close_next, going_shut, going_unsent}
use Rattle.lulist.proofs.site.ListSite.put_close.Goals as goal

pub put_at-requires-clause-next : goal.put_at-requires-clause-next
put_at-requires-clause-next c = λ o found.
    let x = c.args.self.now in
    let s = c.index-outlet.result.now in
    let there : slice_get x.outlets.items c.args.e ≡ Some s = got x.outlets.items c.args.e s (search rules) c.index-outlet.ensures in
    let same : s ≡ o = same_Some s o (sym there ∙ found) in
    subst (λ (p : Outlet). IsNextToPut p.tx (record { no = s.number; body = Close })) same
    (close_next x c.requires.going c.args.e s there (search rules) (search rules) c.requires.late)

pub put_at-requires-clause-number : goal.put_at-requires-clause-number
put_at-requires-clause-number c = λ o found.
    let x = c.args.self.now in
    let s = c.index-outlet.result.now in
    let there : slice_get x.outlets.items c.args.e ≡ Some s = got x.outlets.items c.args.e s (search rules) c.index-outlet.ensures in
    let same : s ≡ o = same_Some s o (sym there ∙ found) in
    c.in-Some.ensures.1 ∙ ap (λ (p : Outlet). p.number + 1) same

pub close_at-requires : goal.close_at-requires
close_at-requires c =
    let x = c.args.self.now in
    let s = c.index-outlet.result.now in
    let l : c.args.e < length x.outlets.items = search rules in
    let there : slice_get x.outlets.items c.args.e ≡ Some s = got x.outlets.items c.args.e s l c.index-outlet.ensures in
    let t = c.put_at.ensures s there in
    len_set x.outlets.items c.put_at.new.outlets.items c.args.e t.0 t.1 l

pub returns-in-Moved-clause-going : goal.returns-in-Moved-clause-going
returns-in-Moved-clause-going c =
    let x = c.args.self.now in
    let e = c.args.e in
    let s = c.index-outlet.result.now in
    let l : e < length x.outlets.items = search rules in
    let there : slice_get x.outlets.items e ≡ Some s = got x.outlets.items e s l c.index-outlet.ensures in
    let t = c.put_at.ensures s there in
    let y : Outlet = record t.0 { closed = true } in
    let here : slice_get c.put_at.new.outlets.items e ≡ Some t.0 = ap (λ (xs : List Outlet). slice_get xs e) t.1 ∙ slice_get-set_same x.outlets.items e t.0 l in
    let shut : c.close_at.new.outlets.items ≡ set x.outlets.items e y =
    c.close_at.ensures t.0 here ∙ ap (λ (xs : List Outlet). set xs e y) t.1 ∙ set_twice x.outlets.items e t.0 y in
    going_shut x c.requires.going e s there (search rules) (search rules) c.close_at.new.outlets y c.saturating_add-self.result shut refl

pub returns-in-Blocked-clause-going : goal.returns-in-Blocked-clause-going
returns-in-Blocked-clause-going c =
    let x = c.args.self.now in
    let s = c.index-outlet.result.now in
    let there : slice_get x.outlets.items c.args.e ≡ Some s = got x.outlets.items c.args.e s (search rules) c.index-outlet.ensures in
    let t = c.in-Blocked.ensures s there in
    going_unsent x c.requires.going c.args.e s there (search rules) (search rules) c.put_at.new.outlets t.0 x.t (record { no = s.number; body = Close }) t.1 t.2
