use Rattle.std.proofs.Common.{List, arith, refl, subst, sym, ◌∙◌}
use Rattle.luflow.specs.declared.data.Status.{Status}
use Rattle.lusite.specs.Machine.{Stands, is_faulted, pasts_of}
use Rattle.lusite.proofs.SiteStates.{going_state}
use Rattle.lusite.proofs.Reported.{note_given}
use Rattle.lusite.proofs.Turns.{given_next, given_at}
use Rattle.lusite.proofs.SiteFlows.{row_within}
use Rattle.lusite.proofs.Rows.{shown_body}
use Rattle.lusite.proofs.state.SiteState.given_message.Goals as goal

pub show_body-requires : goal.show_body-requires
show_body-requires c =
    let a = c.args.self.now in
    let r = c.requires in
    let set = r.going.in_order.set in
    let l = row_within a set (given_at a c.args.msg r.going r.ready r.next).1 in
    omega (arith, l, set.shown_fit)

pub returns-clause-goes_on : goal.returns-clause-goes_on
returns-clause-goes_on c =
    let a = c.args.self.now in
    let r = c.requires in
    let set = r.going.in_order.set in
    let w = given_at a c.args.msg r.going r.ready r.next in
    let e = shown_body a set (row_within a set w.1) c.show_body.new.shown.items c.args.msg.body c.show_body.ensures.shown in
    record {
      same = record { program_is = refl; inputs_is = refl };
      in_order = record {
        set = record {
          is_job = set.is_job;
          plan_is = set.plan_is;
          site_is = set.site_is;
          rank_is = set.rank_is;
          kept_are = set.kept_are;
          row_in = set.row_in;
          shown_fit = c.show_body.ensures.len ∙ set.shown_fit;
          lasts_fit = set.lasts_fit;
          pasts_fit = set.pasts_fit;
          logs_fit = set.logs_fit;
        };
        stands = subst (λ (xs : List Status). Stands a.inputs.job a.inputs.site xs (pasts_of a) a.instant a.place.value 1 (is_faulted a)) (sym e) (given_next a c.args.msg r.going r.ready r.next).0;
        logged = note_given a (going_state a r.going) r.going.in_order.logged w.0 w.1 w.2;
      };
      fault = refl;
    }

pub returns-clause-done : goal.returns-clause-done
returns-clause-done c = (given_next c.args.self.now c.args.msg c.requires.going c.requires.ready c.requires.next).1
