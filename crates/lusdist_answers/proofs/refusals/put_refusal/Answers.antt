use Rattle.std.proofs.Common.{sym, subst, ◌∙◌}
use Rattle.lusdist_shell.specs.Sinks.{HasPut}
use Rattle.lusdist_call.specs.Reasons.IsRefusalText.{one, each, places}
use Rattle.lusdist_answers.proofs.refusals.put_refusal.Goals as goal

pub returns-in-Ok-clause-put : goal.returns-in-Ok-clause-put
returns-in-Ok-clause-put g c =
    let h = c.in-Ok.ensures in
    record {
      text = c.in-Ok.text.items;
      told = each h.0 h.1 (sym c.asks_all.ensures ∙ c.if-asks_all.true) h.2 h.3 h.4;
      put = subst (HasPut g.V.Write.contents c.args.err.now c.put.new.self) c.deref.ensures.value c.put.ensures.put;
    }

pub returns-in-Ok-places_text-clause-put : goal.returns-in-Ok-places_text-clause-put
returns-in-Ok-places_text-clause-put g c =
    let h = c.in-Ok-places_text.ensures in
    record {
      text = c.in-Ok-places_text.text.items;
      told = places h.0 (sym c.asks_all_places.ensures ∙ c.if-asks_all_places.true) h.1 h.2;
      put = subst (HasPut g.V.Write.contents c.args.err.now c.put-in-Ok-places_text.new.self) c.deref-in-Ok-places_text.ensures.value c.put-in-Ok-places_text.ensures.put;
    }

pub returns-in-Ok-one_text-clause-put : goal.returns-in-Ok-one_text-clause-put
returns-in-Ok-one_text-clause-put g c =
    record {
      text = c.in-Ok-one_text.text.items;
      told = one (sym c.asks_all.ensures ∙ c.if-asks_all.false) (sym c.asks_all_places.ensures ∙ c.if-asks_all_places.false) c.in-Ok-one_text.ensures;
      put = subst (HasPut g.V.Write.contents c.args.err.now c.put-in-Ok-one_text.new.self) c.deref-in-Ok-one_text.ensures.value c.put-in-Ok-one_text.ensures.put;
    }
