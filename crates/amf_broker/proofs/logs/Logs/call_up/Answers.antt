-- The log is written back as it was seen.
use Rattle.std.proofs.Common.{set, ap, ◌∙◌}
use Rattle.std.proofs.lemmas.List.{set-get_or}
use Rattle.amf_broker.proofs.logs.Logs.call_up.Goals as goal

pub invariant_of-self : goal.invariant_of-self
invariant_of-self c =
    let same = ap (set c.self.inside.list.items c.args.place) (c.call_up.ensures ∙ c.index_mut.ensures.value) ∙ set-get_or c.self.inside.list.items c.args.place c.index_mut.result.now in
    rw same c.self.invariant

pub returns : goal.returns
returns c = rw (← c.self.view_is) (ap (set c.self.inside.list.items c.args.place) (c.call_up.ensures ∙ c.index_mut.ensures.value) ∙ set-get_or c.self.inside.list.items c.args.place c.index_mut.result.now)
