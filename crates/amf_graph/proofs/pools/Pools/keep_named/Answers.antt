-- The pairs are behind the others, and the values, where there are some.
use Rattle.std.proofs.Common.{length, sym, ◌∙◌, arith}
use Rattle.std.proofs.lemmas.Bool.{eqb-true}
use Rattle.amf_graph.specs.Held.{form_head}
use Rattle.amf_graph.proofs.PoolKeeps.{named_kept, both_pushed}
use Rattle.amf_graph.proofs.pools.Pools.keep_named.Goals as goal

pub returns-clause-ok : goal.returns-clause-ok
returns-clause-ok c =
    named_kept _ _ (form_head c.args.form) c.self.inside.names.items c.args.names.now c.args.values.now c.in_ok-name_span.name_span c.in-Some.row
    (eqb-true (length c.args.values.now) 0 (sym c.is_empty.ensures ∙ c.if-is_empty.true)) c.in_ok-extend.ensures
    (c.in_ok-name_span.ensures.start ∙ c.len.ensures ∙ c.self.inside.names.ok.0) (omega (arith, c.in_ok-name_span.ensures.end)) c.in-Some.ensures.inside c.in-Some.ensures.shows

pub returns-2-clause-ok : goal.returns-2-clause-ok
returns-2-clause-ok c =
    both_pushed c.push_both.result _ _ c.self.inside.values.items c.args.values.now c.self.inside.names.items c.args.names.now c.self.inside.both.items
    (record { form = c.args.form; values = c.in_ok-value_span.value_span; names = c.in_ok-name_span.name_span })
    c.push_both.ensures.row c.push_both.ensures.rows c.in_ok-extend-2.ensures c.in_ok-extend.ensures
    (c.in_ok-value_span.ensures.start ∙ c.len-2.ensures ∙ c.self.inside.values.ok.0) (omega (arith, c.in_ok-value_span.ensures.end))
    (c.in_ok-name_span.ensures.start ∙ c.len.ensures ∙ c.self.inside.names.ok.0) (omega (arith, c.in_ok-name_span.ensures.end))
