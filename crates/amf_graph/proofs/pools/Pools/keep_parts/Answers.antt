-- The values are behind the others.
use Rattle.std.proofs.Common.{length, sym, ◌∙◌, arith}
use Rattle.std.proofs.lemmas.Bool.{eqb-true}
use Rattle.amf_graph.specs.Held.{form_head}
use Rattle.amf_graph.proofs.PoolKeeps.{valued_kept}
use Rattle.amf_graph.proofs.pools.Pools.keep_parts.Goals as goal

pub returns-clause-ok : goal.returns-clause-ok
returns-clause-ok c =
    valued_kept _ _ (form_head c.args.form) c.self.inside.values.items c.args.values.now c.args.names.now c.in_ok-span.span c.of_values.result
    (eqb-true (length c.args.names.now) 0 (sym c.is_empty.ensures ∙ c.if-not-is_empty.false)) c.in_ok-extend.ensures
    (c.in_ok-span.ensures.start ∙ c.len.ensures ∙ c.self.inside.values.ok.0) (omega (arith, c.in_ok-span.ensures.end)) c.of_values.ensures.inside c.of_values.ensures.shows
