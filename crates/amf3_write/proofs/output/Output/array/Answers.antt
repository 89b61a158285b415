use Rattle.std.proofs.Common.{◌+◌, ◌*◌, ◌++◌, ◌∷◌, [], ap, sym, refl, subst, length, arith}
use Rattle.std.proofs.lemmas.List.{length-map}
use Rattle.amf_graph.specs.Arena.{value_content}
use Rattle.amf_graph.specs.ByName.{by_name}
use Rattle.amf_graph.specs.Rooted.{content}
use Rattle.amf3_spelling.specs.ByteSpelling.{step, number, values_then, pairs_then}
use Rattle.amf_iso.specs.Contents.{pairs_of, values_of}
use Rattle.amf3_write.specs.Unwritten.{segments_left}
use Rattle.amf3_write.specs.Writes.{WritesStep}
use Rattle.amf3_write.proofs.Wrote.{on_ok}
use Rattle.amf3_write.proofs.Leading.{leads_then, leads_to, leads_step}
use Rattle.amf3_write.proofs.Runs.{pairs_before}
use Rattle.amf3_write.proofs.output.Output.array.Goals as goal

pub returns-clause-leads : goal.returns-clause-leads
returns-clause-leads c =
    let g = content c.args.graph.now in
    let a = c.args.graph.now.arena in
    let old = segments_left a c.args.waiting.now.items in
    let mid = segments_left a c.push_values.new.waiting.items in
    let now = segments_left a c.pairs_of.new.waiting.items in
    let ws = by_name (pairs_of a c.args.names.now) in
    let vs = values_of a c.args.items.now in
    let count = ap (λ k. 2 * k + 1) (sym (length-map c.args.items.now (value_content a))) in
    let head = step (number (2 * length vs + 1)) ∷ (pairs_then ws (values_then vs []) ++ old) in
    let behind = pairs_then ws (values_then vs []) ++ old in
    let left = c.in_ok-push_values.ensures.left a in
    let begun = leads_step g (number (2 * length vs + 1)) behind c.args.self.now c.number.new.self (subst (λ j. WritesStep (number j) c.args.self.now c.number.new.self) count c.in_ok-number.ensures.ok) in
    on_ok c.pairs_of.result (λ k.
    leads_then g head (pairs_then ws [] ++ mid) now c.args.self.now c.number.new.self c.pairs_of.new.self (leads_to g head behind (pairs_then ws [] ++ mid) c.args.self.now c.number.new.self (pairs_before ws (values_then vs []) old mid (pairs_then ws [] ++ mid) left refl) begun) k) c.pairs_of.ensures.leads

pub returns-clause-turns : goal.returns-clause-turns
returns-clause-turns c =
    on_ok c.pairs_of.result (λ e. omega (arith, c.in_ok-push_values.ensures.turns, e)) c.pairs_of.ensures.turns

pub returns-clause-runs : goal.returns-clause-runs
returns-clause-runs c = c.pairs_of.ensures.runs (c.in_ok-push_values.ensures.runs c.args.graph.now.arena c.requires.values c.requires.runs)
