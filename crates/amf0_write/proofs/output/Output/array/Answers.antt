use Rattle.std.proofs.Common.{◌∷◌, refl, ap, sym, subst, length, arith}
use Rattle.std.specs.Int.{to_be_bytes, w32}
use Rattle.std.proofs.lemmas.List.{length-map}
use Rattle.amf_graph.specs.Arena.{value_content}
use Rattle.amf_graph.specs.ByName.{by_name}
use Rattle.amf_iso.specs.Contents.{pairs_of, values_of}
use Rattle.amf0_write.specs.Writes0.{Adds, values_then, pairs_then, ecma, strict}
use Rattle.amf0_write.proofs.MetValues0.{none_from, some_from, pairs_none, pairs_length}
use Rattle.amf0_write.proofs.Runs0.{on_ok}
use Rattle.amf0_write.proofs.output.Output.array.Goals as goal

pub returns-in_ok-counted-clause-opened : goal.returns-in_ok-counted-clause-opened
returns-in_ok-counted-clause-opened c =
    let a = c.args.graph.now.arena in
    let o = c.args.self.now in
    let none = none_from c.args.names.now c.is_empty.result c.is_empty.ensures c.if-is_empty.true in
    let same = length-map c.args.items.now (value_content a) in
    on_ok c.push_values.result (λ e. record {
      bytes = 0x0A ∷ to_be_bytes w32 (length (values_of a c.args.items.now));
      segments = values_then (values_of a c.args.items.now);
      is = strict refl (ap (pairs_of a) none) (omega (arith, same, c.requires.few));
      adds = subst (λ k. Adds (0x0A ∷ to_be_bytes w32 k) o c.counted.new.self) (sym same) c.in_ok-counted.ensures.adds;
      left = e;
    }) (c.push_values.ensures.left a)

pub returns-in_ok-counted-clause-runs : goal.returns-in_ok-counted-clause-runs
returns-in_ok-counted-clause-runs c = λ h. c.push_values.ensures.runs c.args.graph.now c.requires.items h

pub returns-in_ok-counted-clause-turns : goal.returns-in_ok-counted-clause-turns
returns-in_ok-counted-clause-turns c = on_ok c.push_values.result (λ e. omega (arith, e, c.requires.few)) c.push_values.ensures.turns

pub returns-in_ok-counted-2-clause-opened : goal.returns-in_ok-counted-2-clause-opened
returns-in_ok-counted-2-clause-opened c =
    let a = c.args.graph.now.arena in
    let o = c.args.self.now in
    let m = c.counted-else-is_empty.new.self in
    let filled = some_from c.args.names.now c.is_empty.result c.is_empty.ensures c.if-is_empty.false in
    let same = pairs_length a c.args.names.now in
    on_ok c.push_pairs.result (λ e. record {
      bytes = 0x08 ∷ to_be_bytes w32 (length (pairs_of a c.args.names.now));
      segments = pairs_then (by_name (pairs_of a c.args.names.now));
      is = ecma refl (ap (values_of a) (c.requires.form filled)) (λ z. filled (pairs_none a c.args.names.now z)) (omega (arith, same, c.requires.few_names));
      adds = subst (λ k. Adds (0x08 ∷ to_be_bytes w32 k) o m) (sym same) c.in_ok-counted-2.ensures.adds;
      left = e;
    }) c.push_pairs.ensures.left
