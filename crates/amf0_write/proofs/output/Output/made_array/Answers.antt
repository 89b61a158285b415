use Rattle.std.proofs.Common.{◌≡◌, ◌++◌, ◌∷◌, refl, ap, sym, ◌∙◌, subst, reverse, length, arith}
use Rattle.std.specs.Prelude.{◌==◌}
use Rattle.std.specs.Int.{to_be_bytes, w32}
use Rattle.std.specs.List.{AllByRecursion}
use Rattle.std.proofs.lemmas.List.{length-map, reverse-reverse}
use Rattle.amf_graph.specs.Arena.{value_content}
use Rattle.amf_graph.specs.ByName.{by_name}
use Rattle.amf_iso.specs.Contents.{pairs_of, values_of}
use Rattle.amf0_write.specs.declared.unwritten.Unwritten.TheVariants.{Made}
use Rattle.amf0_write.specs.Unwritten0.{IsMetValue, segments_left}
use Rattle.amf0_write.specs.Writes0.{Adds, values_then, pairs_then, ecma, strict}
use Rattle.amf0_write.proofs.MetValues0.{none_from, some_from, pairs_none, pairs_length}
use Rattle.amf0_write.proofs.Runs0.{on_ok, all_reverse, segments_pushed, turns_pushed, runs_pushed}
use Rattle.amf0_write.proofs.output.Output.made_array.Goals as goal

pub returns-in_ok-push-clause-opened : goal.returns-in_ok-push-clause-opened
returns-in_ok-push-clause-opened c =
    let a = c.args.graph.now.arena in
    let o = c.args.self.now in
    let vs = c.args.items.items in
    let old = c.args.waiting.now.items in
    let none = none_from c.args.names.items c.is_empty.result (c.is_empty.ensures ∙ ap (λ n. n == 0) c.args.names.ok.0) c.if-is_empty.true in
    let same = length-map vs (value_content a) in
    let long : c.len.result ≡ length (values_of a vs) = omega (arith, c.len.ensures, c.args.items.ok.0, same) in
    record {
      bytes = 0x0A ∷ to_be_bytes w32 (length (values_of a vs));
      segments = values_then (values_of a vs);
      is = strict refl (ap (pairs_of a) none) (omega (arith, same, c.requires.few));
      adds = subst (λ k. Adds (0x0A ∷ to_be_bytes w32 k) o c.counted.new.self) long c.in_ok-counted.ensures.adds;
      left = segments_pushed a old c.push.new.self.items (Made c.reverse.new.self) c.in_ok-push.ensures.items ∙ ap (λ ws. values_then (values_of a ws) ++ segments_left a old) (ap reverse c.reverse.ensures.items ∙ reverse-reverse vs);
    }

pub returns-in_ok-push-clause-runs : goal.returns-in_ok-push-clause-runs
returns-in_ok-push-clause-runs c = λ h.
    let g = c.args.graph.now in
    runs_pushed g c.args.waiting.now.items c.push.new.self.items (Made c.reverse.new.self) c.in_ok-push.ensures.items h (subst (λ vs. AllByRecursion (IsMetValue g) vs) (sym c.reverse.ensures.items) (all_reverse (IsMetValue g) c.args.items.items c.requires.items))

pub returns-in_ok-push-clause-turns : goal.returns-in_ok-push-clause-turns
returns-in_ok-push-clause-turns c =
    omega (arith, turns_pushed c.args.waiting.now.items c.push.new.self.items (Made c.reverse.new.self) c.in_ok-push.ensures.items, c.reverse.ensures.len, c.requires.few)

pub returns-in_ok-counted-2-clause-opened : goal.returns-in_ok-counted-2-clause-opened
returns-in_ok-counted-2-clause-opened c =
    let a = c.args.graph.now.arena in
    let o = c.args.self.now in
    let ps = c.args.names.items in
    let m = c.counted-else-is_empty.new.self in
    let filled = some_from ps c.is_empty.result (c.is_empty.ensures ∙ ap (λ n. n == 0) c.args.names.ok.0) c.if-is_empty.false in
    let same = pairs_length a ps in
    let long : c.len-else-is_empty.result ≡ length (pairs_of a ps) = omega (arith, c.len-else-is_empty.ensures, c.args.names.ok.0, same) in
    on_ok c.push_made.result (λ e. record {
      bytes = 0x08 ∷ to_be_bytes w32 (length (pairs_of a ps));
      segments = pairs_then (by_name (pairs_of a ps));
      is = ecma refl (ap (values_of a) (c.requires.form filled)) (λ z. filled (pairs_none a ps z)) (omega (arith, same, c.requires.few_names));
      adds = subst (λ k. Adds (0x08 ∷ to_be_bytes w32 k) o m) long c.in_ok-counted-2.ensures.adds;
      left = e;
    }) c.push_made.ensures.left
