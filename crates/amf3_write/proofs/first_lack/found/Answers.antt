use Rattle.std.proofs.Common.{◌≡◌, ◌+◌, ◌<◌, ◌++◌, ◌∷◌, [], true, false, length, set, slice_get, Some, reverse, sym, ap, ◌∙◌, subst, arith, append_assoc}
use Rattle.std.proofs.lemmas.List.{map-append, length-map, length-set, length-append, length-reverse, append-nil, nil_from_length}
use Rattle.std.proofs.lemmas.Option.{slice_get_read}
use Rattle.amf_graph.specs.declared.value.Value.TheVariants.{Node as NodeRef}
use Rattle.amf_graph.specs.Order.{Absent, Walks, over}
use Rattle.amf_graph.specs.Renumbered.{numbers_of}
use Rattle.amf_graph.specs.Rooted.{content}
use Rattle.amf_graph.specs.Arena.{Names, node_content, value_content}
use Rattle.amf_graph.proofs.Counting.{missing, missing_push}
use Rattle.amf3_write.specs.Found.{AreSeen}
use Rattle.amf3_write.proofs.Wrote.{each_append}
use Rattle.amf3_write.proofs.FoundSteps.{met_then, stacked, all_reverse, past_leaf, met_again, met_first, not_seen, seen_push, rest_of, top_of}
use Rattle.amf3_write.proofs.first_lack.found.Goals as goal

pub loop-value-init : goal.loop-value-init
loop-value-init c =
    let g = content c.args.graph.now in
    let a = c.args.graph.now.arena in
    let met = numbers_of c.args.met.now in
    let none : met_then c.args.met.now c.new-found.result.items ≡ met = ap (met_then c.args.met.now) c.new-found.ensures.items ∙ append-nil met in
    record {
      seen = subst (λ w. AreSeen w c.in_ok-seen.seen.items) (sym none) c.in_ok-seen.ensures.seen;
      room = c.in_ok-seen.ensures.room;
      within = rw (c.new-found.ensures.items) tt;
      waits = rw (c.in_ok-waiting.ensures.items) (c.requires.value, tt);
      walk = λ all w. subst (λ z. Walks g z (value_content a c.args.value ∷ []) all) none (subst (λ z. Walks g (met_then c.args.met.now c.new-found.result.items) (stacked a z) all) c.in_ok-waiting.ensures.items w);
    }

pub index-requires : goal.index-requires
index-requires c =
    let top : c.loop-value.waiting.items ≡ c.pop.new.self.items ++ NodeRef c.in-Node.node ∷ [] = c.in-Some.ensures.items ∙ ap (λ w. c.pop.new.self.items ++ w ∷ []) c.in-Node.is in
    let there = top_of (Names c.args.graph.now.arena) c.loop-value.waiting.items c.pop.new.self.items (NodeRef c.in-Node.node) top c.loop-value.invariant.waits in
    omega (arith, there, c.loop-value.invariant.room, c.loop-value.seen.ok)

pub index_mut-requires : goal.index_mut-requires
index_mut-requires c =
    let top : c.loop-value.waiting.items ≡ c.pop.new.self.items ++ NodeRef c.in-Node.node ∷ [] = c.in-Some.ensures.items ∙ ap (λ w. c.pop.new.self.items ++ w ∷ []) c.in-Node.is in
    let there = top_of (Names c.args.graph.now.arena) c.loop-value.waiting.items c.pop.new.self.items (NodeRef c.in-Node.node) top c.loop-value.invariant.waits in
    omega (arith, there, c.loop-value.invariant.room, c.loop-value.seen.ok)

pub values_met-requires : goal.values_met-requires
values_met-requires c =
    let top : c.loop-value.waiting.items ≡ c.pop.new.self.items ++ NodeRef c.in-Node.node ∷ [] = c.in-Some.ensures.items ∙ ap (λ w. c.pop.new.self.items ++ w ∷ []) c.in-Node.is in
    top_of (Names c.args.graph.now.arena) c.loop-value.waiting.items c.pop.new.self.items (NodeRef c.in-Node.node) top c.loop-value.invariant.waits

pub loop-value-preserved-else-not-index : goal.loop-value-preserved-else-not-index
loop-value-preserved-else-not-index c =
    let g = content c.args.graph.now in
    let a = c.args.graph.now.arena in
    let inv = c.loop-value.invariant in
    let i = c.in-Node.node in
    let rest = c.pop.new.self.items in
    let top : c.loop-value.waiting.items ≡ rest ++ NodeRef i ∷ [] = c.in-Some.ensures.items ∙ ap (λ w. rest ++ w ∷ []) c.in-Node.is in
    let there : i.0 < length a.nodes = top_of (Names a) c.loop-value.waiting.items rest (NodeRef i) top inv.waits in
    let read : slice_get c.loop-value.seen.items i.0 ≡ Some true = slice_get_read c.loop-value.seen.items (length a.nodes) i.0 c.index.result.now (sym inv.room) there c.index.ensures ∙ ap (λ w. Some w) c.if-not-index.false in
    let at = inv.seen.among i.0 read in
    record {
      seen = inv.seen;
      room = inv.room;
      within = inv.within;
      waits = rest_of (Names a) c.loop-value.waiting.items rest (NodeRef i) top inv.waits;
      walk = met_again g a (numbers_of c.args.met.now) (value_content a c.args.value ∷ []) (met_then c.args.met.now c.loop-value.found.items) c.loop-value.waiting.items rest i at.0 top at.1 inv.walk;
    }

pub loop-value-preserved : goal.loop-value-preserved
loop-value-preserved c =
    let g = content c.args.graph.now in
    let a = c.args.graph.now.arena in
    let inv = c.loop-value.invariant in
    let rest = c.pop.new.self.items in
    record {
      seen = inv.seen;
      room = inv.room;
      within = inv.within;
      waits = rest_of (Names a) c.loop-value.waiting.items rest c.in-Some.value c.in-Some.ensures.items inv.waits;
      walk = past_leaf g a (numbers_of c.args.met.now) (value_content a c.args.value ∷ []) (met_then c.args.met.now c.loop-value.found.items) c.loop-value.waiting.items rest c.in-Some.value c.in-Some.ensures.items c.in_default-value.not-Node inv.walk;
    }

pub loop-value-preserved-then-not-index : goal.loop-value-preserved-then-not-index
loop-value-preserved-then-not-index c =
    let g = content c.args.graph.now in
    let a = c.args.graph.now.arena in
    let inv = c.loop-value.invariant in
    let i = c.in-Node.node in
    let sofar = c.loop-value.found.items in
    let met = met_then c.args.met.now sofar in
    let rest = c.pop.new.self.items in
    let top : c.loop-value.waiting.items ≡ rest ++ NodeRef i ∷ [] = c.in-Some.ensures.items ∙ ap (λ w. rest ++ w ∷ []) c.in-Node.is in
    let there : i.0 < length a.nodes = top_of (Names a) c.loop-value.waiting.items rest (NodeRef i) top inv.waits in
    let read : slice_get c.loop-value.seen.items i.0 ≡ Some false = slice_get_read c.loop-value.seen.items (length a.nodes) i.0 c.index.result.now (sym inv.room) there c.index.ensures ∙ ap (λ w. Some w) c.if-not-index.true in
    let new : Absent met i.0 = not_seen met c.loop-value.seen.items i.0 inv.seen read in
    let pushed : met_then c.args.met.now c.push.new.self.items ≡ met ++ i.0 ∷ [] = ap (met_then c.args.met.now) c.in_ok-push.ensures.items ∙ ap (λ w. numbers_of c.args.met.now ++ w) (map-append (λ n. n.0) sofar (i ∷ [])) ∙ sym (append_assoc (numbers_of c.args.met.now) (numbers_of sofar) (i.0 ∷ [])) in
    let stack : c.append.new.self.items ≡ rest ++ reverse c.in_ok-parts.parts.items = c.in_ok-append.ensures.items ∙ ap (λ w. rest ++ w) c.reverse.ensures.items in
    record {
      seen = subst (λ w. AreSeen w (set c.loop-value.seen.items i.0 true)) (sym pushed) (seen_push met c.loop-value.seen.items i.0 inv.seen (omega (arith, there, inv.room)));
      room = length-set c.loop-value.seen.items i.0 true ∙ inv.room;
      within = rw (c.in_ok-push.ensures.items) (each_append (λ n. n.0 < length a.nodes) sofar (i ∷ []) inv.within (there, tt));
      waits = rw (stack) (each_append (Names a) rest (reverse c.in_ok-parts.parts.items) (rest_of (Names a) c.loop-value.waiting.items rest (NodeRef i) top inv.waits) (all_reverse (Names a) c.in_ok-parts.parts.items c.in_ok-parts.ensures.names));
      walk = rw (pushed, stack)
          (met_first g a (numbers_of c.args.met.now) (value_content a c.args.value ∷ []) met c.loop-value.waiting.items rest c.in_ok-parts.parts.items i top (subst (λ n. i.0 < n) (sym (length-map a.nodes (node_content a))) there) new c.in_ok-parts.ensures.values inv.walk);
    }

pub loop-value-smaller-then-not-index : goal.loop-value-smaller-then-not-index
loop-value-smaller-then-not-index c =
    let a = c.args.graph.now.arena in
    let inv = c.loop-value.invariant in
    let i = c.in-Node.node in
    let sofar = c.loop-value.found.items in
    let met = met_then c.args.met.now sofar in
    let rest = c.pop.new.self.items in
    let top : c.loop-value.waiting.items ≡ rest ++ NodeRef i ∷ [] = c.in-Some.ensures.items ∙ ap (λ w. rest ++ w ∷ []) c.in-Node.is in
    let there : i.0 < length a.nodes = top_of (Names a) c.loop-value.waiting.items rest (NodeRef i) top inv.waits in
    let read : slice_get c.loop-value.seen.items i.0 ≡ Some false = slice_get_read c.loop-value.seen.items (length a.nodes) i.0 c.index.result.now (sym inv.room) there c.index.ensures ∙ ap (λ w. Some w) c.if-not-index.true in
    let new : Absent met i.0 = not_seen met c.loop-value.seen.items i.0 inv.seen read in
    let pushed : met_then c.args.met.now c.push.new.self.items ≡ met ++ i.0 ∷ [] = ap (met_then c.args.met.now) c.in_ok-push.ensures.items ∙ ap (λ w. numbers_of c.args.met.now ++ w) (map-append (λ n. n.0) sofar (i ∷ [])) ∙ sym (append_assoc (numbers_of c.args.met.now) (numbers_of sofar) (i.0 ∷ [])) in
    let less : missing (length a.nodes) (met_then c.args.met.now c.push.new.self.items) < missing (length a.nodes) met = subst (λ w. missing (length a.nodes) w < missing (length a.nodes) met) (sym pushed) (missing_push (length a.nodes) i.0 met there new) in
    let stack : c.append.new.self.items ≡ rest ++ reverse c.in_ok-parts.parts.items = c.in_ok-append.ensures.items ∙ ap (λ w. rest ++ w) c.reverse.ensures.items in
    let few : length c.in_ok-parts.parts.items < 18446744073709551616 = omega (arith, c.in_ok-parts.parts.ok.0, c.in_ok-parts.parts.small) in
    let grown : length c.append.new.self.items ≡ length rest + length c.in_ok-parts.parts.items = ap length stack ∙ length-append rest (reverse c.in_ok-parts.parts.items) ∙ ap (λ k. length rest + k) (length-reverse c.in_ok-parts.parts.items) in
    let one : length c.loop-value.waiting.items ≡ length rest + 1 = ap length top ∙ length-append rest (NodeRef i ∷ []) in
    omega (arith, less, few, grown, one)

pub returns-clause-found : goal.returns-clause-found
returns-clause-found c =
    let none : c.pop.new.self.items ≡ [] = nil_from_length c.pop.new.self.items (sym c.pop.new.self.ok.0 ∙ c.in_default.ensures.cases.1) in
    let empty : c.loop-value.waiting.items ≡ [] = c.in_default.ensures.items ∙ append-nil c.pop.new.self.items ∙ none in
    c.loop-value.invariant.walk (met_then c.args.met.now c.loop-value.found.items) (rw (empty) over)
