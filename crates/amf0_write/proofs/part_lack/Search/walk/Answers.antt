use Rattle.std.proofs.Common.{◌≡◌, ◌+◌, ◌<◌, ◌++◌, ◌∷◌, [], length, reverse, sym, ap, ◌∙◌, subst, arith}
use Rattle.std.proofs.lemmas.List.{length-append, length-reverse, append-nil, nil_from_length}
use Rattle.amf_graph.specs.declared.value.Value.TheVariants.{Node as NodeRef}
use Rattle.amf_graph.specs.Arena.{Names}
use Rattle.amf_graph.specs.Rooted.{content}
use Rattle.amf_graph.proofs.Reaching.{order_once}
use Rattle.amf0_write.specs.Searched.{Searched, unmet}
use Rattle.amf0_write.proofs.Runs0.{rest_of, top_of, each_append, all_reverse}
use Rattle.amf0_write.proofs.SearchStack.{stacked, leaf_off, node_off, met_before, values_on}
use Rattle.amf0_write.proofs.part_lack.Search.walk.Goals as goal

pub loop-value-init : goal.loop-value-init
loop-value-init c =
    let g = content c.args.graph.now in
    let a = c.args.graph.now.arena in
    record {
      few = c.requires.few;
      room = c.requires.room;
      waits = rw (c.in_ok-waiting.ensures.items) (c.requires.value, tt);
      searched = λ outside before from h. subst (λ z. Searched g outside before from c.args.numbering.now c.args.self.now (stacked a z)) (sym c.in_ok-waiting.ensures.items) h;
    }

pub meet-requires-clause-there : goal.meet-requires-clause-there
meet-requires-clause-there c =
    let top : c.loop-value.waiting.items ≡ c.pop.new.self.items ++ NodeRef c.in-Node.node ∷ [] = c.in-Some.ensures.items ∙ ap (λ w. c.pop.new.self.items ++ w ∷ []) c.in-Node.is in
    top_of (Names c.args.graph.now.arena) c.loop-value.waiting.items c.pop.new.self.items (NodeRef c.in-Node.node) top c.loop-value.invariant.waits

pub meet-requires-clause-room : goal.meet-requires-clause-room
meet-requires-clause-room c = c.loop-value.invariant.room

pub meet-requires-clause-few : goal.meet-requires-clause-few
meet-requires-clause-few c = c.loop-value.invariant.few

pub values_met-requires : goal.values_met-requires
values_met-requires c =
    let top : c.loop-value.waiting.items ≡ c.pop.new.self.items ++ NodeRef c.in-Node.node ∷ [] = c.in-Some.ensures.items ∙ ap (λ w. c.pop.new.self.items ++ w ∷ []) c.in-Node.is in
    top_of (Names c.args.graph.now.arena) c.loop-value.waiting.items c.pop.new.self.items (NodeRef c.in-Node.node) top c.loop-value.invariant.waits

pub loop-value-preserved : goal.loop-value-preserved
loop-value-preserved c =
    let g = content c.args.graph.now in
    let a = c.args.graph.now.arena in
    let inv = c.loop-value.invariant in
    let order = c.args.numbering.now in
    let rest = c.pop.new.self.items in
    record {
      few = inv.few;
      room = inv.room;
      waits = rest_of (Names a) c.loop-value.waiting.items rest c.in-Some.value c.in-Some.ensures.items inv.waits;
      searched = λ outside before from h. leaf_off g outside before from order (order_once g order c.requires.order) a c.loop-value.self c.loop-value.waiting.items rest c.in-Some.value c.in-Some.ensures.items c.in_default-value.not-Node (inv.searched outside before from h);
    }

pub loop-value-preserved-else-meet : goal.loop-value-preserved-else-meet
loop-value-preserved-else-meet c =
    let g = content c.args.graph.now in
    let a = c.args.graph.now.arena in
    let inv = c.loop-value.invariant in
    let order = c.args.numbering.now in
    let i = c.in-Node.node in
    let rest = c.pop.new.self.items in
    let top : c.loop-value.waiting.items ≡ rest ++ NodeRef i ∷ [] = c.in-Some.ensures.items ∙ ap (λ w. rest ++ w ∷ []) c.in-Node.is in
    let once = order_once g order c.requires.order in
    record {
      few = c.meet.ensures.few;
      room = c.meet.ensures.room ∙ inv.room;
      waits = rest_of (Names a) c.loop-value.waiting.items rest (NodeRef i) top inv.waits;
      searched = λ outside before from h. met_before g outside before from order once a c.meet.new.self c.meet.result rest i.0 c.if-meet.false (c.meet.ensures.searched outside before from (stacked a rest) (node_off g outside before from order once a c.loop-value.self c.loop-value.waiting.items rest i top (inv.searched outside before from h)));
    }

pub loop-value-preserved-then-meet : goal.loop-value-preserved-then-meet
loop-value-preserved-then-meet c =
    let g = content c.args.graph.now in
    let a = c.args.graph.now.arena in
    let inv = c.loop-value.invariant in
    let order = c.args.numbering.now in
    let i = c.in-Node.node in
    let rest = c.pop.new.self.items in
    let parts = c.in_ok-parts.parts.items in
    let top : c.loop-value.waiting.items ≡ rest ++ NodeRef i ∷ [] = c.in-Some.ensures.items ∙ ap (λ w. rest ++ w ∷ []) c.in-Node.is in
    let once = order_once g order c.requires.order in
    let stack : c.append.new.self.items ≡ rest ++ reverse parts = c.in_ok-append.ensures.items ∙ ap (λ w. rest ++ w) c.reverse.ensures.items in
    record {
      few = c.meet.ensures.few;
      room = c.meet.ensures.room ∙ inv.room;
      waits = rw (stack) (each_append (Names a) rest (reverse parts) (rest_of (Names a) c.loop-value.waiting.items rest (NodeRef i) top inv.waits) (all_reverse (Names a) parts c.in_ok-parts.ensures.names));
      searched = λ outside before from h. values_on g outside before from order once a c.meet.new.self c.meet.result rest parts c.append.new.self.items i.0 c.if-meet.true stack c.in_ok-parts.ensures.values (c.meet.ensures.searched outside before from (stacked a rest) (node_off g outside before from order once a c.loop-value.self c.loop-value.waiting.items rest i top (inv.searched outside before from h)));
    }

pub loop-value-smaller-then-meet : goal.loop-value-smaller-then-meet
loop-value-smaller-then-meet c =
    let i = c.in-Node.node in
    let rest = c.pop.new.self.items in
    let parts = c.in_ok-parts.parts.items in
    let top : c.loop-value.waiting.items ≡ rest ++ NodeRef i ∷ [] = c.in-Some.ensures.items ∙ ap (λ w. rest ++ w ∷ []) c.in-Node.is in
    let less = c.meet.ensures.less c.if-meet.true in
    let stack : c.append.new.self.items ≡ rest ++ reverse parts = c.in_ok-append.ensures.items ∙ ap (λ w. rest ++ w) c.reverse.ensures.items in
    let few : length parts < 18446744073709551616 = omega (arith, c.in_ok-parts.parts.ok.0, c.in_ok-parts.parts.small) in
    let grown : length c.append.new.self.items ≡ length rest + length parts = ap length stack ∙ length-append rest (reverse parts) ∙ ap (λ k. length rest + k) (length-reverse parts) in
    let one : length c.loop-value.waiting.items ≡ length rest + 1 = ap length top ∙ length-append rest (NodeRef i ∷ []) in
    omega (arith, less, few, grown, one)

pub loop-value-smaller-else-meet : goal.loop-value-smaller-else-meet
loop-value-smaller-else-meet c =
    let i = c.in-Node.node in
    let rest = c.pop.new.self.items in
    let top : c.loop-value.waiting.items ≡ rest ++ NodeRef i ∷ [] = c.in-Some.ensures.items ∙ ap (λ w. rest ++ w ∷ []) c.in-Node.is in
    let same = ap (λ v. unmet v.items) (c.meet.ensures.same c.if-meet.false) in
    let one : length c.loop-value.waiting.items ≡ length rest + 1 = ap length top ∙ length-append rest (NodeRef i ∷ []) in
    omega (arith, same, one)

pub returns : goal.returns
returns c = λ outside before from h.
    let g = content c.args.graph.now in
    let a = c.args.graph.now.arena in
    let none : c.pop.new.self.items ≡ [] = nil_from_length c.pop.new.self.items (sym c.pop.new.self.ok.0 ∙ c.in_default.ensures.cases.1) in
    let empty : c.loop-value.waiting.items ≡ [] = c.in_default.ensures.items ∙ append-nil c.pop.new.self.items ∙ none in
    subst (λ z. Searched g outside before from c.args.numbering.now c.loop-value.self (stacked a z)) empty (c.loop-value.invariant.searched outside before from h)
