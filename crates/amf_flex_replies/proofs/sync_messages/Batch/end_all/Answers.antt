use Rattle.std.proofs.Common.{◌≡◌, ◌∙◌, ◌+◌, List, [], ◌∷◌, ◌++◌, map, take, sym, ap, subst, arith}
use Rattle.std.proofs.lemmas.List.{map_more, take_all}
use Rattle.amf_graph.specs.Graph.{Graph}
use Rattle.amf_graph.proofs.Alls.{all_at}
use Rattle.flex_msgs.specs.declared.reply.Reply.{Reply}
use Rattle.flex_msgs.specs.Answers.{invalidate_graph}
use Rattle.flex_msgs.specs.Built.{IsReply, IsShortReply}
use Rattle.amf_flex_replies.specs.Batching.{Adds}
use Rattle.amf_flex_replies.proofs.Batched.{adds_none, adds_then}
use Rattle.amf_flex_replies.proofs.sync_messages.Batch.end_all.Goals as goal

pub loop-reply-init : goal.loop-reply-init
loop-reply-init c = record { adds = adds_none c.args.self.now; texts = omega arith; traits = omega arith; nodes = omega arith; count = omega arith; within = omega arith }

pub end-requires-clause-texts : goal.end-requires-clause-texts
end-requires-clause-texts c = subst IsReply (sym c.reply-item.is) (all_at IsReply c.args.replies.now c.loop-reply.reply-index c.reply-item.result c.loop-reply-test.true c.requires.texts)

pub end-requires-clause-short : goal.end-requires-clause-short
end-requires-clause-short c = subst IsShortReply (sym c.reply-item.is) (all_at IsShortReply c.args.replies.now c.loop-reply.reply-index c.reply-item.result c.loop-reply-test.true c.requires.short)

pub end-requires-clause-room : goal.end-requires-clause-room
end-requires-clause-room c =
    let i = c.loop-reply.invariant in
    let t = c.loop-reply-test.true in
    let few = c.requires.few in
    let room = c.requires.room in
    record { texts = omega (arith, i.texts, t, few, room.texts); traits = omega (arith, i.traits, t, few, room.traits); nodes = omega (arith, i.nodes, t, few, room.nodes) }

pub loop-reply-preserved : goal.loop-reply-preserved
loop-reply-preserved c =
    let l = c.loop-reply in
    let i = l.reply-index in
    let xs = c.args.replies.now in
    let r = c.reply-item.result in
    let h = c.in_ok-end.ensures in
    let more : map invalidate_graph (take (i + 1) xs) ≡ map invalidate_graph (take i xs) ++ invalidate_graph r ∷ [] = map_more invalidate_graph xs i r c.loop-reply-test.true ∙ ap (λ (z : Reply). map invalidate_graph (take i xs) ++ invalidate_graph z ∷ []) (sym c.reply-item.is) in
    record {
      adds = subst (λ (gs : List Graph). Adds c.args.self.now c.end.new.self gs) (sym more) (adds_then c.args.self.now l.self c.end.new.self (map invalidate_graph (take i xs)) (invalidate_graph r) l.invariant.adds h.adds);
      texts = omega (arith, l.invariant.texts, h.grew.texts);
      traits = omega (arith, l.invariant.traits, h.grew.traits);
      nodes = omega (arith, l.invariant.nodes, h.grew.nodes);
      count = omega (arith, l.invariant.count, h.count);
      within = omega (arith, c.loop-reply-test.true);
    }

pub returns-clause-adds : goal.returns-clause-adds
returns-clause-adds c =
    let xs = c.args.replies.now in
    subst (λ (rs : List Reply). Adds c.args.self.now c.loop-reply.self (map invalidate_graph rs)) (take_all c.loop-reply.reply-index xs c.loop-reply-test.false) c.loop-reply.invariant.adds

pub returns-clause-grew : goal.returns-clause-grew
returns-clause-grew c =
    let i = c.loop-reply.invariant in
    let few = c.requires.few in
    record { texts = omega (arith, i.texts, i.within, few); traits = omega (arith, i.traits, i.within, few); nodes = omega (arith, i.nodes, i.within, few) }

pub returns-clause-count : goal.returns-clause-count
returns-clause-count c = omega (arith, c.loop-reply.invariant.count, c.loop-reply.invariant.within, c.requires.few)
