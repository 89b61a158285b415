use Rattle.std.proofs.Common.{map}
use Rattle.amf_text_pages.specs.Pages.{kept_of}
use Rattle.amf_text_graphs.proofs.Fronts.{telling_begins, telling_at, telling_sound, telling_more}
use Rattle.amf_text_graphs.proofs.graphs.tell_all.Goals as goal

pub loop-node-init : goal.loop-node-init
loop-node-init c =
    telling_begins c.args.rows.now c.args.book.now c.args.nodes.items c.into_iter-node-iterator.result.rest.items
    c.into_iter-node-iterator.ensures.into_iter_gives.0
    c.requires.begun c.requires.sound

pub tell-requires-clause-sound : goal.tell-requires-clause-sound
tell-requires-clause-sound c =
    let rest = c.next.new.self.rest.items in
    let at = telling_at _ _ _ _ rest c.in-Some.node _ c.in-Some.ensures.steps.0 c.loop-node.invariant in
    telling_sound c.args.rows.now c.loop-node.book (map kept_of c.args.nodes.items) (map kept_of rest) (kept_of c.in-Some.node) c.loop-node.place at

pub loop-node-preserved : goal.loop-node-preserved
loop-node-preserved c =
    let rest = c.next.new.self.rest.items in
    let at = telling_at _ _ _ _ rest c.in-Some.node _ c.in-Some.ensures.steps.0 c.loop-node.invariant in
    telling_more c.args.rows.now c.loop-node.book c.tell.new.book (map kept_of c.args.nodes.items) (map kept_of rest) (kept_of c.in-Some.node)
    c.loop-node.place at c.in_ok-tell.ensures
