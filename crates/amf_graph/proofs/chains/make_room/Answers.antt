-- All numbers are linked and marked anew.
use Rattle.std.proofs.Common.{length, drop, sym, ap, ◌∙◌, arith}
use Rattle.std.proofs.lemmas.List.{take_at}
use Rattle.amf_graph.proofs.Marks.{found_anew, none_linked}
use Rattle.amf_graph.proofs.chains.make_room.Goals as goal

pub returns-clause-found : goal.returns-clause-found
returns-clause-found c =
    let size = c.link_all.ensures.count ∙ ap length c.deref_mut.ensures.value in
    let as_many = c.mark_all.ensures.count ∙ ap length c.deref_mut-2.ensures.value in
    let buckets = take_at c.link_all.new.buckets (drop (length c.link_all.new.buckets) c.in_ok-more.more.items) c.in_ok-more.more.len (size ∙ sym c.in_ok-more.more.ok.0) in
    let marks = take_at c.mark_all.new.marks (drop (length c.mark_all.new.marks) c.in_ok-more_marks.more_marks.items) c.in_ok-more_marks.more_marks.len (as_many ∙ sym c.in_ok-more_marks.more_marks.ok.0) in
    let room = c.in_ok-more.ensures.len in
    let room_marks = c.in_ok-more_marks.ensures.len in
    rw (buckets, marks)
    (found_anew c.args.links.now c.link_all.new.links c.args.buckets.now.items c.args.marks.now.items c.link_all.new.buckets c.mark_all.new.marks (length c.deref_mut.result.now)
    c.link_all.ensures.same c.link_all.ensures.count (omega (arith, as_many, room, room_marks, ap length c.deref_mut.ensures.value)) (omega (arith, room, ap length c.deref_mut.ensures.value)) c.link_all.ensures.linked c.mark_all.ensures.marked c.requires)

pub link_all-requires-clause-none : goal.link_all-requires-clause-none
link_all-requires-clause-none c = none_linked _ c.max-room.result _ _ _ (c.deref_mut.ensures.value ∙ c.in_ok-more.ensures.items_if_clones_equal (λ y e. e))
