use Rattle.std.proofs.Common.{◌≡◌, ◌<◌, Some, length, slice_get, sym, ap, ◌∙◌, subst, arith}
use Rattle.std.proofs.lemmas.List.{length-map}
use Rattle.std.proofs.lemmas.Option.{slice_get_read}
use Rattle.amf_graph.specs.Arena.{node_content}
use Rattle.amf_graph.specs.Rooted.{content}
use Rattle.amf_graph.proofs.Reaching.{order_once}
use Rattle.amf0_write.specs.declared.meeting.Meeting.TheVariants.{Never}
use Rattle.amf0_write.specs.Meetings.{IsFirstReason}
use Rattle.amf0_write.specs.Searched.{MeetingLacks, unmet}
use Rattle.amf0_write.proofs.SearchSteps.{entered_less, searched_new, searched_met}
use Rattle.amf0_write.proofs.part_lack.Search.meet.Goals as goal

pub returns-in-Never-clause-searched : goal.returns-in-Never-clause-searched
returns-in-Never-clause-searched c = λ outside before from left h.
    let a = c.args.graph.now.arena in
    let g = content c.args.graph.now in
    let s = c.args.self.now in
    let i = c.args.node.0 in
    let r = c.reason-kind.result in
    let read = slice_get_read s.meetings.items (length a.nodes) i c.index-meeting.result.now (sym c.requires.room) c.requires.there c.index-meeting.ensures in
    let at : slice_get s.meetings.items i ≡ Some Never = read ∙ ap (λ m. Some m) c.in-Never.is in
    let reason = subst (λ m. IsFirstReason (MeetingLacks g i m) r) c.in-Never.is c.reason-kind.ensures in
    searched_new g outside before from c.args.numbering.now (order_once g c.args.numbering.now c.requires.order) s c.note.new.self c.enter.new.self i r left (subst (λ n. i < n) (sym (length-map a.nodes (node_content a))) c.requires.there) at reason c.note.ensures.noted c.note.ensures.meetings c.note.ensures.next c.enter.ensures.entered c.enter.ensures.least h

pub returns-in-Never-clause-few : goal.returns-in-Never-clause-few
returns-in-Never-clause-few c =
    let a = c.args.graph.now.arena in
    let s = c.args.self.now in
    let i = c.args.node.0 in
    let read = slice_get_read s.meetings.items (length a.nodes) i c.index-meeting.result.now (sym c.requires.room) c.requires.there c.index-meeting.ensures in
    let at : slice_get s.meetings.items i ≡ Some Never = read ∙ ap (λ m. Some m) c.in-Never.is in
    let same = ap (λ v. v.items) c.note.ensures.meetings in
    let x = entered_less (content c.args.graph.now) i c.note.new.self c.enter.new.self (ap (λ v. slice_get v i) same ∙ at) c.enter.ensures.entered in
    omega (arith, x.0, x.1, ap unmet same, c.note.ensures.next, c.requires.few)

pub returns-in-Never-clause-less : goal.returns-in-Never-clause-less
returns-in-Never-clause-less c = λ _.
    let a = c.args.graph.now.arena in
    let s = c.args.self.now in
    let i = c.args.node.0 in
    let read = slice_get_read s.meetings.items (length a.nodes) i c.index-meeting.result.now (sym c.requires.room) c.requires.there c.index-meeting.ensures in
    let at : slice_get s.meetings.items i ≡ Some Never = read ∙ ap (λ m. Some m) c.in-Never.is in
    let same = ap (λ v. v.items) c.note.ensures.meetings in
    let x = entered_less (content c.args.graph.now) i c.note.new.self c.enter.new.self (ap (λ v. slice_get v i) same ∙ at) c.enter.ensures.entered in
    omega (arith, x.0, ap unmet same)

pub returns-in_default : goal.returns-in_default
returns-in_default c =
    let a = c.args.graph.now.arena in
    let g = content c.args.graph.now in
    let s = c.args.self.now in
    let i = c.args.node.0 in
    let same = ap (λ v. v.items) c.note.ensures.meetings in
    record {
      searched = λ outside before from left h. searched_met g outside before from c.args.numbering.now (order_once g c.args.numbering.now c.requires.order) s c.note.new.self i c.index-meeting.result.now c.reason-kind.result left (slice_get_read s.meetings.items (length a.nodes) i c.index-meeting.result.now (sym c.requires.room) c.requires.there c.index-meeting.ensures) c.in_default.not-Never c.reason-kind.ensures c.note.ensures.noted c.note.ensures.meetings c.note.ensures.next h;
      room = ap length same;
      few = omega (arith, ap unmet same, c.note.ensures.next, c.requires.few);
      less = λ e. cc;
      same = λ _. c.note.ensures.meetings;
    }
