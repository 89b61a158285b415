-- From chunk to chunk: one gives a message, or none, or it ends there.
use Rattle.std.proofs.Common.{[], ap, sym, ◌∙◌, subst, Ok, ◌<◌, length, ℕ}
use Rattle.amf_io.specs.Cursor.{unread}
use Rattle.amf_io.proofs.CursorReads.{goes_then, goes_other}
use Rattle.amf_io.specs.Stretch.{between}
use Rattle.rtmp_chunks.specs.Reader.{LeadsOn, Gives}
use Rattle.rtmp_chunks.specs.Table.{state_seen, message_seen, made, made_by, opens_seen}
use Rattle.rtmp_chunks.proofs.NextReads.{looked, look_failed, chunk_failed, message_came, chunk_passed, some_left}
use Rattle.rtmp_chunks.proofs.parts.Chunks.next.Goals as goal

pub returns-in_err-is_over-clause-answers : goal.returns-in_err-is_over-clause-answers
returns-in_err-is_over-clause-answers g c =
    let S = g.S.Source in
    let o = c.args.self.now in
    let m = c.loop-header.self in
    let i = c.loop-header.invariant in
    let h = c.in_err-is_over.ensures in
    look_failed S.tells S.left S.faults message_seen (state_seen o.size o.slots.items []) (state_seen m.size m.slots.items []) c.args.cursor.now c.loop-header.cursor i.leads.0 i.leads.1 tt i.goes c.is_over.new.cursor
    (state_seen m.size m.slots.items (made_by c.from_residual.result)) c.from_residual.result c.in_err-is_over.field-0.0 c.from_residual.ensures.1 h.err h.same

pub returns-in_err-message-clause-answers : goal.returns-in_err-message-clause-answers
returns-in_err-message-clause-answers g c =
    let S = g.S.Source in
    let o = c.args.self.now in
    let m = c.loop-header.self in
    let i = c.loop-header.invariant in
    let k = c.args.cursor.now in
    let d = c.loop-header.cursor in
    let e = c.is_over.new.cursor in
    let h = c.in_ok-is_over.ensures in
    let b = c.in_ok-is_over.field-0 in
    chunk_failed S.tells S.left S.faults message_seen (state_seen o.size o.slots.items []) (state_seen m.size m.slots.items []) k e i.leads.0
    (looked S.tells S.left S.faults message_seen (state_seen o.size o.slots.items []) (state_seen m.size m.slots.items []) k d i.leads.0 i.leads.1 tt i.goes e h.stays h.goes.same_bound h.same)
    b (goes_then S.tells S.left S.faults k d e tt (Ok b) i.goes h.goes) c.chunk.new.cursor
    (state_seen c.chunk.new.self.size c.chunk.new.self.slots.items (made_by c.from_residual-in_err-message.result)) c.from_residual-in_err-message.result c.in_err-message.field-0.0 c.from_residual-in_err-message.ensures.1
    (λ t. let y = i.goes.told t in subst (λ l. 0 < length l) (sym (h.same y)) (some_left b (unread S.left d) c.if-not-branch.true (h.over y).1)) c.in_err-message.ensures.answers

pub returns-in-Some-clause-answers : goal.returns-in-Some-clause-answers
returns-in-Some-clause-answers g c =
    let S = g.S.Source in
    let o = c.args.self.now in
    let m = c.loop-header.self in
    let i = c.loop-header.invariant in
    let k = c.args.cursor.now in
    let d = c.loop-header.cursor in
    let e = c.is_over.new.cursor in
    let f = c.chunk.new.cursor in
    let h = c.in_ok-is_over.ensures in
    let b = c.in_ok-is_over.field-0 in
    let n = c.chunk.new.self in
    let it = c.in_ok-message.field-0 in
    let a = c.in_ok-message.ensures in
    let l = looked S.tells S.left S.faults message_seen (state_seen o.size o.slots.items []) (state_seen m.size m.slots.items []) k d i.leads.0 i.leads.1 tt i.goes e h.stays h.goes.same_bound h.same in
    let w = goes_then S.tells S.left S.faults k d e tt (Ok b) i.goes h.goes in
    subst (λ v. (j : ℕ) × Gives j (state_seen o.size o.slots.items []) (state_seen n.size n.slots.items (made v)) (message_seen c.in-Some.message) (between S.tells S.left k f)) c.in-Some.is
    (message_came S.tells S.left S.faults message_seen (state_seen o.size o.slots.items []) (state_seen m.size m.slots.items []) k e i.leads.0 l b w f (state_seen n.size n.slots.items (made it)) (message_seen c.in-Some.message) a.answers (ap made c.in-Some.is))

pub returns-in-Some-clause-kept : goal.returns-in-Some-clause-kept
returns-in-Some-clause-kept g c = ap opens_seen (c.in_ok-message.ensures.listed ∙ c.loop-header.invariant.listed)

pub loop-header-preserved : goal.loop-header-preserved
loop-header-preserved g c =
    let S = g.S.Source in
    let o = c.args.self.now in
    let m = c.loop-header.self in
    let i = c.loop-header.invariant in
    let k = c.args.cursor.now in
    let d = c.loop-header.cursor in
    let e = c.is_over.new.cursor in
    let f = c.chunk.new.cursor in
    let h = c.in_ok-is_over.ensures in
    let b = c.in_ok-is_over.field-0 in
    let n = c.chunk.new.self in
    let it = c.in_ok-message.field-0 in
    let a = c.in_ok-message.ensures in
    let l = looked S.tells S.left S.faults message_seen (state_seen o.size o.slots.items []) (state_seen m.size m.slots.items []) k d i.leads.0 i.leads.1 tt i.goes e h.stays h.goes.same_bound h.same in
    let w = goes_then S.tells S.left S.faults k d e tt (Ok b) i.goes h.goes in
    record {
      leads = subst (λ v. (j : ℕ) × LeadsOn j (state_seen o.size o.slots.items []) (state_seen n.size n.slots.items (made v)) (between S.tells S.left k f)) c.in_default.is
          (chunk_passed S.tells S.left S.faults message_seen (state_seen o.size o.slots.items []) (state_seen m.size m.slots.items []) k e i.leads.0 l b w f (state_seen n.size n.slots.items (made it)) a.answers (ap made c.in_default.is));
      goes = goes_other S.tells S.left S.faults k f it tt (goes_then S.tells S.left S.faults k e f b (Ok it) w a.goes);
      placed = a.placed;
      listed = a.listed ∙ i.listed;
    }
