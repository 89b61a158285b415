-- From message to message.
use Rattle.std.proofs.Common.{◌<◌, ◌-◌, ◌≤◌, [], Ok, Err, Some, None, IfSome, refl, arith, subst, ◌∙◌}
use Rattle.amf_io.specs.Cursor.{place, bound, unread}
use Rattle.amf_io.specs.Stretch.{stretch, between}
use Rattle.amf_io.proofs.CursorReads.{goes_nowhere, goes_then, goes_other}
use Rattle.rtmp_chunks.specs.Push.{IsPushable}
use Rattle.rtmp_chunks.specs.Reader.{AnswersNext}
use Rattle.rtmp_chunks.specs.Table.{held, made, message_seen}
use Rattle.rtmp_rechunk.specs.Reads.{Puts, PutsSome}
use Rattle.rtmp_rechunk.proofs.Turns.{puts_none, none_so_far, next_some, next_none, next_ends, message_moves, message_within, taken, took_end, behind_message, write_failed, spent_behind, some_none, placed_within, ended_goes, handed_goes, handed_takes, counts_end, counts_then}
use Rattle.rtmp_rechunk.proofs.reading.read_messages.Goals as goal

pub loop-message-init : goal.loop-message-init
loop-message-init g c =
    let H = g.H.Handler in
    let S = g.S.Source in
    let O = g.O.Sink in
    let k = c.args.cursor.now in
    record {
      goes = goes_nowhere S.tells S.left S.faults k tt c.requires;
      placed = c.requires;
      told = λ t. t;
      no_fault = refl;
      says = λ m bytes h. h;
      same_end = λ u bytes h. h;
      so_far = λ x. none_so_far (H.says c.args.handler.now) (held c.args.chunks.now []) (unread S.left k) (place k) (bound k) (Puts (O.tells c.args.out.now) (O.held c.args.out.now) (O.held c.args.out.now) c.args.waiting.now.items c.args.waiting.now.items)
          (puts_none (O.tells c.args.out.now) (O.held c.args.out.now) c.args.waiting.now.items);
    }

pub returns-in_err-message-clause-goes : goal.returns-in_err-message-clause-goes
returns-in_err-message-clause-goes g c =
    let S = g.S.Source in
    let e = c.in_err-message.field-0.0 in
    ended_goes S.tells S.left S.faults c.args.cursor.now c.next.new.cursor e c.from_residual.result c.from_residual.ensures.1
    (goes_then S.tells S.left S.faults c.args.cursor.now c.loop-message.cursor c.next.new.cursor tt (Err e) c.loop-message.invariant.goes c.in_err-message.ensures.goes)

pub returns-in_err-message-clause-takes : goal.returns-in_err-message-clause-takes
returns-in_err-message-clause-takes g c = λ x.
    let H = g.H.Handler in
    let S = g.S.Source in
    let O = g.O.Sink in
    let k = c.args.cursor.now in
    let d = c.loop-message.cursor in
    let n = c.next.new.cursor in
    let e = c.in_err-message.field-0.0 in
    let i = c.loop-message.invariant in
    let s = held c.args.chunks.now [] in
    let u = held c.loop-message.chunks [] in
    let t = held c.next.new.self [] in
    let All = Puts (O.tells c.loop-message.out) (O.held c.args.out.now) (O.held c.loop-message.out) c.args.waiting.now.items c.loop-message.waiting.items in
    let Part = PutsSome (O.tells c.loop-message.out) (O.held c.args.out.now) (O.held c.loop-message.out) c.args.waiting.now.items in
    took_end (H.says c.args.handler.now) s t (stretch (Unit {0}) (unread S.left k) (unread S.left n) (place k) (place n) (bound k)) All Part e c.from_residual.result c.from_residual.ensures.1
    (taken (H.says c.args.handler.now) s u (unread S.left k) (unread S.left d) (place k) (place d) (bound k) All (i.so_far x) (Err e) t (unread S.left n) (place n)
    (next_ends S.tells S.left S.faults message_seen u t k d n i.goes x e c.in_err-message.ensures.answers))
    (spent_behind (H.says c.args.handler.now) s u t (unread S.left k) (unread S.left d) (place k) (place d) (bound k) (O.tells c.loop-message.out) (O.tells c.loop-message.out) (λ y. y) (O.held c.args.out.now) (O.held c.loop-message.out) (O.held c.loop-message.out) c.args.waiting.now.items c.loop-message.waiting.items (i.so_far x)
    All (unread S.left n) (place n) (placed_within (place d) (bound d) (bound k) i.placed.within i.goes.same_bound) (some_none (O.tells c.loop-message.out) (O.held c.loop-message.out) c.loop-message.waiting.items))

pub returns-in_err-message-clause-counts : goal.returns-in_err-message-clause-counts
returns-in_err-message-clause-counts g c = counts_end (g.O.Sink.faults c.args.out.now) (g.O.Sink.faults c.loop-message.out) c.in_err-message.field-0.0 c.from_residual.result c.from_residual.ensures.1 c.loop-message.invariant.no_fault

pub hand_on-requires : goal.hand_on-requires
hand_on-requires g c = subst (λ it. IfSome it (λ m. IsPushable (message_seen m))) c.in-Some.is c.in_ok-message.ensures.pushable

pub returns-in_err-hand_on-clause-goes : goal.returns-in_err-hand_on-clause-goes
returns-in_err-hand_on-clause-goes g c =
    let H = g.H.Handler in
    let S = g.S.Source in
    let O = g.O.Sink in
    let k = c.args.cursor.now in
    let d = c.loop-message.cursor in
    let n = c.next.new.cursor in
    let l = c.loop-message in
    let it = c.in_ok-message.field-0 in
    let a = c.hand_on.new in
    handed_goes S.tells S.left S.faults k n (H.says l.handler (message_seen c.in-Some.message)) (Puts (O.tells a.out) (O.held l.out) (O.held a.out) l.waiting.items a.waiting.items) (PutsSome (O.tells a.out) (O.held l.out) (O.held a.out) l.waiting.items)
    c.in_err-hand_on.field-0.0 c.from_residual-in_err-hand_on.result c.from_residual-in_err-hand_on.ensures.1 c.in_err-hand_on.ensures.hands
    (goes_other S.tells S.left S.faults k n it tt (goes_then S.tells S.left S.faults k d n tt (Ok it) l.invariant.goes c.in_ok-message.ensures.goes))

pub returns-in_err-hand_on-clause-takes : goal.returns-in_err-hand_on-clause-takes
returns-in_err-hand_on-clause-takes g c = λ x.
    let H = g.H.Handler in
    let S = g.S.Source in
    let O = g.O.Sink in
    let k = c.args.cursor.now in
    let d = c.loop-message.cursor in
    let n = c.next.new.cursor in
    let l = c.loop-message in
    let i = l.invariant in
    let it = c.in_ok-message.field-0 in
    let a = c.hand_on.new in
    let m = c.in-Some.message in
    let s = held c.args.chunks.now [] in
    let u = held l.chunks [] in
    let v = held c.next.new.self (made (Some m)) in
    let t = held c.next.new.self [] in
    let Says = H.says c.args.handler.now in
    let All = Puts (O.tells a.out) (O.held c.args.out.now) (O.held a.out) c.args.waiting.now.items a.waiting.items in
    let Part = PutsSome (O.tells a.out) (O.held c.args.out.now) (O.held a.out) c.args.waiting.now.items in
    let y = subst (λ w. AnswersNext message_seen u (held c.next.new.self (made w)) (between S.tells S.left d n) (Ok w)) c.in-Some.is c.in_ok-message.ensures.answers in
    let z = next_some S.tells S.left S.faults message_seen u v k d n i.goes x m y in
    handed_takes (H.says l.handler (message_seen m)) (Puts (O.tells a.out) (O.held l.out) (O.held a.out) l.waiting.items a.waiting.items) (PutsSome (O.tells a.out) (O.held l.out) (O.held a.out) l.waiting.items)
    Says s t (stretch (Unit {0}) (unread S.left k) (unread S.left n) (place k) (place n) (bound k)) All Part
    c.in_err-hand_on.field-0.0 c.from_residual-in_err-hand_on.result c.from_residual-in_err-hand_on.ensures.1 c.in_err-hand_on.ensures.hands
    (λ b says part. write_failed Says s u v t (unread S.left k) (unread S.left d) (unread S.left n) (place k) (place d) (place n) (bound k) (message_seen m) z (O.tells l.out) (O.tells a.out) c.in_err-hand_on.ensures.tells
    (O.held c.args.out.now) (O.held l.out) (O.held a.out) c.args.waiting.now.items l.waiting.items (i.so_far x) b (i.says (message_seen m) b says) All (unread S.left n) (place n) part)
    (λ part. spent_behind Says s u t (unread S.left k) (unread S.left d) (place k) (place d) (bound k) (O.tells l.out) (O.tells a.out) c.in_err-hand_on.ensures.tells (O.held c.args.out.now) (O.held l.out) (O.held a.out) c.args.waiting.now.items l.waiting.items (i.so_far x)
    All (unread S.left n) (place n) (placed_within (place d) (bound d) (bound k) i.placed.within i.goes.same_bound) part)

pub returns-in_err-hand_on-clause-counts : goal.returns-in_err-hand_on-clause-counts
returns-in_err-hand_on-clause-counts g c =
    counts_then (g.O.Sink.faults c.args.out.now) (g.O.Sink.faults c.loop-message.out) (g.O.Sink.faults c.hand_on.new.out) c.in_err-hand_on.field-0.0 c.from_residual-in_err-hand_on.result c.from_residual-in_err-hand_on.ensures.1 c.loop-message.invariant.no_fault c.in_err-hand_on.ensures.counts

pub loop-message-smaller : goal.loop-message-smaller
loop-message-smaller g c =
    let S = g.S.Source in
    let d = c.loop-message.cursor in
    let n = c.next.new.cursor in
    let m = c.in-Some.message in
    let u = held c.loop-message.chunks [] in
    let v = held c.next.new.self (made (Some m)) in
    let x = between S.tells S.left d n in
    let y = subst (λ w. AnswersNext message_seen u (held c.next.new.self (made w)) (between S.tells S.left d n) (Ok w)) c.in-Some.is c.in_ok-message.ensures.answers in
    let moves : place d < place n = message_moves message_seen u v x m y in
    let within : place n ≤ bound d = message_within message_seen u v x m y in
    let less : bound n - place n < bound d - place d = omega (arith, moves, within, c.in_ok-message.ensures.goes.same_bound) in
    less

pub loop-message-preserved : goal.loop-message-preserved
loop-message-preserved g c =
    let H = g.H.Handler in
    let S = g.S.Source in
    let O = g.O.Sink in
    let k = c.args.cursor.now in
    let d = c.loop-message.cursor in
    let n = c.next.new.cursor in
    let l = c.loop-message in
    let i = l.invariant in
    let it = c.in_ok-message.field-0 in
    let a = c.hand_on.new in
    let h = c.in_ok-hand_on.ensures in
    let m = c.in-Some.message in
    let s = held c.args.chunks.now [] in
    let u = held l.chunks [] in
    let v = held c.next.new.self (made (Some m)) in
    let q = c.in_ok-message.ensures.goes in
    let y = subst (λ w. AnswersNext message_seen u (held c.next.new.self (made w)) (between S.tells S.left d n) (Ok w)) c.in-Some.is c.in_ok-message.ensures.answers in
    let within : place n ≤ bound d = message_within message_seen u v (between S.tells S.left d n) m y in
    let placed : place n ≤ bound n = omega (arith, within, q.same_bound) in
    record {
      goes = goes_other S.tells S.left S.faults k n it tt (goes_then S.tells S.left S.faults k d n tt (Ok it) i.goes q);
      placed = record { within = placed; one_past = q.one_past };
      told = λ t. i.told (h.tells t);
      no_fault = h.counts ∙ i.no_fault;
      says = λ w bytes z. i.says w bytes (h.still w bytes z);
      same_end = λ w bytes z. i.same_end w bytes (h.same_end w bytes z);
      so_far = λ x. behind_message (H.says c.args.handler.now) s u v s (unread S.left k) (unread S.left d) (unread S.left n) (place k) (place d) (place n) (bound k) (message_seen m) (next_some S.tells S.left S.faults message_seen u v k d n i.goes x m y)
          (O.tells l.out) (O.tells a.out) h.tells (O.held c.args.out.now) (O.held l.out) (O.held a.out) c.args.waiting.now.items l.waiting.items (i.so_far x) h.hands.0 (i.says (message_seen m) h.hands.0 h.hands.1) a.waiting.items h.hands.2;
    }

pub returns-clause-goes : goal.returns-clause-goes
returns-clause-goes g c =
    let S = g.S.Source in
    let it = c.in_ok-message.field-0 in
    goes_other S.tells S.left S.faults c.args.cursor.now c.next.new.cursor it tt (goes_then S.tells S.left S.faults c.args.cursor.now c.loop-message.cursor c.next.new.cursor tt (Ok it) c.loop-message.invariant.goes c.in_ok-message.ensures.goes)

pub returns-clause-takes : goal.returns-clause-takes
returns-clause-takes g c = λ x.
    let H = g.H.Handler in
    let S = g.S.Source in
    let O = g.O.Sink in
    let k = c.args.cursor.now in
    let d = c.loop-message.cursor in
    let n = c.next.new.cursor in
    let l = c.loop-message in
    let i = l.invariant in
    let s = held c.args.chunks.now [] in
    let u = held l.chunks [] in
    let t = held c.next.new.self [] in
    let y = subst (λ w. AnswersNext message_seen u (held c.next.new.self (made w)) (between S.tells S.left d n) (Ok w)) c.in_default.is c.in_ok-message.ensures.answers in
    taken (H.says c.args.handler.now) s u (unread S.left k) (unread S.left d) (place k) (place d) (bound k) (Puts (O.tells l.out) (O.held c.args.out.now) (O.held l.out) c.args.waiting.now.items l.waiting.items) (i.so_far x) (Ok None) t (unread S.left n) (place n)
    (next_none S.tells S.left S.faults message_seen u t k d n i.goes x y)
