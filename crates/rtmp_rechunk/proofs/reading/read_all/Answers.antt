-- The handshake, the messages, and the unfinished ones.
use Rattle.std.proofs.Common.{◌≤◌, [], ◌++◌, Ok, Err, refl, sym, ap, ◌∙◌, arith, subst}
use Rattle.std.proofs.lemmas.List.{append-nil}
use Rattle.amf_io.specs.Cursor.{source_of, place, bound, unread}
use Rattle.amf_io.proofs.CursorReads.{goes_then}
use Rattle.rtmp_chunks.specs.Table.{held, opens_seen}
use Rattle.rtmp_rechunk.specs.Ends.{reading}
use Rattle.rtmp_rechunk.specs.Reads.{Puts, PutsSome, PutAll, PutSome}
use Rattle.rtmp_rechunk.proofs.Turns.{ended_goes, passed_goes, spent_goes, counts_end, counts_then, counts_memory, counts_spent}
use Rattle.rtmp_rechunk.proofs.Streams.{put_first, put_some, put_last, some_unwritten, some_of_all, none_begun, no_memory, passed_on, spent_whole, all_passed, first_done, takes_from}
use Rattle.rtmp_rechunk.proofs.reading.read_all.Goals as goal

pub returns-in_err-read_handshake-clause-goes : goal.returns-in_err-read_handshake-clause-goes
returns-in_err-read_handshake-clause-goes g c =
    let S = g.S.Source in
    ended_goes S.tells S.left S.faults c.args.cursor.now c.read_handshake.new.cursor c.in_err-read_handshake.field-0.0 c.from_residual.result c.from_residual.ensures.1 c.in_err-read_handshake.ensures.goes

pub returns-in_err-read_handshake-clause-passes : goal.returns-in_err-read_handshake-clause-passes
returns-in_err-read_handshake-clause-passes g c = λ x.
    let H = g.H.Handler in
    let S = g.S.Source in
    let O = g.O.Sink in
    let k = c.args.cursor.now in
    let n = c.read_handshake.new.cursor in
    let o = c.args.out.now in
    let w = c.args.waiting.now.items in
    none_begun (H.begins c.args.handler.now) (H.says c.args.handler.now) (H.ends c.args.handler.now) (unread S.left k) (unread S.left n) (PutAll (O.tells o) (O.held o) (O.held o) w) (PutSome (O.tells o) (O.held o) (O.held o))
    (S.tells (source_of k).now) (place k) (bound k) c.in_err-read_handshake.field-0.0 c.from_residual.result c.from_residual.ensures.1 c.requires.start c.requires.limit x c.in_err-read_handshake.ensures.answers
    (λ t. record { front = []; parts = sym c.requires.none; added = sym (append-nil (O.held o)) }) (some_unwritten (O.tells o) (O.held o))

pub returns-in_err-read_handshake-clause-counts : goal.returns-in_err-read_handshake-clause-counts
returns-in_err-read_handshake-clause-counts g c = counts_end (g.O.Sink.faults c.args.out.now) (g.O.Sink.faults c.args.out.now) c.in_err-read_handshake.field-0.0 c.from_residual.result c.from_residual.ensures.1 refl

pub returns-in_err-begin-clause-goes : goal.returns-in_err-begin-clause-goes
returns-in_err-begin-clause-goes g c =
    let S = g.S.Source in
    spent_goes S.tells S.left S.faults c.args.cursor.now c.read_handshake.new.cursor c.from_residual-in_err-begin.result c.from_residual-in_err-begin.ensures.1 c.in_ok-read_handshake.ensures.goes

pub returns-in_err-begin-clause-passes : goal.returns-in_err-begin-clause-passes
returns-in_err-begin-clause-passes g c = λ x.
    let H = g.H.Handler in
    let S = g.S.Source in
    let O = g.O.Sink in
    let o = c.args.out.now in
    no_memory (H.begins c.args.handler.now) (H.says c.args.handler.now) (H.ends c.args.handler.now) (unread S.left c.args.cursor.now) (unread S.left c.read_handshake.new.cursor) (PutAll (O.tells o) (O.held o) (O.held o) c.begin.new.out.items) (PutSome (O.tells o) (O.held o) (O.held o))
    c.from_residual-in_err-begin.result c.from_residual-in_err-begin.ensures.1 (some_unwritten (O.tells o) (O.held o))

pub returns-in_err-begin-clause-counts : goal.returns-in_err-begin-clause-counts
returns-in_err-begin-clause-counts g c = counts_memory (g.O.Sink.faults c.args.out.now) c.from_residual-in_err-begin.result c.from_residual-in_err-begin.ensures.1

pub returns-in_err-chunks-clause-goes : goal.returns-in_err-chunks-clause-goes
returns-in_err-chunks-clause-goes g c =
    let S = g.S.Source in
    spent_goes S.tells S.left S.faults c.args.cursor.now c.read_handshake.new.cursor c.from_residual-in_err-chunks.result c.from_residual-in_err-chunks.ensures.1 c.in_ok-read_handshake.ensures.goes

pub returns-in_err-chunks-clause-passes : goal.returns-in_err-chunks-clause-passes
returns-in_err-chunks-clause-passes g c = λ x.
    let H = g.H.Handler in
    let S = g.S.Source in
    let O = g.O.Sink in
    let o = c.args.out.now in
    no_memory (H.begins c.args.handler.now) (H.says c.args.handler.now) (H.ends c.args.handler.now) (unread S.left c.args.cursor.now) (unread S.left c.read_handshake.new.cursor) (PutAll (O.tells o) (O.held o) (O.held o) c.begin.new.out.items) (PutSome (O.tells o) (O.held o) (O.held o))
    c.from_residual-in_err-chunks.result c.from_residual-in_err-chunks.ensures.1 (some_unwritten (O.tells o) (O.held o))

pub returns-in_err-chunks-clause-counts : goal.returns-in_err-chunks-clause-counts
returns-in_err-chunks-clause-counts g c = counts_memory (g.O.Sink.faults c.args.out.now) c.from_residual-in_err-chunks.result c.from_residual-in_err-chunks.ensures.1

pub read_messages-requires : goal.read_messages-requires
read_messages-requires g c =
    let q = c.in_ok-read_handshake.ensures.goes in
    let w = c.in_ok-read_handshake.ensures.answers.within in
    let within : place c.read_handshake.new.cursor ≤ bound c.read_handshake.new.cursor = omega (arith, w, q.same_bound) in
    record { within = within; one_past = q.one_past }

pub returns-in_err-read_messages-clause-goes : goal.returns-in_err-read_messages-clause-goes
returns-in_err-read_messages-clause-goes g c =
    let S = g.S.Source in
    let e = c.in_err-read_messages.field-0.0 in
    passed_goes S.tells S.left S.faults c.args.cursor.now c.read_messages.new.cursor e c.from_residual-in_err-read_messages.result c.from_residual-in_err-read_messages.ensures.1
    (goes_then S.tells S.left S.faults c.args.cursor.now c.read_handshake.new.cursor c.read_messages.new.cursor tt (reading {T = Unit {0}} (Err e)) c.in_ok-read_handshake.ensures.goes c.in_err-read_messages.ensures.goes)

pub returns-in_err-read_messages-clause-passes : goal.returns-in_err-read_messages-clause-passes
returns-in_err-read_messages-clause-passes g c = λ x.
    let H = g.H.Handler in
    let S = g.S.Source in
    let O = g.O.Sink in
    let k = c.args.cursor.now in
    let d = c.read_handshake.new.cursor in
    let n = c.read_messages.new.cursor in
    let o = c.args.out.now in
    let p = c.read_messages.new.out in
    let e = c.in_err-read_messages.field-0.0 in
    let q = c.in_ok-read_handshake.ensures.goes in
    let b = c.read_handshake.new.out.items in
    let h = c.in_ok-begin.ensures in
    let t = held c.read_messages.new.chunks [] in
    let v = c.begin.new.out.items in
    let w = c.read_messages.new.waiting.items in
    let begun = h.2 ∙ ap (λ l. l ++ h.0) c.requires.none in
    let A = Puts (O.tells p) (O.held o) (O.held p) v w in
    let P = PutsSome (O.tells p) (O.held o) (O.held p) v in
    let Says = H.says c.args.handler.now in
    passed_on (H.begins c.args.handler.now) Says (H.ends c.args.handler.now) (unread S.left k) (unread S.left d) b h.0 (place d)
    (first_done (S.tells (source_of k).now) x c.new-handshake.result.items b (unread S.left k) (unread S.left d) (place k) (place d) (bound k) c.new-handshake.ensures.items c.requires.start c.requires.limit c.in_ok-read_handshake.ensures.answers)
    (subst (λ l. H.begins c.args.handler.now l h.0) c.deref.ensures.value h.1)
    A P (PutAll (O.tells p) (O.held o) (O.held p) w) (PutSome (O.tells p) (O.held o) (O.held p)) t (unread S.left n) (place n) e c.from_residual-in_err-read_messages.result c.from_residual-in_err-read_messages.ensures.1
    (λ l y. put_first (O.tells p) (O.held o) (O.held p) h.0 v w l begun y) (λ l y. put_some (O.tells p) (O.held o) (O.held p) h.0 v l begun y)
    (takes_from {T = Unit {0}} Says (held c.in_ok-chunks.chunks []) t (unread S.left d) (unread S.left n) (place d) (place n) (bound d) A P (Err e) c.in_ok-chunks.ensures.start (q.same_bound ∙ c.requires.limit) (c.in_err-read_messages.ensures.takes (q.told x)))

pub returns-in_err-read_messages-clause-counts : goal.returns-in_err-read_messages-clause-counts
returns-in_err-read_messages-clause-counts g c =
    counts_then (g.O.Sink.faults c.args.out.now) (g.O.Sink.faults c.args.out.now) (g.O.Sink.faults c.read_messages.new.out) c.in_err-read_messages.field-0.0 c.from_residual-in_err-read_messages.result c.from_residual-in_err-read_messages.ensures.1 refl c.in_err-read_messages.ensures.counts

pub returns-in_err-finish-clause-goes : goal.returns-in_err-finish-clause-goes
returns-in_err-finish-clause-goes g c =
    let S = g.S.Source in
    spent_goes S.tells S.left S.faults c.args.cursor.now c.read_messages.new.cursor c.from_residual-in_err-finish.result c.from_residual-in_err-finish.ensures.1
    (goes_then S.tells S.left S.faults c.args.cursor.now c.read_handshake.new.cursor c.read_messages.new.cursor tt (Ok tt) c.in_ok-read_handshake.ensures.goes c.in_ok-read_messages.ensures.goes)

pub returns-in_err-finish-clause-passes : goal.returns-in_err-finish-clause-passes
returns-in_err-finish-clause-passes g c = λ x.
    let H = g.H.Handler in
    let S = g.S.Source in
    let O = g.O.Sink in
    let k = c.args.cursor.now in
    let d = c.read_handshake.new.cursor in
    let n = c.read_messages.new.cursor in
    let o = c.args.out.now in
    let p = c.read_messages.new.out in
    let q = c.in_ok-read_handshake.ensures.goes in
    let b = c.read_handshake.new.out.items in
    let h = c.in_ok-begin.ensures in
    let r = c.in_ok-read_messages.ensures in
    let t = held c.read_messages.new.chunks [] in
    let v = c.begin.new.out.items in
    let w = c.read_messages.new.waiting.items in
    let begun = h.2 ∙ ap (λ l. l ++ h.0) c.requires.none in
    let A = Puts (O.tells p) (O.held o) (O.held p) v w in
    let P = PutsSome (O.tells p) (O.held o) (O.held p) v in
    let Says = H.says c.args.handler.now in
    spent_whole (H.begins c.args.handler.now) Says (H.ends c.args.handler.now) (unread S.left k) (unread S.left d) b h.0 (place d)
    (first_done (S.tells (source_of k).now) x c.new-handshake.result.items b (unread S.left k) (unread S.left d) (place k) (place d) (bound k) c.new-handshake.ensures.items c.requires.start c.requires.limit c.in_ok-read_handshake.ensures.answers)
    (subst (λ l. H.begins c.args.handler.now l h.0) c.deref.ensures.value h.1)
    A P (PutAll (O.tells p) (O.held o) (O.held p) c.finish.new.out.items) (PutSome (O.tells p) (O.held o) (O.held p)) t (unread S.left n) (place n) c.from_residual-in_err-finish.result c.from_residual-in_err-finish.ensures.1
    (λ l y. some_of_all (O.tells p) (O.held o) (O.held p) w (h.0 ++ l) (put_first (O.tells p) (O.held o) (O.held p) h.0 v w l begun y))
    (takes_from {T = Unit {0}} Says (held c.in_ok-chunks.chunks []) t (unread S.left d) (unread S.left n) (place d) (place n) (bound d) A P (Ok tt) c.in_ok-chunks.ensures.start (q.same_bound ∙ c.requires.limit) (r.takes (q.told x)))

pub returns-in_err-finish-clause-counts : goal.returns-in_err-finish-clause-counts
returns-in_err-finish-clause-counts g c = counts_spent (g.O.Sink.faults c.args.out.now) (g.O.Sink.faults c.read_messages.new.out) c.from_residual-in_err-finish.result c.from_residual-in_err-finish.ensures.1 c.in_ok-read_messages.ensures.counts

pub returns-clause-goes : goal.returns-clause-goes
returns-clause-goes g c =
    let S = g.S.Source in
    goes_then S.tells S.left S.faults c.args.cursor.now c.read_handshake.new.cursor c.read_messages.new.cursor tt (Ok tt) c.in_ok-read_handshake.ensures.goes c.in_ok-read_messages.ensures.goes

pub returns-clause-passes : goal.returns-clause-passes
returns-clause-passes g c = λ x.
    let H = g.H.Handler in
    let S = g.S.Source in
    let O = g.O.Sink in
    let k = c.args.cursor.now in
    let d = c.read_handshake.new.cursor in
    let n = c.read_messages.new.cursor in
    let o = c.args.out.now in
    let p = c.read_messages.new.out in
    let q = c.in_ok-read_handshake.ensures.goes in
    let b = c.read_handshake.new.out.items in
    let h = c.in_ok-begin.ensures in
    let f = c.in_ok-finish.ensures in
    let r = c.in_ok-read_messages.ensures in
    let t = held c.read_messages.new.chunks [] in
    let v = c.begin.new.out.items in
    let w = c.read_messages.new.waiting.items in
    let z = c.finish.new.out.items in
    let begun = h.2 ∙ ap (λ l. l ++ h.0) c.requires.none in
    let A = Puts (O.tells p) (O.held o) (O.held p) v w in
    let P = PutsSome (O.tells p) (O.held o) (O.held p) v in
    let Says = H.says c.args.handler.now in
    all_passed (H.begins c.args.handler.now) Says (H.ends c.args.handler.now) (unread S.left k) (unread S.left d) b h.0 (place d)
    (first_done (S.tells (source_of k).now) x c.new-handshake.result.items b (unread S.left k) (unread S.left d) (place k) (place d) (bound k) c.new-handshake.ensures.items c.requires.start c.requires.limit c.in_ok-read_handshake.ensures.answers)
    (subst (λ l. H.begins c.args.handler.now l h.0) c.deref.ensures.value h.1)
    A P (PutAll (O.tells p) (O.held o) (O.held p) z) (PutSome (O.tells p) (O.held o) (O.held p)) t (unread S.left n) f.0 (place n) (opens_seen c.open.result.now) (c.open.ensures ∙ r.listed 65600 refl)
    (r.same_end (opens_seen c.open.result.now) f.0 f.1)
    (λ l y. put_last (O.tells p) (O.held o) (O.held p) (h.0 ++ l) w z f.0 f.2 (put_first (O.tells p) (O.held o) (O.held p) h.0 v w l begun y))
    (takes_from {T = Unit {0}} Says (held c.in_ok-chunks.chunks []) t (unread S.left d) (unread S.left n) (place d) (place n) (bound d) A P (Ok tt) c.in_ok-chunks.ensures.start (q.same_bound ∙ c.requires.limit) (r.takes (q.told x)))
