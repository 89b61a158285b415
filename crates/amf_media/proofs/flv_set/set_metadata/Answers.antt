-- The value is judged first, and then the file is written.
use Rattle.std.proofs.Common.{refl, sym, ap, ◌∙◌, subst, arith, ◌≡◌}
use Rattle.amf_io.specs.Cursor.{source_of, bound, unread}
use Rattle.amf_media.specs.FlvRuns.{at_value, CountsReads}
use Rattle.amf_media.proofs.FlvWhole.{value_left, taken_at_value, taken_behind, set_behind, same_untouched, file_untouched, start_counts}
use Rattle.amf_media.proofs.flv_set.set_metadata.Goals as goal

pub returns-in-Err-clause-runs : goal.returns-in-Err-clause-runs
returns-in-Err-clause-runs g c = λ y.
    let S = g.S.Source in
    let k = c.args.cursor.now in
    let d = c.read_start.new.cursor in
    let h = c.in-Err.ensures in
    at_value (value_left S.tells S.left S.faults k d (unread S.left k) c.in-Err.end h.moves (h.starts y)) refl (taken_at_value S.tells S.left S.faults k d c.in-Err.end c.requires.at_start c.requires.limit h.moves y)

pub returns-in-Err-clause-untouched : goal.returns-in-Err-clause-untouched
returns-in-Err-clause-untouched g c = same_untouched c.args.out.now c.in-Err.end

pub returns-in-Err-clause-taken : goal.returns-in-Err-clause-taken
returns-in-Err-clause-taken g c = λ y.
    let S = g.S.Source in
    let t = taken_at_value S.tells S.left S.faults c.args.cursor.now c.read_start.new.cursor c.in-Err.end c.requires.at_start c.requires.limit c.in-Err.ensures.moves y in
    omega arith

pub returns-in-Err-clause-writes : goal.returns-in-Err-clause-writes
returns-in-Err-clause-writes g c = start_counts (g.O.Sink.faults c.args.out.now) c.in-Err.end c.in-Err.ensures.ends

pub raise-requires : goal.raise-requires
raise-requires g c =
    let b : bound c.read_start.new.cursor ≡ bound c.args.cursor.now = c.in-Ok.ensures.moves.same_bound in
    let l = c.requires.limit in
    omega arith

pub returns-clause-runs : goal.returns-clause-runs
returns-clause-runs g c = λ y.
    let S = g.S.Source in
    let O = g.O.Sink in
    let d = c.read_start.new.cursor in
    let r = c.raise.new.self in
    let f = c.run_file in
    let there = subst S.tells (sym c.raise.ensures.source) (c.in-Ok.ensures.moves.told y) in
    set_behind S.tells S.left S.faults c.args.cursor.now d r f.new.cursor c.in-Ok.start.items (O.tells f.new.out) (O.held c.args.out.now) (O.held f.new.out) f.result (c.in-Ok.ensures.starts y) c.raise.ensures.place c.raise.ensures.gives f.ensures.moves
    (λ value st. f.ensures.runs value (c.deref.ensures.value ∙ st) there)

pub returns-clause-untouched : goal.returns-clause-untouched
returns-clause-untouched g c = file_untouched c.args.out.now c.run_file.new.out c.run_file.result c.run_file.ensures.ends

pub returns-clause-taken : goal.returns-clause-taken
returns-clause-taken g c = λ y.
    let S = g.S.Source in
    let d = c.read_start.new.cursor in
    let r = c.raise.new.self in
    let there = subst S.tells (sym c.raise.ensures.source) (c.in-Ok.ensures.moves.told y) in
    taken_behind S.tells S.left S.faults c.args.cursor.now d r c.run_file.new.cursor c.run_file.result c.requires.at_start c.in-Ok.ensures.moves c.raise.ensures.place c.raise.ensures.gives c.raise.ensures.bound c.run_file.ensures.moves y there

pub returns-clause-reads : goal.returns-clause-reads
returns-clause-reads g c =
    let S = g.S.Source in
    let same : S.faults (source_of c.raise.new.self).now ≡ S.faults (source_of c.args.cursor.now).now = ap S.faults c.raise.ensures.source ∙ c.in-Ok.ensures.moves.cause in
    subst (λ n. CountsReads n (S.faults (source_of c.run_file.new.cursor).now) c.run_file.result) same c.run_file.ensures.moves.cause
