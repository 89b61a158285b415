-- From value to value.
use Rattle.std.proofs.Common.{◌∙◌, sym}
use Rattle.amf_io.specs.Cursor.{place, bound, unread}
use Rattle.amf_io.specs.InMemory.{nothing_left}
use Rattle.amf_graph.specs.Rooted.{content}
use Rattle.rtmp_listing.proofs.OneRead.{some_left}
use Rattle.rtmp_listing.proofs.Listed.{one_listed, less_left, all_listed, end_listed}
use Rattle.rtmp_listing.proofs.values.push_each.Goals as goal

pub returns-in_err-graph : goal.returns-in_err-graph
returns-in_err-graph c =
    let k = c.args.cursor.now in
    let l = c.loop-alloc in
    let d = l.cursor in
    let n = c.read_one.new.cursor in
    end_listed (place k) (unread nothing_left k) (place d) (place n) (bound d) (unread nothing_left d) (unread nothing_left n) c.args.out.now.items l.out.items c.from_residual.result c.in_err-graph.field-0.0 c.from_residual.ensures.1
    l.invariant.so_far l.invariant.end (some_left c.is_at_end.result (unread nothing_left d) c.loop-alloc-test.true c.is_at_end.ensures.1)
    c.in_err-graph.ensures.goes.cause c.in_err-graph.ensures.answers

pub loop-alloc-smaller : goal.loop-alloc-smaller
loop-alloc-smaller c =
    let d = c.loop-alloc.cursor in
    let n = c.read_one.new.cursor in
    less_left (content c.in_ok-graph.graph) (unread nothing_left d) (unread nothing_left n) (place d) (place n) c.in_ok-graph.ensures.answers

pub loop-alloc-preserved : goal.loop-alloc-preserved
loop-alloc-preserved c =
    let k = c.args.cursor.now in
    let l = c.loop-alloc in
    let d = l.cursor in
    let n = c.read_one.new.cursor in
    let r = c.in_ok-graph.ensures in
    record {
      so_far = one_listed (content c.in_ok-graph.graph) (place k) (unread nothing_left k) (place d) (place n) (unread nothing_left d) (unread nothing_left n) c.args.out.now.items l.out.items c.show.new.out.items
          l.invariant.so_far r.answers c.in_ok-show.ensures.shown;
      end = r.goes.total tt ∙ l.invariant.end ∙ sym r.goes.same_bound;
      same_bound = r.goes.same_bound ∙ l.invariant.same_bound;
    }

pub returns : goal.returns
returns c =
    let k = c.args.cursor.now in
    let l = c.loop-alloc in
    let d = l.cursor in
    all_listed (place k) (unread nothing_left k) (place d) (unread nothing_left d) c.args.out.now.items l.out.items l.invariant.so_far (c.is_at_end.ensures.0 c.loop-alloc-test.false)
