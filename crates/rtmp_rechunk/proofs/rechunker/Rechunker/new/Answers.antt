use Rattle.std.proofs.Common.{◌++◌, sym, ap, ◌∙◌}
use Rattle.rtmp_chunks.specs.Push.{pushed, size_then}
use Rattle.rtmp_chunks.specs.Table.{message_seen}
use Rattle.rtmp_rechunk.proofs.Again.{starts_none, starts_one, size_set, size_pushed}
use Rattle.rtmp_rechunk.proofs.rechunker.Rechunker.new.Goals as goal

pub invariant_of-result : goal.invariant_of-result
invariant_of-result c = record {
  holds = c.new-chunker.ensures ∙ sym c.if-size-eq128.true;
  starts = starts_none c.args.size c.new-start.result.items c.if-size-eq128.true c.new-start.ensures.items;
}

pub push_one-requires : goal.push_one-requires
push_one-requires c = size_pushed c.args.size (message_seen c.in_ok-message.message) c.requires.some c.requires.most c.in_ok-message.ensures

pub invariant_of-result-2 : goal.invariant_of-result-2
invariant_of-result-2 c =
    let m = message_seen c.in_ok-message.message in
    let q = c.in_ok-push_one.ensures in
    record {
      holds = q.size ∙ ap (λ n. size_then n m) c.new-chunker.ensures ∙ size_set c.args.size m c.requires.most c.in_ok-message.ensures;
      starts = starts_one c.args.size m c.new-start.result.items c.push_one.new.out.items c.if-size-eq128.false c.in_ok-message.ensures c.new-start.ensures.items (q.pushed ∙ ap (λ n. c.new-start.result.items ++ pushed n m) c.new-chunker.ensures);
    }
