use Rattle.std.proofs.Common.{[], sym}
use Rattle.std.proofs.lemmas.List.{append-nil}
use Rattle.rtmp_chunks.specs.Push.{size_of}
use Rattle.rtmp_chunks.specs.Table.{message_seen}
use Rattle.rtmp_rechunk.proofs.Again.{repeats_none, said_one, kept_size}
use Rattle.rtmp_rechunk.proofs.rechunking.RechunkerHandler.message.Goals as goal

pub returns-then-message-eq1-clause-says : goal.returns-then-message-eq1-clause-says
returns-then-message-eq1-clause-says c = ([], repeats_none c.args.self.now.size (message_seen c.args.message.now) c.if-message-eq1.true, sym (append-nil c.args.out.now.items))

pub returns-then-message-eq1-clause-still : goal.returns-then-message-eq1-clause-still
returns-then-message-eq1-clause-still c = λ m bytes h. h

pub returns-then-message-eq1-clause-same_end : goal.returns-then-message-eq1-clause-same_end
returns-then-message-eq1-clause-same_end c = λ u bytes h. h

pub push_one-requires : goal.push_one-requires
push_one-requires c = c.requires c.if-message-eq1.false

pub invariant_of-self : goal.invariant_of-self
invariant_of-self c =
    let s = c.args.self.now in
    record {
      holds = kept_size c.push_one.result s.size (size_of s.chunker) (size_of c.push_one.new.chunker) (message_seen c.args.message.now) s.holds c.if-message-eq1.false c.push_one.ensures.size c.push_one.ensures.kept;
      starts = s.starts;
    }

pub returns-clause-says : goal.returns-clause-says
returns-clause-says c =
    let s = c.args.self.now in
    said_one c.push_one.result s.size (size_of s.chunker) (message_seen c.args.message.now) c.args.out.now.items c.push_one.new.out.items s.holds c.if-message-eq1.false c.push_one.ensures.pushed
