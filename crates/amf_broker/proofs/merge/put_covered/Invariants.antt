-- The deliveries of the posts so far are among the others.
use Rattle.std.proofs.Common.{◌≡◌, take, map}
use Rattle.std.specs.Prelude.{filter}
use Rattle.amf_broker.specs.Lines.{put_all, is_covered, delivered}
use Rattle.amf_broker.specs.Members.{raised}
use Rattle.amf_broker.proofs.merge.put_covered.Given as goal

abbrev pub invariant-loop-post : goal.invariant-loop-post
invariant-loop-post l = l.queue.items ≡ put_all (map (delivered l.place.id) (filter (is_covered (raised l.next l.place).start (raised l.next l.place).stop) (take l.post-index l.posts))) l.initial.queue.items
