use Rattle.std.proofs.Common.{◌≡◌, take}
use Rattle.amf_tables.specs.ShownTraits.{texts_at}
use Rattle.amf_show.specs.Heads.{texts_of}
use Rattle.amf_show.specs.Joining.{heads_from}
use Rattle.amf_show.proofs.class_text.heads.Given as goal

abbrev pub invariant-loop-place : goal.invariant-loop-place
invariant-loop-place l = texts_of l.heads.items ≡ heads_from 0 (texts_at l.graph.arena (take l.place l.names))
