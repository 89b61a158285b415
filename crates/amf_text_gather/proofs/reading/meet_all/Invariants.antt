-- The tokens that are left come to what all of them come to.
use Rattle.std.proofs.Common.{◌≡◌, length}
use Rattle.amf_text.specs.Scalars.{read_number}
use Rattle.amf_text_read.specs.Verdicts.{asked_of}
use Rattle.amf_text_trees.specs.Gathering.{trees_after}
use Rattle.amf_text_gather.specs.Drafts.{draft_of}
use Rattle.amf_text_gather.proofs.reading.meet_all.Given as goal

abbrev pub invariant-loop-token : goal.invariant-loop-token
invariant-loop-token l =
    trees_after read_number (asked_of l.initial.asked) (draft_of l.initial.draft) l.initial.reader
    ≡ trees_after read_number (asked_of l.asked) (draft_of l.draft) l.reader

abbrev pub decreases-loop-token : goal.decreases-loop-token
decreases-loop-token l = length l.reader
