use Rattle.std.proofs.Common.{rules, ◌-◌, ap, arith}
use Rattle.amf_text_trees.specs.Gathering.{draft}
use Rattle.amf_text_trees.specs.Pieces.{text}
use Rattle.amf_text_pages.specs.Pages.{sheet_of}
use Rattle.amf_text_gather.proofs.LastFrames.{frames_given}
use Rattle.amf_text_gather.proofs.draft.Draft.put_text.Goals as goal

pub returns-in-None : goal.returns-in-None
returns-in-None c =
    ap (draft (sheet_of c.args.self.now.sheet))
    (frames_given c.args.self.now.frames.items (c.len-count.result - 1) c.text_here.new.frame c.index_mut.result.now (text c.args.text.items)
    (omega (arith, c.len-count.ensures, c.if-count-eq0.false)) (search rules))
