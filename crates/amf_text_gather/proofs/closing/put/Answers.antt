use Rattle.std.proofs.lemmas.List.{map-set}
use Rattle.amf_text_pages.specs.Pages.{kept_of}
use Rattle.amf_text_gather.proofs.closing.put.Goals as goal

pub returns-then-number-len : goal.returns-then-number-len
returns-then-number-len c = map-set kept_of c.args.nodes.now.items c.args.number c.args.node
