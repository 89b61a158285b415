use Rattle.std.proofs.Common.{◌≡◌, ◌<◌, length, sym, ◌∙◌, subst}
use Rattle.amf_graph.specs.Rooted.{RootedArena, content}
use Rattle.amf_text_write.specs.Laid.{bytes_of}
use Rattle.amf_text_write.specs.ValueTexts.{IsFileText}
use Rattle.amf_text_write.proofs.Telling.{if_ok}
use Rattle.amf_text_write.proofs.WholeTexts.{file_whole}
use Rattle.amf_text_write.proofs.files.file_text.Goals as goal

pub file_object-requires-clause-holder : goal.file_object-requires-clause-holder
file_object-requires-clause-holder c = subst (λ (g : RootedArena). c.holder_of-holder.result.0 < length g.arena.nodes) (sym c.way-way.ensures.graph) c.holder_of-holder.ensures.there

pub returns : goal.returns
returns c =
    let g = c.args.graph.now in
    let s = c.file_object.new.self in
    let x = c.args.name.now in
    if_ok c.into_bytes.result (λ bytes. bytes.items ≡ bytes_of s) (λ bytes. IsFileText c.args.layout x c.args.version (content g) bytes.items)
    (λ bytes is. file_whole c.args.layout x c.args.version c.holder_of-holder.result.0 c.way-way.result g c.new-output.result s bytes.items c.way-way.ensures.planned c.way-way.ensures.graph (c.way-way.ensures.bare ∙ c.is_bare.ensures) c.holder_of-holder.ensures.root
    c.new-output.ensures c.in_ok-file_object.ensures is) c.into_bytes.ensures
