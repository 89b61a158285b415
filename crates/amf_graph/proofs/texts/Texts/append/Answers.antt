-- After an end the first texts alone are kept.
use Rattle.std.proofs.Common.{length, take, sym, ap, ◌∙◌}
use Rattle.amf_graph.specs.TextNumbers.{contents_of}
use Rattle.amf_graph.proofs.texts.Texts.append.Goals as goal

pub truncate-requires : goal.truncate-requires
truncate-requires c =
    c.content_count-contents.ensures ∙ ap (λ w. length (contents_of w)) (sym (ap (λ n. take n c.push_all.new.self) c.len-count.ensures ∙ c.push_all.ensures.front))

pub returns-in-Err-clause-err : goal.returns-in-Err-clause-err
returns-in-Err-clause-err c = c.truncate.ensures ∙ ap (λ n. take n c.push_all.new.self) c.len-count.ensures ∙ c.push_all.ensures.front
