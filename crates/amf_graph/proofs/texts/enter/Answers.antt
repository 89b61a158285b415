-- A new content gets the next number, or is taken back.
use Rattle.std.proofs.Common.{◌∙◌, map, sym, ap}
use Rattle.amf_graph.specs.KeptTexts.{text_hash}
use Rattle.amf_graph.proofs.Contents.{entered_number, entered_hashes, content_new, taken_back}
use Rattle.amf_graph.proofs.texts.enter.Goals as goal

pub returns-in-Ok-clause-number : goal.returns-in-Ok-clause-number
returns-in-Ok-clause-number c = entered_number c.args.contents.now c.push.new.self c.args.bytes.now c.len-number.result c.len-number.ensures c.in_ok-push.ensures.ok

pub returns-in-Ok-clause-ok : goal.returns-in-Ok-clause-ok
returns-in-Ok-clause-ok c = c.in_ok-push.ensures.ok ∙ sym (content_new c.args.contents.now c.args.bytes.now c.requires.new)

pub returns-in-Ok-clause-hashes : goal.returns-in-Ok-clause-hashes
returns-in-Ok-clause-hashes c = entered_hashes c.args.keys c.args.contents.now c.push.new.self c.args.chains.now c.push-2.new.self c.args.bytes.now c.args.hash c.requires.hashes c.in-Ok.ensures.ok c.requires.hash c.in_ok-push.ensures.ok

pub returns-in-Err-clause-err : goal.returns-in-Err-clause-err
returns-in-Err-clause-err c = c.truncate.ensures ∙ taken_back c.args.contents.now c.push.new.self c.args.bytes.now c.len-number.result c.len-number.ensures c.in_ok-push.ensures.ok

pub returns-in-Err-clause-hashes : goal.returns-in-Err-clause-hashes
returns-in-Err-clause-hashes c =
    c.in-Err.ensures.err ∙ c.requires.hashes ∙ ap (λ w. map (text_hash c.args.keys) w) (sym (c.truncate.ensures ∙ taken_back c.args.contents.now c.push.new.self c.args.bytes.now c.len-number.result c.len-number.ensures c.in_ok-push.ensures.ok))
