-- A text has the content of its number.
use Rattle.std.proofs.Common.{◌<◌, ◌∙◌, [], length, map, sym, arith}
use Rattle.std.proofs.lemmas.List.{get_or-map, get_or_past, length-map}
use Rattle.amf_graph.specs.KeptTexts.{content_at}
use Rattle.amf_graph.proofs.Alls.{all_at}
use Rattle.amf_graph.proofs.texts.text_at.Goals as goal

pub get-requires : goal.get-requires
get-requires c = all_at (λ n. n < length c.args.contents.now) c.args.numbers.now c.args.place 0 (omega arith) c.requires

pub returns-then-place-numbers : goal.returns-then-place-numbers
returns-then-place-numbers c = c.get.ensures ∙ sym (get_or-map (content_at c.args.contents.now) c.args.numbers.now c.args.place 0 [] (omega arith))

pub returns-else-place-numbers : goal.returns-else-place-numbers
returns-else-place-numbers c =
    let many = length-map c.args.numbers.now (content_at c.args.contents.now) in
    sym (get_or_past (map (content_at c.args.contents.now) c.args.numbers.now) c.args.place [] (omega arith))
