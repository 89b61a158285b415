use Rattle.std.proofs.Common.{◌≡◌, ◌∷◌, ◌++◌, [], map, sym, ap, ◌∙◌}
use Rattle.std.specs.Prelude.{codes}
use Rattle.json.specs.Token.{key, begin_array, end_array}
use Rattle.json.specs.Tree.{json_tokens}
use Rattle.amf_text.specs.Scalars.{word}
use Rattle.amf_text.specs.Told.{Way, listed}
use Rattle.amf_text_write.specs.Names.{names_of}
use Rattle.amf_text_write.specs.Objects.{name_list}
use Rattle.amf_text_write.specs.Parts.{each_json}
use Rattle.amf_text_write.specs.Pieces.{names_tokens}
use Rattle.amf_text_write.proofs.Jsons.{listed_told}
use Rattle.amf_text_write.proofs.Telling.{on_ok}
use Rattle.amf_text_write.proofs.PartLists.{put_items}
use Rattle.amf_text_write.proofs.SealedParts.{list_none, list_some, words_told}
use Rattle.amf_text_write.proofs.Stacks.{put_one, put_then, put_as, put_none}
use Rattle.amf_text_write.proofs.sealed.put_name_list.Goals as goal

pub returns-then-is_rising : goal.returns-then-is_rising
returns-then-is_rising c = λ g.
    let a = c.args.graph.now.arena in
    let xs = names_of a c.args.pairs.now in
    put_as g a (λ w. []) (λ w. name_list xs) c.args.waiting.now.items c.args.waiting.now.items (λ w. list_none xs (sym c.is_rising.ensures ∙ c.if-is_rising.true)) (put_none g a c.args.waiting.now.items)

pub returns : goal.returns
returns c = λ g.
    let a = c.args.graph.now.arena in
    let ps = c.args.pairs.now in
    let xs = names_of a ps in
    let words : (w : Way) → begin_array ∷ (names_tokens a ps w ++ end_array ∷ []) ≡ json_tokens (listed (map word xs)) = λ w. ap (λ js. begin_array ∷ (each_json js ++ end_array ∷ [])) (words_told xs c.requires.plain) ∙ sym (listed_told (map word xs)) in
    on_ok c.put-3.result (λ e.
    put_as g a (λ w. key (codes "$names") ∷ json_tokens (listed (map word xs))) (λ w. name_list xs) c.args.waiting.now.items c.put-3.new.waiting.items (λ w. list_some xs (sym c.is_rising.ensures ∙ c.if-is_rising.false))
    (put_then g a (λ w. json_tokens (listed (map word xs))) (λ w. key (codes "$names") ∷ []) c.args.waiting.now.items c.put-2.new.waiting.items c.put-3.new.waiting.items
    (put_items g a (names_tokens a ps) (λ w. json_tokens (listed (map word xs))) c.args.waiting.now.items c.put.new.waiting.items c.put_names.new.waiting.items c.put-2.new.waiting.items
    c.in_ok-put.ensures (c.in_ok-put_names.ensures g a c.requires.pairs) c.in_ok-put-2.ensures words) (put_one g a _ c.put-2.new.waiting.items c.put-3.new.waiting.items e tt))) c.put-3.ensures
