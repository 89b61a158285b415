use Rattle.std.proofs.Common.{◌≡◌, true, false, ◌∷◌, ◌++◌, [], sym, ap, ◌∙◌, subst}
use Rattle.std.specs.Prelude.{codes, ◌&&◌}
use Rattle.json.specs.Token.{key}
use Rattle.amf_graph.specs.ByName.{by_name}
use Rattle.amf_iso.specs.Contents.{pairs_of, ArePairs}
use Rattle.amf_text.specs.Told.{is_rising}
use Rattle.amf_text_write.specs.Names.{names_of, all_plain}
use Rattle.amf_text_write.specs.Objects.{name_list, sealed_tokens}
use Rattle.amf_text_write.specs.Opening.{told_tokens}
use Rattle.amf_text_write.specs.Ways.{arena_in, graph_in}
use Rattle.amf_text_write.proofs.Keys.{plain_tested}
use Rattle.amf_text_write.proofs.SealedParts.{zip_pairs, none_sealed, unkeyed_tokens, keyed_tokens, all_keys_plain}
use Rattle.amf_text_write.proofs.Stacks.{put_one, put_then, put_as, put_none}
use Rattle.amf_text_write.proofs.Telling.{on_ok}
use Rattle.amf_text_write.proofs.sealed.put_sealed.Goals as goal

pub returns-then-is_empty : goal.returns-then-is_empty
returns-then-is_empty c =
    let g = graph_in c.args.way.now in
    let a = arena_in c.args.way.now in
    put_as g a (λ w. []) (sealed_tokens g a c.args.levels c.args.names.now c.args.values.now) c.args.waiting.now.items c.args.waiting.now.items
    (λ w. none_sealed g a c.args.levels c.args.names.now c.args.values.now w (sym c.is_empty.ensures ∙ c.if-is_empty.true)) (put_none g a c.args.waiting.now.items)

pub ids_by_name-requires : goal.ids_by_name-requires
ids_by_name-requires c = subst (ArePairs (arena_in c.args.way.now)) (sym (c.deref.ensures.value ∙ c.in_ok-pairs.ensures)) (zip_pairs (arena_in c.args.way.now) c.args.names.now c.args.values.now c.requires.names c.requires.values)

pub are_keys-requires : goal.are_keys-requires
are_keys-requires c = subst (ArePairs (arena_in c.args.way.now)) (sym c.deref-2.ensures.value) c.in_ok-sorted.ensures.names

pub returns-then-not-are_keys : goal.returns-then-not-are_keys
returns-then-not-are_keys c =
    let g = graph_in c.args.way.now in
    let a = arena_in c.args.way.now in
    let n = c.args.levels in
    let names = c.args.names.now in
    let values = c.args.values.now in
    let b = c.args.waiting.now.items in
    let ps = c.deref-then-not-are_keys.result.now in
    let qs = c.deref-2.result.now in
    let zips = c.deref-then-not-are_keys.ensures.value ∙ c.in_ok-pairs.ensures in
    let sorts = ap (pairs_of a) c.deref-2.ensures.value ∙ c.in_ok-sorted.ensures.content ∙ ap (λ rs. by_name (pairs_of a rs)) (c.deref.ensures.value ∙ sym c.deref-then-not-are_keys.ensures.value) in
    on_ok c.put.result (λ e.
    put_as g a (λ w. key (codes "$sealed") ∷ told_tokens g false n (pairs_of a ps) w) (sealed_tokens g a n names values) b c.put.new.waiting.items
    (λ w. unkeyed_tokens g a n names values ps qs c.are_keys.result c.requires.each (sym c.is_empty.ensures ∙ c.if-is_empty.false) zips sorts c.are_keys.ensures w c.if-not-are_keys.true)
    (put_then g a (told_tokens g false n (pairs_of a ps)) (λ w. key (codes "$sealed") ∷ []) b c.put_told.new.waiting.items c.put.new.waiting.items
    (c.in_ok-put_told.ensures g a (subst (ArePairs a) (sym zips) (zip_pairs a names values c.requires.names c.requires.values)) (λ (never : false ≡ true). cc)) (put_one g a _ c.put_told.new.waiting.items c.put.new.waiting.items e tt))) c.put.ensures

pub put_name_list-requires-clause-pairs : goal.put_name_list-requires-clause-pairs
put_name_list-requires-clause-pairs c = subst (ArePairs (arena_in c.args.way.now)) (sym (c.deref-4.ensures.value ∙ c.in_ok-pairs.ensures)) (zip_pairs (arena_in c.args.way.now) c.args.names.now c.args.values.now c.requires.names c.requires.values)

pub put_name_list-requires-clause-plain : goal.put_name_list-requires-clause-plain
put_name_list-requires-clause-plain c =
    let g = graph_in c.args.way.now in
    let a = arena_in c.args.way.now in
    let sorts = ap (pairs_of a) c.deref-2.ensures.value ∙ c.in_ok-sorted.ensures.content ∙ ap (λ rs. by_name (pairs_of a rs)) (c.deref.ensures.value ∙ sym c.deref-4.ensures.value) in
    all_keys_plain g a c.args.levels c.args.names.now c.args.values.now c.deref-4.result.now c.deref-2.result.now c.are_keys.result c.requires.each (sym c.is_empty.ensures ∙ c.if-is_empty.false) (c.deref-4.ensures.value ∙ c.in_ok-pairs.ensures) sorts c.are_keys.ensures c.if-not-are_keys.false

pub returns : goal.returns
returns c =
    let g = graph_in c.args.way.now in
    let a = arena_in c.args.way.now in
    let n = c.args.levels in
    let names = c.args.names.now in
    let values = c.args.values.now in
    let b = c.args.waiting.now.items in
    let ps = c.deref-4.result.now in
    let qs = c.deref-3.result.now in
    let zips = c.deref-4.ensures.value ∙ c.in_ok-pairs.ensures in
    let sorts = ap (pairs_of a) c.deref-3.ensures.value ∙ c.in_ok-sorted.ensures.content ∙ ap (λ rs. by_name (pairs_of a rs)) (c.deref.ensures.value ∙ sym c.deref-4.ensures.value) in
    let tests = c.are_keys.ensures ∙ ap (λ rs. all_plain (names_of a rs) && is_rising (names_of a rs)) (c.deref-2.ensures.value ∙ sym c.deref-3.ensures.value) in
    let told = told_tokens g true n (pairs_of a qs) in
    on_ok c.put_name_list.result (λ p.
    put_as g a (λ w. name_list (names_of a ps) ++ key (codes "$sealed") ∷ told w) (sealed_tokens g a n names values) b c.put_name_list.new.waiting.items
    (λ w. keyed_tokens g a n names values ps qs c.are_keys.result c.requires.each (sym c.is_empty.ensures ∙ c.if-is_empty.false) zips sorts tests w c.if-not-are_keys.false)
    (put_then g a (λ w. key (codes "$sealed") ∷ told w) (λ w. name_list (names_of a ps)) b c.put-2.new.waiting.items c.put_name_list.new.waiting.items
    (put_then g a told (λ w. key (codes "$sealed") ∷ []) b c.put_told-2.new.waiting.items c.put-2.new.waiting.items
    (c.in_ok-put_told-2.ensures g a (subst (ArePairs a) (sym c.deref-3.ensures.value) c.in_ok-sorted.ensures.names) (λ e. plain_tested (pairs_of a qs) c.are_keys.result tests c.if-not-are_keys.false))
    (put_one g a _ c.put_told-2.new.waiting.items c.put-2.new.waiting.items c.in_ok-put.ensures tt)) p)) (c.put_name_list.ensures g)
