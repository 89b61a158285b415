use Rattle.std.proofs.Common.{sym, ap, ◌∙◌, subst}
use Rattle.std.specs.Prelude.{◌&&◌}
use Rattle.json.specs.Tree.{json_tokens}
use Rattle.amf_graph.specs.ByName.{by_name}
use Rattle.amf_iso.specs.Contents.{pairs_of, ArePairs}
use Rattle.amf_text.specs.Told.{told, told_names, told_members, is_rising}
use Rattle.amf_text_write.specs.Names.{names_of, all_plain}
use Rattle.amf_text_write.specs.Opening.{told_tokens}
use Rattle.amf_text_write.specs.Ways.{arena_in, graph_in}
use Rattle.amf_text_write.proofs.Telling.{on_ok}
use Rattle.amf_text_write.proofs.Keys.{members_tested, plain_tested}
use Rattle.amf_text_write.proofs.Stacks.{put_as}
use Rattle.amf_text_write.proofs.members.put_by_name.Goals as goal

pub are_keys-requires : goal.are_keys-requires
are_keys-requires c = subst (ArePairs (arena_in c.args.way.now)) (sym c.deref.ensures.value) c.in_ok-sorted.ensures.names

pub returns : goal.returns
returns c =
    let g = graph_in c.args.way.now in
    let a = arena_in c.args.way.now in
    let n = c.args.levels in
    let ps = pairs_of a c.args.pairs.now in
    let sorted = c.deref-2.result.now in
    let qs = pairs_of a sorted in
    let t = c.are_keys.result in
    let is = ap (pairs_of a) c.deref-2.ensures.value ∙ c.in_ok-sorted.ensures.content in
    let tests = c.are_keys.ensures ∙ ap (λ rs. all_plain (names_of a rs) && is_rising (names_of a rs)) (c.deref.ensures.value ∙ sym c.deref-2.ensures.value) in
    on_ok c.put_told.result (put_as g a (told_tokens g t n qs) (λ w. json_tokens (told_members (told_names (told w g n) (by_name ps)))) c.args.waiting.now.items c.put_told.new.waiting.items (λ w. ap json_tokens (members_tested (told w g n) ps qs t is tests)))
    (c.put_told.ensures g a (subst (ArePairs a) (sym c.deref-2.ensures.value) c.in_ok-sorted.ensures.names) (plain_tested qs t tests))
