use Rattle.std.proofs.Common.{◌≡◌, true, false, sym, ap, ◌∙◌, subst, length}
use Rattle.std.specs.Prelude.{◌==◌, ◌&&◌}
use Rattle.std.proofs.lemmas.Bool.{and_parts}
use Rattle.std.proofs.lemmas.List.{length-map}
use Rattle.amf_graph.specs.Arena.{text_at, traits_at}
use Rattle.amf_graph.specs.ByName.{by_name}
use Rattle.amf_graph.specs.Graph.{Traits, object}
use Rattle.amf_iso.specs.Contents.{values_of, pairs_of, ArePairs}
use Rattle.amf_text.specs.Told.{no_tags, is_rising}
use Rattle.amf_text_write.specs.Names.{names_in, all_plain}
use Rattle.amf_text_write.specs.Objects.{are_tested_keys, simple_test, simple_tokens, class_tokens}
use Rattle.amf_text_write.specs.Opening.{body_tokens}
use Rattle.amf_text_write.specs.Ways.{arena_in, graph_in}
use Rattle.amf_text_write.proofs.ObjectParts.{simple_told, class_told, class_is, class_in, sealed_in}
use Rattle.amf_text_write.proofs.Opened.{opens_as}
use Rattle.amf_text_write.proofs.Telling.{on_ok}
use Rattle.amf_text_write.proofs.layout.Output.object.Goals as goal

pub text-requires : goal.text-requires
text-requires c = class_in (arena_in c.args.way.now) c.args.traits.0 c.traits-class.result c.traits-class.ensures c.is_finished.ensures.finished c.requires.traits

pub is_simple-requires : goal.is_simple-requires
is_simple-requires c = subst (ArePairs (arena_in c.args.way.now)) (sym c.deref.ensures.value) c.in_ok-pairs.ensures.names

pub returns-then-is_simple : goal.returns-then-is_simple
returns-then-is_simple c =
    let g = graph_in c.args.way.now in
    let a = arena_in c.args.way.now in
    let n = c.args.levels in
    let v = c.traits-class.result in
    let qs = pairs_of a c.args.members.now in
    let rs = c.deref-then-is_simple.result.now in
    let vs = c.args.sealed.now in
    let b = c.args.waiting.now.items in
    let same = c.deref.ensures.value ∙ sym c.deref-then-is_simple.ensures.value in
    let is : pairs_of a rs ≡ by_name qs = ap (pairs_of a) c.deref-then-is_simple.ensures.value ∙ c.in_ok-pairs.ensures.content in
    let tests = sym c.is_simple.ensures ∙ c.if-is_simple.true in
    let test : simple_test (text_at a v.class.0) v.sealed.now v.dynamic (by_name qs) ≡ true =
    ap (λ x. simple_test x v.sealed.now v.dynamic (by_name qs)) (sym c.text.ensures)
    ∙ ap (λ ws. simple_test c.text.result.now v.sealed.now v.dynamic ws) (sym is ∙ ap (pairs_of a) (sym same)) ∙ tests in
    let keys = (and_parts (are_tested_keys (by_name qs)) (no_tags (names_in (by_name qs))) (and_parts (((length (text_at a v.class.0) == 0) && (length v.sealed.now == 0)) && v.dynamic) (are_tested_keys (by_name qs) && no_tags (names_in (by_name qs))) test).1).0 in
    let plain = (and_parts (all_plain (names_in (by_name qs))) (is_rising (names_in (by_name qs))) keys).0 in
    on_ok c.simple_object.result (opens_as g a (simple_tokens g n (pairs_of a rs)) (body_tokens g n (object (traits_at a c.args.traits.0)) qs (values_of a vs)) b c.simple_object.new.waiting.items c.args.self.now c.simple_object.new.self
    (λ w. ap (λ ws. simple_tokens g n ws w) is ∙ simple_told g a n w v.class.0 v.dynamic v.sealed.now vs qs test ∙ ap (λ (u : Traits). body_tokens g n (object u) qs (values_of a vs) w) (sym (class_is a c.args.traits.0 v c.traits-class.ensures))))
    (c.simple_object.ensures g a (subst (ArePairs a) (sym c.deref-then-is_simple.ensures.value) c.in_ok-pairs.ensures.names) (ap (λ ws. all_plain (names_in ws)) is ∙ plain))

pub class_object-requires-clause-class : goal.class_object-requires-clause-class
class_object-requires-clause-class c = class_in (arena_in c.args.way.now) c.args.traits.0 c.traits-class.result c.traits-class.ensures c.is_finished.ensures.finished c.requires.traits

pub class_object-requires-clause-names : goal.class_object-requires-clause-names
class_object-requires-clause-names c = sealed_in (arena_in c.args.way.now) c.args.traits.0 c.traits-class.result c.traits-class.ensures c.is_finished.ensures.finished c.requires.traits

pub class_object-requires-clause-each : goal.class_object-requires-clause-each
class_object-requires-clause-each c = c.requires.each ∙ ap (λ (u : Traits). length u.sealed) (class_is (arena_in c.args.way.now) c.args.traits.0 c.traits-class.result c.traits-class.ensures) ∙ length-map c.traits-class.result.sealed.now _

pub class_object-requires-clause-pairs : goal.class_object-requires-clause-pairs
class_object-requires-clause-pairs c = subst (ArePairs (arena_in c.args.way.now)) (sym c.deref-2.ensures.value) c.in_ok-pairs.ensures.names

pub returns : goal.returns
returns c =
    let g = graph_in c.args.way.now in
    let a = arena_in c.args.way.now in
    let n = c.args.levels in
    let v = c.traits-class.result in
    let qs = pairs_of a c.args.members.now in
    let rs = c.deref-2.result.now in
    let vs = c.args.sealed.now in
    let b = c.args.waiting.now.items in
    let same = c.deref.ensures.value ∙ sym c.deref-2.ensures.value in
    let is : pairs_of a rs ≡ by_name qs = ap (pairs_of a) c.deref-2.ensures.value ∙ c.in_ok-pairs.ensures.content in
    let tests = sym c.is_simple.ensures ∙ c.if-is_simple.false in
    let test : simple_test (text_at a v.class.0) v.sealed.now v.dynamic (by_name qs) ≡ false =
    ap (λ x. simple_test x v.sealed.now v.dynamic (by_name qs)) (sym c.text.ensures)
    ∙ ap (λ ws. simple_test c.text.result.now v.sealed.now v.dynamic ws) (sym is ∙ ap (pairs_of a) (sym same)) ∙ tests in
    on_ok c.class_object.result (opens_as g a (class_tokens g a n v.class.0 v.dynamic v.sealed.now vs (pairs_of a rs)) (body_tokens g n (object (traits_at a c.args.traits.0)) qs (values_of a vs)) b c.class_object.new.waiting.items c.args.self.now c.class_object.new.self
    (λ w. ap (λ ws. class_tokens g a n v.class.0 v.dynamic v.sealed.now vs ws w) is ∙ class_told g a n w v.class.0 v.dynamic v.sealed.now vs qs test ∙ ap (λ (u : Traits). body_tokens g n (object u) qs (values_of a vs) w) (sym (class_is a c.args.traits.0 v c.traits-class.ensures))))
    c.class_object.ensures
