use Rattle.std.proofs.Common.{◌≡◌, ◌++◌, [], sym, subst}
use Rattle.std.specs.Prelude.{cond, codes, OnOk}
use Rattle.std.specs.List.{zip}
use Rattle.amf_graph.specs.ByName.{by_name}
use Rattle.amf_graph.specs.Graph.{Traits}
use Rattle.amf_graph.specs.Arena.{text_at}
use Rattle.amf_iso.specs.Contents.{values_of, pairs_of}
use Rattle.amf_iso.proofs.HeadFacts.{sealed_in, traits_shown}
use Rattle.amf_tables.specs.ShownTraits.{texts_at}
use Rattle.amf_show.specs.Shown.{shown_text}
use Rattle.amf_show.specs.Listing.{shown_pairs, shown_object}
use Rattle.amf_show.proofs.Held.{behind, on_ok}
use Rattle.amf_show.proofs.lister.Lister.push_unknown.Goals as goal

pub push_sealed-requires-clause-names : goal.push_sealed-requires-clause-names
push_sealed-requires-clause-names c = sealed_in c.args.self.now.graph.now.arena c.args.traits.0 c.traits-class.result c.is_finished.ensures.finished c.requires.traits c.traits-class.ensures

pub returns : goal.returns
returns c =
    let a = c.args.self.now.graph.now.arena in
    let order = c.args.self.now.numbering.now in
    let v = c.traits-class.result in
    let ps = pairs_of a c.args.members.now in
    let vs = values_of a c.args.sealed.now in
    let o = c.args.out.now.items in
    let name = codes "object " ++ shown_text (text_at a v.class.0) in
    let sealed = shown_pairs order (zip (texts_at a v.sealed.now) vs) in
    let rest = cond v.dynamic (codes " dynamic " ++ shown_pairs order (by_name ps)) [] in
    let one : c.push_worded.new.out.items ≡ o ++ name = subst (λ x. c.push_worded.new.out.items ≡ o ++ (codes "object " ++ shown_text x)) c.text.ensures c.in_ok-push_worded.ensures in
    let two = behind o name (codes " sealed ") c.push_worded.new.out.items c.push_word.new.out.items one c.in_ok-push_word.ensures in
    let three = behind o (name ++ codes " sealed ") sealed c.push_word.new.out.items c.push_sealed.new.out.items two c.in_ok-push_sealed.ensures in
    subst (λ (t : Traits). OnOk c.push_members.result (c.push_members.new.out.items ≡ o ++ shown_object order t ps vs)) (sym (traits_shown a c.args.traits.0 v c.traits-class.ensures))
    (on_ok c.push_members.result (behind o ((name ++ codes " sealed ") ++ sealed) rest c.push_sealed.new.out.items c.push_members.new.out.items three) c.push_members.ensures)
