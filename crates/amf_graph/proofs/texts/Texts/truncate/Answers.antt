-- The first texts alone, with the first contents.
use Rattle.std.proofs.Common.{◌≡◌, length, take, sym, ap, ◌∙◌, subst, arith}
use Rattle.std.proofs.lemmas.List.{length-map}
use Rattle.amf_graph.specs.TextNumbers.{contents_of}
use Rattle.amf_graph.specs.KeptTexts.{text_hash}
use Rattle.amf_graph.proofs.Contents.{cut_within, kept_cut, shown_cut}
use Rattle.amf_graph.proofs.texts.Texts.truncate.Goals as goal

pub truncate-requires-2 : goal.truncate-requires-2
truncate-requires-2 c =
    cut_within c.self.inside.keys c.self.inside.contents c.self.inside.chains c.self.inside.numbers.items c.args.count c.args.contents c.self.invariant
    (subst (λ w. c.args.contents ≡ length (contents_of (take c.args.count w))) (sym c.self.view_is) c.requires)

pub truncate_chains-requires : goal.truncate_chains-requires
truncate_chains-requires c =
    let many = ap length c.self.invariant.hashes ∙ length-map c.self.inside.contents (text_hash c.self.inside.keys) in
    let within =
    cut_within c.self.inside.keys c.self.inside.contents c.self.inside.chains c.self.inside.numbers.items c.args.count c.args.contents c.self.invariant
    (subst (λ w. c.args.contents ≡ length (contents_of (take c.args.count w))) (sym c.self.view_is) c.requires)
    in
    omega (arith, many, within)

pub invariant_of-self : goal.invariant_of-self
invariant_of-self c =
    kept_cut c.self.inside.keys c.self.inside.contents c.truncate-2.new.self c.self.inside.chains c.truncate_chains.new.chains c.self.inside.numbers.items c.truncate.new.self.items c.args.count c.args.contents
    c.truncate.ensures.items c.truncate-2.ensures c.truncate_chains.ensures c.self.invariant
    (subst (λ w. c.args.contents ≡ length (contents_of (take c.args.count w))) (sym c.self.view_is) c.requires)

pub returns : goal.returns
returns c =
    shown_cut c.self.inside.keys c.self.inside.contents c.truncate-2.new.self c.self.inside.chains c.self.inside.numbers.items c.truncate.new.self.items c.args.count c.args.contents
    c.truncate.ensures.items c.truncate-2.ensures c.self.invariant
    (subst (λ w. c.args.contents ≡ length (contents_of (take c.args.count w))) (sym c.self.view_is) c.requires)
    ∙ ap (take c.args.count) c.self.view_is
