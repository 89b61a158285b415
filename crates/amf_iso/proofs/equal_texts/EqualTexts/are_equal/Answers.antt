use Rattle.std.proofs.Common.{◌≡◌, ◌<◌, ◌∙◌, length, slice_get, Some, refl, sym, ap, subst}
use Rattle.std.proofs.lemmas.Bool.Decides.{Decides-eqb}
use Rattle.std.proofs.lemmas.Option.{slice_get_read, slice_get_within}
use Rattle.amf_graph.specs.Arena.{text_at}
use Rattle.amf_graph.specs.TextNumbers.{contents_of}
use Rattle.amf_iso.specs.Joined.{AreJoined}
use Rattle.amf_iso.proofs.Joins.{partner_decides, kept_joined}
use Rattle.amf_iso.proofs.equal_texts.EqualTexts.are_equal.Goals as goal

pub returns-in-Some-clause-equal : goal.returns-in-Some-clause-equal
returns-in-Some-clause-equal c =
    let a = c.args.left.now.arena in
    let b = c.args.right.now.arena in
    let partners = c.self.inside.partners.items in
    let m = c.text_number-m.result in
    let n = c.text_number-n.result in
    let p = c.in-Some.partner in
    let known : AreJoined a b partners = subst (λ w. AreJoined a b w) (sym c.self.view_is) c.requires.known in
    let there : m < length partners = subst (λ k. m < k) (sym known.all) (slice_get_within (contents_of a.texts) m (text_at a c.args.x.0) c.text_number-m.ensures) in
    let at : slice_get partners m ≡ Some (Some p) = slice_get_read partners (length partners) m c.index.result.now refl there c.index.ensures ∙ ap (λ o. Some o) c.in-Some.is in
    let d = partner_decides a b partners m n p (text_at a c.args.x.0) (text_at b c.args.y.0) c.number_facts.ensures known at c.text_number-m.ensures c.text_number-n.ensures in
    (λ t. d.0 ((Decides-eqb p n).0 t), λ e. (Decides-eqb p n).1 (d.1 e))

pub returns-in-None-clause-known : goal.returns-in-None-clause-known
returns-in-None-clause-known c =
    let a = c.args.left.now.arena in
    let b = c.args.right.now.arena in
    kept_joined a b c.args.self.now c.meet.new.self c.text_number-m.result c.text_number-n.result (text_at a c.args.x.0) (text_at b c.args.y.0) c.text.result.now c.text-in-None.result.now c.meet.result c.requires.known c.text_number-m.ensures c.text_number-n.ensures c.text.ensures c.text-in-None.ensures c.meet.ensures.kept c.meet.ensures.equal
