use Rattle.std.proofs.Common.{◌∙◌, ◌∷◌, [], None, false, length, map, refl, ap, arith}
use Rattle.std.proofs.lemmas.List.{map-append}
use Rattle.std.proofs.lemmas.Option.{slice_get_within}
use Rattle.amf_graph.proofs.Lists.{length_pushed}
use Rattle.amf_iso.proofs.Pairing.{new_partners}
use Rattle.amf_iso.proofs.walk.Walk.pair.Goals as goal

pub index_mut-requires : goal.index_mut-requires
index_mut-requires c =
    let w = slice_get_within c.args.self.now.partners.items c.args.i.0 None c.requires.left in
    omega (arith, w, c.args.self.now.partners.ok)

pub index_mut-requires-2 : goal.index_mut-requires-2
index_mut-requires-2 c =
    let w = slice_get_within c.args.self.now.taken.items c.args.j.0 false c.requires.right in
    omega (arith, w, c.args.self.now.taken.ok)

pub returns : goal.returns
returns c = λ a b s.
    let old = c.args.self.now in
    new_partners a b old _ c.args.i.0 c.args.j.0 s c.requires.left c.requires.right (ap (λ ps. map (λ p. (p.0.0, p.1.0)) ps) c.in_ok-push.ensures.items ∙ map-append (λ p. (p.0.0, p.1.0)) old.pairs.items ((c.args.i, c.args.j) ∷ [])) (ap length c.in_ok-push.ensures.items ∙ length_pushed old.pairs.items (c.args.i, c.args.j)) refl refl refl
