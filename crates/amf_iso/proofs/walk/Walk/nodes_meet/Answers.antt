use Rattle.std.proofs.Common.{◌∙◌, Some, length, refl, ap}
use Rattle.std.proofs.lemmas.Bool.Decides.{Decides-eqb}
use Rattle.std.proofs.lemmas.Option.{slice_get_read}
use Rattle.amf_iso.proofs.Pairing.{known_partner, taken_already, not_some}
use Rattle.amf_iso.proofs.walk.Walk.nodes_meet.Goals as goal

pub returns-in-Some : goal.returns-in-Some
returns-in-Some c = λ a b s.
    let w = c.args.self.now in
    let at = slice_get_read w.partners.items (length w.partners.items) c.args.i.0 c.index.result.now refl c.requires.left c.index.ensures ∙ ap (λ o. Some o) c.in-Some.is in
    known_partner a b w c.args.i.0 c.args.j.0 c.in-Some.partner _ s at (Decides-eqb c.in-Some.partner c.args.j.0)

pub returns-then-index : goal.returns-then-index
returns-then-index c = λ a b s.
    let w = c.args.self.now in
    let free = slice_get_read w.partners.items (length w.partners.items) c.args.i.0 c.index.result.now refl c.requires.left c.index.ensures ∙ ap (λ o. Some o) (not_some c.index.result.now c.in_default.not-Some) in
    let taken = slice_get_read w.taken.items (length w.taken.items) c.args.j.0 c.index-2.result.now refl c.requires.right c.index-2.ensures ∙ ap (λ o. Some o) c.if-index.true in
    taken_already a b w c.args.i.0 c.args.j.0 s free taken

pub pair-requires-clause-left : goal.pair-requires-clause-left
pair-requires-clause-left c =
    let w = c.args.self.now in
    slice_get_read w.partners.items (length w.partners.items) c.args.i.0 c.index.result.now refl c.requires.left c.index.ensures ∙ ap (λ o. Some o) (not_some c.index.result.now c.in_default.not-Some)

pub pair-requires-clause-right : goal.pair-requires-clause-right
pair-requires-clause-right c =
    let w = c.args.self.now in
    slice_get_read w.taken.items (length w.taken.items) c.args.j.0 c.index-2.result.now refl c.requires.right c.index-2.ensures ∙ ap (λ o. Some o) c.if-index.false
