use Rattle.std.proofs.Common.{◌≡◌, ◌∙◌, None, replicate, ap}
use Rattle.std.specs.Prelude.{false}
use Rattle.amf_iso.proofs.Numbers.{only_none}
use Rattle.amf_iso.proofs.Pairing.{begun}
use Rattle.amf_iso.proofs.walk.Walk.new.Goals as goal

pub returns-clause-sound : goal.returns-clause-sound
returns-clause-sound c =
    let a = c.args.graphs.now.left.now.arena in
    let b = c.args.graphs.now.right.now.arena in
    let blank : c.in_ok-partners.partners.items ≡ replicate c.node_count.result None = c.in_ok-partners.ensures.items_if_clones_equal (only_none _ (λ k h. h)) in
    begun a b _ (c.in_ok-texts.ensures b) c.new-2.ensures.items (blank ∙ ap (λ n. replicate n None) c.node_count.ensures) (c.in_ok-taken.ensures.items_if_clones_equal (λ y h. h) ∙ ap (λ n. replicate n false) c.node_count-2.ensures)
