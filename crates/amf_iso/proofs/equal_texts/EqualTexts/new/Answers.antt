use Rattle.std.proofs.Common.{◌≡◌, None, replicate, sym, subst}
use Rattle.amf_iso.specs.Joined.{AreJoined}
use Rattle.amf_iso.proofs.Joins.{none_joined}
use Rattle.amf_iso.proofs.Numbers.{only_none}
use Rattle.amf_iso.proofs.equal_texts.EqualTexts.new.Goals as goal

pub returns : goal.returns
returns c = λ b.
    let blank : c.in_ok-partners.partners.items ≡ replicate c.content_count.result None = c.in_ok-partners.ensures.items_if_clones_equal (only_none _ (λ k h. h)) in
    subst (λ ps. AreJoined c.args.left.now.arena b ps) (sym blank) (none_joined c.args.left.now.arena b c.content_count.result c.content_count.ensures)
