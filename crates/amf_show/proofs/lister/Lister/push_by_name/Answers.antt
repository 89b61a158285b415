use Rattle.std.proofs.Common.{ap, sym, ◌∙◌, subst}
use Rattle.amf_iso.specs.Contents.{pairs_of, ArePairs}
use Rattle.amf_show.specs.Listing.{shown_pairs}
use Rattle.amf_show.proofs.Held.{written_as}
use Rattle.amf_show.proofs.lister.Lister.push_by_name.Goals as goal

pub push_pairs-requires : goal.push_pairs-requires
push_pairs-requires c = subst (λ w. ArePairs c.args.self.now.graph.now.arena w) (sym c.deref.ensures.value) c.in_ok-sorted.ensures.names

pub returns : goal.returns
returns c =
    written_as c.push_pairs.result c.args.out.now.items c.push_pairs.new.out.items _ _ (ap (shown_pairs c.args.self.now.numbering.now) (ap (pairs_of c.args.self.now.graph.now.arena) c.deref.ensures.value ∙ c.in_ok-sorted.ensures.content)) c.push_pairs.ensures
