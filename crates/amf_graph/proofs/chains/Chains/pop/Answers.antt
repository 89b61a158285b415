-- The bucket of the greatest number gets the link that the number had. No mark goes.
use Rattle.std.proofs.Common.{◌∙◌}
use Rattle.std.proofs.lemmas.List.{length-set}
use Rattle.amf_graph.proofs.Links.{link_popped}
use Rattle.amf_graph.proofs.Marks.{found_pop}
use Rattle.amf_graph.proofs.chains.Chains.pop.Goals as goal

pub invariant_of-self : goal.invariant_of-self
invariant_of-self c =
    found_pop c.self.inside.links.items c.pop.new.self.items c.self.inside.buckets.items c.self.inside.marks.items _ c.in-Some.field-0
    c.in-Some.ensures.items
    (length-set c.self.inside.buckets.items c.bucket_of-bucket.result c.in-Some.field-0.next)
    (link_popped c.self.inside.links.items c.pop.new.self.items c.self.inside.buckets.items c.in-Some.field-0 c.len.result c.bucket_of-bucket.result
    c.in-Some.ensures.items
    c.bucket_of-bucket.ensures.bucket
    (c.len.ensures ∙ c.self.inside.buckets.ok.0)
    c.self.invariant.chains)
    c.self.invariant
