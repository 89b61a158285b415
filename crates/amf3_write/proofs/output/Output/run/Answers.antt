use Rattle.std.proofs.Common.{subst}
use Rattle.amf3_write.specs.Unwritten.{IsRunOf}
use Rattle.amf3_write.proofs.output.Output.run.Goals as goal

pub values-requires-clause-run : goal.values-requires-clause-run
values-requires-clause-run c = subst (λ run. IsRunOf c.args.graph.now.arena run) c.in-Values.is c.requires.run

pub entries-requires-clause-run : goal.entries-requires-clause-run
entries-requires-clause-run c = subst (λ run. IsRunOf c.args.graph.now.arena run) c.in-Entries.is c.requires.run

pub pairs-requires-clause-run : goal.pairs-requires-clause-run
pairs-requires-clause-run c = subst (λ run. IsRunOf c.args.graph.now.arena run) c.in-Pairs.is c.requires.run

pub sorted-requires-clause-run : goal.sorted-requires-clause-run
sorted-requires-clause-run c = subst (λ run. IsRunOf c.args.graph.now.arena run) c.in-Sorted.is c.requires.run

pub returns-in-Values-clause-leads : goal.returns-in-Values-clause-leads
returns-in-Values-clause-leads c = rw (c.in-Values.is) c.values.ensures.leads

pub returns-in-Entries-clause-leads : goal.returns-in-Entries-clause-leads
returns-in-Entries-clause-leads c = rw (c.in-Entries.is) c.entries.ensures.leads

pub returns-in-Pairs-clause-leads : goal.returns-in-Pairs-clause-leads
returns-in-Pairs-clause-leads c = rw (c.in-Pairs.is) c.pairs.ensures.leads

pub returns-in-Sorted-clause-leads : goal.returns-in-Sorted-clause-leads
returns-in-Sorted-clause-leads c = rw (c.in-Sorted.is) c.sorted.ensures.leads
