use Rattle.std.proofs.Common.{subst}
use Rattle.amf0_write.specs.Unwritten0.{IsRunOf, segments_left}
use Rattle.amf0_write.proofs.output.Output.run.Goals as goal

pub returns-in-One-clause-lack : goal.returns-in-One-clause-lack
returns-in-One-clause-lack c = rw (c.in-One.is) (λ e. c.whole.ensures.lack e (segments_left c.args.graph.now.arena c.args.waiting.now.items))

pub values-requires-clause-run : goal.values-requires-clause-run
values-requires-clause-run c = subst (λ run. IsRunOf c.args.graph.now run) c.in-Values.is c.requires.run

pub returns-in-Values-clause-leads : goal.returns-in-Values-clause-leads
returns-in-Values-clause-leads c = rw (c.in-Values.is) c.values.ensures.leads

pub returns-in-Values-clause-lack : goal.returns-in-Values-clause-lack
returns-in-Values-clause-lack c = rw (c.in-Values.is) c.values.ensures.lack

pub made-requires-clause-run : goal.made-requires-clause-run
made-requires-clause-run c = subst (λ run. IsRunOf c.args.graph.now run) c.in-Made.is c.requires.run

pub returns-in-Made-clause-leads : goal.returns-in-Made-clause-leads
returns-in-Made-clause-leads c = rw (c.in-Made.is) c.made.ensures.leads

pub returns-in-Made-clause-lack : goal.returns-in-Made-clause-lack
returns-in-Made-clause-lack c = rw (c.in-Made.is) c.made.ensures.lack

pub pairs-requires-clause-run : goal.pairs-requires-clause-run
pairs-requires-clause-run c = subst (λ run. IsRunOf c.args.graph.now run) c.in-Pairs.is c.requires.run

pub returns-in-Pairs-clause-leads : goal.returns-in-Pairs-clause-leads
returns-in-Pairs-clause-leads c = rw (c.in-Pairs.is) c.pairs.ensures.leads

pub returns-in-Pairs-clause-lack : goal.returns-in-Pairs-clause-lack
returns-in-Pairs-clause-lack c = rw (c.in-Pairs.is) c.pairs.ensures.lack

pub sorted-requires-clause-run : goal.sorted-requires-clause-run
sorted-requires-clause-run c = subst (λ run. IsRunOf c.args.graph.now run) c.in-Sorted.is c.requires.run

pub returns-in-Sorted-clause-leads : goal.returns-in-Sorted-clause-leads
returns-in-Sorted-clause-leads c = rw (c.in-Sorted.is) c.sorted.ensures.leads

pub returns-in-Sorted-clause-lack : goal.returns-in-Sorted-clause-lack
returns-in-Sorted-clause-lack c = rw (c.in-Sorted.is) c.sorted.ensures.lack
