-- How a history begins and goes on.
use Rattle.amf_broker.proofs.Law.{leaves-first, leaves-then, counts, destinations-after, calls-length}
use Rattle.amf_broker.proofs.laws.entries_count.Goals as goal

pub returns-clause-begins : goal.returns-clause-begins
returns-clause-begins c = leaves-first

pub returns-clause-goes_on : goal.returns-clause-goes_on
returns-clause-goes_on c = leaves-then

pub returns-clause-counts : goal.returns-clause-counts
returns-clause-counts c = counts

pub returns-clause-destinations : goal.returns-clause-destinations
returns-clause-destinations c = destinations-after

pub returns-clause-length : goal.returns-clause-length
returns-clause-length c = calls-length
