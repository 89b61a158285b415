-- The entries of one pass in a history.
use Rattle.amf_desk.proofs.Own.{called_own, looked_own, own_none, own_begins}
use Rattle.amf_desk.proofs.laws.own_entries.Goals as goal

pub returns-clause-called : goal.returns-clause-called
returns-clause-called c = called_own

pub returns-clause-looked : goal.returns-clause-looked
returns-clause-looked c = looked_own

pub returns-clause-fresh : goal.returns-clause-fresh
returns-clause-fresh c = own_none

pub returns-clause-begins : goal.returns-clause-begins
returns-clause-begins c = own_begins
