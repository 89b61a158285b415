use Rattle.std.proofs.Common.{◌≡◌, Option, subst}
use Rattle.amf_flex_replies.specs.declared.sync_messages.Batch.{Batch}
use Rattle.amf_flex_replies.specs.Batching.{ReadsAll}
use Rattle.amf_flex_replies.proofs.sync_messages.sync_of.Goals as goal

pub sync_with-requires-clause-holds : goal.sync_with-requires-clause-holds
sync_with-requires-clause-holds c =
    let r = subst (λ (o : Option Batch). ReadsAll c.args.deliveries.now o) c.in-Some.is c.in_ok-batch.ensures.reads in
    (r.0, r.2)

pub returns-in_ok-sync_with-in-Some : goal.returns-in_ok-sync_with-in-Some
returns-in_ok-sync_with-in-Some c =
    let r = subst (λ (o : Option Batch). ReadsAll c.args.deliveries.now o) c.in-Some.is c.in_ok-batch.ensures.reads in
    (r.0, r.1, c.in_ok-sync_with-in-Some.ensures r.0 r.2)

pub returns-in-None : goal.returns-in-None
returns-in-None c = subst (λ (o : Option Batch). ReadsAll c.args.deliveries.now o) c.in-None.is c.in_ok-batch.ensures.reads
