-- One client more leaves.
use Rattle.std.proofs.Common.{◌∙◌, ℕ, not, ap, sym, map, take, arith}
use Rattle.std.specs.Prelude.{◌==◌}
use Rattle.std.proofs.lemmas.List.{take_all}
use Rattle.amf_broker.specs.Lines.{spans_left}
use Rattle.amf_broker.specs.Members.{line_parted, lines_left}
use Rattle.amf_broker.specs.Slots.{standing, kept_if}
use Rattle.amf_broker.proofs.Gone.{none-spans, none-lines}
use Rattle.amf_broker.proofs.Parts.{spans-next, lines-next, listed-left, apart-left}
use Rattle.amf_broker.proofs.roster.part_clients.Goals as goal

pub loop-client-init : goal.loop-client-init
loop-client-init c = record { places = sym (none-spans (standing c.args.places.now)); logs = sym (none-lines c.args.logs.now) }

pub hush-requires-clause-listed : goal.hush-requires-clause-listed
hush-requires-clause-listed c =
    listed-left (take c.loop-client.client-index c.args.left.now) (standing c.args.places.now) (standing c.loop-client.places) c.args.logs.now c.loop-client.logs c.requires.listed c.loop-client.invariant.places c.loop-client.invariant.logs

pub hush-requires-clause-apart : goal.hush-requires-clause-apart
hush-requires-clause-apart c = apart-left (take c.loop-client.client-index c.args.left.now) c.args.logs.now c.loop-client.logs c.requires.apart c.loop-client.invariant.logs

pub loop-client-preserved : goal.loop-client-preserved
loop-client-preserved c =
    let i = c.loop-client.client-index in
    let ks = c.args.left.now in
    let d = c.client-item.result in
    record {
      places = spans-next ks i d (standing c.args.places.now) c.loop-client.places c.part.new.self c.loop-client-test.true c.loop-client.invariant.places
          (c.part.ensures ∙ ap (λ (j : ℕ). map (kept_if (λ u. not (u.client == j))) c.loop-client.places) c.client-item.is);
      logs = lines-next ks i d c.args.logs.now c.loop-client.logs c.hush.new.logs c.loop-client-test.true c.loop-client.invariant.logs
          (c.hush.ensures ∙ ap (λ (j : ℕ). map (line_parted j) c.loop-client.logs) c.client-item.is);
    }

pub returns-clause-places : goal.returns-clause-places
returns-clause-places c =
    let past = c.loop-client-test.false in
    c.loop-client.invariant.places ∙ ap (λ ks. spans_left ks (standing c.args.places.now)) (take_all c.loop-client.client-index c.args.left.now (omega (arith, past)))

pub returns-clause-logs : goal.returns-clause-logs
returns-clause-logs c =
    let past = c.loop-client-test.false in
    c.loop-client.invariant.logs ∙ ap (λ ks. lines_left ks c.args.logs.now) (take_all c.loop-client.client-index c.args.left.now (omega (arith, past)))
