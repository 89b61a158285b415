use Rattle.std.proofs.Common.{◌≡◌, [], ◌∷◌, ap, sym, refl, ◌∙◌, subst}
use Rattle.amf_desk.specs.Passes.{Held, JoinedTo}
use Rattle.amf_workers.specs.Gathered.{TookBack}
use Rattle.amf_workers.proofs.TakenIn.{took_one}
use Rattle.amf_workers.proofs.gather.take_in.Goals as goal

pub join-requires-clause-desk : goal.join-requires-clause-desk
join-requires-clause-desk g c = (c.requires.desk, ap (λ (p : Held). p.desk) c.into_parts-pass.ensures.pass ∙ c.requires.worker.0)

pub join-requires-clause-second : goal.join-requires-clause-second
join-requires-clause-second g c = λ z. c.requires.worker.1 (sym (ap (λ (p : Held). p.number) c.into_parts-pass.ensures.pass) ∙ z)

pub returns-clause-pass : goal.returns-clause-pass
returns-clause-pass g c = subst (λ (p : Held). JoinedTo c.args.first.now p c.join.new.into) c.into_parts-pass.ensures.pass c.join.ensures

pub returns-clause-hall : goal.returns-clause-hall
returns-clause-hall g c =
    let e = c.back.ensures in
    subst (λ (h : g.row.F-Hall.Denot). TookBack g.F.Front g.F.Hall.Hall.faults c.args.front.now c.back.new.self (h ∷ [])) c.into_parts-pass.ensures.hall
    (took_one g.F.Front g.F.Hall.Hall.faults c.args.front.now c.back.new.self c.into_parts-pass.result.1 e.tells e.asked e.to_open e.back e.cause)

pub returns-clause-end : goal.returns-clause-end
returns-clause-end g c = refl
