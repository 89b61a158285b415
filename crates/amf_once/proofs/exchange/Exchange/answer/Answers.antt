-- The answer at the place is one of those that stand there.
use Rattle.std.proofs.Common.{◌≡◌, List, length, Some, None, refl, sym, ◌∙◌, ap, subst, arith}
use Rattle.std.specs.Prelude.{slice_get}
use Rattle.std.proofs.lemmas.Bool.{ltb-true, ltb-false}
use Rattle.std.proofs.lemmas.Option.{slice_get_read, slice_get_past}
use Rattle.amf_broker.specs.declared.reply.Answer.{Answer as Told}
use Rattle.amf_once.specs.Hearing.{Below}
use Rattle.amf_once.specs.Course.{answered}
use Rattle.amf_once.specs.Shown.{Shows}
use Rattle.amf_once.proofs.Answering.{all_item}
use Rattle.amf_once.proofs.Heard.{on_ok, heard_shown}
use Rattle.amf_once.proofs.exchange.Exchange.answer.Goals as goal

pub hear-requires : goal.hear-requires
hear-requires c =
    let read = slice_get_read c.deref.result.now (length c.deref.result.now) c.args.place c.in-Some.answer.now refl (ltb-true c.args.place (length c.deref.result.now) (sym c.in-Some.ensures.lookup.0)) c.in-Some.ensures.lookup.1 in
    let found : slice_get c.args.self.now.answers.items c.args.place ≡ Some c.in-Some.answer.now = subst (λ (l : List Told). slice_get l c.args.place ≡ Some c.in-Some.answer.now) c.deref.ensures.value read in
    all_item (Below 4611686018427387904) c.args.self.now.answers.items c.args.place c.in-Some.answer.now c.requires found

pub returns-in-Some : goal.returns-in-Some
returns-in-Some c =
    let read = slice_get_read c.deref.result.now (length c.deref.result.now) c.args.place c.in-Some.answer.now refl (ltb-true c.args.place (length c.deref.result.now) (sym c.in-Some.ensures.lookup.0)) c.in-Some.ensures.lookup.1 in
    let found : slice_get c.args.self.now.answers.items c.args.place ≡ Some c.in-Some.answer.now = subst (λ (l : List Told). slice_get l c.args.place ≡ Some c.in-Some.answer.now) c.deref.ensures.value read in
    on_ok c.hear.result (λ asks taken w s. heard_shown c.args.self.now _ w c.in-Some.answer.now c.args.place found refl refl refl asks taken s) c.hear.ensures.asks c.hear.ensures.taken

pub returns-in-None : goal.returns-in-None
returns-in-None c = λ w s.
    let past = ltb-false c.args.place (length c.deref.result.now) (sym c.in-None.ensures.lookup.0) in
    let read = slice_get_past c.deref.result.now c.args.place (omega (arith, past)) in
    let none : slice_get w.answers c.args.place ≡ None = ap (λ (l : List Told). slice_get l c.args.place) (sym s.answers) ∙ subst (λ (l : List Told). slice_get l c.args.place ≡ None) c.deref.ensures.value read in
    subst (λ o. Shows c.args.self.now (answered o w)) (sym none) s
