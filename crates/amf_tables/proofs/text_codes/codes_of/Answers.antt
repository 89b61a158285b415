use Rattle.std.proofs.Common.{[], ◌∷◌, ◌++◌, take, get_or, sym, subst}
use Rattle.amf_graph.specs.Arena.{text_at}
use Rattle.amf_tables.specs.ShownTraits.{texts_at}
use Rattle.amf_tables.specs.TextCodes.{AreCodesOf}
use Rattle.amf_tables.proofs.ShownTexts.{id_within, text_here, texts_more}
use Rattle.amf_tables.proofs.TextCodes.{no_codes, codes_more}
use Rattle.amf_tables.proofs.text_codes.codes_of.Goals as goal

pub loop-id-init : goal.loop-id-init
loop-id-init c = subst (λ w. AreCodesOf c.args.texts.now [] w) (sym c.new-codes.ensures.items) (no_codes c.args.texts.now)

pub code_of-requires-clause-id : goal.code_of-requires-clause-id
code_of-requires-clause-id c = id_within c.args.graph.now.arena c.args.ids.now c.loop-id.id-index _ c.requires.ids c.loop-id-test.true

pub returns-in-None : goal.returns-in-None
returns-in-None c = (c.loop-id.id-index, text_at c.args.graph.now.arena (get_or c.args.ids.now c.loop-id.id-index (record { 0 = 0 })).0, text_here c.args.graph.now.arena c.args.ids.now c.loop-id.id-index (record { 0 = 0 }) c.loop-id-test.true, c.in-None.ensures)

pub loop-id-preserved : goal.loop-id-preserved
loop-id-preserved c =
    let texts = c.args.texts.now in
    let a = c.args.graph.now.arena in
    let k = c.loop-id.id-index in
    let before = texts_at a (take k c.args.ids.now) in
    let x = text_at a (get_or c.args.ids.now k (record { 0 = 0 })).0 in
    subst (λ w. AreCodesOf texts w c.push.new.self.items) (sym (texts_more a c.args.ids.now k (record { 0 = 0 }) c.loop-id-test.true))
    (subst (λ w. AreCodesOf texts (before ++ x ∷ []) w) (sym c.in_ok-push-in-Some.ensures.items) (codes_more texts before c.loop-id.codes.items x c.in-Some.code c.loop-id.invariant c.in-Some.ensures))
