use Rattle.std.proofs.Common.{◌∷◌, [], sym, subst}
use Rattle.std.specs.Prelude.{codes}
use Rattle.json.specs.Token.{key}
use Rattle.amf_iso.specs.Contents.{pairs_of}
use Rattle.amf_text_write.specs.Objects.{dynamic_tokens}
use Rattle.amf_text_write.specs.Opening.{told_tokens}
use Rattle.amf_text_write.specs.Pieces.{Puts}
use Rattle.amf_text_write.proofs.Telling.{on_ok}
use Rattle.amf_text_write.proofs.Stacks.{put_one, put_then, put_none}
use Rattle.amf_text_write.proofs.sealed.put_dynamic.Goals as goal

pub returns-then-not-dynamic : goal.returns-then-not-dynamic
returns-then-not-dynamic c = λ g a h k.
    let b = c.args.waiting.now.items in
    subst (λ f. Puts g a (dynamic_tokens g f c.args.are_keys c.args.levels (pairs_of a c.args.pairs.now)) b b) (sym c.if-not-dynamic.true) (put_none g a b)

pub returns : goal.returns
returns c = λ g a h k.
    let b = c.args.waiting.now.items in
    let ts = told_tokens g c.args.are_keys c.args.levels (pairs_of a c.args.pairs.now) in
    on_ok c.put.result (λ e. subst (λ f. Puts g a (dynamic_tokens g f c.args.are_keys c.args.levels (pairs_of a c.args.pairs.now)) b c.put.new.waiting.items) (sym c.if-not-dynamic.false)
    (put_then g a ts (λ w. key (codes "$dynamic") ∷ []) b c.put_told.new.waiting.items c.put.new.waiting.items (c.in_ok-put_told.ensures g a h k) (put_one g a _ c.put_told.new.waiting.items c.put.new.waiting.items e tt))) c.put.ensures
