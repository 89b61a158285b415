use Rattle.std.proofs.Common.{◌≡◌, ◌∷◌, [], sym, ap, ◌∙◌, subst, SFits, w32, w64, to_z-of_z, rules}
use Rattle.std.specs.Prelude.{OnOk}
use Rattle.std.specs.Fmt.{signed_decimal}
use Rattle.json.specs.Token.{number}
use Rattle.json.specs.Tree.{json_tokens}
use Rattle.amf_wire.specs.Text.{IsText}
use Rattle.amf_graph.specs.Arena.{Names, text_at, value_content}
use Rattle.amf_graph.specs.Graph.{leaf, node, undefined, null, boolean, integer, double, text}
use Rattle.amf_text.specs.Scalars.{told_text, told_double}
use Rattle.amf_text.specs.Told.{told_leaf}
use Rattle.amf_text_write.specs.Laid.{with_more}
use Rattle.amf_text_write.specs.Tells.{Tells}
use Rattle.amf_text_write.proofs.LeafValues.{text_is, tells_same}
use Rattle.amf_text_write.proofs.Telling.{exactly, on_ok}
use Rattle.amf_text_write.proofs.layout.Output.leaf.Goals as goal

pub text-requires : goal.text-requires
text-requires c = subst (Names c.args.graph.now.arena) c.in-Text.is c.requires

pub text-requires-in-Text : goal.text-requires-in-Text
text-requires-in-Text c = subst IsText (sym c.text.ensures) (text_is c.args.graph.now.arena c.in-Text.text.0 c.is_finished.ensures.finished (subst (Names c.args.graph.now.arena) c.in-Text.is c.requires))

pub returns-in-Undefined : goal.returns-in-Undefined
returns-in-Undefined c = λ w x are bare e.
    on_ok c.undefined.result (λ t. tells_same w undefined x c.args.self.now c.undefined.new.self (sym (ap (value_content c.args.graph.now.arena) c.in-Undefined.is) ∙ e) (exactly (json_tokens (told_leaf w undefined)) c.args.self.now c.undefined.new.self t)) c.undefined.ensures

pub returns-in-Null : goal.returns-in-Null
returns-in-Null c = λ w x are bare e.
    on_ok c.token.result (λ t. tells_same w null x c.args.self.now c.token.new.self (sym (ap (value_content c.args.graph.now.arena) c.in-Null.is) ∙ e) (exactly (json_tokens (told_leaf w null)) c.args.self.now c.token.new.self t)) c.token.ensures

pub returns-in-Bool : goal.returns-in-Bool
returns-in-Bool c = λ w x are bare e.
    on_ok c.flag.result (λ t. tells_same w (boolean c.in-Bool.flag) x c.args.self.now c.flag.new.self (sym (ap (value_content c.args.graph.now.arena) c.in-Bool.is) ∙ e) (exactly (json_tokens (told_leaf w (boolean c.in-Bool.flag))) c.args.self.now c.flag.new.self t)) c.flag.ensures

pub returns-in-Integer : goal.returns-in-Integer
returns-in-Integer c = λ w x are bare e.
    let n = c.in-Integer.integer in
    let fits : SFits w32 n = search rules in
    let from = simp to_z-of_z at c.from.ensures in
    let wide : SFits w64 c.from.result = search rules in
    let int = simp to_z-of_z at c.int.ensures in
    on_ok c.int.result (λ t. tells_same w (integer n) x c.args.self.now c.int.new.self (sym (ap (value_content c.args.graph.now.arena) c.in-Integer.is) ∙ e)
    (exactly (json_tokens (told_leaf w (integer n))) c.args.self.now c.int.new.self (t ∙ ap (λ m. with_more c.args.self.now (number (signed_decimal m) ∷ [])) from))) int

pub returns-in-Double : goal.returns-in-Double
returns-in-Double c = λ w x are bare e.
    let p = c.in-Double.double in
    on_ok c.double.result (tells_same w (double p.0) x c.args.self.now c.double.new.self (sym (ap (value_content c.args.graph.now.arena) c.in-Double.is) ∙ e))
    (subst (λ b. OnOk c.double.result (Tells (json_tokens (told_double w.digits b p.0)) c.args.self.now c.double.new.self)) (sym bare) (c.double.ensures w.digits are))

pub returns-in-Text : goal.returns-in-Text
returns-in-Text c = λ w x are bare e.
    let y = text_at c.args.graph.now.arena c.in-Text.text.0 in
    on_ok c.text-in-Text.result (λ t. tells_same w (text y) x c.args.self.now c.text-in-Text.new.self (sym (ap (value_content c.args.graph.now.arena) c.in-Text.is) ∙ e)
    (exactly (json_tokens (told_text y)) c.args.self.now c.text-in-Text.new.self (t ∙ ap (λ z. with_more c.args.self.now (json_tokens (told_text z))) c.text.ensures))) c.text-in-Text.ensures

pub returns-in-Node : goal.returns-in-Node
returns-in-Node c = λ w x are bare e. let no : node c.in-Node.field-0.0 ≡ leaf x = sym (ap (value_content c.args.graph.now.arena) c.in-Node.is) ∙ e in cc
