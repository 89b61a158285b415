-- An object's sealed pairs stand before its members, and other nodes have none.
use Rattle.std.proofs.Common.{◌≡◌, List, [], ◌++◌, map, OnOk, refl, sym, ap, ◌∙◌, subst}
use Rattle.std.proofs.lemmas.Result.{on_ok_weaker}
use Rattle.std.specs.List.{AllZip, zip}
use Rattle.amf_graph.specs.declared.value.Value.{Value as Stored}
use Rattle.amf_graph.specs.declared.value.TraitsId.{TraitsId}
use Rattle.amf_graph.specs.declared.value.TextId.{TextId}
use Rattle.amf_graph.specs.declared.held.Form.{Form}
use Rattle.amf_graph.specs.declared.held.Form.TheVariants as form
use Rattle.amf_graph.specs.Arena.{StoredTraits}
use Rattle.amf_graph.specs.Held.{form_head}
use Rattle.amf_graph.specs.StandIns.{StandsFor, PairStandsFor, sealed_of, unsealed_of}
use Rattle.amf_graph.specs.Views.{named}
use Rattle.amf_graph.proofs.stand_ins.Lists.fill.Goals as goal

no_sealed : (ts : List StoredTraits) (f : Form) → ((t : TraitsId) → f ≡ form.Object t → ⊥) → sealed_of ts (form_head f) ≡ []
no_sealed ts form.Array n = refl
no_sealed ts (form.Object t) n = absurd (n t refl)
no_sealed ts (form.Wrapper c) n = refl
no_sealed ts (form.Values x y) n = refl

all_unsealed : (f : Form) (vs : List Stored) → ((t : TraitsId) → f ≡ form.Object t → ⊥) → unsealed_of (form_head f) vs ≡ vs
all_unsealed form.Array vs n = refl
all_unsealed (form.Object t) vs n = absurd (n t refl)
all_unsealed (form.Wrapper c) vs n = refl
all_unsealed (form.Values x y) vs n = refl

pub returns-in-Object-clause-names : goal.returns-in-Object-clause-names
returns-in-Object-clause-names c =
    let R = PairStandsFor c.args.stand_ins.now in
    let ts = c.args.classes.now in
    let none : AllZip R [] (named c.clear.new.self.pairs.items) = subst (λ ps. AllZip R [] (named ps)) (sym c.clear.ensures.pairs) tt in
    let sealed : sealed_of ts (form_head c.args.form) ≡ map (λ (x : TextId). x.0) c.get-class.result.sealed.now = ap (λ f. sealed_of ts (form_head f)) c.in-Object.is ∙ ap (λ (t : StoredTraits). t.sealed) c.get-class.ensures in
    subst (λ s. OnOk c.push_pairs.result (AllZip R (zip s c.args.values.now ++ named c.args.names.now) (named c.push_pairs.new.copies.items))) (sym sealed)
    (c.push_pairs.ensures (zip (map (λ (x : TextId). x.0) c.get-class.result.sealed.now) c.args.values.now) (c.in_ok-push_sealed.ensures [] none))

pub returns : goal.returns
returns c =
    let R = PairStandsFor c.args.stand_ins.now in
    let S = StandsFor c.args.stand_ins.now in
    let f = c.args.form in
    let vs = c.args.values.now in
    let none : AllZip R [] (named c.clear.new.self.pairs.items) = subst (λ ps. AllZip R [] (named ps)) (sym c.clear.ensures.pairs) tt in
    let no_values : AllZip S [] c.clear.new.self.values.items = subst (λ ws. AllZip S [] ws) (sym c.clear.ensures.values) tt in
    let made = c.push_pairs-2.ensures [] none in
    record {
      names = subst (λ s. OnOk c.push_pairs-2.result (AllZip R (zip s vs ++ named c.args.names.now) (named c.push_pairs-2.new.copies.items))) (sym (no_sealed c.args.classes.now f c.in_default.not-Object)) made;
      values = on_ok_weaker c.push_pairs-2.result (λ h. subst (λ ws. AllZip S ws c.push_values.new.copies.items) (sym (all_unsealed f vs c.in_default.not-Object)) (c.in_ok-push_values.ensures [] no_values)) made;
    }
