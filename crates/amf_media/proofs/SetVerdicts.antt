-- A value that is set has one form, or one reason why it has none.
use Rattle.std.proofs.Common.{◌≡◌, ℕ, ◌+◌, ◌≤◌, false, List, ◌++◌, length, take, refl, sym, ap, ◌∙◌, arith}
use Rattle.std.proofs.lemmas.List.{take_at}
use Rattle.amf_wire.specs.Style.{free}
use Rattle.amf_io.specs.Field.{Field, flat}
use Rattle.amf_io.specs.Verdict.{IsAccepted, IsRefused}
use Rattle.amf_io.specs.declared.reason.Reason.{Reason}
use Rattle.amf_io.proofs.Inputs.{not_refused, one_end}
use Rattle.amf_graph.specs.Building.{no_arena}
use Rattle.amf_graph.specs.Graph.{Graph}
use Rattle.amf_graph.specs.Isomorphic.{Isomorphic}
use Rattle.amf_graph.specs.declared.lack.Lack.{Lack}
use Rattle.amf0_spelling.specs.KeptTables0.{no_kept_tables0}
use Rattle.amf0_spelling.specs.Lacks0.{IsLack0}
use Rattle.amf0_spelling.specs.Lowered.{IsLoweringOf}
use Rattle.amf0_spelling.specs.Values0.{IsValue0}
use Rattle.amf0_spelling.specs.Spells0.{IsSpelling0}
use Rattle.amf0_spelling.proofs.Decides0.{same_bytes_isomorphic0, same_canonical0, alone0}
use Rattle.amf0_spelling.proofs.LackTwice0.{spelling_or_lack0}
use Rattle.amf0_spelling.proofs.Low.{lowered_alike}
use Rattle.amf0_layout_laws.specs.Layout0.{value0_layout}
use Rattle.amf0_layout_laws.specs.Layout0State.{state0_of}
use Rattle.amf0_layout_laws.proofs.Layout0Format.{values0_is_layout}
use Rattle.flv_meta.specs.MetadataAnswer.{LacksMetadata, IsTooLong}
use Rattle.amf_media.specs.FlvValues.{most_of_value, IsValueThere, BeginsWith}
use Rattle.amf_media.specs.FlvLaws.{SetValuesHaveOneForm}

accepted : (input more : List ℕ) (g : Graph) (fs : List Field) → IsSpelling0 free g fs → input ≡ flat fs ++ more → length (flat fs) ≤ most_of_value → IsAccepted IsValue0 0 most_of_value input (0 + length (flat fs)) more
accepted input more g fs s e le = record {
  fields = fs;
  accepted = (g, s);
  parts = e;
  place = refl;
  within = omega arith;
}

same_bytes : (front other rest : List ℕ) (input more : List ℕ) → input ≡ front ++ rest → input ≡ other ++ more → length front ≡ length other → front ≡ other
same_bytes front other rest input more e h n = sym (take_at front rest (length front) refl) ∙ ap (take (length front)) (sym e ∙ h) ∙ take_at other more (length front) (sym n)

-- two values at the front of one input are one
alike : (input more later : List ℕ) (g h : Graph) (fs gs : List Field) → IsSpelling0 free g fs → input ≡ flat fs ++ more → length (flat fs) ≤ most_of_value → IsSpelling0 free h gs → input ≡ flat gs ++ later → length (flat gs) ≤ most_of_value → Isomorphic g h
alike input more later g h fs gs s e le t d lt =
    let ends = one_end (λ m. value0_layout m false (state0_of no_arena no_kept_tables0)) IsValue0 values0_is_layout 0 most_of_value most_of_value (0 + length (flat fs)) (0 + length (flat gs)) input more later (accepted input more g fs s e le) (accepted input later h gs t d lt) in
    let n = ends.0 in
    same_bytes_isomorphic0 g h (flat fs) (fs, s, refl) (gs, t, same_bytes (flat fs) (flat gs) more input later e d (omega arith))

begun_alike : (P Q : Graph → Type 0) (input : List ℕ) → (x : BeginsWith P input) (y : BeginsWith Q input) → Isomorphic x.graph y.graph
begun_alike P Q input x y = alike input x.more y.more x.graph y.graph x.fields y.fields x.spelled x.parts x.within y.spelled y.parts y.within

there_alike : (P : Graph → Type 0) (input value front later : List ℕ) → (x : BeginsWith P input) → input ≡ front ++ later → (v : IsValueThere value front) → Isomorphic x.graph v.graph
there_alike P input value front later x e v =
    let within = v.within in
    let n = ap length v.is in
    alike input x.more later x.graph v.graph x.fields v.read x.spelled x.parts x.within v.spelled (e ∙ ap (λ l. l ++ later) v.is) (omega arith)

-- the lowering of one lacks what that of the other lacks
lacks_alike : (g h : Graph) (l : Lack) (x : LacksMetadata g l) (low : Graph) → Isomorphic g h → IsLoweringOf h low → IsLack0 low l.node l.kind
lacks_alike g h l x low iso lowered = spelling_or_lack0.alike x.low low (lowered_alike g h x.low low iso x.lowered lowered) l.node l.kind x.lack

too_long : (g h : Graph) (value front : List ℕ) (x : IsTooLong g) (v : IsValueThere value front) → Isomorphic g v.graph → ⊥
too_long g h value front x v iso =
    let same = lowered_alike g v.graph x.low v.low iso x.lowered v.lowered in
    let one : x.fields ≡ v.fields = alone0.fields v.low x.fields v.fields (same_canonical0.fields x.low v.low same x.fields x.spelled) v.canonical_one in
    let long = x.long in
    let fits = v.fits in
    let n : length (flat x.fields) ≡ length value = ap (λ fs. length (flat fs)) one ∙ ap length (sym v.bytes) in
    omega arith

-- what can be set lacks no form, is not too long, and is not refused; and it ends at one place

pub there_not_lacking : (input value front later : List ℕ) (l : Lack) → BeginsWith (λ g. LacksMetadata g l) input → input ≡ front ++ later → IsValueThere value front → ⊥
there_not_lacking input value front later l x e v = spelling_or_lack0.not_both v.low v.fields l.node l.kind v.canonical_one (lacks_alike x.graph v.graph l x.so v.low (there_alike (λ g. LacksMetadata g l) input value front later x e v) v.lowered)

pub there_not_long : (input value front later : List ℕ) → BeginsWith IsTooLong input → input ≡ front ++ later → IsValueThere value front → ⊥
there_not_long input value front later x e v = too_long x.graph v.graph value front x.so v (there_alike IsTooLong input value front later x e v)

there_accepted : (input value front later : List ℕ) → input ≡ front ++ later → (v : IsValueThere value front) → IsAccepted IsValue0 0 most_of_value input (0 + length (flat v.read)) later
there_accepted input value front later e v =
    let within = v.within in
    let n = ap length v.is in
    accepted input later v.graph v.read v.spelled (e ∙ ap (λ l. l ++ later) v.is) (omega arith)

pub there_not_refused : (input value front later : List ℕ) (reason : Reason) (at : ℕ) → input ≡ front ++ later → IsValueThere value front → IsRefused IsValue0 0 most_of_value input reason at → ⊥
there_not_refused input value front later reason at e v q =
    not_refused (λ m. value0_layout m false (state0_of no_arena no_kept_tables0)) IsValue0 values0_is_layout 0 most_of_value (0 + length (flat v.read)) at reason input later (there_accepted input value front later e v) q

pub begun_not_refused : (P : Graph → Type 0) (input : List ℕ) (reason : Reason) (at : ℕ) → BeginsWith P input → IsRefused IsValue0 0 most_of_value input reason at → ⊥
begun_not_refused P input reason at x q =
    not_refused (λ m. value0_layout m false (state0_of no_arena no_kept_tables0)) IsValue0 values0_is_layout 0 most_of_value (0 + length (flat x.fields)) at reason input x.more (accepted input x.more x.graph x.fields x.spelled x.parts x.within) q

pub one_front : (input value front later other start rest : List ℕ) → input ≡ front ++ later → IsValueThere value front → input ≡ start ++ rest → IsValueThere other start → (front ≡ start) × (later ≡ rest)
one_front input value front later other start rest e v d w =
    let ends = one_end (λ m. value0_layout m false (state0_of no_arena no_kept_tables0)) IsValue0 values0_is_layout 0 most_of_value most_of_value (0 + length (flat v.read)) (0 + length (flat w.read)) input later rest (there_accepted input value front later e v) (there_accepted input other start rest d w) in
    let n = ends.0 in
    let a = ap length v.is in
    let b = ap length w.is in
    (same_bytes front start later input rest e d (omega arith), ends.1)

pub set_values_have_one_form : SetValuesHaveOneForm
set_values_have_one_form = record {
  lacking = λ input value front later l b x e v. there_not_lacking input value front later l x e v;
  long = λ input value front later b x e v. there_not_long input value front later x e v;
  lack_first = λ input l b x y. spelling_or_lack0.not_both y.so.low y.so.fields l.node l.kind y.so.spelled (lacks_alike x.graph y.graph l x.so y.so.low (begun_alike (λ g. LacksMetadata g l) IsTooLong input x y) y.so.lowered);
  one_lack = λ input l m b x y. spelling_or_lack0.one_lack y.so.low l.node m.node l.kind m.kind (lacks_alike x.graph y.graph l x.so y.so.low (begun_alike (λ g. LacksMetadata g l) (λ g. LacksMetadata g m) input x y) y.so.lowered) y.so.lack;
  never_refused = λ input r k b x q. begun_not_refused (λ g. Unit {0}) input r k x q;
}
