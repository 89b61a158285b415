-- Values that are listed one after another.
use Rattle.std.proofs.Common.{◌≡◌, ℕ, ◌+◌, ◌<◌, List, [], ◌∷◌, ◌++◌, length, Bool, true, eqb, eqb-true, Result, Ok, Err, sym, ap, ◌∙◌, subst, arith, append_assoc, length-append}
use Rattle.std.specs.Result.{IsErrAnd}
use Rattle.std.proofs.lemmas.List.{append-nil}
use Rattle.amf_io.specs.declared.reason.Reason.{Reason}
use Rattle.amf_io.specs.declared.ends.ReadEnd.{ReadEnd}
use Rattle.amf_io.specs.declared.ends.ReadEnd.TheVariants.{Refused, ReadFault, Memory}
use Rattle.amf_io.specs.Field.{flat}
use Rattle.amf_io.specs.ReadEnds.{CountsEnd}
use Rattle.amf_io.specs.Verdict.{IsRefused}
use Rattle.amf_graph.specs.Graph.{Graph}
use Rattle.amf_show.specs.Listing.{IsListing, AppendsListing}
use Rattle.amf0_spelling.specs.Values0.{IsValue0}
use Rattle.rtmp_rechunk.specs.Pass.{Appended}
use Rattle.rtmp_listing.specs.Listing.{ShowsValues, no_more, value, bad, bad_line}
use Rattle.rtmp_listing.specs.Values.{IsReadFront, AnswersOne, Lists, ListedSoFar}
use Rattle.rtmp_listing.proofs.OneRead.{value_some}

pub none_listed : (at : ℕ) (input out : List ℕ) → ListedSoFar at input at input out out
none_listed at input out = record { listed = []; appended = sym (append-nil out); behind = λ more s. s }

one_shown : (g : Graph) (rest left : List ℕ) (place next : ℕ) (b more : List ℕ) (r : IsReadFront g rest left place next) (l : IsListing g b) → ShowsValues next left more → ShowsValues place rest (b ++ more)
one_shown g rest left place next b more r l k =
    subst (λ w. ShowsValues place w (b ++ more)) (sym r.parts) (value place r.fields left b more (record { graph = g; spelled = r.spelled; listed = l }) (subst (λ p. ShowsValues p left more) r.taken k))

-- one value more
pub one_listed : (g : Graph) (at : ℕ) (input : List ℕ) (place next : ℕ) (rest left before mid now : List ℕ) → ListedSoFar at input place rest before mid → IsReadFront g rest left place next → AppendsListing g mid now → ListedSoFar at input next left before now
one_listed g at input place next rest left before mid now s r (b, l, e) = record {
  listed = s.listed ++ b;
  appended = e ∙ ap (λ w. w ++ b) s.appended ∙ append_assoc before s.listed b;
  behind = λ more k. subst (λ w. ShowsValues at input w) (sym (append_assoc s.listed b more)) (s.behind (b ++ more) (one_shown g rest left place next b more r l k));
}

pub less_left : (g : Graph) (rest left : List ℕ) (place next : ℕ) → IsReadFront g rest left place next → length left < length rest
less_left g rest left place next r = let some = value_some r.fields r.accepted in let e = ap length r.parts in omega (arith, some, e, length-append (flat r.fields) left)

-- all values
pub all_listed : (at : ℕ) (input : List ℕ) (place : ℕ) (rest before now : List ℕ) → ListedSoFar at input place rest before now → rest ≡ [] → Appended (ShowsValues at input) before now
all_listed at input place rest before now s e = (s.listed, subst (λ w. ShowsValues at input w) (append-nil s.listed) (s.behind [] (subst (λ r. ShowsValues place r []) (sym e) (no_more place))), s.appended)

-- or those before the first that is none
pub end_listed : (at : ℕ) (input : List ℕ) (place next limit : ℕ) (rest left before now : List ℕ) (r : Result (Unit {0}) ReadEnd) (e : ReadEnd) → IsErrAnd r (λ x. x ≡ e) → ListedSoFar at input place rest before now → place + length rest ≡ limit → 0 < length rest → CountsEnd 0 0 e
    → AnswersOne rest left place next limit (Err e) → Lists at input before now r
end_listed at input place next limit rest left before now (Ok u) e h s end some counts a = absurd h
end_listed at input place next limit rest left before now (Err x) (Refused f) h s end some counts a =
    subst (λ y. Lists {T = Unit {0}} at input before now (Err y)) (sym h) (s.listed, s.behind (bad_line f.reason f.at) (bad place rest f.reason f.at some (subst (λ n. IsRefused IsValue0 place n rest f.reason f.at) (sym end) a)), s.appended)
end_listed at input place next limit rest left before now (Err x) ReadFault h s end some counts a = let rose = counts.1 in absurd (omega arith)
end_listed at input place next limit rest left before now (Err x) Memory h s end some counts a = subst (λ y. Lists {T = Unit {0}} at input before now (Err y)) (sym h) tt

-- behind them stands the line that says why
pub bad_listed : (at : ℕ) (input bytes : List ℕ) (before mid now : List ℕ) (reason : Reason) (k : ℕ) → at ≡ 0 → input ≡ bytes → Appended (λ out. ShowsValues at input (out ++ bad_line reason k)) before mid → now ≡ mid ++ bad_line reason k → Appended (ShowsValues 0 bytes) before now
bad_listed at input bytes before mid now reason k z same (l, s, e) d =
    (l ++ bad_line reason k, subst (λ w. ShowsValues 0 w (l ++ bad_line reason k)) same (subst (λ n. ShowsValues n input (l ++ bad_line reason k)) z s), d ∙ ap (λ w. w ++ bad_line reason k) e ∙ append_assoc before l (bad_line reason k))

pub whole_listed : (at : ℕ) (input bytes before now : List ℕ) → at ≡ 0 → input ≡ bytes → Appended (ShowsValues at input) before now → Appended (ShowsValues 0 bytes) before now
whole_listed at input bytes before now z same (l, s, e) = (l, subst (λ w. ShowsValues 0 w l) same (subst (λ n. ShowsValues n input l) z s), e)

pub no_values : (over : Bool) (bytes out : List ℕ) → over ≡ eqb (length bytes) 0 → over ≡ true → Appended (ShowsValues 0 bytes) out out
no_values over [] out e t = ([], no_more 0, sym (append-nil out))
no_values over (b ∷ bytes) out e t = let none : length (b ∷ bytes) ≡ 0 = eqb-true (length (b ∷ bytes)) 0 (sym e ∙ t) in absurd (omega arith)
