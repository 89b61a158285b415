-- What is told one after another.
use Rattle.std.proofs.Common.{◌≡◌, ℕ, Bool, true, false, List, [], ◌∷◌, ◌++◌, refl, sym, ap, ◌∙◌, append_assoc, append-nil, inl}
use Rattle.std.specs.Prelude.{Result, Ok, Err, OnOk, IfOk}
use Rattle.json.specs.Token.{Token, begin_object, end_object, key, boolean}
use Rattle.amf_text_write.specs.Laid.{Shown, with_more}
use Rattle.amf_text_write.specs.Tells.{AreTokensOf, Tells}
use Rattle.amf_text_write.specs.Flags.{flag_tokens}

pub more_then : (s : Shown) (ts us : List Token) → with_more (with_more s ts) us ≡ with_more s (ts ++ us)
more_then s ts us = ap (λ l. record { by_lines = s.by_lines; tokens = l }) (append_assoc s.tokens ts us)

pub more_none : (s : Shown) → s ≡ with_more s []
more_none s = ap (λ l. record { by_lines = s.by_lines; tokens = l }) (sym (append-nil s.tokens))

-- one after another, as they are
pub then_more : (ts us : List Token) (a b c : Shown) → b ≡ with_more a ts → c ≡ with_more b us → c ≡ with_more a (ts ++ us)
then_more ts us a b c x y = y ∙ ap (λ s. with_more s us) x ∙ more_then a ts us

pub same_all : (ts : List Token) → AreTokensOf ts ts
same_all [] = tt
same_all (t ∷ ts) = (inl refl, same_all ts)

pub alike_then : (ts us vs ws : List Token) → AreTokensOf ts us → AreTokensOf vs ws → AreTokensOf (ts ++ vs) (us ++ ws)
alike_then [] [] vs ws a b = b
alike_then [] (u ∷ us) vs ws a b = absurd a
alike_then (t ∷ ts) [] vs ws a b = absurd a
alike_then (t ∷ ts) (u ∷ us) vs ws a b = (a.0, alike_then ts us vs ws a.1 b)

-- tokens as they are
pub exactly : (ts : List Token) (a b : Shown) → b ≡ with_more a ts → Tells ts a b
exactly ts a b e = record { told = ts; alike = same_all ts; is = e }

pub tells_then : (ts us : List Token) (a b c : Shown) → Tells ts a b → Tells us b c → Tells (ts ++ us) a c
tells_then ts us a b c x y = record {
  told = x.told ++ y.told;
  alike = alike_then ts x.told us y.told x.alike y.alike;
  is = then_more x.told y.told a b c x.is y.is;
}

pub on_ok : {T E P Q : Type 0} (r : Result T E) → (P → Q) → OnOk r P → OnOk r Q
on_ok (Ok v) f h = f h
on_ok (Err e) f h = tt

pub if_ok : {T E : Type 0} (r : Result T E) (P Q : T → Type 0) → ((x : T) → P x → Q x) → IfOk r P → IfOk r Q
if_ok (Ok v) P Q f h = f v h
if_ok (Err e) P Q f h = tt

-- an object of one member

pub alone_more : (tag : List ℕ) (ts : List Token) (a b c e f : Shown)
    → b ≡ with_more a (begin_object ∷ []) → c ≡ with_more b (key tag ∷ []) → e ≡ with_more c ts → f ≡ with_more e (end_object ∷ [])
    → f ≡ with_more a (begin_object ∷ key tag ∷ (ts ++ end_object ∷ []))
alone_more tag ts a b c e f x y z w =
    then_more (begin_object ∷ []) (key tag ∷ (ts ++ end_object ∷ [])) a b f x
    (then_more (key tag ∷ []) (ts ++ end_object ∷ []) b c f y (then_more ts (end_object ∷ []) c e f z w))

pub alone_told : (tag : List ℕ) (ts : List Token) (a b c e f : Shown)
    → b ≡ with_more a (begin_object ∷ []) → c ≡ with_more b (key tag ∷ []) → Tells ts c e → f ≡ with_more e (end_object ∷ [])
    → Tells (begin_object ∷ key tag ∷ (ts ++ end_object ∷ [])) a f
alone_told tag ts a b c e f x y z w =
    tells_then (begin_object ∷ []) (key tag ∷ (ts ++ end_object ∷ [])) a b f (exactly (begin_object ∷ []) a b x)
    (tells_then (key tag ∷ []) (ts ++ end_object ∷ []) b c f (exactly (key tag ∷ []) b c y) (tells_then ts (end_object ∷ []) c e f z (exactly (end_object ∷ []) e f w)))

-- a member that stands where its flag holds

pub flag_off : (s : Shown) (name : List ℕ) (f : Bool) → f ≡ false → s ≡ with_more s (flag_tokens name f)
flag_off s name true e = cc
flag_off s name false e = more_none s

pub flag_on : (a b : Shown) (name : List ℕ) (f : Bool) → f ≡ true → b ≡ with_more a (key name ∷ boolean true ∷ []) → b ≡ with_more a (flag_tokens name f)
flag_on a b name true e is = is
flag_on a b name false e is = cc
