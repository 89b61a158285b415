-- Goals one after the other: what the first ones take, and then the rest.
use Rattle.std.proofs.Common.{◌≡◌, List, [], ◌∷◌, ◌++◌, Option, Some, None, refl, sym, ap, ◌∙◌, append_assoc, append-nil}
use Rattle.std.specs.Prelude.{option_map, option_and_then}
use Rattle.std.proofs.lemmas.Option.{same_Some}
use Rattle.json.specs.Token.{Token}
use Rattle.amf_text.specs.Scalars.{Reads}
use Rattle.amf_text.specs.Asks.{Goal, step, goals_step, left_after}

-- Answers that are there.

pub no_answer : {X Y : Type 0} (x : X) → ◌≡◌ {A = Option X} None (Some x) → Y
no_answer x e = cc

pub and_then_is : {X Y : Type 0} (f : X → Option Y) (o : Option X) (y : Y) → option_and_then f o ≡ Some y → (x : X) × (o ≡ Some x) × (f x ≡ Some y)
and_then_is f None y e = no_answer y e
and_then_is f (Some x) y e = (x, refl, e)

pub map_is : {X Y : Type 0} (f : X → Y) (o : Option X) (y : Y) → option_map f o ≡ Some y → (x : X) × (o ≡ Some x) × (f x ≡ y)
map_is f None y e = no_answer y e
map_is f (Some x) y e = (x, refl, same_Some (f x) y e)

-- these tokens are just what the goals ask for
abbrev pub Done : Reads → List Goal → List Token → Type 0
Done reads gs ts = left_after reads gs ts ≡ Some []

-- Tokens behind which other goals are left.

framed_step : (reads : Reads) (ts : List Token) (gs hs ks : List Goal) (o : Option (List Goal)) → ((l : List Goal) → left_after reads l ts ≡ Some ks → left_after reads (l ++ hs) ts ≡ Some (ks ++ hs))
    → option_and_then (λ l. left_after reads l ts) (option_and_then (λ l. Some (l ++ gs)) o) ≡ Some ks
    → option_and_then (λ l. left_after reads l ts) (option_and_then (λ l. Some (l ++ (gs ++ hs))) o) ≡ Some (ks ++ hs)
framed_step reads ts gs hs ks None more e = no_answer ks e
framed_step reads ts gs hs ks (Some l) more e = ap (λ x. left_after reads x ts) (sym (append_assoc l gs hs)) ∙ more (l ++ gs) e

framed : (reads : Reads) (ts : List Token) (gs hs ks : List Goal) → left_after reads gs ts ≡ Some ks → left_after reads (gs ++ hs) ts ≡ Some (ks ++ hs)
framed reads [] gs hs ks e = ap (λ l. Some (l ++ hs)) (same_Some gs ks e)
framed reads (t ∷ ts) [] hs ks e = no_answer ks e
framed reads (t ∷ ts) (g ∷ gs) hs ks e = framed_step reads ts gs hs ks (step reads g t) (λ l. framed reads ts l hs ks) e

both_step : (reads : Reads) (a b : List Token) (o : Option (List Goal)) → ((gs : List Goal) → left_after reads gs (a ++ b) ≡ option_and_then (λ hs. left_after reads hs b) (left_after reads gs a))
    → option_and_then (λ hs. left_after reads hs (a ++ b)) o ≡ option_and_then (λ hs. left_after reads hs b) (option_and_then (λ hs. left_after reads hs a) o)
both_step reads a b None more = refl
both_step reads a b (Some hs) more = more hs

pub after_both : (reads : Reads) (a b : List Token) (gs : List Goal) → left_after reads gs (a ++ b) ≡ option_and_then (λ hs. left_after reads hs b) (left_after reads gs a)
after_both reads [] b gs = refl
after_both reads (t ∷ a) b gs = both_step reads a b (goals_step reads gs t) (after_both reads a b)

-- what meets goals and then what meets others
pub joined : (reads : Reads) (gs hs : List Goal) (a b : List Token) → Done reads gs a → Done reads hs b → Done reads (gs ++ hs) (a ++ b)
joined reads gs hs a b d e = after_both reads a b (gs ++ hs) ∙ ap (option_and_then (λ l. left_after reads l b)) (framed reads a gs hs [] d) ∙ e

-- by its first token and then the goals that are left
pub first_step : (reads : Reads) (g : Goal) (t : Token) (gs : List Goal) (ts : List Token) → step reads g t ≡ Some gs → Done reads gs ts → Done reads (g ∷ []) (t ∷ ts)
first_step reads g t gs ts e d =
    ap (λ o. option_and_then (λ l. left_after reads l ts) (option_and_then (λ l. Some (l ++ [])) o)) e ∙ ap (λ l. left_after reads l ts) (append-nil gs) ∙ d

-- the same before other goals
pub first_of : (reads : Reads) (g : Goal) (t : Token) (hs gs : List Goal) (ts : List Token) → step reads g t ≡ Some hs → Done reads (hs ++ gs) ts → Done reads (g ∷ gs) (t ∷ ts)
first_of reads g t hs gs ts e d = ap (λ o. option_and_then (λ l. left_after reads l ts) (option_and_then (λ l. Some (l ++ gs)) o)) e ∙ d

-- a goal's first token, what follows it, and the goals that are left
abbrev pub Stepped : Reads → Goal → List Token → Type 0
Stepped reads g ts = (t : Token) × (rest : List Token) × (gs : List Goal) × (ts ≡ t ∷ rest) × (step reads g t ≡ Some gs) × Done reads gs rest

stepped_by : (reads : Reads) (g : Goal) (t : Token) (ts : List Token) (o : Option (List Goal)) → step reads g t ≡ o
    → option_and_then (λ l. left_after reads l ts) (option_and_then (λ l. Some (l ++ [])) o) ≡ Some [] → Stepped reads g (t ∷ ts)
stepped_by reads g t ts None s e = no_answer [] e
stepped_by reads g t ts (Some gs) s e = (t, ts, gs, refl, s, ap (λ l. left_after reads l ts) (sym (append-nil gs)) ∙ e)

no_goals : {Z : Type 0} (g : Goal) (gs : List Goal) → Some (g ∷ gs) ≡ Some [] → Z
no_goals g gs e = let h : g ∷ gs ≡ [] = same_Some (g ∷ gs) [] e in cc

pub stepped : (reads : Reads) (g : Goal) (ts : List Token) → Done reads (g ∷ []) ts → Stepped reads g ts
stepped reads g [] d = no_goals g [] d
stepped reads g (t ∷ ts) d = stepped_by reads g t ts (step reads g t) refl d

-- what meets goals and then others is what meets the first and then what meets the others
abbrev pub Parted : Reads → List Goal → List Goal → List Token → Type 0
Parted reads gs hs ts = (a : List Token) × (b : List Token) × (ts ≡ a ++ b) × Done reads gs a × Done reads hs b

parted_step : (reads : Reads) (g : Goal) (gs hs : List Goal) (t : Token) (ts : List Token) (o : Option (List Goal)) → step reads g t ≡ o → ((l : List Goal) → Done reads (l ++ hs) ts → Parted reads l hs ts)
    → option_and_then (λ l. left_after reads l ts) (option_and_then (λ l. Some (l ++ (gs ++ hs))) o) ≡ Some [] → Parted reads (g ∷ gs) hs (t ∷ ts)
parted_step reads g gs hs t ts None s more e = no_answer [] e
parted_step reads g gs hs t ts (Some l) s more e =
    let p = more (l ++ gs) (ap (λ x. left_after reads x ts) (append_assoc l gs hs) ∙ e) in
    (t ∷ p.0, p.1, ap (λ x. t ∷ x) p.2, ap (λ o. option_and_then (λ x. left_after reads x p.0) (option_and_then (λ x. Some (x ++ gs)) o)) s ∙ p.3, p.4)

parted_of : (reads : Reads) (ts : List Token) (hs gs : List Goal) → Done reads (gs ++ hs) ts → Parted reads gs hs ts
parted_of reads [] hs [] d = ([], [], refl, refl, d)
parted_of reads [] hs (g ∷ gs) d = no_goals g (gs ++ hs) d
parted_of reads (t ∷ ts) hs [] d = ([], t ∷ ts, refl, refl, d)
parted_of reads (t ∷ ts) hs (g ∷ gs) d = parted_step reads g gs hs t ts (step reads g t) refl (parted_of reads ts hs) d

pub parted : (reads : Reads) (gs hs : List Goal) (ts : List Token) → Done reads (gs ++ hs) ts → Parted reads gs hs ts
parted reads gs hs ts d = parted_of reads ts hs gs d
