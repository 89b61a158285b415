-- Goals one after the other: what the first ones take of the tokens and make of the draft, and then the rest.
use Rattle.std.proofs.Common.{◌≡◌, Bool, true, List, [], ◌∷◌, ◌++◌, Option, Some, None, refl, sym, ap, ◌∙◌, append_assoc, append-nil}
use Rattle.std.specs.Prelude.{option_map, option_and_then}
use Rattle.std.proofs.lemmas.Option.{same_Some}
use Rattle.json.specs.Token.{Token}
use Rattle.amf_text.specs.Scalars.{Reads}
use Rattle.amf_text.specs.Asks.{Goal, step, if_it}
use Rattle.amf_text.proofs.Goals.{no_answer}
use Rattle.amf_text_trees.specs.Pieces.{Piece}
use Rattle.amf_text_trees.specs.Gathering.{Draft, giving, State, gather, tree_step, trees_after}

abbrev pub at : List Goal → Draft → State
at gs fs = record { goals = gs; draft = fs }

module _ (reads : Reads) where
  abbrev after : List Token → State → Option State
  after ts s = trees_after reads s.goals s.draft ts

  -- Tokens behind which other goals are left.

  framed_step : (ts : List Token) (gs ls ks : List Goal) (fs hs : Draft) (o : Option (List Goal)) → ((l : List Goal) → trees_after reads l fs ts ≡ Some (at ks hs) → trees_after reads (l ++ ls) fs ts ≡ Some (at (ks ++ ls) hs))
      → option_and_then (after ts) (option_map (λ l. at (l ++ gs) fs) o) ≡ Some (at ks hs)
      → option_and_then (after ts) (option_map (λ l. at (l ++ (gs ++ ls)) fs) o) ≡ Some (at (ks ++ ls) hs)
  framed_step ts gs ls ks fs hs None more e = no_answer (at ks hs) e
  framed_step ts gs ls ks fs hs (Some l) more e = ap (λ x. trees_after reads x fs ts) (sym (append_assoc l gs ls)) ∙ more (l ++ gs) e

  framed : (ts : List Token) (gs ls ks : List Goal) (fs hs : Draft) → trees_after reads gs fs ts ≡ Some (at ks hs) → trees_after reads (gs ++ ls) fs ts ≡ Some (at (ks ++ ls) hs)
  framed [] gs ls ks fs hs e = ap (λ s. Some (at (s.goals ++ ls) s.draft)) (same_Some (at gs fs) (at ks hs) e)
  framed (t ∷ ts) [] ls ks fs hs e = no_answer (at ks hs) e
  framed (t ∷ ts) (g ∷ gs) ls ks fs hs e = framed_step ts gs ls ks (gather reads g t fs) hs (step reads g t) (λ l. framed ts l ls ks (gather reads g t fs) hs) e

  both_step : (a b : List Token) (o : Option State) → ((gs : List Goal) (fs : Draft) → trees_after reads gs fs (a ++ b) ≡ option_and_then (after b) (trees_after reads gs fs a))
      → option_and_then (after (a ++ b)) o ≡ option_and_then (after b) (option_and_then (after a) o)
  both_step a b None more = refl
  both_step a b (Some s) more = more s.goals s.draft

  pub after_both : (a b : List Token) (gs : List Goal) (fs : Draft) → trees_after reads gs fs (a ++ b) ≡ option_and_then (after b) (trees_after reads gs fs a)
  after_both [] b gs fs = refl
  after_both (t ∷ a) b gs fs = both_step a b (tree_step reads gs fs t) (after_both a b)

  -- these tokens are just what the goals ask for, and make that draft of this
  pub record Takes (gs : List Goal) (ts : List Token) (fs hs : Draft) : Type 0 where
    pub is : trees_after reads gs fs ts ≡ Some (at [] hs)

  -- one goal's tokens come to this piece
  abbrev pub Gives : Goal → List Token → Piece → Type 0
  Gives g ts p = (fs : Draft) → Takes (g ∷ []) ts fs (giving p fs)

  pub joined : {gs ls : List Goal} {a b : List Token} {fs hs ks : Draft} → Takes gs a fs hs → Takes ls b hs ks → Takes (gs ++ ls) (a ++ b) fs ks
  joined {gs = gs} {ls = ls} {a = a} {b = b} {fs = fs} {hs = hs} {ks = ks} d e =
      record { is = after_both a b (gs ++ ls) fs ∙ ap (option_and_then (after b)) (framed a gs ls [] fs hs d.is) ∙ e.is }

  -- the same draft, said otherwise
  pub arrives : {gs : List Goal} {ts : List Token} {fs hs ks : Draft} → hs ≡ ks → Takes gs ts fs hs → Takes gs ts fs ks
  arrives e d = record { is = d.is ∙ ap (λ h. Some (at [] h)) e }

  pub departs : {gs : List Goal} {ts : List Token} {fs hs ks : Draft} → fs ≡ hs → Takes gs ts hs ks → Takes gs ts fs ks
  departs {gs = gs} {ts = ts} e d = record { is = ap (λ f. trees_after reads gs f ts) e ∙ d.is }

  -- by its first token and then the goals that are left
  pub first_of : (g : Goal) (t : Token) (hs gs : List Goal) (ts : List Token) (fs ks : Draft) → step reads g t ≡ Some hs → Takes (hs ++ gs) ts (gather reads g t fs) ks → Takes (g ∷ gs) (t ∷ ts) fs ks
  first_of g t hs gs ts fs ks e d = record { is = ap (λ o. option_and_then (after ts) (option_map (λ l. at (l ++ gs) (gather reads g t fs)) o)) e ∙ d.is }

  pub first_step : (g : Goal) (t : Token) (gs : List Goal) (ts : List Token) (fs ks : Draft) → step reads g t ≡ Some gs → Takes gs ts (gather reads g t fs) ks → Takes (g ∷ []) (t ∷ ts) fs ks
  first_step g t gs ts fs ks e d =
      record { is = ap (λ o. option_and_then (after ts) (option_map (λ l. at (l ++ []) (gather reads g t fs)) o)) e ∙ ap (λ l. trees_after reads l (gather reads g t fs) ts) (append-nil gs) ∙ d.is }

  -- one goal that takes one token
  pub one_token : (g : Goal) (t : Token) (fs hs : Draft) → step reads g t ≡ Some [] → gather reads g t fs ≡ hs → Takes (g ∷ []) (t ∷ []) fs hs
  one_token g t fs hs e h = first_step g t [] [] fs hs e (record { is = ap (λ l. Some (at [] l)) h })

  pub test_token : (g : Goal) (t : Token) (b : Bool) (fs hs : Draft) → step reads g t ≡ if_it b [] → b ≡ true → gather reads g t fs ≡ hs → Takes (g ∷ []) (t ∷ []) fs hs
  test_token g t b fs hs e n h = one_token g t fs hs (e ∙ ap (λ c. if_it c []) n) h
