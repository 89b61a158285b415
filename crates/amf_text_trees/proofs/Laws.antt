-- What has been gathered behind the tokens of a text is what the text means.
use Rattle.std.proofs.Common.{◌≡◌, ℕ, zero, suc, List, [], ◌∷◌, ◌++◌, Option, Some, None, refl, sym, ap, ◌∙◌, subst}
use Rattle.std.specs.Prelude.{option_map, option_and_then}
use Rattle.std.specs.Str.{IsUtf8}
use Rattle.std.proofs.lemmas.Option.{same_Some}
use Rattle.json.specs.Token.{Token, begin_object, end_object, begin_array, end_array, key, string, number, boolean, null, bad}
use Rattle.json.specs.Lex.{tokens}
use Rattle.json.specs.Print.{ArePrintableOrBad, ArePrintable}
use Rattle.json.proofs.Numbered.{ArePrintableOrBad-tokens}
use Rattle.amf_graph.specs.Graph.{Graph}
use Rattle.amf_text.specs.Scalars.{Reads}
use Rattle.amf_text.specs.Documents.{Document, packet}
use Rattle.amf_text.specs.Accepted.{Part, MeansPart, Means}
use Rattle.amf_text.specs.Asks as ask
use Rattle.amf_text.specs.Asks.{Goal, step, goals_step, left_after, asked}
use Rattle.amf_text.specs.AskLaws.{IsWhole}
use Rattle.amf_text.specs.Refused.{document_calls, first_false}
use Rattle.amf_text.proofs.Goals.{no_answer}
use Rattle.amf_text.proofs.SoundAll.{whole}
use Rattle.amf_text_trees.specs.Sheets.{no_sheet, Page, pages_of}
use Rattle.amf_text_trees.specs.Frames.{Frame}
use Rattle.amf_text_trees.specs.Frames as frame
use Rattle.amf_text_trees.specs.Gathering.{Draft, draft, State, gather, tree_step, trees_after, gathered}
use Rattle.amf_text_trees.specs.Fits.{DocumentFits}
use Rattle.amf_text_trees.specs.Pages.{pages_linked, pages_calls}
use Rattle.amf_text_trees.specs.TreeLaws.{Gathers, TreeLaws, TreeLawsHold}
use Rattle.amf_text_trees.proofs.Taking.{after_both}
use Rattle.amf_text_trees.proofs.Documents.{document_gives}
use Rattle.amf_text_trees.proofs.Linking.{linked_is, calls_are}
use Rattle.amf_text_trees.proofs.Goods.{document_fits, document_tabled, linked_fits}

-- the document of the frame that is left
abbrev document_in : List Frame → Document Page
document_in (frame.ended p ∷ fs) = p
document_in _ = packet 0 [] []

abbrev goals_in : State → List Goal
goals_in s = s.goals

module _ (reads : Reads) where
  -- Goals.

  goals_by : (ts : List Token) (gs : List Goal) (d : Draft) (o : Option (List Goal)) → ((hs : List Goal) → option_map goals_in (trees_after reads hs d ts) ≡ left_after reads hs ts)
      → option_map goals_in (option_and_then (λ (s : State). trees_after reads s.goals s.draft ts) (option_map (λ hs. record { goals = hs ++ gs; draft = d }) o))
      ≡ option_and_then (λ hs. left_after reads hs ts) (option_and_then (λ hs. Some (hs ++ gs)) o)
  goals_by ts gs d None more = refl
  goals_by ts gs d (Some hs) more = more (hs ++ gs)

  goals_after : (ts : List Token) (gs : List Goal) (d : Draft) → option_map goals_in (trees_after reads gs d ts) ≡ left_after reads gs ts
  goals_after [] gs d = refl
  goals_after (t ∷ ts) [] d = refl
  goals_after (t ∷ ts) (g ∷ gs) d = goals_by ts gs (gather reads g t d) (step reads g t) (λ hs. goals_after ts hs (gather reads g t d))

  goals : (ts : List Token) → option_map goals_in (gathered reads ts) ≡ asked reads ts
  goals ts = goals_after ts (ask.start ∷ []) (draft no_sheet (frame.bottom ∷ []))

  as_it_is : (o : Option State) → option_and_then (λ (s : State). trees_after reads s.goals s.draft []) o ≡ o
  as_it_is None = refl
  as_it_is (Some s) = refl

  more : (ts : List Token) (t : Token) (s : State) → gathered reads ts ≡ Some s → gathered reads (ts ++ t ∷ []) ≡ tree_step reads s.goals s.draft t
  more ts t s e =
      after_both reads ts (t ∷ []) (ask.start ∷ []) (draft no_sheet (frame.bottom ∷ []))
      ∙ ap (option_and_then (λ (r : State). trees_after reads r.goals r.draft (t ∷ []))) e
      ∙ as_it_is (tree_step reads s.goals s.draft t)

  -- A token that is none meets no goal.

  no_part : (part : List Goal) (goal : ℕ → Goal) (n : ℕ) → ask.parts_step part goal n bad ≡ None
  no_part part goal zero = refl
  no_part part goal (suc n) = refl

  no_left : (names : List (List ℕ)) → ask.left_step names bad ≡ None
  no_left [] = refl
  no_left (x ∷ xs) = refl

  no_bad : (g : Goal) → step reads g bad ≡ None
  unfolding step
  no_bad (ask.more_headers n) = no_part ask.header_goals ask.more_headers n
  no_bad (ask.more_messages n) = no_part ask.message_goals ask.more_messages n
  no_bad (ask.left names) = no_left names
  no_bad _ = refl

  bad_left : (g : Goal) (gs : List Goal) (ts : List Token) → left_after reads (g ∷ gs) (bad ∷ ts) ≡ None
  bad_left g gs ts = ap (λ o. option_and_then (λ hs. left_after reads hs ts) (option_and_then (λ hs. Some (hs ++ gs)) o)) (no_bad g)

  rest_left : (t : Token) (ts : List Token) (gs hs : List Goal) → left_after reads gs (t ∷ ts) ≡ Some hs → (ls : List Goal) × (left_after reads ls ts ≡ Some hs)
  rest_left t ts gs hs e = go (goals_step reads gs t) e
    where
      go : (o : Option (List Goal)) → option_and_then (λ ls. left_after reads ls ts) o ≡ Some hs → (ls : List Goal) × (left_after reads ls ts ≡ Some hs)
      go None e = no_answer hs e
      go (Some ls) e = (ls, e)

  -- tokens that were met are tokens
  met_printable : (ts : List Token) (gs hs : List Goal) → left_after reads gs ts ≡ Some hs → ArePrintableOrBad ts → ArePrintable ts
  unfolding ArePrintable
  met_printable [] gs hs e p = tt
  met_printable (bad ∷ ts) [] hs e p = no_answer hs e
  met_printable (bad ∷ ts) (g ∷ gs) hs e p = no_answer hs (sym (bad_left g gs ts) ∙ e)
  met_printable (begin_object ∷ ts) gs hs e p = let r = rest_left begin_object ts gs hs e in (p.0, met_printable ts r.0 hs r.1 p.1)
  met_printable (end_object ∷ ts) gs hs e p = let r = rest_left end_object ts gs hs e in (p.0, met_printable ts r.0 hs r.1 p.1)
  met_printable (begin_array ∷ ts) gs hs e p = let r = rest_left begin_array ts gs hs e in (p.0, met_printable ts r.0 hs r.1 p.1)
  met_printable (end_array ∷ ts) gs hs e p = let r = rest_left end_array ts gs hs e in (p.0, met_printable ts r.0 hs r.1 p.1)
  met_printable (key s ∷ ts) gs hs e p = let r = rest_left (key s) ts gs hs e in (p.0, met_printable ts r.0 hs r.1 p.1)
  met_printable (string s ∷ ts) gs hs e p = let r = rest_left (string s) ts gs hs e in (p.0, met_printable ts r.0 hs r.1 p.1)
  met_printable (number s ∷ ts) gs hs e p = let r = rest_left (number s) ts gs hs e in (p.0, met_printable ts r.0 hs r.1 p.1)
  met_printable (boolean b ∷ ts) gs hs e p = let r = rest_left (boolean b) ts gs hs e in (p.0, met_printable ts r.0 hs r.1 p.1)
  met_printable (null ∷ ts) gs hs e p = let r = rest_left null ts gs hs e in (p.0, met_printable ts r.0 hs r.1 p.1)

  -- The end.

  abbrev IsWholeText : List ℕ → Type 0
  IsWholeText text = (d : Document Part) × IsWhole reads (tokens text) d

  whole_text : (text : List ℕ) → asked reads (tokens text) ≡ Some [] → IsWholeText text
  whole_text text e = whole reads (tokens text) (met_printable (tokens text) (ask.start ∷ []) [] e (ArePrintableOrBad-tokens text)) e

  gathers : (text : List ℕ) (w : IsWholeText text) → Gathers reads (tokens text) (pages_of w.0)
  gathers text w = subst (λ ts. Gathers reads ts (pages_of w.0)) (sym w.1.same) (document_gives reads w.1.json w.0 w.1.meant)

  none_left : (text : List ℕ) (s : State) → gathered reads (tokens text) ≡ Some s → s.goals ≡ [] → asked reads (tokens text) ≡ Some []
  none_left text s e n = sym (goals (tokens text)) ∙ ap (option_map goals_in) e ∙ ap Some n

  ends : (text : List ℕ) (s : State) → gathered reads (tokens text) ≡ Some s → s.goals ≡ [] → (p : Document Page) × Gathers reads (tokens text) p
  ends text s e n = let w = whole_text text (none_left text s e n) in (pages_of w.0, gathers text w)

  -- the pages are those of what the text means
  pages_are : (text : List ℕ) (p : Document Page) → Gathers reads (tokens text) p → (w : IsWholeText text) × (p ≡ pages_of w.0)
  pages_are text p e =
      let w = whole_text text (none_left text (record { goals = []; draft = draft no_sheet (frame.ended p ∷ []) }) e refl) in
      let same = sym e ∙ gathers text w in
      (w, ap (λ s. document_in s.draft.frames) (same_Some (record { goals = []; draft = draft no_sheet (frame.ended p ∷ []) }) (record { goals = []; draft = draft no_sheet (frame.ended (pages_of w.0) ∷ []) }) same))

  means_part : (text : List ℕ) → IsUtf8 text → (w : IsWholeText text) → MeansPart reads text w.0
  means_part text utf8 w = (w.1.json, record { utf8 = utf8; same = w.1.same }, w.1.meant)

  linked_means : (text : List ℕ) (p : Document Page) (d : Document Graph) → IsUtf8 text → Gathers reads (tokens text) p → pages_linked p ≡ Some d → Means reads text d
  linked_means text p d utf8 e l =
      let a = pages_are text p e in
      let w = a.0 in
      (w.0, means_part text utf8 w, sym (linked_is w.0 (document_tabled reads w.1.json w.0 w.1.meant)) ∙ ap pages_linked (sym a.1) ∙ l)

  fits : (text : List ℕ) (p : Document Page) (d : Document Graph) → Gathers reads (tokens text) p → pages_linked p ≡ Some d → DocumentFits d
  fits text p d e l =
      let a = pages_are text p e in
      let w = a.0 in
      linked_fits w.0 d (document_fits reads w.1.json w.0 w.1.meant) (sym (linked_is w.0 (document_tabled reads w.1.json w.0 w.1.meant)) ∙ ap pages_linked (sym a.1) ∙ l)

  in_vain : (text : List ℕ) (p : Document Page) (k : ℕ) → IsUtf8 text → Gathers reads (tokens text) p → first_false (pages_calls p) ≡ Some k → (d : Document Part) × MeansPart reads text d × (first_false (document_calls d) ≡ Some k)
  in_vain text p k utf8 e f =
      let a = pages_are text p e in
      let w = a.0 in
      (w.0, means_part text utf8 w, ap first_false (sym (calls_are w.0)) ∙ ap (λ q. first_false (pages_calls q)) (sym a.1) ∙ f)

  laws : TreeLaws reads
  laws = record { more = more; goals = goals; of_json = document_gives reads; ends = ends; linked = linked_means; fits = fits; in_vain = in_vain }

pub tree_laws : TreeLawsHold
tree_laws reads = laws reads
