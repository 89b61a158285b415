-- Which frame is the text at its end.
use Rattle.std.proofs.Common.{◌≡◌, ℕ, refl, ap, sym, subst, ◌∙◌, List, [], ◌∷◌, Bool, true, false, Option, Some, None, if◌then◌else◌}
use Rattle.std.specs.Prelude.{MatchOption}
use Rattle.std.proofs.lemmas.Bool.{false≢true}
use Rattle.json.specs.Lex.{tokens}
use Rattle.json.specs.Token.{Token}
use Rattle.amf_text.specs.Scalars.{read_number}
use Rattle.amf_text.specs.Asks.{Goal, start}
use Rattle.amf_text.specs.Documents as documents
use Rattle.amf_text_trees.specs.Sheets.{Page, no_sheet}
use Rattle.amf_text_trees.specs.Frames as frame
use Rattle.amf_text_trees.specs.Gathering as gathering
use Rattle.amf_text_trees.specs.Gathering.{draft, State, trees_after, gathered}
use Rattle.amf_text_trees.specs.TreeLaws.{Gathers, TreeLaws}
use Rattle.amf_text_read.specs.Verdicts.{is_empty}
use Rattle.amf_text_pages.specs.declared.page.Document.{Document}
use Rattle.amf_text_gather.specs.declared.frame.Frame.{Frame}
use Rattle.amf_text_gather.specs.declared.frame.Frame.TheVariants as code
use Rattle.amf_text_gather.specs.Frames.{frame_of}
use Rattle.amf_text_pages.specs.Pages.{document_of}
use Rattle.amf_text_gather.specs.States.{IsEnded, IsGathered}

pub not_ended : (f : Frame) (p : documents.Document Page) → ((d : Document) → f ≡ code.Ended d → ⊥) → frame_of f ≡ frame.ended p → ⊥
not_ended (code.Ended d) p h e = h d refl
not_ended (code.List y0) p h e = absurd cc
not_ended (code.Members y0 y1) p h e = absurd cc
not_ended (code.Whole y0) p h e = absurd cc
not_ended (code.Quoted y0) p h e = absurd cc
not_ended (code.Patterns y0) p h e = absurd cc
not_ended (code.Uints y0) p h e = absurd cc
not_ended (code.Ints y0) p h e = absurd cc
not_ended (code.Words y0) p h e = absurd cc
not_ended (code.Headers y0) p h e = absurd cc
not_ended (code.Messages y0) p h e = absurd cc
not_ended (code.Items y0 y1) p h e = absurd cc
not_ended (code.Plain y0 y1 y2) p h e = absurd cc
not_ended (code.Done y0 y1) p h e = absurd cc
not_ended (code.Class y0 y1) p h e = absurd cc
not_ended (code.Doubles y0 y1 y2) p h e = absurd cc
not_ended (code.Dictionary y0 y1 y2) p h e = absurd cc
not_ended (code.Document y0) p h e = absurd cc
not_ended (code.Header y0 y1) p h e = absurd cc
not_ended (code.Message y0 y1) p h e = absurd cc
not_ended code.Bottom p h e = absurd cc
not_ended (code.Tagged y0 y1) p h e = absurd cc
not_ended (code.Scalar y0) p h e = absurd cc
not_ended (code.Listed y0 y1) p h e = absurd cc
not_ended (code.Dynamic y0 y1) p h e = absurd cc
not_ended (code.Ordered y0 y1 y2) p h e = absurd cc
not_ended (code.Fixed y0 y1) p h e = absurd cc
not_ended (code.Vector y0 y1 y2) p h e = absurd cc
not_ended (code.Typed y0 y1 y2) p h e = absurd cc

some_is : (s t : State) → Some s ≡ Some t → s ≡ t
some_is s t e = cc

some_not : (s : State) → None ≡ Some s → ⊥
some_not s e = cc

none_left : (gs : List Goal) → is_empty gs ≡ true → gs ≡ []
none_left [] h = refl
none_left (g ∷ gs) h = absurd cc

-- all is gathered, and nothing has to come
abbrev whole : documents.Document Page → State
whole p = record { goals = []; draft = draft no_sheet (frame.ended p ∷ []) }

-- from where a text begins
all_of : (text : List ℕ) (gs : List Goal) (d : gathering.Draft) (ts : List Token)
    → gs ≡ start ∷ [] → d ≡ draft no_sheet (frame.bottom ∷ []) → ts ≡ tokens text → gathered read_number (tokens text) ≡ trees_after read_number gs d ts
all_of text gs d ts g b a =
    sym (ap (λ gs. trees_after read_number gs d ts) g ∙ (ap (λ d. trees_after read_number (start ∷ []) d ts) b
    ∙ ap (trees_after read_number (start ∷ []) (draft no_sheet (frame.bottom ∷ []))) a))

come_to : (ts : List Token) (o : Option Document) (p : documents.Document Page) → MatchOption o ⊥ (λ d. p ≡ document_of d)
    → Gathers read_number ts p → IsGathered ts o
come_to ts None p e g = absurd e
come_to ts (Some d) p e g = subst (Gathers read_number ts) e g

-- behind all tokens of a text, where nothing has to come, the innermost frame is the text at its end
pub gathered_whole : TreeLaws read_number → (text : List ℕ) (gs : List Goal) (d : gathering.Draft) (ts : List Token) (met : Bool) (s : State) (o : Option Document)
    → gs ≡ start ∷ [] → d ≡ draft no_sheet (frame.bottom ∷ []) → ts ≡ tokens text → met ≡ true
    → trees_after read_number gs d ts ≡ (if met then Some s else None) → is_empty s.goals ≡ true → IsEnded s.draft o → IsGathered (tokens text) o
gathered_whole laws text gs d ts met s o g b a m e empty ended =
    let at : gathered read_number (tokens text) ≡ Some s = all_of text gs d ts g b a ∙ (e ∙ ap (λ b. if b then Some s else None) m) in
    let r = laws.ends text s at (none_left s.goals empty) in
    let same = some_is s (whole r.0) (sym at ∙ r.1) in
    come_to (tokens text) o r.0 (ended r.0 [] (ap (λ s. s.draft.frames) same)) r.1

-- where one token is not asked for, or something has to come behind all of them, the text comes to nothing
pub not_met : (text : List ℕ) (gs : List Goal) (d : gathering.Draft) (ts : List Token) (met : Bool) (s : State)
    → gs ≡ start ∷ [] → d ≡ draft no_sheet (frame.bottom ∷ []) → ts ≡ tokens text → met ≡ false
    → trees_after read_number gs d ts ≡ (if met then Some s else None) → (p : documents.Document Page) → Gathers read_number (tokens text) p → ⊥
not_met text gs d ts met s g b a m e p h =
    let at : gathered read_number (tokens text) ≡ None = all_of text gs d ts g b a ∙ (e ∙ ap (λ b. if b then Some s else None) m) in
    some_not (whole p) (sym at ∙ h)

pub not_whole : (text : List ℕ) (gs : List Goal) (d : gathering.Draft) (ts : List Token) (met : Bool) (s : State)
    → gs ≡ start ∷ [] → d ≡ draft no_sheet (frame.bottom ∷ []) → ts ≡ tokens text → met ≡ true
    → trees_after read_number gs d ts ≡ (if met then Some s else None) → is_empty s.goals ≡ false → (p : documents.Document Page) → Gathers read_number (tokens text) p → ⊥
not_whole text gs d ts met s g b a m e more p h =
    let at : gathered read_number (tokens text) ≡ Some s = all_of text gs d ts g b a ∙ (e ∙ ap (λ b. if b then Some s else None) m) in
    let same = some_is s (whole p) (sym at ∙ h) in
    false≢true (sym more ∙ ap (λ (s : State). is_empty s.goals) same)
