-- Each label that a text calls has a place in it; so a text that means something, where labels may lead nowhere, is accepted or refused.
use Rattle.std.proofs.Common.{◌≡◌, ℕ, suc, ◌≤◌, ◌<◌, inl, inr, Bool, true, false, if◌then◌else◌, List, [], ◌∷◌, ◌++◌, length, Option, Some, None, refl, sym, ap, ap₂, ◌∙◌, arith}
use Rattle.std.specs.Prelude.{option_map, option_and_then, slice_get, get_or}
use Rattle.std.specs.List.{flat_map}
use Rattle.std.proofs.lemmas.Option.{same_Some, slice_get-get_or}
use Rattle.json.specs.Json.{Json, Members}
use Rattle.json.specs.Json as json
use Rattle.amf_graph.specs.Graph.{Graph}
use Rattle.amf_text.specs.Scalars.{Reads}
use Rattle.amf_text.specs.Documents.{Header, Message, Document, value3, value0, file, packet}
use Rattle.amf_text.specs.Accepted.{Part, IsJsonText, document_meant, MeansPart, all_linked, linked}
use Rattle.amf_text.specs.Asks.{start}
use Rattle.amf_text.specs.Scan.{scan}
use Rattle.amf_text.specs.Refused.{document_calls, first_false, label_places, no_label, text_limit, within}
use Rattle.amf_text.proofs.Goals.{no_answer}
use Rattle.amf_text_trees.specs.Sheets.{no_sheet, Page, pages_of}
use Rattle.amf_text_trees.specs.Frames as frame
use Rattle.amf_text_trees.specs.Gathering.{draft, State, gathered}
use Rattle.amf_text_trees.specs.Pages.{page_graph, page_calls, are_true, page_linked, header_linked, message_linked, pages_linked, pages_calls}
use Rattle.amf_text_trees.proofs.Documents.{document_gives}
use Rattle.amf_text_trees.proofs.Linking.{linked_is, calls_are}
use Rattle.amf_text_trees.proofs.Goods.{document_tabled}
use Rattle.amf_text_laws.specs.Verdicts.{IsJudged}
use Rattle.amf_text_laws.proofs.Scanned.{scanned}
use Rattle.amf_text_laws.proofs.Counted.{counted, pages_long}

-- Places.

abbrev places : Reads → List ℕ → List ℕ
places reads text = label_places reads (Some (start ∷ [])) (scan text).tokens

abbrev HasPlaces : Reads → List ℕ → Document Part → Type 0
HasPlaces reads text d = length (document_calls d) ≤ length (places reads text)

places_by : (reads : Reads) (text : List ℕ) (d : Document Part) (j : Json) → IsJsonText text j → document_meant reads j ≡ Some d → HasPlaces reads text d
places_by reads text d (json.object ms) t m =
    let s = scanned text ms t.same in
    let end : State = record { goals = []; draft = draft no_sheet (frame.ended (pages_of d) ∷ []) } in
    let h = counted reads (start ∷ []) (draft no_sheet (frame.bottom ∷ [])) (scan text).tokens end (ap (gathered reads) s.0 ∙ document_gives reads (json.object ms) d m) in
    let n = ap length (sym (calls_are d)) ∙ pages_long (pages_of d) in
    omega (arith, h, n)
places_by reads text d json.null t m = no_answer d m
places_by reads text d (json.boolean b) t m = no_answer d m
places_by reads text d (json.number s) t m = no_answer d m
places_by reads text d (json.string s) t m = no_answer d m
places_by reads text d (json.array js) t m = no_answer d m

pub calls_have_places : (reads : Reads) (text : List ℕ) (d : Document Part) → MeansPart reads text d → HasPlaces reads text d
calls_have_places reads text d (j, t, m) = places_by reads text d j t m

first_less : (bs : List Bool) (k : ℕ) → first_false bs ≡ Some k → k < length bs
first_less [] k e = no_answer k e
first_less (false ∷ bs) k e = let h = same_Some 0 k e in omega (arith, h)
first_less (true ∷ bs) k e = go (first_false bs) (λ n. first_less bs n) e
  where
    go : (o : Option ℕ) → ((n : ℕ) → o ≡ Some n → n < length bs) → option_map suc o ≡ Some k → k < length (true ∷ bs)
    go None more e = no_answer k e
    go (Some n) more e =
        let h = more n refl in
        let g = same_Some (suc n) k e in
        omega (arith, h, g)

place_of : (reads : Reads) (text : List ℕ) (d : Document Part) (k : ℕ) → MeansPart reads text d → first_false (document_calls d) ≡ Some k → (at : ℕ) × (slice_get (places reads text) k ≡ Some at)
place_of reads text d k m f =
    let l = calls_have_places reads text d m in
    let h = first_less (document_calls d) k f in
    (get_or (places reads text) k 0, slice_get-get_or (places reads text) k 0 (omega (arith, l, h)))

-- Where each label is one of a row.

abbrev none_false : List Bool → Type 0
none_false bs = first_false bs ≡ None

no_more : (o : Option ℕ) → option_map suc o ≡ None → o ≡ None
no_more None e = refl
no_more (Some n) e = no_answer (suc n) (sym e)

all_true : (bs : List Bool) → none_false bs → are_true bs ≡ true
all_true [] e = refl
all_true (false ∷ bs) e = no_answer 0 (sym e)
all_true (true ∷ bs) e = all_true bs (no_more (first_false bs) e)

of_both : (bs cs : List Bool) → none_false (bs ++ cs) → none_false bs × none_false cs
of_both [] cs e = (refl, e)
of_both (false ∷ bs) cs e = no_answer 0 (sym e)
of_both (true ∷ bs) cs e = let r = of_both bs cs (no_more (first_false (bs ++ cs)) e) in (ap (option_map suc) r.0, r.1)

page_is : (p : Page) → none_false (page_calls p) → page_linked p ≡ Some (page_graph p)
page_is p e = ap (λ b. if b then Some (page_graph p) else None) (all_true (page_calls p) e)

headers_are : (hs : List (Header Page)) → none_false (flat_map (λ h. page_calls h.graph) hs) → (ys : List (Header Graph)) × (all_linked header_linked hs ≡ Some ys)
headers_are [] e = ([], refl)
headers_are (h ∷ hs) e =
    let p = of_both (page_calls h.graph) (flat_map (λ h. page_calls h.graph) hs) e in
    let r = headers_are hs p.1 in
    let y : Header Graph = record { name = h.name; must = h.must; form = h.form; graph = page_graph h.graph } in
    let q = ap (option_map (λ g. record { name = h.name; must = h.must; form = h.form; graph = g })) (page_is h.graph p.0) in
    (y ∷ r.0, ap₂ (λ o os. option_and_then (λ y. option_map (λ ys. y ∷ ys) os) o) q r.1)

messages_are : (ms : List (Message Page)) → none_false (flat_map (λ m. page_calls m.graph) ms) → (ys : List (Message Graph)) × (all_linked message_linked ms ≡ Some ys)
messages_are [] e = ([], refl)
messages_are (m ∷ ms) e =
    let p = of_both (page_calls m.graph) (flat_map (λ m. page_calls m.graph) ms) e in
    let r = messages_are ms p.1 in
    let y : Message Graph = record { target = m.target; response = m.response; form = m.form; graph = page_graph m.graph } in
    let q = ap (option_map (λ g. record { target = m.target; response = m.response; form = m.form; graph = g })) (page_is m.graph p.0) in
    (y ∷ r.0, ap₂ (λ o os. option_and_then (λ y. option_map (λ ys. y ∷ ys) os) o) q r.1)

pages_are : (d : Document Page) → none_false (pages_calls d) → (g : Document Graph) × (pages_linked d ≡ Some g)
pages_are (value3 p) e = (value3 (page_graph p), ap (option_map value3) (page_is p e))
pages_are (value0 p) e = (value0 (page_graph p), ap (option_map value0) (page_is p e))
pages_are (file name version p) e = (file name version (page_graph p), ap (option_map (file name version)) (page_is p e))
pages_are (packet version hs ms) e =
    let p = of_both (flat_map (λ h. page_calls h.graph) hs) (flat_map (λ m. page_calls m.graph) ms) e in
    let a = headers_are hs p.0 in
    let b = messages_are ms p.1 in
    (packet version a.0 b.0, ap₂ (λ o os. option_and_then (λ ys. option_map (packet version ys) os) o) a.1 b.1)

linked_some : (reads : Reads) (j : Json) (d : Document Part) → document_meant reads j ≡ Some d → none_false (document_calls d) → (g : Document Graph) × (linked d ≡ Some g)
linked_some reads j d m e =
    let p = pages_are (pages_of d) (ap first_false (calls_are d) ∙ e) in
    (p.0, sym (linked_is d (document_tabled reads j d m)) ∙ p.1)

-- The verdict.

pub judged : (reads : Reads) (text : List ℕ) (d : Document Part) → length text ≤ text_limit → MeansPart reads text d → IsJudged reads text
judged reads text d l (j, t, m) = go (first_false (document_calls d)) refl
  where
    go : (o : Option ℕ) → first_false (document_calls d) ≡ o → IsJudged reads text
    go None e =
        let g = linked_some reads j d m e in
        inl (g.0, record { within = l; means = (d, (j, t, m), g.1) })
    go (Some k) e =
        let p = place_of reads text d k (j, t, m) e in
        inr (p.0, within l (no_label d k p.0 (j, t, m) e p.1))
