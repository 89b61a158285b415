-- What has been gathered of a text that means something, but for labels that may lead nowhere.
use Rattle.std.proofs.Common.{◌≡◌, ◌<◌, ◌≤◌, ℕ, suc, Bool, true, false, List, [], ◌∷◌, length, Option, Some, None, refl, sym, subst, arith}
use Rattle.std.specs.Prelude.{option_map, slice_get, get_or}
use Rattle.std.specs.List.{AllByRecursion}
use Rattle.std.specs.Str.{IsUtf8}
use Rattle.std.proofs.lemmas.Option.{same_Some, slice_get-get_or}
use Rattle.json.specs.Json.{Json}
use Rattle.json.specs.Json as json
use Rattle.json.specs.Lex.{tokens}
use Rattle.amf_graph.specs.Graph.{Graph}
use Rattle.amf_text.specs.Scalars.{read_number}
use Rattle.amf_text.specs.Documents.{Document, value3, value0, file, packet}
use Rattle.amf_text.specs.Accepted.{Part, IsJsonText, MeansPart, Means, document_meant}
use Rattle.amf_text.specs.Asks.{start}
use Rattle.amf_text.specs.Scan.{ended, scan}
use Rattle.amf_text.specs.Refused.{document_calls, first_false, label_places, text_limit, IsTextAccepted}
use Rattle.amf_text.specs.Tellable.{EachGraph}
use Rattle.amf_text.specs.WholeLaws.{IsSoundGraph, WholeLaws}
use Rattle.amf_text.proofs.Goals.{no_answer}
use Rattle.amf_text_laws.specs.TextBounds.{HasNumbers, TextBounds}
use Rattle.amf_text_laws.specs.Verdicts.{OneVerdict}
use Rattle.amf_text_laws.proofs.Scanned.{scanned}
use Rattle.amf_text_trees.specs.Sheets.{Page, pages_of}
use Rattle.amf_text_trees.specs.Pages.{pages_calls}
use Rattle.amf_text_trees.specs.TreeLaws.{Gathers, TreeLaws}
use Rattle.amf_text_read.specs.TextVerdicts.{IsAcceptedButLabels}
use Rattle.amf_text_gather.specs.States.{IsGathered}
use Rattle.amf_text_graphs.specs.Graphs.{graphs_in, IsWritable}
use Rattle.amf_text_draft.specs.Results.{IsLost}
use Rattle.amf_text_draft.proofs.Linked.{pages_are}

-- Nothing is read or gathered.

pub is_unread : (text : List ℕ) → (length text ≤ text_limit → IsUtf8 text → ⊥) → IsAcceptedButLabels text → ⊥
is_unread text h a = h a.within a.means.1.utf8

gathers : TreeLaws read_number → (text : List ℕ) (d : Document Part) → MeansPart read_number text d → Gathers read_number (tokens text) (pages_of d)
gathers laws text d (j, t, m) = subst (λ ts. Gathers read_number ts (pages_of d)) (sym t.same) (laws.of_json j d m)

pub says_nothing : TreeLaws read_number → (text whole : List ℕ) → whole ≡ text → IsGathered (tokens whole) None → IsAcceptedButLabels text → ⊥
says_nothing laws text whole same n a =
    n (pages_of a.document) (subst (λ x. Gathers read_number (tokens x) (pages_of a.document)) (sym same) (gathers laws text a.document a.means))

-- The text is whole.

ends_by : (text : List ℕ) (d : Document Part) (j : Json) → IsJsonText text j → document_meant read_number j ≡ Some d → (scan text).stop ≡ ended
ends_by text d (json.object ms) t m = (scanned text ms t.same).1
ends_by text d json.null t m = no_answer d m
ends_by text d (json.boolean b) t m = no_answer d m
ends_by text d (json.number s) t m = no_answer d m
ends_by text d (json.string s) t m = no_answer d m
ends_by text d (json.array js) t m = no_answer d m

ends : (text : List ℕ) (d : Document Part) → MeansPart read_number text d → (scan text).stop ≡ ended
ends text d (j, t, m) = ends_by text d j t m

-- A label leads nowhere.

pub is_lost : TreeLaws read_number → (text : List ℕ) (p : Document Page) (k : ℕ) → IsUtf8 text → Gathers read_number (tokens text) p
    → first_false (pages_calls p) ≡ Some k → IsLost text k
is_lost laws text p k u g e = let r = laws.in_vain text p k u g e in record { document = r.0; means = r.1; lost = r.2 }

pub lost_ends : (text : List ℕ) (k : ℕ) → IsLost text k → (scan text).stop ≡ ended
lost_ends text k l = ends text l.document l.means

first_less : (bs : List Bool) (k : ℕ) → first_false bs ≡ Some k → k < length bs
first_less [] k e = no_answer k e
first_less (false ∷ bs) k e = let h = same_Some 0 k e in omega (arith, h)
first_less (true ∷ bs) k e = more (first_false bs) (λ n. first_less bs n) e
  where
    more : (o : Option ℕ) → ((n : ℕ) → o ≡ Some n → n < length bs) → option_map suc o ≡ Some k → k < length (true ∷ bs)
    more None less e = no_answer k e
    more (Some n) less e =
        let h = less n refl in
        let g = same_Some (suc n) k e in
        omega (arith, h, g)

-- its call has a place in the text
pub has_place : OneVerdict → (text : List ℕ) (k : ℕ) → IsLost text k
    → (at : ℕ) × (slice_get (label_places read_number (Some (start ∷ [])) (scan text).tokens) k ≡ Some at)
has_place verdict text k l =
    let places = label_places read_number (Some (start ∷ [])) (scan text).tokens in
    let long = verdict.places read_number text l.document l.means in
    let less = first_less (document_calls l.document) k l.lost in
    (get_or places k 0, slice_get-get_or places k 0 (omega (arith, long, less)))

-- Each leads to a row.

pub means_graphs : TreeLaws read_number → (text : List ℕ) (p : Document Page) → IsUtf8 text → Gathers read_number (tokens text) p
    → first_false (pages_calls p) ≡ None → Means read_number text (graphs_in p)
means_graphs laws text p u g e = laws.linked text p (graphs_in p) u g (pages_are p e)

each_both : {X : Type 0} → (graph : X → Graph) → (xs : List X) → AllByRecursion (λ x. IsSoundGraph (graph x)) xs
    → AllByRecursion (λ x. HasNumbers (graph x)) xs → AllByRecursion (λ x. IsWritable (graph x)) xs
each_both graph [] s n = tt
each_both graph (x ∷ xs) s n = (record { sound = s.0; numbers = n.0 }, each_both graph xs s.1 n.1)

both : (d : Document Graph) → EachGraph IsSoundGraph d → EachGraph HasNumbers d → EachGraph IsWritable d
both (value3 g) s n = record { sound = s; numbers = n }
both (value0 g) s n = record { sound = s; numbers = n }
both (file name version g) s n = record { sound = s; numbers = n }
both (packet version hs ms) s n = (each_both (λ h. h.graph) hs s.0 n.0, each_both (λ m. m.graph) ms s.1 n.1)

pub are_writable : WholeLaws → TextBounds → (text : List ℕ) (d : Document Graph) → length text ≤ text_limit → Means read_number text d
    → EachGraph IsWritable d
are_writable whole bounds text d w m = both d (whole.sound text d m) (bounds.within read_number text d w m)

pub is_written : (text : List ℕ) (d e : Document Graph) → length text ≤ text_limit → Means read_number text d → e ≡ d
    → IsTextAccepted read_number text e
is_written text d e w m same = record { within = w; means = subst (Means read_number text) (sym same) m }
