-- Where each label that is called is one of a row, a document is the graphs of its pages.
use Rattle.std.proofs.Common.{◌≡◌, ℕ, suc, List, [], ◌∷◌, ◌++◌, Bool, true, false, Option, Some, None, refl, ap, ◌∙◌, if◌then◌else◌}
use Rattle.std.specs.Prelude.{map, option_map, option_and_then}
use Rattle.std.specs.List.{flat_map}
use Rattle.amf_text.specs.Documents.{Header, Message, Document, value3, value0, file, packet}
use Rattle.amf_text.specs.Accepted.{all_linked}
use Rattle.amf_text.specs.Refused.{first_false}
use Rattle.amf_text_trees.specs.Sheets.{Page}
use Rattle.amf_text_trees.specs.Pages.{page_graph, page_calls, page_linked, are_true, header_linked, message_linked, pages_linked, pages_calls}
use Rattle.amf_text_graphs.specs.Graphs.{header_graph, message_graph, graphs_in}

none_before : (o : Option ℕ) → option_map suc o ≡ None → o ≡ None
none_before None e = refl
none_before (Some n) e = absurd cc

all_true : (bs : List Bool) → first_false bs ≡ None → are_true bs ≡ true
all_true [] e = refl
all_true (false ∷ bs) e = absurd cc
all_true (true ∷ bs) e = all_true bs (none_before (first_false bs) e)

in_first : (cs bs : List Bool) → first_false (cs ++ bs) ≡ None → first_false cs ≡ None
in_first [] bs e = refl
in_first (false ∷ cs) bs e = absurd cc
in_first (true ∷ cs) bs e = ap (option_map suc) (in_first cs bs (none_before (first_false (cs ++ bs)) e))

in_rest : (cs bs : List Bool) → first_false (cs ++ bs) ≡ None → first_false bs ≡ None
in_rest [] bs e = e
in_rest (false ∷ cs) bs e = absurd cc
in_rest (true ∷ cs) bs e = in_rest cs bs (none_before (first_false (cs ++ bs)) e)

page_is : (p : Page) → first_false (page_calls p) ≡ None → page_linked p ≡ Some (page_graph p)
page_is p e = ap (λ b. if b then Some (page_graph p) else None) (all_true (page_calls p) e)

header_is : (h : Header Page) → first_false (page_calls h.graph) ≡ None → header_linked h ≡ Some (header_graph h)
header_is h e = ap (option_map (λ g. record { name = h.name; must = h.must; form = h.form; graph = g })) (page_is h.graph e)

message_is : (m : Message Page) → first_false (page_calls m.graph) ≡ None → message_linked m ≡ Some (message_graph m)
message_is m e = ap (option_map (λ g. record { target = m.target; response = m.response; form = m.form; graph = g })) (page_is m.graph e)

one_more : {X Y : Type 0} → (f : X → Option Y) → (x : X) → (xs : List X) → (y : Y) → (ys : List Y)
    → f x ≡ Some y → all_linked f xs ≡ Some ys → all_linked f (x ∷ xs) ≡ Some (y ∷ ys)
one_more f x xs y ys a b = ap (λ o. option_and_then (λ y. option_map (λ ys. y ∷ ys) (all_linked f xs)) o) a ∙ ap (option_map (λ ys. y ∷ ys)) b

headers_are : (hs : List (Header Page))
    → first_false (flat_map (λ h. page_calls h.graph) hs) ≡ None → all_linked header_linked hs ≡ Some (map header_graph hs)
headers_are [] e = refl
headers_are (h ∷ hs) e =
    one_more header_linked h hs (header_graph h) (map header_graph hs)
    (header_is h (in_first (page_calls h.graph) (flat_map (λ h. page_calls h.graph) hs) e))
    (headers_are hs (in_rest (page_calls h.graph) (flat_map (λ h. page_calls h.graph) hs) e))

messages_are : (ms : List (Message Page))
    → first_false (flat_map (λ m. page_calls m.graph) ms) ≡ None → all_linked message_linked ms ≡ Some (map message_graph ms)
messages_are [] e = refl
messages_are (m ∷ ms) e =
    one_more message_linked m ms (message_graph m) (map message_graph ms)
    (message_is m (in_first (page_calls m.graph) (flat_map (λ m. page_calls m.graph) ms) e))
    (messages_are ms (in_rest (page_calls m.graph) (flat_map (λ m. page_calls m.graph) ms) e))

packet_is : (version : ℕ) (hs : List (Header Page)) (ms : List (Message Page)) → first_false (pages_calls (packet version hs ms)) ≡ None
    → pages_linked (packet version hs ms) ≡ Some (graphs_in (packet version hs ms))
packet_is version hs ms e =
    ap (λ o. option_and_then (λ hs. option_map (packet version hs) (all_linked message_linked ms)) o)
    (headers_are hs (in_first (flat_map (λ h. page_calls h.graph) hs) (flat_map (λ m. page_calls m.graph) ms) e))
    ∙ ap (option_map (packet version (map header_graph hs)))
    (messages_are ms (in_rest (flat_map (λ h. page_calls h.graph) hs) (flat_map (λ m. page_calls m.graph) ms) e))

pub pages_are : (p : Document Page) → first_false (pages_calls p) ≡ None → pages_linked p ≡ Some (graphs_in p)
pages_are (value3 p) e = ap (option_map value3) (page_is p e)
pages_are (value0 p) e = ap (option_map value0) (page_is p e)
pages_are (file name version p) e = ap (option_map (file name version)) (page_is p e)
pages_are (packet version hs ms) e = packet_is version hs ms e
