-- What is written of a node, by its view.
use Rattle.std.proofs.Common.{◌≡◌, ℕ, List, [], ◌∷◌, ◌++◌, map, ap, ◌∙◌, sym}
use Rattle.std.specs.Prelude.{codes, decimal}
use Rattle.std.specs.Fmt.{signed_decimal}
use Rattle.std.specs.List.{flat_map}
use Rattle.std.proofs.Math.ListN.{get_or-map}
use Rattle.amf_graph.specs.declared.value.Value.{Value as Stored}
use Rattle.amf_graph.specs.declared.views.NodeView.{NodeView}
use Rattle.amf_graph.specs.declared.views.NodeView.TheVariants as view
use Rattle.amf_graph.specs.Graph.{class_name, node_at}
use Rattle.amf_graph.specs.ByName.{by_name}
use Rattle.amf_graph.specs.Arena.{Arena, StoredNode, xml_document, date, array, object, wrapper, xml, bytes, ints, uints, doubles, values, dictionary, node_content, graph_of, text_at, traits_at, value_content}
use Rattle.amf_graph.specs.Building.{stored_at, no_stored, closed}
use Rattle.amf_graph.specs.Views.{named, flat, Shows}
use Rattle.amf_iso.specs.Contents.{values_of, pairs_of}
use Rattle.amf_show.specs.Shown.{joined, bracketed, hex_byte, shown_text, shown_double, shown_fixed, shown_weak}
use Rattle.amf_show.specs.Listing.{shown_value, shown_values, shown_pairs, shown_entries, shown_object, shown_contents, contents_of}

abbrev pub shown_view : List ℕ → Arena → NodeView → List ℕ
shown_view order a (view.XmlDocument x) = codes "xmldoc " ++ shown_text x.now
shown_view order a (view.Xml x) = codes "xml " ++ shown_text x.now
shown_view order a (view.Date p) = codes "date " ++ shown_double p.0
shown_view order a (view.Bytes x) = codes "bytes x" ++ flat_map hex_byte x.now
shown_view order a (view.Ints f ns) = codes "ints " ++ shown_fixed f ++ codes " " ++ bracketed (joined (map signed_decimal ns.now))
shown_view order a (view.Uints f ns) = codes "uints " ++ shown_fixed f ++ codes " " ++ bracketed (joined (map decimal ns.now))
shown_view order a (view.Doubles f ns) = codes "doubles " ++ shown_fixed f ++ codes " " ++ bracketed (joined (map shown_double (map (λ p. p.0) ns.now)))
shown_view order a (view.Array vs ps) = codes "array " ++ shown_values order (values_of a vs.now) ++ codes " " ++ shown_pairs order (by_name (pairs_of a ps.now))
shown_view order a (view.Object t vs ps) = shown_object order (traits_at a t.0) (pairs_of a ps.now) (values_of a vs.now)
shown_view order a (view.Wrapper c v) = codes "wrapper " ++ shown_text (class_name c) ++ codes " " ++ shown_value order (value_content a v)
shown_view order a (view.Values f x vs) = codes "values " ++ shown_text (text_at a x.0) ++ codes " " ++ shown_fixed f ++ codes " " ++ shown_values order (values_of a vs.now)
shown_view order a (view.Dictionary f es) = codes "dict " ++ shown_weak f ++ codes " " ++ shown_entries order (values_of a (flat es.now))

kept_node : (order : List ℕ) (a : Arena) (root : Stored) (i : ℕ) (n : StoredNode) → stored_at a i ≡ n → contents_of order (node_content a n) ≡ contents_of order (node_at (graph_of a root) i)
kept_node order a root i n e = ap (contents_of order) (sym (get_or-map (node_content a) a.nodes i no_stored ∙ ap (node_content a) e))

-- what the view shows is what the node holds
pub view_written : (order : List ℕ) (a : Arena) (root : Stored) (i : ℕ) (v : NodeView) → Shows a (stored_at a i) v → shown_view order a v ≡ contents_of order (node_at (graph_of a root) i)
unfolding shown_contents
view_written order a root i (view.XmlDocument x) s = ap (λ w. codes "xmldoc " ++ shown_text w) s.2 ∙ kept_node order a root i (closed (xml_document s.0) [] []) s.1
view_written order a root i (view.Xml x) s = ap (λ w. codes "xml " ++ shown_text w) s.2 ∙ kept_node order a root i (closed (xml s.0) [] []) s.1
view_written order a root i (view.Date p) s = kept_node order a root i (closed (date p.0) [] []) s
view_written order a root i (view.Bytes x) s = kept_node order a root i (closed (bytes x.now) [] []) s
view_written order a root i (view.Ints f ns) s = kept_node order a root i (closed (ints f ns.now) [] []) s
view_written order a root i (view.Uints f ns) s = kept_node order a root i (closed (uints f ns.now) [] []) s
view_written order a root i (view.Doubles f ns) s = kept_node order a root i (closed (doubles f (map (λ p. p.0) ns.now)) [] []) s
view_written order a root i (view.Array vs ps) s = kept_node order a root i (closed array (named ps.now) vs.now) s
view_written order a root i (view.Object t vs ps) s = kept_node order a root i (closed (object t.0) (named ps.now) vs.now) s
view_written order a root i (view.Wrapper c v) s = kept_node order a root i (closed (wrapper c) [] (v ∷ [])) s
view_written order a root i (view.Values f x vs) s = kept_node order a root i (closed (values f x.0) [] vs.now) s
view_written order a root i (view.Dictionary f es) s = kept_node order a root i (closed (dictionary f) [] (flat es.now)) s
