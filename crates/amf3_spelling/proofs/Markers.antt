-- The kind of a node as it is kept is that of its content.
use Rattle.std.proofs.Common.{◌≡◌, refl}
use Rattle.amf_graph.specs.Arena.{Arena, StoredHead, xml_document, date, array, object, wrapper, xml, bytes, ints, uints, doubles, values, dictionary, head_content}
use Rattle.amf_graph.specs.Building.{kind_of}
use Rattle.amf3_spelling.specs.Markers3 as content

pub kind_content : (a : Arena) (h : StoredHead) → content.kind_of (head_content a h) ≡ kind_of h
kind_content a (xml_document x) = refl
kind_content a (date p) = refl
kind_content a array = refl
kind_content a (object t) = refl
kind_content a (wrapper c) = refl
kind_content a (xml x) = refl
kind_content a (bytes x) = refl
kind_content a (ints f ns) = refl
kind_content a (uints f ns) = refl
kind_content a (doubles f ns) = refl
kind_content a (values f x) = refl
kind_content a (dictionary f) = refl
