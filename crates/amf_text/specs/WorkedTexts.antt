-- Worked texts of values, files and packets, by lines and without spaces.
-- By lines: a shared object file, a packet, a cycle, an object that is held twice, a class with sealed members, vectors, a
-- dictionary, a byte array, a date, doubles that are no numbers, and labels of two digits; then, without spaces, a value of AMF 0,
-- other kinds of nodes, equal sealed names, a file of AMF 3, a packet with a header, and 33 arrays within one another.
use Rattle.std.specs.Prelude.{◌≡◌, ℕ, Bool, true, false, List, [], ◌∷◌, codes, pos, negsuc, ◌==◌, if◌then◌else◌}
use Rattle.json.specs.Json.{Json}
use Rattle.json.specs.Tree.{json_tokens}
use Rattle.amf_graph.specs.declared.wrapped.Wrapped.TheVariants.{ArrayCollection}
use Rattle.amf_graph.specs.Graph.{undefined, null, boolean, integer, double, text, leaf, node, xml_document, date, array, object, wrapper, xml, bytes, ints, uints, doubles, values, dictionary, Graph, node_at}
use Rattle.amf_text.specs.Scalars.{Digits}
use Rattle.amf_text.specs.Told.{Way}
use Rattle.amf_text.specs.Documents.{plain, call, file0, file3}
use Rattle.amf_text.specs.Texts.{compact, text_by, laid_out, value_json, file_json, header_json, message_json, packet_json}

-- the digits that ryu gives for the doubles of the rows
abbrev pub some_texts : List (ℕ × List ℕ)
some_texts =
    (0x3FE0000000000000, codes "0.5")
    ∷ (0x3FE999999999999A, codes "0.8")
    ∷ (0x3FF8000000000000, codes "1.5")
    ∷ (0x4004000000000000, codes "2.5")
    ∷ (0xBFF8000000000000, codes "-1.5")
    ∷ (0xC028800000000000, codes "-12.25")
    ∷ []

abbrev pub digits_among : List (ℕ × List ℕ) → Digits
digits_among [] p = []
digits_among (d ∷ ds) p = if p == d.0 then d.1 else digits_among ds p

abbrev pub some_digits : Digits
some_digits = digits_among some_texts

abbrev pub way : List ℕ → List ℕ → Bool → Way
way order table bare = record { order = order; table = table; digits = some_digits; bare = bare }

abbrev pub save_graph : Graph
save_graph = record {
  nodes =
      record { head = object (record { class = []; dynamic = true; sealed = [] }); names = (codes "player", node 1) ∷ (codes "volume", leaf (double 0x3FE999999999999A)) ∷ (codes "seen", leaf (boolean true)) ∷ (codes "last", node 4) ∷ []; values = [] }
      ∷ record { head = object (record { class = []; dynamic = true; sealed = [] }); names = (codes "name", leaf (text (codes "Zoe \"Z\""))) ∷ (codes "gold", leaf (double 0x40B3880000000000)) ∷ (codes "x", leaf (double 0xC028800000000000)) ∷ (codes "bag", node 2) ∷ []; values = [] }
      ∷ record { head = array; names = []; values = leaf (text (codes "sword")) ∷ leaf (double 0x4000000000000000) ∷ leaf null ∷ [] }
      ∷ record { head = array; names = []; values = [] }
      ∷ record { head = date 0x4278BCFE56800000; names = []; values = [] }
      ∷ [];
  root = node 0;
}

abbrev pub save_told : Json
save_told = file_json (way (0 ∷ 4 ∷ 1 ∷ 2 ∷ []) ([]) true) (codes "save1") file0 save_graph (node_at save_graph 0)

abbrev pub packet_graph : Graph
packet_graph = record {
  nodes =
      record { head = object (record { class = codes "flex.messaging.messages.RemotingMessage"; dynamic = false; sealed = (codes "body") ∷ (codes "operation") ∷ (codes "destination") ∷ (codes "timestamp") ∷ [] }); names = []; values = node 1 ∷ leaf (text (codes "add")) ∷ leaf (text (codes "calculator")) ∷ leaf (double 0x0000000000000000) ∷ [] }
      ∷ record { head = array; names = []; values = leaf (integer (pos 2)) ∷ leaf (double 0x4008000000000000) ∷ [] }
      ∷ [];
  root = node 0;
}

abbrev pub packet_told : Json
packet_told = packet_json 3 ([]) (message_json (way (0 ∷ 1 ∷ []) ([]) false) (record { target = codes "null"; response = codes "/1"; form = call; graph = packet_graph }) ∷ [])

abbrev pub cycle_graph : Graph
cycle_graph = record {
  nodes =
      record { head = object (record { class = []; dynamic = true; sealed = [] }); names = (codes "self", node 0) ∷ (codes "n", leaf (integer (pos 1))) ∷ []; values = [] }
      ∷ [];
  root = node 0;
}

abbrev pub cycle_told : Json
cycle_told = value_json (codes "amf3") (way (0 ∷ []) (0 ∷ []) false) cycle_graph

abbrev pub shared_graph : Graph
shared_graph = record {
  nodes =
      record { head = array; names = []; values = node 1 ∷ node 1 ∷ [] }
      ∷ record { head = object (record { class = []; dynamic = true; sealed = [] }); names = (codes "hp", leaf (integer (pos 7))) ∷ []; values = [] }
      ∷ [];
  root = node 0;
}

abbrev pub shared_told : Json
shared_told = value_json (codes "amf3") (way (0 ∷ 1 ∷ []) (1 ∷ []) false) shared_graph

abbrev pub sealed_graph : Graph
sealed_graph = record {
  nodes =
      record { head = object (record { class = codes "game.Player"; dynamic = true; sealed = (codes "y") ∷ (codes "x") ∷ [] }); names = (codes "$tag", leaf undefined) ∷ (codes "a", leaf (integer (pos 1))) ∷ (codes "a", leaf (integer (pos 2))) ∷ []; values = leaf (integer (pos 3)) ∷ leaf (double 0x4010000000000000) ∷ [] }
      ∷ [];
  root = node 0;
}

abbrev pub sealed_told : Json
sealed_told = value_json (codes "amf3") (way (0 ∷ []) ([]) false) sealed_graph

abbrev pub vector_graph : Graph
vector_graph = record {
  nodes =
      record { head = array; names = []; values = node 1 ∷ node 2 ∷ node 3 ∷ [] }
      ∷ record { head = ints true ((negsuc 1) ∷ (pos 30) ∷ []); names = []; values = [] }
      ∷ record { head = doubles false (0x3FF8000000000000 ∷ 0x8000000000000000 ∷ 0x0000000000000000 ∷ []); names = []; values = [] }
      ∷ record { head = values false (codes "game.Item"); names = []; values = leaf null ∷ leaf (double 0x4004000000000000) ∷ [] }
      ∷ [];
  root = node 0;
}

abbrev pub vector_told : Json
vector_told = value_json (codes "amf3") (way (0 ∷ 1 ∷ 2 ∷ 3 ∷ []) ([]) false) vector_graph

abbrev pub dictionary_graph : Graph
dictionary_graph = record {
  nodes =
      record { head = dictionary true; names = []; values = leaf (text (codes "k")) ∷ node 1 ∷ node 1 ∷ leaf null ∷ [] }
      ∷ record { head = array; names = []; values = [] }
      ∷ [];
  root = node 0;
}

abbrev pub dictionary_told : Json
dictionary_told = value_json (codes "amf3") (way (0 ∷ 1 ∷ []) (1 ∷ []) false) dictionary_graph

abbrev pub byte_array_graph : Graph
byte_array_graph = record {
  nodes =
      record { head = array; names = (codes "raw", node 1) ∷ []; values = leaf (text (codes "\n")) ∷ [] }
      ∷ record { head = bytes (0x00 ∷ 0xAF ∷ []); names = []; values = [] }
      ∷ [];
  root = node 0;
}

abbrev pub byte_array_told : Json
byte_array_told = value_json (codes "amf3") (way (0 ∷ 1 ∷ []) ([]) false) byte_array_graph

abbrev pub date_graph : Graph
date_graph = record {
  nodes =
      record { head = date 0xBFF8000000000000; names = []; values = [] }
      ∷ [];
  root = node 0;
}

abbrev pub date_told : Json
date_told = value_json (codes "amf3") (way (0 ∷ []) ([]) false) date_graph

abbrev pub nan_graph : Graph
nan_graph = record {
  nodes =
      record { head = array; names = []; values = leaf (double 0x7FF8000000000000) ∷ leaf (double 0xFFF8000000000000) ∷ leaf (double 0x7FF0000000000000) ∷ leaf (double 0x8000000000000000) ∷ leaf (double 0x4014000000000000) ∷ leaf (double 0x41B0000000000000) ∷ leaf (text ((0xED ∷ 0xA0 ∷ 0x80 ∷ []))) ∷ [] }
      ∷ [];
  root = node 0;
}

abbrev pub nan_told : Json
nan_told = value_json (codes "amf3") (way (0 ∷ []) ([]) false) nan_graph

abbrev pub labels_graph : Graph
labels_graph = record {
  nodes =
      record { head = array; names = []; values = node 1 ∷ node 1 ∷ node 2 ∷ node 3 ∷ node 4 ∷ node 5 ∷ node 6 ∷ node 7 ∷ node 8 ∷ node 9 ∷ node 10 ∷ node 10 ∷ [] }
      ∷ record { head = array; names = []; values = [] }
      ∷ record { head = array; names = []; values = [] }
      ∷ record { head = array; names = []; values = [] }
      ∷ record { head = array; names = []; values = [] }
      ∷ record { head = array; names = []; values = [] }
      ∷ record { head = array; names = []; values = [] }
      ∷ record { head = array; names = []; values = [] }
      ∷ record { head = array; names = []; values = [] }
      ∷ record { head = array; names = []; values = [] }
      ∷ record { head = array; names = []; values = [] }
      ∷ [];
  root = node 0;
}

abbrev pub labels_told : Json
labels_told = value_json (codes "amf3") (way (0 ∷ 1 ∷ 2 ∷ 3 ∷ 4 ∷ 5 ∷ 6 ∷ 7 ∷ 8 ∷ 9 ∷ 10 ∷ []) (1 ∷ 10 ∷ []) false) labels_graph

abbrev pub number_graph : Graph
number_graph = record {
  nodes =
      record { head = array; names = []; values = leaf (double 0x4014000000000000) ∷ leaf (double 0x3FE0000000000000) ∷ leaf undefined ∷ leaf (boolean false) ∷ [] }
      ∷ [];
  root = node 0;
}

abbrev pub number_told : Json
number_told = value_json (codes "amf0") (way (0 ∷ []) ([]) true) number_graph

abbrev pub kinds_graph : Graph
kinds_graph = record {
  nodes =
      record { head = array; names = []; values = node 1 ∷ node 2 ∷ node 3 ∷ node 4 ∷ node 5 ∷ [] }
      ∷ record { head = wrapper ArrayCollection; names = []; values = node 6 ∷ [] }
      ∷ record { head = xml_document (codes "<a/>"); names = []; values = [] }
      ∷ record { head = xml (codes ""); names = []; values = [] }
      ∷ record { head = uints true (4294967295 ∷ []); names = []; values = [] }
      ∷ record { head = values true (codes ""); names = []; values = leaf (boolean true) ∷ [] }
      ∷ record { head = array; names = []; values = [] }
      ∷ [];
  root = node 0;
}

abbrev pub kinds_told : Json
kinds_told = value_json (codes "amf3") (way (0 ∷ 1 ∷ 6 ∷ 2 ∷ 3 ∷ 4 ∷ 5 ∷ []) ([]) false) kinds_graph

abbrev pub twins_graph : Graph
twins_graph = record {
  nodes =
      record { head = object (record { class = []; dynamic = false; sealed = (codes "a") ∷ ((0xED ∷ 0xA0 ∷ 0x80 ∷ [])) ∷ (codes "a") ∷ [] }); names = []; values = leaf (integer (pos 1)) ∷ leaf (integer (pos 2)) ∷ leaf (integer (pos 3)) ∷ [] }
      ∷ [];
  root = node 0;
}

abbrev pub twins_told : Json
twins_told = value_json (codes "amf3") (way (0 ∷ []) ([]) false) twins_graph

abbrev pub file3_graph : Graph
file3_graph = record {
  nodes =
      record { head = object (record { class = []; dynamic = true; sealed = [] }); names = (codes "b", node 1) ∷ (codes "a", node 1) ∷ []; values = [] }
      ∷ record { head = object (record { class = codes "C"; dynamic = true; sealed = [] }); names = []; values = [] }
      ∷ [];
  root = node 0;
}

abbrev pub file3_told : Json
file3_told = file_json (way (0 ∷ 1 ∷ []) (1 ∷ []) false) (codes "s") file3 file3_graph (node_at file3_graph 0)

abbrev pub mail_0_graph : Graph
mail_0_graph = record { nodes = []; root = leaf (double 0x3FF0000000000000) }

abbrev pub mail_1_graph : Graph
mail_1_graph = record {
  nodes =
      record { head = array; names = []; values = node 1 ∷ node 1 ∷ [] }
      ∷ record { head = array; names = []; values = [] }
      ∷ [];
  root = node 0;
}

abbrev pub mail_told : Json
mail_told = packet_json 0 (header_json (way ([]) ([]) true) (record { name = codes "h"; must = true; form = plain; graph = mail_0_graph }) ∷ []) (message_json (way (0 ∷ 1 ∷ []) (1 ∷ []) true) (record { target = codes "t"; response = []; form = plain; graph = mail_1_graph }) ∷ [])

abbrev pub deep_graph : Graph
deep_graph = record {
  nodes =
      record { head = array; names = []; values = node 1 ∷ [] }
      ∷ record { head = array; names = []; values = node 2 ∷ [] }
      ∷ record { head = array; names = []; values = node 3 ∷ [] }
      ∷ record { head = array; names = []; values = node 4 ∷ [] }
      ∷ record { head = array; names = []; values = node 5 ∷ [] }
      ∷ record { head = array; names = []; values = node 6 ∷ [] }
      ∷ record { head = array; names = []; values = node 7 ∷ [] }
      ∷ record { head = array; names = []; values = node 8 ∷ [] }
      ∷ record { head = array; names = []; values = node 9 ∷ [] }
      ∷ record { head = array; names = []; values = node 10 ∷ [] }
      ∷ record { head = array; names = []; values = node 11 ∷ [] }
      ∷ record { head = array; names = []; values = node 12 ∷ [] }
      ∷ record { head = array; names = []; values = node 13 ∷ [] }
      ∷ record { head = array; names = []; values = node 14 ∷ [] }
      ∷ record { head = array; names = []; values = node 15 ∷ [] }
      ∷ record { head = array; names = []; values = node 16 ∷ [] }
      ∷ record { head = array; names = []; values = node 17 ∷ [] }
      ∷ record { head = array; names = []; values = node 18 ∷ [] }
      ∷ record { head = array; names = []; values = node 19 ∷ [] }
      ∷ record { head = array; names = []; values = node 20 ∷ [] }
      ∷ record { head = array; names = []; values = node 21 ∷ [] }
      ∷ record { head = array; names = []; values = node 22 ∷ [] }
      ∷ record { head = array; names = []; values = node 23 ∷ [] }
      ∷ record { head = array; names = []; values = node 24 ∷ [] }
      ∷ record { head = array; names = []; values = node 25 ∷ [] }
      ∷ record { head = array; names = []; values = node 26 ∷ [] }
      ∷ record { head = array; names = []; values = node 27 ∷ [] }
      ∷ record { head = array; names = []; values = node 28 ∷ [] }
      ∷ record { head = array; names = []; values = node 29 ∷ [] }
      ∷ record { head = array; names = []; values = node 30 ∷ [] }
      ∷ record { head = array; names = []; values = node 31 ∷ [] }
      ∷ record { head = array; names = []; values = node 32 ∷ [] }
      ∷ record { head = array; names = []; values = [] }
      ∷ [];
  root = node 0;
}

abbrev pub deep_told : Json
deep_told = value_json (codes "amf3") (way (0 ∷ 1 ∷ 2 ∷ 3 ∷ 4 ∷ 5 ∷ 6 ∷ 7 ∷ 8 ∷ 9 ∷ 10 ∷ 11 ∷ 12 ∷ 13 ∷ 14 ∷ 15 ∷ 16 ∷ 17 ∷ 18 ∷ 19 ∷ 20 ∷ 21 ∷ 22 ∷ 23 ∷ 24 ∷ 25 ∷ 26 ∷ 27 ∷ 28 ∷ 29 ∷ 30 ∷ 31 ∷ 32 ∷ []) (32 ∷ []) false) deep_graph

pub record TextRows : Type 0 where
  pub save_text : laid_out save_told ≡ codes "{\n  \"amf\": \"sol\",\n  \"name\": \"save1\",\n  \"pairs\": {\n    \"last\": {\n      \"$date\": 1700000000000\n    },\n    \"player\": {\n      \"bag\": [\n        \"sword\",\n        2,\n        null\n      ],\n      \"gold\": 5000,\n      \"name\": \"Zoe \\\"Z\\\"\",\n      \"x\": -12.25\n    },\n    \"seen\": true,\n    \"volume\": 0.8\n  },\n  \"version\": 0\n}\n"
  pub packet_text : laid_out packet_told ≡ codes "{\n  \"amf\": \"packet\",\n  \"headers\": [],\n  \"messages\": [\n    {\n      \"form\": \"call\",\n      \"response\": \"/1\",\n      \"root\": {\n        \"$class\": \"flex.messaging.messages.RemotingMessage\",\n        \"$names\": [\n          \"body\",\n          \"operation\",\n          \"destination\",\n          \"timestamp\"\n        ],\n        \"$sealed\": {\n          \"body\": [\n            2,\n            {\n              \"$double\": 3\n            }\n          ],\n          \"destination\": \"calculator\",\n          \"operation\": \"add\",\n          \"timestamp\": {\n            \"$double\": 0\n          }\n        }\n      },\n      \"target\": \"null\"\n    }\n  ],\n  \"version\": 3\n}\n"
  pub cycle_text : laid_out cycle_told ≡ codes "{\n  \"amf\": \"amf3\",\n  \"nodes\": {\n    \"0\": {\n      \"n\": 1,\n      \"self\": {\n        \"$node\": \"0\"\n      }\n    }\n  },\n  \"root\": {\n    \"$node\": \"0\"\n  }\n}\n"
  pub shared_text : laid_out shared_told ≡ codes "{\n  \"amf\": \"amf3\",\n  \"nodes\": {\n    \"1\": {\n      \"hp\": 7\n    }\n  },\n  \"root\": [\n    {\n      \"$node\": \"1\"\n    },\n    {\n      \"$node\": \"1\"\n    }\n  ]\n}\n"
  pub sealed_text : laid_out sealed_told ≡ codes "{\n  \"amf\": \"amf3\",\n  \"root\": {\n    \"$class\": \"game.Player\",\n    \"$dynamic\": [\n      [\n        \"$tag\",\n        {\n          \"$undefined\": true\n        }\n      ],\n      [\n        \"a\",\n        1\n      ],\n      [\n        \"a\",\n        2\n      ]\n    ],\n    \"$names\": [\n      \"y\",\n      \"x\"\n    ],\n    \"$sealed\": {\n      \"x\": {\n        \"$double\": 4\n      },\n      \"y\": 3\n    }\n  }\n}\n"
  pub vector_text : laid_out vector_told ≡ codes "{\n  \"amf\": \"amf3\",\n  \"root\": [\n    {\n      \"$fixed\": true,\n      \"$ints\": [\n        -2,\n        30\n      ]\n    },\n    {\n      \"$doubles\": [\n        1.5,\n        \"-0\",\n        0\n      ]\n    },\n    {\n      \"$type\": \"game.Item\",\n      \"$values\": [\n        null,\n        2.5\n      ]\n    }\n  ]\n}\n"
  pub dictionary_text : laid_out dictionary_told ≡ codes "{\n  \"amf\": \"amf3\",\n  \"nodes\": {\n    \"1\": []\n  },\n  \"root\": {\n    \"$dictionary\": [\n      [\n        \"k\",\n        {\n          \"$node\": \"1\"\n        }\n      ],\n      [\n        {\n          \"$node\": \"1\"\n        },\n        null\n      ]\n    ],\n    \"$weak\": true\n  }\n}\n"
  pub byte_array_text : laid_out byte_array_told ≡ codes "{\n  \"amf\": \"amf3\",\n  \"root\": {\n    \"$array\": [\n      \"\\n\"\n    ],\n    \"$names\": {\n      \"raw\": {\n        \"$bytes\": \"00af\"\n      }\n    }\n  }\n}\n"
  pub date_text : laid_out date_told ≡ codes "{\n  \"amf\": \"amf3\",\n  \"root\": {\n    \"$date\": -1.5\n  }\n}\n"
  pub nan_text : laid_out nan_told ≡ codes "{\n  \"amf\": \"amf3\",\n  \"root\": [\n    {\n      \"$double\": \"NaN\"\n    },\n    {\n      \"$double\": \"fff8000000000000\"\n    },\n    {\n      \"$double\": \"Infinity\"\n    },\n    {\n      \"$double\": \"-0\"\n    },\n    {\n      \"$double\": 5\n    },\n    268435456,\n    {\n      \"$text\": \"eda080\"\n    }\n  ]\n}\n"
  pub labels_text : laid_out labels_told ≡ codes "{\n  \"amf\": \"amf3\",\n  \"nodes\": {\n    \"01\": [],\n    \"10\": []\n  },\n  \"root\": [\n    {\n      \"$node\": \"01\"\n    },\n    {\n      \"$node\": \"01\"\n    },\n    [],\n    [],\n    [],\n    [],\n    [],\n    [],\n    [],\n    [],\n    {\n      \"$node\": \"10\"\n    },\n    {\n      \"$node\": \"10\"\n    }\n  ]\n}\n"
  pub number_text : text_by compact (json_tokens number_told) ≡ codes "{\"amf\":\"amf0\",\"root\":[5,0.5,{\"$undefined\":true},false]}\n"
  pub kinds_text : text_by compact (json_tokens kinds_told) ≡ codes "{\"amf\":\"amf3\",\"root\":[{\"$ArrayCollection\":[]},{\"$xmldoc\":\"<a/>\"},{\"$xml\":\"\"},{\"$fixed\":true,\"$uints\":[4294967295]},{\"$fixed\":true,\"$type\":\"\",\"$values\":[true]}]}\n"
  pub twins_text : text_by compact (json_tokens twins_told) ≡ codes "{\"amf\":\"amf3\",\"root\":{\"$class\":\"\",\"$sealed\":[[\"a\",1],[{\"$text\":\"eda080\"},2],[\"a\",3]]}}\n"
  pub file3_text : text_by compact (json_tokens file3_told) ≡ codes "{\"amf\":\"sol\",\"name\":\"s\",\"nodes\":{\"1\":{\"$class\":\"C\",\"$dynamic\":{}}},\"pairs\":{\"a\":{\"$node\":\"1\"},\"b\":{\"$node\":\"1\"}},\"version\":3}\n"
  pub mail_text : text_by compact (json_tokens mail_told) ≡ codes "{\"amf\":\"packet\",\"headers\":[{\"form\":\"plain\",\"must\":true,\"name\":\"h\",\"root\":1}],\"messages\":[{\"form\":\"plain\",\"nodes\":{\"1\":[]},\"response\":\"\",\"root\":[{\"$node\":\"1\"},{\"$node\":\"1\"}],\"target\":\"t\"}],\"version\":0}\n"
  pub deep_text : text_by compact (json_tokens deep_told) ≡ codes "{\"amf\":\"amf3\",\"nodes\":{\"32\":[]},\"root\":[[[[[[[[[[[[[[[[[[[[[[[[[[[[[[[[{\"$node\":\"32\"}]]]]]]]]]]]]]]]]]]]]]]]]]]]]]]]]}\n"
