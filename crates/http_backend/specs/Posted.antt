-- The bytes by which a backend is asked (RFC 9112, sections 2.1 and 3; RFC 9110, sections 7.2, 8.3 and 8.6). They are of HTTP/1.0, to which no server may answer in chunks (RFC 9112, section 6.1).
use Rattle.std.specs.Prelude.{ℕ, Bool, true, false, List, [], ◌∷◌, ◌++◌, length, decimal, codes}
use Rattle.http_link.specs.Sent.{line}
use Rattle.http_backend.specs.Escaped.{escaped}

-- what is asked: the two segments of the path, what is said of the caller, and the body
pub record Question : Type 0 where
  pub service : List ℕ
  pub operation : List ℕ
  -- the number of a Flex client, the identifier of its message and its source; each may be empty, and then it has no line
  pub client : List ℕ
  pub message : List ℕ
  pub source : List ℕ
  -- whether the body is a whole text, whose nodes may be shared
  pub whole : Bool
  pub body : List ℕ

abbrev pub path : Question → List ℕ
path q = codes "/amf/" ++ escaped q.service ++ codes "/" ++ escaped q.operation

abbrev pub named_line : List ℕ → List ℕ → List ℕ
named_line name [] = []
named_line name (b ∷ x) = line (name ++ escaped (b ∷ x))

-- what is said of the caller
abbrev pub caller_lines : Question → List ℕ
caller_lines q = named_line (codes "AMF-Client: ") q.client ++ (named_line (codes "AMF-Message: ") q.message ++ named_line (codes "AMF-Source: ") q.source)

-- and of the body
abbrev pub kind_lines : (size : ℕ) → List ℕ
kind_lines size = line (codes "Content-Type: application/json") ++ (line (codes "Content-Length: " ++ decimal size) ++ line (codes "Connection: close"))

-- the place
abbrev pub top_lines : (port : ℕ) → Question → List ℕ
top_lines port q = line (codes "POST " ++ path q ++ codes " HTTP/1.0") ++ line (codes "Host: 127.0.0.1:" ++ decimal port)

abbrev pub nodes_line : Bool → List ℕ
nodes_line true = line (codes "AMF-Nodes: 1")
nodes_line false = []

abbrev pub end_lines : Question → List ℕ
end_lines q = caller_lines q ++ (nodes_line q.whole ++ line [])

abbrev pub head : (port : ℕ) → Question → List ℕ
head port q = top_lines port q ++ (kind_lines (length q.body) ++ end_lines q)

abbrev pub posted : (port : ℕ) → Question → List ℕ
posted port q = head port q ++ q.body
