-- The body of a call is null or a value that is reached, and what the headers name is the same in graphs that are.
use Rattle.std.proofs.Common.{◌≡◌, ℕ, ◌⊎◌, List, Option, Some, None, refl, inl, inr}
use Rattle.amf_graph.specs.Graph.{Value, leaf, node, null, node_at}
use Rattle.amf_graph.specs.Isomorphic.{ValuesMatch, StandIn}
use Rattle.amf_graph.specs.Reached.{Reached, at_root, inside, Holds, IsReachedValue}
use Rattle.flex_msgs.specs.Lookup.{pairs_of}
use Rattle.flex_msgs.proofs.CallBodies.{kind_body}
use Rattle.flex_msgs.proofs.ViewedAlike.{BothOr, Alike, found, headers_alike}
use Rattle.amf_answer_plan.specs.Commands.{named_in}
use Rattle.amf_answer_laws.proofs.Laws.{HeadersAlike, BodyIsReached}

-- What is named in headers.

named_match : (P : ℕ → ℕ → Type 0) (x : List ℕ) (a b : Option (List (List ℕ × Value))) → BothOr (Alike P) a b → ValuesMatch P (named_in x a) (named_in x b)
named_match P x None None m = refl
named_match P x None (Some qs) m = elim m [ ]
named_match P x (Some ps) None m = elim m [ ]
named_match P x (Some ps) (Some qs) m = found P ps qs m x

pub headers_named : HeadersAlike
headers_named g h i v w m x = named_match (StandIn i.pairs) x (pairs_of g v) (pairs_of h w) (headers_alike g h i v w m)

pub body_reached : BodyIsReached
body_reached g (leaf x) t operation r e = absurd cc
body_reached g (node i) t operation r e = go (kind_body g (node_at g i).head (node_at g i) t operation e)
  where
    reached : IsReachedValue g (node i) → Reached g i
    reached (inl h) = at_root h
    reached (inr h) = inside h.0 h.1 h.2

    go : (t.body ≡ leaf null) ⊎ Holds (node_at g i) t.body → (t.body ≡ leaf null) ⊎ IsReachedValue g t.body
    go (inl h) = inl h
    go (inr h) = inr (inr (i, reached r, h))
