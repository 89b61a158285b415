-- The laws of the crates below on which the laws of what is answered stand.
use Rattle.std.proofs.Common.{◌≡◌, ℕ, ◌⊎◌, Bool, List}
use Rattle.amf_graph.specs.Graph.{Value, leaf, null, Graph}
use Rattle.amf_graph.specs.Isomorphic.{ValuesMatch, StandIn, Isomorphic}
use Rattle.amf_graph.specs.Reached.{IsReachedValue}
use Rattle.amf3_spelling.specs.LawsCanonical3.{CanonicalIsAlone, IsomorphicHaveSameCanonical, SameBytesAreIsomorphic}
use Rattle.amf0_spelling.specs.LawsCanonical0.{CanonicalIsAlone0, IsomorphicHaveSameCanonical0}
use Rattle.amf0_spelling.specs.Lowered.{IsLoweringOf}
use Rattle.amf_http.specs.Request.{BeginsWithRequest, IsRefused}
use Rattle.flex_msgs.specs.Asked.{Told, remoting, request}
use Rattle.flex_msgs.specs.FlexLaws.{ViewLaw, AnswersAlike}
use Rattle.flex_msgs.specs.Lookup.{pairs_of}
use Rattle.flex_msgs.specs.Viewing.{value_view}
use Rattle.amf_service.specs.ServiceLaws.{ServiceLaws}
use Rattle.amf_answer_plan.specs.Commands.{named_in}
use Rattle.amf_packet.specs.Alike.{SamePackets}

-- what a header's name is looked up to is the same in two graphs that are
abbrev pub HeadersAlike : Type 0
HeadersAlike =
    (g h : Graph) (i : Isomorphic g h) (v w : Value) → ValuesMatch (StandIn i.pairs) v w → (x : List ℕ) →
    ValuesMatch (StandIn i.pairs) (named_in x (pairs_of g v)) (named_in x (pairs_of h w))

-- the body of a call is null or a value that is reached, where the message is
abbrev pub BodyIsReached : Type 0
BodyIsReached =
    (g : Graph) (v : Value) (t : Told) (operation : List ℕ) → IsReachedValue g v → value_view g v ≡ request (remoting t operation) →
    (t.body ≡ leaf null) ⊎ IsReachedValue g t.body

pub record Laws : Type 0 where
  pub alone3 : CanonicalIsAlone
  pub alike3 : IsomorphicHaveSameCanonical
  pub bytes3 : SameBytesAreIsomorphic
  pub back : (g h : Graph) → Isomorphic g h → Isomorphic h g
  pub across : (g h k : Graph) → Isomorphic g h → Isomorphic h k → Isomorphic g k
  pub alone0 : CanonicalIsAlone0
  pub alike0 : IsomorphicHaveSameCanonical0
  pub lowered_alike : (g h low other : Graph) → Isomorphic g h → IsLoweringOf g low → IsLoweringOf h other → Isomorphic low other
  pub one_request : (bytes body other : List ℕ) (close also : Bool) (rest more : List ℕ) → BeginsWithRequest bytes body close rest → BeginsWithRequest bytes other also more → (body ≡ other) × (close ≡ also) × (rest ≡ more)
  pub one_status : (bytes : List ℕ) (status other : ℕ) → IsRefused bytes status → IsRefused bytes other → status ≡ other
  pub not_both : (bytes body : List ℕ) (close : Bool) (rest : List ℕ) (status : ℕ) → BeginsWithRequest bytes body close rest → IsRefused bytes status → ⊥
  pub packets : SamePackets
  pub view : ViewLaw
  pub answers : AnswersAlike
  pub services : ServiceLaws
  pub headers : HeadersAlike
  pub body : BodyIsReached
