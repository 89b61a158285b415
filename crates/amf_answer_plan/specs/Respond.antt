-- What a link is answered: a function of the bytes that it has left, of the services, and of the moments, the words and the desk's replies that there are.
use Rattle.std.specs.Prelude.{◌≡◌, ℕ, List, [], ◌∷◌, ◌++◌, Option, Some, None}
use Rattle.amf_broker.specs.declared.call.Call.{Call}
use Rattle.amf_service.specs.Registry.{Entry}
use Rattle.amf_answer_plan.specs.Links.{LinkEnd, link}
use Rattle.amf_answer_plan.specs.Runs.{Supply, Outcome, gave, ran_out, Runs}

-- the desk calls with their moments, the answer to each request, and how the link ends, if it does
pub record Responded : Type 0 where
  pub calls : List (ℕ × Call)
  pub answers : List (List ℕ)
  pub ended : Option LinkEnd

-- there is no end where the moments, the words or the replies run out
abbrev pub end_of : Outcome LinkEnd → Option LinkEnd
end_of (gave e left) = Some e
end_of ran_out = None

abbrev pub Responds : List Entry → List ℕ → Supply → Responded → Type 0
Responds services bytes s t = (o : Outcome LinkEnd) × Runs (link services bytes) s (record { calls = t.calls; answers = t.answers }) o × (t.ended ≡ end_of o)

-- the bytes of some answers, one after the other
abbrev pub joined : List (List ℕ) → List ℕ
joined [] = []
joined (b ∷ bs) = b ++ joined bs

abbrev pub written : Responded → List ℕ
written t = joined t.answers
