-- Laws over every session: three dials for a request, and what its end tells.
use Rattle.std.specs.Prelude.{◌≡◌, ℕ, ◌+◌, ◌*◌, ◌≤◌, Bool, true, false, List, [], ◌∷◌, ◌++◌, Some, None}
use Rattle.amf_graph.specs.Graph.{Graph}
use Rattle.amf_poll_session.specs.Sessions.{Turn, no_link, link_fault, End, by_link, is_loss, is_retried, most_dials, listen}

-- a dial failed, or a call of the link
abbrev pub is_lost : {B : Type 0} → Turn B → Bool
is_lost no_link = true
is_lost link_fault = true
is_lost _ = false

pub record IsSession (most : ℕ) (turns : List (Turn Graph)) : Type 0 where
  -- no request has more than three dials
  pub few : (listen most turns).spent ≤ most_dials
  -- it gives up at a poll or at the disconnect only where three dials were spent on it
  pub gives_up : (e : End) → (listen most turns).end ≡ Some e → is_loss e ≡ true → is_retried (listen most turns).request ≡ true → (listen most turns).spent ≡ most_dials
  -- it ends by the link only where the last dial failed, or the last link
  pub by_loss : (front : List (Turn Graph)) (last : Turn Graph) → turns ≡ front ++ last ∷ [] → (listen most front).end ≡ None → (listen most turns).end ≡ Some by_link → is_lost last ≡ true
  -- the first request has one dial, and each that is sent again two more than the one of the link before
  pub short : (listen most turns).dials ≤ 2 * most + 3

abbrev pub AllSessions : Type 0
AllSessions = (most : ℕ) (turns : List (Turn Graph)) → IsSession most turns
