-- Turns of a session: one more at the end, the first at a new link, and what each does to a session whose link is open.
use Rattle.std.proofs.Common.{◌≡◌, ◌∙◌, inr, ℕ, ◌+◌, Bool, true, false, ◌||◌, ◌==◌, nat_lt, if◌then◌else◌, List, [], ◌∷◌, ◌++◌, append-nil, Option, Some, None, refl, sym, ap, subst}
use Rattle.amf_once.specs.declared.taker.Taken.TheVariants.{New, Old, Ahead}
use Rattle.amf_poll_session.specs.declared.ends.ListenEnd.{ListenEnd}
use Rattle.amf_poll_session.specs.declared.ends.ListenEnd.TheVariants as answer
use Rattle.amf_poll_session.specs.declared.request.Request.{Request}
use Rattle.amf_poll_session.specs.declared.request.Request.TheVariants.{Ping, Subscribe, Poll, Disconnect}
use Rattle.amf_poll_session.specs.Sessions.{Turn, no_link, link_fault, starved, bad, fault, reply, End, done, by_fault, by_bad, by_memory, Sent, Session, or_empty, all_links, stopped, lost, poll_or, asks_next, took, replied, dials_again, linked_by, carried, turned, unless_ended, listen_from}
use Rattle.amf_poll_session.specs.Carried.{is_fault, has_fault}
use Rattle.amf_poll_session.specs.Steps.{next_of, id_after, is_taken, is_new, new_bodies, asks_after, Leads, EndsTurn, IsTurn, AreTurns}

or_false : (b : Bool) → b ≡ (b || false)
or_false true = refl
or_false false = refl

some_same : {X : Type 0} (x y : X) → Some x ≡ Some y → x ≡ y
some_same x y e = cc

or_true : (b : Bool) → true ≡ (b || true)
or_true true = refl
or_true false = refl

pub has_fault_more : {B : Type 0} (sent : List (Sent B)) (x : Sent B) → has_fault sent ≡ false → has_fault (sent ++ x ∷ []) ≡ is_fault x.turn
has_fault_more [] x none = sym (or_false _)
has_fault_more (y ∷ sent) x none =
    let P : Bool → Type 0 = λ b. (b || has_fault sent) ≡ false → (b || has_fault (sent ++ x ∷ [])) ≡ is_fault x.turn in
    let at : (b : Bool) → P b = λ b. elim b as P [ true ↦ λ e. absurd cc | false ↦ λ e. has_fault_more sent x e ] in
    at (is_fault y.turn) none

module _ {B : Type 0} (most : ℕ) where
  unended : (turn : Turn B) (s : Session B) → s.end ≡ None → unless_ended most s.end turn s ≡ turned most turn s
  unended turn s going = ap (λ (e : Option End). unless_ended most e turn s) going

  -- one more turn
  pub one_more : (turns : List (Turn B)) (turn : Turn B) (s : Session B) → (listen_from most turns s).end ≡ None
      → listen_from most (turns ++ turn ∷ []) s ≡ turned most turn (listen_from most turns s)
  one_more [] turn s going = unended turn s going
  one_more (x ∷ turns) turn s going = one_more turns turn (unless_ended most s.end x s) going

  pub more_turns : (turns more : List (Turn B)) (s : Session B) → listen_from most (turns ++ more) s ≡ listen_from most more (listen_from most turns s)
  more_turns [] more s = refl
  more_turns (x ∷ turns) more s = more_turns turns more (unless_ended most s.end x s)

  -- a link that was dialled, and has carried nothing
  unfoldable pub opens : Session B → Session B
  opens s = record (dials_again s) { link = Some [] }

  pub opens_linked : (s : Session B) → (opens s).link ≡ Some []
  unfolding opens
  opens_linked s = refl

  pub opens_end : (s : Session B) → s.end ≡ None → (opens s).end ≡ None
  unfolding opens
  opens_end s going = going

  carried_first : (turn : Turn B) (s : Session B) → s.link ≡ None → carried turn s ≡ carried turn (opens s)
  unfolding opens
  carried_first turn s none =
      ap (λ (l : Option (List (Sent B))). record (linked_by l s) { link = Some (or_empty l ++ record { request = s.request; ds_id = s.ds_id; turn = turn } ∷ []) }) none

  turned_first : (turn : Turn B) → IsTurn turn → (s : Session B) → s.link ≡ None → turned most turn s ≡ turned most turn (opens s)
  unfolding opens
  turned_first no_link is s none = absurd is
  turned_first link_fault is s none = ap lost (carried_first link_fault s none)
  turned_first starved is s none = ap (stopped by_memory) (carried_first starved s none)
  turned_first (bad n) is s none = ap (stopped (by_bad n)) (carried_first (bad n) s none)
  turned_first (fault code text) is s none = ap (stopped (by_fault code text)) (carried_first (fault code text) s none)
  turned_first (reply ds bodies) is s none = ap (replied most ds bodies s.request) (carried_first (reply ds bodies) s none)

  -- the turns at a link that is dialled for them
  pub at_a_link : (turns : List (Turn B)) → AreTurns turns → (s : Session B) → s.link ≡ None → s.end ≡ None → listen_from most turns s ≡ listen_from most turns (opens s)
  unfolding opens
  at_a_link [] are s none going = absurd are
  at_a_link (turn ∷ turns) are s none going =
      ap (listen_from most turns) (unended turn s going ∙ turned_first turn are s none ∙ sym (unended turn (opens s) going))

  -- what the open link has carried then
  abbrev pub with_turn : Session B → Turn B → List (Sent B) → List (Sent B)
  with_turn s turn sent = sent ++ record { request = s.request; ds_id = s.ds_id; turn = turn } ∷ []

  carried_more : (turn : Turn B) (s : Session B) (sent : List (Sent B)) → s.link ≡ Some sent → carried turn s ≡ record s { link = Some (with_turn s turn sent) }
  carried_more turn s sent is =
      ap (λ (l : Option (List (Sent B))). record (linked_by l s) { link = Some (or_empty l ++ record { request = s.request; ds_id = s.ds_id; turn = turn } ∷ []) }) is

  -- the session stops with what its link has carried
  pub record Halts (s s' : Session B) (sent : List (Sent B)) (turn : Turn B) (e : ListenEnd) : Type 0 where
    pub links : all_links s' ≡ s.links ++ sent ∷ []
    pub dials : s'.dials ≡ s.dials
    pub lost : s'.has_lost ≡ (s.has_lost || is_fault turn)
    pub written : s'.written ≡ s.written
    pub leads : Leads s' e
    pub request : s'.request ≡ s.request
    pub spent : s'.spent ≡ s.spent
    pub ds_id : s'.ds_id ≡ s.ds_id
    pub asks : s'.asks ≡ s.asks

  by_stop : (stop : End) (turn : Turn B) (e : ListenEnd) (s : Session B) (sent : List (Sent B)) → is_fault turn ≡ false
      → Leads (stopped stop (record s { link = Some sent })) e → Halts s (stopped stop (record s { link = Some sent })) sent turn e
  by_stop stop turn e s sent whole leads = record {
    links = append-nil _;
    dials = refl;
    lost = or_false _ ∙ ap (λ b. s.has_lost || b) (sym whole);
    written = refl;
    leads = leads;
    request = refl;
    spent = refl;
    ds_id = refl;
    asks = refl;
  }

  by_loss : (s : Session B) (sent : List (Sent B)) → Halts s (lost (record s { link = Some sent })) sent link_fault answer.LinkFault
  by_loss s sent = record {
    links = append-nil _;
    dials = refl;
    lost = or_true _;
    written = refl;
    leads = (refl, refl);
    request = refl;
    spent = refl;
    ds_id = refl;
    asks = refl;
  }

  -- a turn that brings no reply
  pub halts : (e : ListenEnd) (turn : Turn B) (s : Session B) (sent : List (Sent B)) → s.link ≡ Some sent → EndsTurn e turn
      → Halts s (turned most turn s) (with_turn s turn sent) turn e
  halts answer.Done turn s sent is ends = absurd ends
  halts answer.WriteFault turn s sent is ends = absurd ends
  halts answer.LinkFault turn s sent is ends =
      subst (λ (t : Turn B). Halts s (turned most t s) (with_turn s t sent) t answer.LinkFault) (sym ends)
      (subst (λ (c : Session B). Halts s (lost c) (with_turn s link_fault sent) link_fault answer.LinkFault) (sym (carried_more link_fault s sent is)) (by_loss s (with_turn s link_fault sent)))
  halts (answer.BadReply n) turn s sent is ends =
      subst (λ (t : Turn B). Halts s (turned most t s) (with_turn s t sent) t (answer.BadReply n)) (sym ends)
      (subst (λ (c : Session B). Halts s (stopped (by_bad n) c) (with_turn s (bad n) sent) (bad n) (answer.BadReply n)) (sym (carried_more (bad n) s sent is))
      (by_stop (by_bad n) (bad n) (answer.BadReply n) s (with_turn s (bad n) sent) refl (refl, refl)))
  halts (answer.Fault code text) turn s sent is ends =
      subst (λ (t : Turn B). Halts s (turned most t s) (with_turn s t sent) t (answer.Fault code text)) (sym ends)
      (subst (λ (c : Session B). Halts s (stopped (by_fault code text) c) (with_turn s (fault code text) sent) (fault code text) (answer.Fault code text)) (sym (carried_more (fault code text) s sent is))
      (by_stop (by_fault code text) (fault code text) (answer.Fault code text) s (with_turn s (fault code text) sent) refl (refl, refl)))
  halts answer.Memory turn s sent is ends =
      subst (λ (t : Turn B). Halts s (turned most t s) (with_turn s t sent) t answer.Memory) (sym ends)
      (subst (λ (c : Session B). Halts s (stopped by_memory c) (with_turn s starved sent) starved answer.Memory) (sym (carried_more starved s sent is))
      (by_stop by_memory starved answer.Memory s (with_turn s starved sent) refl (inr refl)))

  -- Replies.

  -- the session goes on to this request
  abbrev pub on_to : Request → List ℕ → List B → Session B → Session B
  on_to next ds bodies c =
      record c { request = next; spent = 1; ds_id = id_after c.request ds c.ds_id; asks = asks_after c.request c.asks; written = c.written ++ new_bodies (is_new c.request c.asks) bodies }

  -- by whether the number is the one asked, and else whether it is less
  polled : (n : ℕ) (ds : List ℕ) (bodies : List B) (c : Session B) (same less : Bool) →
      asks_next most (took (if same then New else if less then Old else Ahead) bodies c)
      ≡ record c { request = poll_or most (if same then c.asks + 1 else c.asks); spent = 1; asks = if same then c.asks + 1 else c.asks; written = c.written ++ new_bodies (is_taken (if same then New else if less then Old else Ahead)) bodies }
  polled n ds bodies c true less = refl
  polled n ds bodies c false true = ap (λ (w : List B). record c { request = poll_or most c.asks; spent = 1; written = w }) (sym (append-nil c.written))
  polled n ds bodies c false false = ap (λ (w : List B). record c { request = poll_or most c.asks; spent = 1; written = w }) (sym (append-nil c.written))

  goes_to : (r : Request) (c : Session B) → c.request ≡ r → (next : Request) (ds : List ℕ) (bodies : List B) → next_of most r (asks_after r c.asks) ≡ Some next
      → replied most ds bodies r c ≡ record c { request = next; spent = 1; ds_id = id_after r ds c.ds_id; asks = asks_after r c.asks; written = c.written ++ new_bodies (is_new r c.asks) bodies }
  goes_to Ping c is next ds bodies to =
      ap (λ (w : List B). record c { request = Subscribe; spent = 1; ds_id = ds; written = w }) (sym (append-nil c.written))
      ∙ ap (λ (r : Request). record c { request = r; spent = 1; ds_id = ds; written = c.written ++ [] }) (some_same Subscribe next to)
  goes_to Subscribe c is next ds bodies to =
      ap (λ (w : List B). record c { request = poll_or most c.asks; spent = 1; written = w }) (sym (append-nil c.written))
      ∙ ap (λ (r : Request). record c { request = r; spent = 1; written = c.written ++ [] }) (some_same (poll_or most c.asks) next to)
  goes_to (Poll n) c is next ds bodies to =
      polled n ds bodies c (n == c.asks) (nat_lt n c.asks)
      ∙ ap (λ (r : Request). record c { request = r; spent = 1; asks = asks_after (Poll n) c.asks; written = c.written ++ new_bodies (is_new (Poll n) c.asks) bodies }) (some_same _ next to)
  goes_to Disconnect c is next ds bodies to = absurd cc

  -- a reply behind which there is a next request
  pub goes_on_to : (s : Session B) (sent : List (Sent B)) → s.link ≡ Some sent → (next : Request) (ds : List ℕ) (bodies : List B)
      → next_of most s.request (asks_after s.request s.asks) ≡ Some next
      → turned most (reply ds bodies) s ≡ on_to next ds bodies (record s { link = Some (with_turn s (reply ds bodies) sent) })
  goes_on_to s sent is next ds bodies to =
      ap (replied most ds bodies s.request) (carried_more (reply ds bodies) s sent is)
      ∙ goes_to s.request (record s { link = Some (with_turn s (reply ds bodies) sent) }) refl next ds bodies to

  ends_there : (r : Request) (c : Session B) (asks : ℕ) (ds : List ℕ) (bodies : List B) → next_of most r asks ≡ None → replied most ds bodies r c ≡ stopped done c
  ends_there Ping c asks ds bodies none = absurd cc
  ends_there Subscribe c asks ds bodies none = absurd cc
  ends_there (Poll n) c asks ds bodies none = absurd cc
  ends_there Disconnect c asks ds bodies none = refl

  -- and the last one
  pub is_done : (s : Session B) (sent : List (Sent B)) → s.link ≡ Some sent → (ds : List ℕ) (bodies : List B) → next_of most s.request (asks_after s.request s.asks) ≡ None
      → Halts s (turned most (reply ds bodies) s) (with_turn s (reply ds bodies) sent) (reply ds bodies) answer.Done
  is_done s sent is ds bodies none =
      let c : Session B = record s { link = Some (with_turn s (reply ds bodies) sent) } in
      subst (λ (x : Session B). Halts s x (with_turn s (reply ds bodies) sent) (reply ds bodies) answer.Done)
      (sym (ap (replied most ds bodies s.request) (carried_more (reply ds bodies) s sent is) ∙ ends_there s.request c _ ds bodies none))
      (by_stop done (reply ds bodies) answer.Done s (with_turn s (reply ds bodies) sent) refl (refl, refl))
