-- Each change of the lines once some clients have left.
use Rattle.std.proofs.Common.{◌≡◌, ℕ, ◌+◌, ◌≤◌, Bool, true, false, not, List, [], ◌∷◌, ◌++◌, length, refl, sym, ◌∙◌, ap, arith}
use Rattle.std.specs.Prelude.{◌==◌, ◌&&◌, ◌||◌, filter, map}
use Rattle.std.specs.List.{list_all}
use Rattle.std.proofs.lemmas.Bool.Decides.{nat_tests}
use Rattle.std.proofs.lemmas.List.Sums.{length-filter, count_by-le-length}
use Rattle.amf_broker.specs.declared.topic.Topic.{Topic}
use Rattle.amf_broker.specs.State.{Connection, Subscription}
use Rattle.amf_broker.specs.Machine.{is_same_topic, is_connected, new_client, spread, Spread, subscribers, still_live, subs_of, ended_of}
use Rattle.amf_broker.specs.Sound.{rises_by, are_in_order}
use Rattle.amf_broker.specs.Delivery.{Message}
use Rattle.amf_broker.specs.Moments.{stays, clients_left, subs_left}
use Rattle.amf_broker.specs.declared.limits.TheConstants.{MAX_SUBS}
use Rattle.amf_broker.specs.Lines.{TopicLog, Span, Waiter, Floor, clients_by, subs_by, spans_left, waiters_left, new_waiter, posted, untold_of}
use Rattle.amf_broker.specs.Members.{Line, Listener, logs_of, is_present, members_in, members_at, are_apart, members_of, raised, stopped, IsLined, floor_of, remains_of, posted_line, ends_for, spans_ended, line_changed, enlisted, line_left, lines_left, line_without, waiters_after, ended_after}
use Rattle.amf_broker.proofs.Leavers.{stays-connected}
use Rattle.amf_broker.proofs.Orders.{rises-part, ended-rises}
use Rattle.amf_broker.proofs.Floors.{new_span}
use Rattle.amf_broker.proofs.Publishes.{is_over}
use Rattle.amf_broker.proofs.Raises.{subs-raised}
use Rattle.amf_broker.proofs.Stops.{stopped-no}
use Rattle.amf_broker.proofs.Seats.{present-left, present-connected, all-present, few-members, untold-is, at-left}
use Rattle.amf_broker.proofs.Lined.{apart-map, logs-left, logs-without, lined-waited, floor-waited, lined-left, floor-left, lined-come, floor-come}
use Rattle.amf_broker.proofs.Published.{posted-first, apart-posted, unposted, at-posted, lined-published, told-is, floor-published, lined-later, floor-later, nobody-listens, still-all}
use Rattle.amf_broker.proofs.Owners.{only-one, dropped-all, silent-listed, ended-member, live-member, all-among, own-listed}
use Rattle.amf_broker.proofs.Enlists.{enlisted-left, lined-begun, floor-begun}

pub none-waiters : (ws : List Waiter) → waiters_left [] ws ≡ ws
none-waiters [] = refl
none-waiters (w ∷ ws) = ap (λ m. w ∷ m) (none-waiters ws)

pub none-spans : (us : List Span) → spans_left [] us ≡ us
none-spans [] = refl
none-spans (u ∷ us) = ap (λ m. u ∷ m) (none-spans us)

none-members : (ms : List Listener) → filter (λ m. stays [] m.client) ms ≡ ms
none-members [] = refl
none-members (m ∷ ms) = ap (λ x. m ∷ x) (none-members ms)

pub none-lines : (ls : List Line) → lines_left [] ls ≡ ls
none-lines [] = refl
none-lines (l ∷ ls) = ap (λ ms. record { topic = l.topic; posts = l.posts; members = ms } ∷ lines_left [] ls) (none-members l.members) ∙ ap (λ x. l ∷ x) (none-lines ls)

pub nobody-left : (ks : List ℕ) (ws : List Waiter) (us : List Span) (ls : List Line) → (length ks == 0) ≡ true → (ws ≡ waiters_left ks ws) × (us ≡ spans_left ks us) × (ls ≡ lines_left ks ls)
nobody-left [] ws us ls e = (sym (none-waiters ws), sym (none-spans us), sym (none-lines ls))
nobody-left (k ∷ ks) ws us ls e = grind (arith, nat_tests, e)

-- something ended
pub some-ended : (own : ℕ → Bool) (e : List ℕ) (n : ℕ) (logs : List TopicLog) (us : List Span) → (length e == 0) ≡ false → spans_ended own e n logs us ≡ filter (remains_of own (is_over e) logs (n + 1)) (map (stopped n (is_over e)) us)
some-ended own [] n logs us none = cc
some-ended own (x ∷ e) n logs us none = refl

all-apart : (ks : List ℕ) (ls : List Line) → are_apart (lines_left ks ls) ≡ are_apart ls
all-apart ks ls = apart-map (line_left ks) (λ l. refl) ls

all-members : (s : Topic) (ks : List ℕ) (ps ls : List Line) → members_at s ps ≡ members_at s ls → members_at s (lines_left ks ps) ≡ members_at s (lines_left ks ls)
all-members s ks ps ls same = at-left s ks ps ∙ (ap (filter (λ (m : Listener). stays ks m.client)) same ∙ sym (at-left s ks ls))

none-of : {A : Type 0} (xs : List A) → (length xs == 0) ≡ true → xs ≡ []
none-of [] e = refl
none-of (x ∷ xs) e = grind (arith, nat_tests, e)

still-none : (t : Topic) (ks : List ℕ) (ls : List Line) → members_at t ls ≡ [] → members_at t (lines_left ks ls) ≡ []
still-none t ks ls none = at-left t ks ls ∙ ap (filter (λ (m : Listener). stays ks m.client)) none

-- no more listen than did
fewer-left : (t : Topic) (ks : List ℕ) (ls : List Line) → length (members_at t (lines_left ks ls)) ≤ length (members_at t ls)
fewer-left t ks ls =
    let same = ap length (at-left t ks ls) in
    let count = length-filter (λ (m : Listener). stays ks m.client) (members_at t ls) in
    let few = count_by-le-length (λ (m : Listener). stays ks m.client) (members_at t ls) in
    omega arith

-- nothing ended
pub lines-same : (ls : List Line) → map (line_without (is_over [])) ls ≡ ls
lines-same [] = refl
lines-same (l ∷ ls) = ap (λ ms. record { topic = l.topic; posts = l.posts; members = ms } ∷ map (line_without (is_over [])) ls) (all l.members) ∙ ap (λ x. l ∷ x) (lines-same ls)
  where
    all : (ms : List Listener) → filter (λ m. not (is_over [] m.sub)) ms ≡ ms
    all [] = refl
    all (m ∷ ms) = ap (λ x. m ∷ x) (all ms)

pub places-same : (n : ℕ) (us : List Span) → map (stopped n (is_over [])) us ≡ us
places-same n [] = refl
places-same n (u ∷ us) = ap (λ x. x ∷ map (stopped n (is_over [])) us) (stopped-no n (is_over []) u refl) ∙ ap (λ x. u ∷ x) (places-same n us)

module _ (ls : List Line) (us : List Span) (ws : List Waiter) (c n : ℕ) (k : IsLined ls us ws c n) where
  abbrev clients : List Connection
  clients = clients_by (logs_of ls) (map (raised n) us) ws

  abbrev subs : List Subscription
  subs = subs_by (map (raised n) us)

  pub lined-gone : (ks : List ℕ) → IsLined (lines_left ks ls) (spans_left ks us) (waiters_left ks ws) c n
  lined-gone ks = lined-left ls us ws c n k ks

  pub floor-gone : (ks : List ℕ) → floor_of (lines_left ks ls) (spans_left ks us) (waiters_left ks ws) c n ≡ record { clients = clients_left ks clients; subs = subs_left ks subs; next_client = c; next_message = n }
  floor-gone ks = floor-left ls us ws c n k ks

  module _ (ks : List ℕ) where
    abbrev lines_now : List Line
    lines_now = lines_left ks ls

    abbrev spans_now : List Span
    spans_now = spans_left ks us

    abbrev waiters_now : List Waiter
    waiters_now = waiters_left ks ws

    pub clients-now : clients_by (logs_of lines_now) (map (raised n) spans_now) waiters_now ≡ clients_left ks clients
    clients-now = ap (λ f. f.clients) (floor-gone ks)

    pub subs-now : subs_by (map (raised n) spans_now) ≡ subs_left ks subs
    subs-now = ap (λ f. f.subs) (floor-gone ks)

    pub lined-connected : (present : ℕ) → IsLined lines_now spans_now (waiters_now ++ (new_waiter c present ∷ [])) (c + 1) n
    lined-connected present = lined-come lines_now spans_now waiters_now c n (lined-gone ks) present

    pub floor-connected : (present : ℕ) → floor_of lines_now spans_now (waiters_now ++ (new_waiter c present ∷ [])) (c + 1) n
        ≡ record { clients = clients_left ks clients ++ (new_client c present ∷ []); subs = subs_left ks subs; next_client = c + 1; next_message = n }
    floor-connected present =
        floor-come lines_now spans_now waiters_now c n (lined-gone ks) present
        ∙ (ap (λ x. record { clients = x ++ (new_client c present ∷ []); subs = subs_by (map (raised n) spans_now); next_client = c + 1; next_message = n }) clients-now
        ∙ ap (λ x. record { clients = clients_left ks clients ++ (new_client c present ∷ []); subs = x; next_client = c + 1; next_message = n }) subs-now)

    module _ (id client : ℕ) (t : Topic) (here : is_connected client (clients_left ks clients) ≡ true) where
      stay : stays ks client ≡ true
      stay = stays-connected client ks clients here

      there : is_present client waiters_now ≡ true
      there = present-connected client (logs_of lines_now) (map (raised n) spans_now) waiters_now ∙ (ap (is_connected client) clients-now ∙ here)

      abbrev joining : Listener
      joining = record { sub = id; client = client }

      lines-are : lines_left ks (enlisted t joining ls) ≡ enlisted t joining lines_now
      lines-are = enlisted-left t joining ks ls stay

      -- before they leave
      pub lined-enlisted : IsLined (enlisted t joining ls) (us ++ (new_span id client t n ∷ [])) ws c n
      lined-enlisted = lined-begun ls us ws c n k id client t (sym (present-left client ks ws stay) ∙ there)

      pub lined-subscribed : IsLined (lines_left ks (enlisted t joining ls)) (spans_now ++ (new_span id client t n ∷ [])) waiters_now c n
      lined-subscribed = rw lines-are (lined-begun lines_now spans_now waiters_now c n (lined-gone ks) id client t there)

      pub floor-subscribed : floor_of (lines_left ks (enlisted t joining ls)) (spans_now ++ (new_span id client t n ∷ [])) waiters_now c n
          ≡ record { clients = clients_left ks clients; subs = subs_left ks subs ++ (record { id = id; client = client; topic = t } ∷ []); next_client = c; next_message = n }
      floor-subscribed = rw lines-are
          (floor-begun lines_now spans_now waiters_now c n (lined-gone ks) id client t there
          ∙ (ap (λ x. record { clients = x; subs = subs_by (map (raised n) spans_now) ++ (record { id = id; client = client; topic = t } ∷ []); next_client = c; next_message = n }) clients-now
          ∙ ap (λ x. record { clients = clients_left ks clients; subs = x ++ (record { id = id; client = client; topic = t } ∷ []); next_client = c; next_message = n }) subs-now))

    -- A message comes.

    module _ (t : Topic) (bytes : List ℕ) where
      abbrev message : Message
      message = record { number = n; bytes = bytes }

      -- the message is put up before they leave
      abbrev pub put_now : List Line
      put_now = lines_left ks (posted_line t message ls)

      abbrev pub listening : List Listener
      listening = members_in t spans_now

      abbrev pub ended_now : List ℕ
      ended_now = ended_after listening waiters_now

      abbrev pub reached_now : Spread
      reached_now = spread n bytes (subscribers t (subs_left ks subs)) (clients_left ks clients)

      abbrev after_all : Floor
      after_all = record { clients = reached_now.clients; subs = still_live reached_now.ended (subs_left ks subs); next_client = c; next_message = n + 1 }

      -- what has ended and waits for nothing is gone
      abbrev pub places_end : List Span
      places_end = spans_ended (ends_for (is_over ended_now) listening) ended_now n (logs_of put_now) spans_now

      apart-now : are_apart put_now ≡ true
      apart-now = all-apart ks (posted_line t message ls) ∙ (apart-posted t message ls ∙ k.apart)

      logs-put : (length (members_at t ls) == 0) ≡ false → logs_of put_now ≡ posted t message (logs_of lines_now)
      logs-put line = logs-left ks (posted_line t message ls) ∙ (posted-first t message ls line ∙ ap (posted t message) (sym (logs-left ks ls)))

      members-put : (s : Topic) → members_at s put_now ≡ members_at s lines_now
      members-put s = all-members s ks (posted_line t message ls) ls (at-posted t message ls s)

      arrived-is : spread n bytes (subscribers t (subs_by (map (raised n) spans_now))) (clients_by (logs_of lines_now) (map (raised n) spans_now) waiters_now) ≡ reached_now
      arrived-is = ap (λ x. spread n bytes (subscribers t x) (clients_by (logs_of lines_now) (map (raised n) spans_now) waiters_now)) subs-now ∙ ap (spread n bytes (subscribers t (subs_left ks subs))) clients-now

      pub listening-at : members_at t put_now ≡ listening
      listening-at = members-put t ∙ (lined-gone ks).listed t

      pub listening-room : length listening ≤ length (members_at t ls)
      listening-room =
          let fewer = fewer-left t ks (posted_line t message ls) in
          let same = ap length (at-posted t message ls t) in
          let here = ap length listening-at in
          omega arith

      pub listening-present : list_all (λ m. is_present m.client waiters_now) listening ≡ true
      listening-present = all-present t spans_now waiters_now (lined-gone ks).home

      -- before they leave
      pub listed-put : (s : Topic) → members_at s (posted_line t message ls) ≡ members_in s us
      listed-put s = at-posted t message ls s ∙ k.listed s

      pub apart-put : are_apart (posted_line t message ls) ≡ true
      apart-put = apart-posted t message ls ∙ k.apart

      -- there is room for what may end
      pub listening-few : ((j : ℕ) → length (subs_of j (subs_left ks subs)) + length (ended_of j (clients_left ks clients)) ≤ MAX_SUBS) → (j : ℕ) → length (members_of j listening) + untold_of j waiters_now ≤ MAX_SUBS
      listening-few places j =
          let few = few-members t j spans_now in
          let subs-same = ap (λ x. length (subs_of j x)) (sym (subs-raised n spans_now) ∙ subs-now) in
          let untold = untold-is j (logs_of lines_now) (map (raised n) spans_now) waiters_now in
          let told = ap (λ x. length (ended_of j x)) clients-now in
          let all = places j in
          omega (arith, few, subs-same, untold, told, all)

      module _ (rise : rises_by (λ u. u.id) 0 (subs_left ks subs) ≡ true) where
        rise-now : rises_by (λ u. u.id) 0 (subs_by spans_now) ≡ true
        rise-now = ap (rises_by (λ (u : Subscription). u.id) 0) (sym (subs-raised n spans_now) ∙ subs-now) ∙ rise

        of-topic : list_all (λ u. not (u.live && is_over ended_now u.id) || is_same_topic u.topic t) spans_now ≡ true
        of-topic = all-among (λ u. is_same_topic u.topic t) (is_over ended_now) spans_now
            (λ x over. only-one (λ u. is_same_topic u.topic t) x 0 spans_now rise-now (live-member x t spans_now (ended-member x listening waiters_now over)))

        -- what ended listens to the topic alone
        pub alone : line_changed t (line_without (is_over ended_now)) put_now ≡ map (line_without (is_over ended_now)) put_now
        alone =
            dropped-all t (is_over ended_now) put_now apart-now
            (λ s other. ap (list_all (λ (m : Listener). not (is_over ended_now m.sub))) (members-put s ∙ (lined-gone ks).listed s) ∙ silent-listed t (is_over ended_now) spans_now of-topic s other)

        -- and is of clients that listen to it
        pub theirs : list_all (λ u. not (u.live && is_over ended_now u.id) || ends_for (is_over ended_now) (members_at t put_now) u.client) spans_now ≡ true
        theirs =
            ap (λ ms. list_all (λ (u : Span). not (u.live && is_over ended_now u.id) || ends_for (is_over ended_now) ms u.client) spans_now) listening-at
            ∙ own-listed t (is_over ended_now) spans_now of-topic

        -- the lines, the places and the answer once it has come to all that listen
        pub record Heard : Type 0 where
          pub lined : IsLined (map (line_without (is_over ended_now)) put_now) (map (stopped n (is_over ended_now)) spans_now) (waiters_after listening waiters_now) c (n + 1)
          pub ended : ended_now ≡ reached_now.ended
          pub floor : floor_of (map (line_without (is_over ended_now)) put_now) (map (stopped n (is_over ended_now)) spans_now) (waiters_after listening waiters_now) c (n + 1) ≡ after_all

        someone-heard : (length (members_at t ls) == 0) ≡ false → Heard
        someone-heard line = record {
          lined = lined-published t message lines_now put_now spans_now waiters_now c (lined-gone ks) (logs-put line) members-put rise-now apart-now;
          ended = told-is t message lines_now put_now spans_now waiters_now c (lined-gone ks) (logs-put line) members-put rise-now apart-now ∙ ap (λ s. s.ended) arrived-is;
          floor =
              floor-published t message lines_now put_now spans_now waiters_now c (lined-gone ks) (logs-put line) members-put rise-now apart-now
              ∙ (ap (λ s. record { clients = s.clients; subs = still_live s.ended (subs_by (map (raised n) spans_now)); next_client = c; next_message = n + 1 }) arrived-is
              ∙ ap (λ x. record { clients = reached_now.clients; subs = still_live reached_now.ended x; next_client = c; next_message = n + 1 }) subs-now);
        }

        module _ (none : (length (members_at t ls) == 0) ≡ true) where
          silent : members_at t lines_now ≡ []
          silent = still-none t ks ls (none-of (members_at t ls) none)

          nobody : subscribers t (subs_left ks subs) ≡ []
          nobody = ap (subscribers t) (sym subs-now) ∙ nobody-listens lines_now spans_now waiters_now c n (lined-gone ks) t silent

          no-members : listening ≡ []
          no-members = sym ((lined-gone ks).listed t) ∙ silent

          put-same : put_now ≡ lines_now
          put-same = ap (lines_left ks) (sym (unposted t message ls none))

          lines-end : map (line_without (is_over ended_now)) put_now ≡ lines_now
          lines-end = ap (λ ms. map (line_without (is_over (ended_after ms waiters_now))) put_now) no-members ∙ (lines-same put_now ∙ put-same)

          spans-end : map (stopped n (is_over ended_now)) spans_now ≡ spans_now
          spans-end = ap (λ ms. map (stopped n (is_over (ended_after ms waiters_now))) spans_now) no-members ∙ places-same n spans_now

          waiters-end : waiters_after listening waiters_now ≡ waiters_now
          waiters-end = ap (λ ms. waiters_after ms waiters_now) no-members

          nobody-heard : Heard
          nobody-heard = record {
            lined = rw (lines-end, spans-end, waiters-end) (lined-later lines_now spans_now waiters_now c n (lined-gone ks));
            ended = ap (λ ms. ended_after ms waiters_now) no-members ∙ rw nobody refl;
            floor = rw (lines-end, spans-end, waiters-end, nobody)
                (floor-later lines_now spans_now waiters_now c n (lined-gone ks)
                ∙ (ap (λ x. record { clients = x; subs = subs_by (map (raised n) spans_now); next_client = c; next_message = n + 1 }) clients-now
                ∙ ap (λ x. record { clients = clients_left ks clients; subs = x; next_client = c; next_message = n + 1 }) (subs-now ∙ sym (still-all (subs_left ks subs)))));
          }

        pub heard : Heard
        heard = step (length (members_at t ls) == 0) refl
          where
            step : (b : Bool) → (length (members_at t ls) == 0) ≡ b → Heard
            step true e = nobody-heard e
            step false e = someone-heard e

        -- either nothing ended, or the places are cleared
        places-are : (own : ℕ → Bool) (e : List ℕ) → ended_now ≡ e → IsLined (map (line_without (is_over ended_now)) put_now) (spans_ended own e n (logs_of put_now) spans_now) (waiters_after listening waiters_now) c (n + 1)
            × (floor_of (map (line_without (is_over ended_now)) put_now) (spans_ended own e n (logs_of put_now) spans_now) (waiters_after listening waiters_now) c (n + 1) ≡ after_all)
        places-are own [] is =
            let same : map (stopped n (is_over ended_now)) spans_now ≡ spans_now = ap (λ e. map (stopped n (is_over e)) spans_now) is ∙ places-same n spans_now in
            (rw same at heard.lined, rw same at heard.floor)
        places-are own (x ∷ e) is =
            let cleared : spans_ended own (x ∷ e) n (logs_of put_now) spans_now ≡ filter (remains_of own (is_over ended_now) (logs_of (map (line_without (is_over ended_now)) put_now)) (n + 1)) (map (stopped n (is_over ended_now)) spans_now) =
            rw (is, logs-without (is_over (x ∷ e)) put_now) refl in
            (rw cleared (lined-waited _ _ _ c (n + 1) heard.lined own (is_over ended_now)), rw cleared (floor-waited _ _ _ c (n + 1) heard.lined own (is_over ended_now) ∙ heard.floor))

        pub lined-all : IsLined (map (line_without (is_over ended_now)) put_now) places_end (waiters_after listening waiters_now) c (n + 1)
        lined-all = (places-are (ends_for (is_over ended_now) listening) ended_now refl).0

        pub floor-all : floor_of (map (line_without (is_over ended_now)) put_now) places_end (waiters_after listening waiters_now) c (n + 1) ≡ after_all
        floor-all = (places-are (ends_for (is_over ended_now) listening) ended_now refl).1

        pub ended-all : ended_now ≡ reached_now.ended
        ended-all = heard.ended

        -- what ended stands in order
        pub ended-ordered : are_in_order ended_now ≡ true
        ended-ordered =
            let reached = rises-part (λ (u : Subscription). u.id) 0 (λ u. is_same_topic u.topic t) (subs_left ks subs) rise in
            ap are_in_order ended-all ∙ ended-rises 0 n bytes (subscribers t (subs_left ks subs)) (clients_left ks clients) reached
