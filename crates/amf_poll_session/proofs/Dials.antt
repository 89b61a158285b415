-- A dial more: it failed, it had no memory, or it gave a link, which carried some requests and was taken back.
use Rattle.std.proofs.Common.{◌≡◌, ◌∙◌, inl, ℕ, zero, suc, ◌+◌, ◌≤◌, Bool, true, false, ◌||◌, ◌&&◌, nat_lt, if◌then◌else◌, List, [], ◌∷◌, ◌++◌, append_assoc, append-nil, add-one, Option, Some, None, refl, sym, ap, subst, arith}
use Rattle.std.proofs.lemmas.Bool.Decides.{nat_tests}
use Rattle.amf_io.specs.declared.dial.Dial.{Ghosts as DialMembers}
use Rattle.amf_io.specs.declared.link.Link.{Ghosts as LinkMembers}
use Rattle.amf_io.specs.Front.{CountsBack}
use Rattle.amf_io.specs.Outside.{Rose}
use Rattle.amf_wire.specs.Text.{IsText}
use Rattle.amf_graph.specs.Graph.{Graph}
use Rattle.amf_poll_session.specs.declared.ends.ListenEnd.{ListenEnd}
use Rattle.amf_poll_session.specs.declared.ends.ListenEnd.TheVariants as answer
use Rattle.amf_poll_session.specs.declared.request.Request.{Request}
use Rattle.amf_poll_session.specs.declared.session.Session.{Session as Stand}
use Rattle.amf_poll_session.specs.Sessions.{Turn, no_link, Sent, Session, End, by_link, by_bad, asks_again, end_after, opened, all_links, missed, lost, dials_again, unless_ended, listen_from, listen, first_session}
use Rattle.amf_poll_session.specs.Carried.{Break, unbroken, in_write, in_read, Counts, has_fault, Carries, AllCarry}
use Rattle.amf_poll_session.specs.Listened.{repeated, HasSpelled, Wrote, EndsAs, CountsLost, CountsOutput, Listened}
use Rattle.amf_poll_session.specs.Steps.{IsReady, Shows, Leads, is_again, reached, Again, StaysAt, AreTurns, Over, RunsOver, Stands, Dialled}
use Rattle.amf_poll_session.proofs.Steps.{spelled_more, wrote_more}
use Rattle.amf_poll_session.proofs.Turns.{more_turns, opens, opens_linked, opens_end, at_a_link}

repeated_suc : (port n : ℕ) → repeated port n ++ port ∷ [] ≡ repeated port (suc n)
repeated_suc port zero = refl
repeated_suc port (suc n) = ap (λ (l : List ℕ). port ∷ l) (repeated_suc port n)

repeated_more : (port n : ℕ) → repeated port n ++ port ∷ [] ≡ repeated port (n + 1)
repeated_more port n = repeated_suc port n ∙ ap (repeated port) (sym (add-one n))

-- it was asked once more
asked_once : (before now after : List ℕ) (port n : ℕ) → now ≡ before ++ repeated port n → after ≡ now ++ port ∷ [] → after ≡ before ++ repeated port (n + 1)
asked_once before now after port n was is =
    is ∙ ap (λ (l : List ℕ). l ++ port ∷ []) was ∙ append_assoc before (repeated port n) (port ∷ []) ∙ ap (λ (l : List ℕ). before ++ l) (repeated_more port n)

all_carry_more : {L : Type 0} (link : LinkMembers L) (port : ℕ) (destination : List ℕ) (cs ws : List L) (xs : List (List (Sent Graph))) (c w : L) (x : List (Sent Graph))
    → AllCarry link port destination cs ws xs → Carries link port destination c w x → AllCarry link port destination (cs ++ c ∷ []) (ws ++ w ∷ []) (xs ++ x ∷ [])
all_carry_more link port destination [] [] [] c w x all one = (one, tt)
all_carry_more link port destination [] [] (y ∷ ys) c w x all one = absurd all
all_carry_more link port destination [] (v ∷ vs) [] c w x all one = absurd all
all_carry_more link port destination [] (v ∷ vs) (y ∷ ys) c w x all one = absurd all
all_carry_more link port destination (d ∷ ds) [] [] c w x all one = absurd all
all_carry_more link port destination (d ∷ ds) [] (y ∷ ys) c w x all one = absurd all
all_carry_more link port destination (d ∷ ds) (v ∷ vs) [] c w x all one = absurd all
all_carry_more link port destination (d ∷ ds) (v ∷ vs) (y ∷ ys) c w x all one = (all.0, all_carry_more link port destination ds vs ys c w x all.1 one)

-- Counts.

rose : (b : Bool) (before now after : ℕ) → CountsLost b before now → now ≤ after → Rose now after → CountsLost true before after
rose true before now after was up is = (omega (arith, was.0), omega (arith, was.0, is))
rose false before now after was up is = (omega (arith, was), subst (λ (k : ℕ). Rose k after) was is)

steady : (b : Bool) (before now after : ℕ) → CountsLost b before now → after ≡ now → CountsLost b before after
steady b before now after was is = subst (CountsLost b before) (sym is) was

or_false : (b : Bool) → b ≡ (b || false)
or_false true = refl
or_false false = refl

or_true : (b : Bool) → true ≡ (b || true)
or_true true = refl
or_true false = refl

counted_back : {B : Type 0} (b : Bool) (before now after : ℕ) (break : Break) (sent : List (Sent B)) (reads writes : ℕ) → CountsLost b before now → CountsBack now after (reads + writes)
    → Counts break sent 0 reads 0 writes → CountsLost (b || has_fault sent) before after
counted_back b before now after unbroken sent reads writes was back counts =
    subst (λ (x : Bool). CountsLost x before after) (or_false b ∙ ap (λ (x : Bool). b || x) (sym counts.0)) (steady b before now after was (back.stays (omega (arith, counts.1, counts.2))))
counted_back b before now after in_write sent reads writes was back counts =
    subst (λ (x : Bool). CountsLost x before after) (or_true b ∙ ap (λ (x : Bool). b || x) (sym counts.0)) (rose b before now after was back.never_falls (back.rises (omega (arith, counts.2))))
counted_back b before now after in_read sent reads writes was back counts =
    subst (λ (x : Bool). CountsLost x before after) (or_true b ∙ ap (λ (x : Bool). b || x) (sym counts.0)) (rose b before now after was back.never_falls (back.rises (omega (arith, counts.1))))

from_fresh : {B : Type 0} (break : Break) (sent : List (Sent B)) (r r' w w' : ℕ) → r ≡ 0 → w ≡ 0 → Counts break sent r r' w w' → Counts break sent 0 r' 0 w'
from_fresh break sent r r' w w' zr zw is = subst (λ (k : ℕ). Counts break sent 0 r' k w') zw (subst (λ (k : ℕ). Counts break sent k r' w w') zr is)

-- Between two dials.

end_is : (stop : End) (r : Request) (spent : ℕ) (r' : Request) (spent' : ℕ) → r ≡ r' → spent ≡ spent' → end_after stop r spent ≡ (if asks_again stop r' spent' then None else Some stop)
end_is stop r spent r' spent' e k = ap (λ (x : Request). end_after stop x spent) e ∙ ap (λ (n : ℕ). end_after stop r' n) k

-- the request is not sent again: so it ends
pub ends_as : {B : Type 0} (e : ListenEnd) (s : Session B) (r : Request) (spent : ℕ) → StaysAt e ((s.request ≡ r) × (s.spent ≡ spent)) → is_again e r spent ≡ false → Leads s e → EndsAs s.end e
ends_as answer.Done s r spent at ends leads = leads.0
ends_as (answer.Fault code text) s r spent at ends leads = leads.0
ends_as (answer.BadReply n) s r spent at ends leads =
    leads.0 ∙ end_is (by_bad n) s.request s.spent r spent at.0 at.1 ∙ ap (λ (b : Bool). if b then None else Some (by_bad n)) ends
ends_as answer.LinkFault s r spent at ends leads =
    leads.0 ∙ end_is by_link s.request s.spent r spent at.0 at.1 ∙ ap (λ (b : Bool). if b then None else Some by_link) ends
ends_as answer.WriteFault s r spent at ends leads = leads
ends_as answer.Memory s r spent at ends leads = leads

-- it is sent again: nothing ended, and no link is open
pub record Unended {B : Type 0} (s : Session B) : Type 0 where
  pub unlinked : s.link ≡ None
  pub open_end : s.end ≡ None

pub waits_on : {B : Type 0} (e : ListenEnd) (s : Session B) (r : Request) (spent : ℕ) → StaysAt e ((s.request ≡ r) × (s.spent ≡ spent)) → is_again e r spent ≡ true → Leads s e → Unended s
waits_on answer.Done s r spent at so leads = absurd cc
waits_on (answer.Fault code text) s r spent at so leads = absurd cc
waits_on (answer.BadReply n) s r spent at so leads = record {
  unlinked = leads.1;
  open_end = leads.0 ∙ end_is (by_bad n) s.request s.spent r spent at.0 at.1 ∙ ap (λ (b : Bool). if b then None else Some (by_bad n)) so;
}
waits_on answer.LinkFault s r spent at so leads = record {
  unlinked = leads.1;
  open_end = leads.0 ∙ end_is by_link s.request s.spent r spent at.0 at.1 ∙ ap (λ (b : Bool). if b then None else Some by_link) so;
}
waits_on answer.WriteFault s r spent at so leads = absurd cc
waits_on answer.Memory s r spent at so leads = absurd cc

stays_with : {A C : Type 0} (e : ListenEnd) → (A → C) → StaysAt e A → StaysAt e C
stays_with answer.Done f a = tt
stays_with (answer.Fault code text) f a = tt
stays_with (answer.BadReply n) f a = f a
stays_with answer.LinkFault f a = f a
stays_with answer.WriteFault f a = tt
stays_with answer.Memory f a = tt

again_at : {A : Type 0} (e : ListenEnd) (r : Request) (spent : ℕ) → is_again e r spent ≡ true → StaysAt e A → A
again_at answer.Done r spent so a = absurd cc
again_at (answer.Fault code text) r spent so a = absurd cc
again_at (answer.BadReply n) r spent so a = a
again_at answer.LinkFault r spent so a = a
again_at answer.WriteFault r spent so a = absurd cc
again_at answer.Memory r spent so a = absurd cc

spelled_at : (xs : List Graph) (a b : List ℕ) (e : ListenEnd) (r : Request) (spent : ℕ) → is_again e r spent ≡ true → Wrote xs a b e → HasSpelled xs a b
spelled_at xs a b answer.Done r spent so w = absurd cc
spelled_at xs a b (answer.Fault code text) r spent so w = absurd cc
spelled_at xs a b (answer.BadReply n) r spent so w = w
spelled_at xs a b answer.LinkFault r spent so w = w
spelled_at xs a b answer.WriteFault r spent so w = absurd cc
spelled_at xs a b answer.Memory r spent so w = absurd cc

last_true : (b c : Bool) → (b && c) ≡ true → c ≡ true
last_true true c e = e
last_true false c e = absurd cc

few_left : (spent : ℕ) → nat_lt spent 3 ≡ true → spent ≤ 2
few_left spent e = grind (arith, nat_tests)

pub few_spent : (e : ListenEnd) (r : Request) (spent : ℕ) → is_again e r spent ≡ true → spent ≤ 2
few_spent answer.Done r spent so = absurd cc
few_spent (answer.Fault code text) r spent so = absurd cc
few_spent (answer.BadReply n) r spent so = few_left spent (last_true _ _ so)
few_spent answer.LinkFault r spent so = few_left spent (last_true _ _ so)
few_spent answer.WriteFault r spent so = absurd cc
few_spent answer.Memory r spent so = absurd cc

-- the dials of one request more
pub record Spends (old new : Stand) : Type 0 where
  pub request : new.request ≡ old.request
  pub spent : new.spent ≡ old.spent + 1
  pub ds_id : new.ds_id ≡ old.ds_id
  pub taker : new.taker ≡ old.taker
  pub bytes : new.bytes ≡ old.bytes

module _ {D L : Type 0} (dial : DialMembers D L) (link : LinkMembers L) (port : ℕ) (destination : List ℕ) (most : ℕ) (before d1 d2 d3 : D) (state : Session Graph)
    (stands : Stands dial link port destination before d1 state) where
  -- the dial failed
  pub record Failed : Type 0 where
    pub tells : dial.tells d2 → dial.tells d1
    pub asked : dial.tells d2 → dial.asked d2 ≡ dial.asked d1 ++ port ∷ []
    pub coming : dial.tells d2 → dial.coming d2 ≡ dial.coming d1
    pub links : dial.tells d2 → dial.links d2 ≡ dial.links d1
    pub counted : (dial.faults d1 ≤ dial.faults d2) × Rose (dial.faults d1) (dial.faults d2)

  -- the state behind a dial that failed
  abbrev pub behind : Session Graph
  behind = lost (dials_again state)

  to_behind : listen_from most (no_link ∷ []) state ≡ behind
  to_behind = ap (λ (e : Option End). unless_ended most e no_link state) stands.open_end ∙ ap (λ (l : Option (List (Sent Graph))). missed l state) stands.unlinked

  pub dial_failed : (old new : Stand) (told : Type 0) (held : List ℕ) → Spends old new → Shows port destination old state → IsReady most old.request old.taker → IsText old.ds_id → old.spent ≤ 2
      → Failed → Dialled dial link port destination most before d2 old new told held held answer.LinkFault state (listen_from most (no_link ∷ []) state)
  dial_failed old new told held spends shows ready text few f =
      let was : Listened dial link port destination before d1 state = stands.listened in
      subst (λ (x : Session Graph). Dialled dial link port destination most before d2 old new told held held answer.LinkFault state x) (sym to_behind)
      (record {
        listened = record {
          came = was.came;
          went = was.went;
          told = λ t. was.told (f.tells t);
          asked = λ t. asked_once (dial.asked before) (dial.asked d1) (dial.asked d2) port state.dials (was.asked (f.tells t)) (f.asked t);
          gave = λ t. was.gave (f.tells t) ∙ ap (λ (l : List L). was.came ++ l) (sym (f.coming t));
          took_back = λ t. f.links t ∙ was.took_back (f.tells t);
          carry = subst (λ (l : List (List (Sent Graph))). AllCarry link port destination was.came was.went l)
              (sym (append-nil (all_links state))) was.carry;
          counts = rose state.has_lost (dial.faults before) (dial.faults d1) (dial.faults d2) was.counts f.counted.0 f.counted.1;
        };
        leads = (refl, refl);
        written = record { more = []; written = sym (append-nil state.written); wrote = λ t. ([], refl, sym (append-nil held)) };
        again = record {
          shows = record {
            request = shows.request ∙ sym spends.request;
            spent = ap (λ (k : ℕ). k + 1) shows.spent ∙ sym spends.spent;
            ds_id = shows.ds_id ∙ sym spends.ds_id;
            asks = shows.asks ∙ sym spends.taker;
            bytes = rw (spends.ds_id, spends.request, spends.bytes) shows.bytes;
          };
          ready = rw (spends.request, spends.taker) ready;
          text = rw spends.ds_id text;
          few = omega (arith, spends.spent);
          later = rw (spends.request) (omega (arith, spends.spent));
        };
      })

  -- nothing was dialled, or there was no memory
  pub record Same : Type 0 where
    pub tells : dial.tells d2 → dial.tells d1
    pub asked : dial.tells d2 → dial.asked d2 ≡ dial.asked d1
    pub coming : dial.tells d2 → dial.coming d2 ≡ dial.coming d1
    pub links : dial.tells d2 → dial.links d2 ≡ dial.links d1
    pub counted : dial.faults d2 ≡ dial.faults d1

  same_listened : Same → Listened dial link port destination before d2 state
  same_listened f =
      let was : Listened dial link port destination before d1 state = stands.listened in
      record {
        came = was.came;
        went = was.went;
        told = λ t. was.told (f.tells t);
        asked = λ t. f.asked t ∙ was.asked (f.tells t);
        gave = λ t. was.gave (f.tells t) ∙ ap (λ (l : List L). was.came ++ l) (sym (f.coming t));
        took_back = λ t. f.links t ∙ was.took_back (f.tells t);
        carry = was.carry;
        counts = steady state.has_lost (dial.faults before) (dial.faults d1) (dial.faults d2) was.counts f.counted;
      }

  pub dial_starved : (old new : Stand) (told : Type 0) (held : List ℕ) → Same → Dialled dial link port destination most before d2 old new told held held answer.Memory state state
  dial_starved old new told held f = record {
    listened = same_listened f;
    leads = inl stands.open_end;
    written = record { more = []; written = sym (append-nil state.written); wrote = λ t. ([], [], refl, ([], refl, sym (append-nil held))) };
    again = tt;
  }

  -- it gave a link, which was taken back
  pub record Gives (came went : L) : Type 0 where
    pub tells : dial.tells d2 → dial.tells d1
    pub asked : dial.tells d2 → dial.asked d2 ≡ dial.asked d1 ++ port ∷ []
    pub coming : dial.tells d2 → dial.coming d1 ≡ came ∷ dial.coming d2
    pub links : dial.tells d2 → dial.links d2 ≡ dial.links d1
    pub counted : dial.faults d2 ≡ dial.faults d1
    pub tells_back : dial.tells d3 → dial.tells d2
    pub asked_back : dial.tells d3 → dial.asked d3 ≡ dial.asked d2
    pub coming_back : dial.tells d3 → dial.coming d3 ≡ dial.coming d2
    pub links_back : dial.tells d3 → dial.links d3 ≡ dial.links d2 ++ went ∷ []
    pub counted_so : CountsBack (dial.faults d2) (dial.faults d3) (link.read_faults went + link.write_faults went)

  stays_later : (e : ListenEnd) (began start : ℕ) (code : Stand) (s : Session Graph) → start ≤ began → StaysAt e (Again port destination most began code s) → StaysAt e (Again port destination most start code s)
  stays_later answer.Done began start code s less is = tt
  stays_later (answer.Fault c t) began start code s less is = tt
  stays_later (answer.BadReply n) began start code s less is = record { shows = is.shows; ready = is.ready; text = is.text; few = is.few; later = omega (arith, is.later) }
  stays_later answer.LinkFault began start code s less is = record { shows = is.shows; ready = is.ready; text = is.text; few = is.few; later = omega (arith, is.later) }
  stays_later answer.WriteFault began start code s less is = tt
  stays_later answer.Memory began start code s less is = tt

  pub dial_used : (came went : L) (old mid new : Stand) (told : Type 0) (held now : List ℕ) (e : ListenEnd) → Gives came went → Spends old mid → Shows port destination old state
      → (more : List (Turn Graph)) → AreTurns more → Over link port destination most came went mid new told held now e (opens most state) (listen_from most more (opens most state))
      → Dialled dial link port destination most before d3 old new told held now e state (listen_from most more state)
  unfolding opens
  dial_used came went old mid new told held now e f spends shows more are over =
      let was : Listened dial link port destination before d1 state = stands.listened in
      let to : listen_from most more state ≡ listen_from most more (opens most state) = at_a_link most more are state stands.unlinked stands.open_end in
      let none : all_links state ≡ state.links = ap (λ (l : Option (List (Sent Graph))). state.links ++ opened l) stands.unlinked ∙ append-nil state.links in
      let c : Carries link port destination came went over.used.sent = over.used.carries in
      subst (λ (x : Session Graph). Dialled dial link port destination most before d3 old new told held now e state x) (sym to)
      (record {
        listened = record {
          came = was.came ++ came ∷ [];
          went = was.went ++ went ∷ [];
          told = λ t. was.told (f.tells (f.tells_back t));
          asked = λ t. asked_once (dial.asked before) (dial.asked d1) (dial.asked d3) port state.dials (was.asked (f.tells (f.tells_back t))) (f.asked_back t ∙ f.asked (f.tells_back t))
              ∙ ap (λ (k : ℕ). dial.asked before ++ repeated port k) (sym over.used.dials);
          gave = λ t. was.gave (f.tells (f.tells_back t)) ∙ ap (λ (l : List L). was.came ++ l) (f.coming (f.tells_back t)) ∙ sym (append_assoc was.came (came ∷ []) (dial.coming d2))
              ∙ ap (λ (l : List L). (was.came ++ came ∷ []) ++ l) (sym (f.coming_back t));
          took_back = λ t. f.links_back t ∙ ap (λ (l : List L). l ++ went ∷ []) (f.links (f.tells_back t) ∙ was.took_back (f.tells (f.tells_back t))) ∙ append_assoc (dial.links before) was.went (went ∷ []);
          carry = subst (λ (l : List (List (Sent Graph))). AllCarry link port destination (was.came ++ came ∷ []) (was.went ++ went ∷ []) l)
              (ap (λ (l : List (List (Sent Graph))). l ++ over.used.sent ∷ []) none ∙ sym over.used.links)
              (all_carry_more link port destination was.came was.went (all_links state) came went over.used.sent was.carry c);
          counts = subst (λ (b : Bool). CountsLost b (dial.faults before) (dial.faults d3)) (sym over.used.lost)
              (counted_back state.has_lost (dial.faults before) (dial.faults d2) (dial.faults d3) c.break over.used.sent (link.read_faults went) (link.write_faults went)
              (steady state.has_lost (dial.faults before) (dial.faults d1) (dial.faults d2) was.counts f.counted) f.counted_so
              (from_fresh c.break over.used.sent (link.read_faults came) (link.read_faults went) (link.write_faults came) (link.write_faults went) c.fresh.0 c.fresh.1 c.counts));
        };
        leads = over.leads;
        written = record { more = over.written.more; written = over.written.written; wrote = over.written.wrote };
        again = stays_later e (reached most mid) (reached most old + 1) new (listen_from most more (opens most state))
            (rw spends.request (omega (arith, spends.spent))) over.again;
      })

  shows_opened : (old mid : Stand) → Spends old mid → Shows port destination old state → Shows port destination mid (opens most state)
  unfolding opens
  shows_opened old mid spends shows = record {
    request = shows.request ∙ sym spends.request;
    spent = ap (λ (k : ℕ). k + 1) shows.spent ∙ sym spends.spent;
    ds_id = shows.ds_id ∙ sym spends.ds_id;
    asks = shows.asks ∙ sym spends.taker;
    bytes = rw (spends.ds_id, spends.request, spends.bytes) shows.bytes;
  }

  pub dial_gave : (came went : L) (old mid new : Stand) (told : Type 0) (held now : List ℕ) (e : ListenEnd) → Gives came went → Spends old mid → Shows port destination old state
      → RunsOver link port destination most came went mid new told held now e → (turns : List (Turn Graph)) × Dialled dial link port destination most before d3 old new told held now e state (listen_from most turns state)
  dial_gave came went old mid new told held now e f spends shows over =
      let x = over (opens most state) (shows_opened old mid spends shows) (opens_linked most state) (opens_end most state stands.open_end) in
      (x.0, dial_used came went old mid new told held now e f spends shows x.0 x.1 x.2)

-- Dials, one after another.

-- the first request is ready
pub first_ready : (port : ℕ) (destination : List ℕ) (most : ℕ) (code : Stand) → Shows port destination code first_session → IsReady most code.request code.taker
first_ready port destination most code shows =
    subst (λ (r : Request). IsReady most r code.taker) shows.request (let asks : 1 ≡ code.taker = shows.asks in omega arith)

-- nothing but a write of the output counts there
pub counted_on : (e : ListenEnd) (r : Request) (spent : ℕ) → is_again e r spent ≡ true → (before now : ℕ) → CountsOutput before now e → now ≡ before
counted_on answer.Done r spent so before now c = c
counted_on (answer.Fault code text) r spent so before now c = c
counted_on (answer.BadReply n) r spent so before now c = c
counted_on answer.LinkFault r spent so before now c = c
counted_on answer.WriteFault r spent so before now c = absurd cc
counted_on answer.Memory r spent so before now c = c

module _ {D L : Type 0} (dial : DialMembers D L) (link : LinkMembers L) (port : ℕ) (destination : List ℕ) (most : ℕ) (before : D) (held : List ℕ) where
  -- a session that waits for its next dial, with what the output has taken
  pub record Waits (now : D) (code : Stand) (told : Type 0) (holds : List ℕ) (turns : List (Turn Graph)) : Type 0 where
    pub stands : Stands dial link port destination before now (listen most turns)
    pub shows : Shows port destination code (listen most turns)
    pub spelled : told → HasSpelled (listen most turns).written held holds

  -- before the first dial
  pub waits_first : (code : Stand) (told : Type 0) → Shows port destination code first_session → Waits before code told held []
  waits_first code told shows = record {
    stands = record {
      listened = record {
        came = [];
        went = [];
        told = λ t. t;
        asked = λ t. sym (append-nil (dial.asked before));
        gave = λ t. refl;
        took_back = λ t. sym (append-nil (dial.links before));
        carry = tt;
        counts = refl;
      };
      unlinked = refl;
      open_end = refl;
    };
    shows = shows;
    spelled = λ t. ([], refl, sym (append-nil held));
  }

  module _ (now next : D) (code new : Stand) (told tells : Type 0) (holds holds' : List ℕ) (e : ListenEnd) (turns more : List (Turn Graph)) (w : Waits now code told holds turns)
      (d : Dialled dial link port destination most before next code new tells holds holds' e (listen most turns) (listen_from most more (listen most turns))) (back : tells → told) where
    to_more : listen most (turns ++ more) ≡ listen_from most more (listen most turns)
    to_more = more_turns most turns more first_session

    at : StaysAt e (((listen_from most more (listen most turns)).request ≡ new.request) × ((listen_from most more (listen most turns)).spent ≡ new.spent))
    at = stays_with e (λ (a : Again port destination most (reached most code + 1) new (listen_from most more (listen most turns))). (a.shows.request, a.shows.spent)) d.again

    pub to_its_end : is_again e new.request new.spent ≡ false
        → Listened dial link port destination before next (listen most (turns ++ more)) × EndsAs (listen most (turns ++ more)).end e × (tells → Wrote (listen most (turns ++ more)).written held holds' e)
    to_its_end ends =
        subst (λ (x : Session Graph). Listened dial link port destination before next x × EndsAs x.end e × (tells → Wrote x.written held holds' e)) (sym to_more) (
          d.listened,
          ends_as e (listen_from most more (listen most turns)) new.request new.spent at ends d.leads,
          λ t. subst (λ (l : List Graph). Wrote l held holds' e) (sym d.written.written) (wrote_more (listen most turns).written d.written.more held holds holds' e (w.spelled (back t)) (d.written.wrote t)),
        )

    pub to_the_next : is_again e new.request new.spent ≡ true → Waits next new tells holds' (turns ++ more)
    to_the_next so =
        let u : Unended (listen_from most more (listen most turns)) = waits_on e (listen_from most more (listen most turns)) new.request new.spent at so d.leads in
        let a : Again port destination most (reached most code + 1) new (listen_from most more (listen most turns)) = again_at e new.request new.spent so d.again in
        record {
          stands = subst (λ (x : Session Graph). Stands dial link port destination before next x) (sym to_more) (record { listened = d.listened; unlinked = u.unlinked; open_end = u.open_end });
          shows = subst (λ (x : Session Graph). Shows port destination new x) (sym to_more) a.shows;
          spelled = λ t. subst (λ (x : Session Graph). HasSpelled x.written held holds') (sym to_more)
              (subst (λ (l : List Graph). HasSpelled l held holds') (sym d.written.written)
              (spelled_more (listen most turns).written d.written.more held holds holds' (w.spelled (back t)) (spelled_at d.written.more holds holds' e new.request new.spent so (d.written.wrote t))));
        }

    pub further : is_again e new.request new.spent ≡ true → Again port destination most (reached most code + 1) new (listen_from most more (listen most turns))
    further so = again_at e new.request new.spent so d.again

-- nothing was done
pub nothing_done : {D L : Type 0} (dial : DialMembers D L) (link : LinkMembers L) (port : ℕ) (destination : List ℕ) (most : ℕ) (d : D) (told : Type 0) (held : List ℕ)
    → (turns : List (Turn Graph)) × Listened dial link port destination d d (listen most turns) × EndsAs (listen most turns).end answer.Memory × (told → Wrote (listen most turns).written held held answer.Memory)
nothing_done dial link port destination most d told held = (
  [],
  record {
    came = [];
    went = [];
    told = λ t. t;
    asked = λ t. sym (append-nil (dial.asked d));
    gave = λ t. refl;
    took_back = λ t. sym (append-nil (dial.links d));
    carry = tt;
    counts = refl;
  },
  inl refl,
  λ t. ([], [], refl, ([], refl, sym (append-nil held))),
)
