-- Messages answered one after another.
use Rattle.std.proofs.Common.{◌≡◌, ◌∙◌, ℕ, zero, suc, ◌+◌, ◌<◌, ◌≤◌, ◌^◌, Bool, true, false, List, [], ◌∷◌, ◌++◌, length, map, drop, get_or, add-one, refl, sym, ap, subst, arith, length-append, append_assoc}
use Rattle.std.specs.Prelude.{codes, ◌||◌}
use Rattle.std.specs.List.{AllByRecursion, AllZip, concat, list_any}
use Rattle.std.proofs.lemmas.Bool.{ltb-false}
use Rattle.std.proofs.lemmas.List.{append-nil}
use Rattle.amf_wire.specs.Style.{canonical}
use Rattle.amf_wire.specs.Text.{IsUnit, IsText}
use Rattle.amf_wire.proofs.TextTest.{is_text-is}
use Rattle.amf_graph.proofs.Alls.{all_append}
use Rattle.amf_packet.specs.declared.packet.Message.{Message as KeptMessage}
use Rattle.amf_packet.specs.declared.packet.Packet.{Packet as KeptPacket}
use Rattle.amf_packet.specs.Content.{message_of, packet_of}
use Rattle.amf_packet.specs.declared.write_spelled.SpelledMessage.{SpelledMessage}
use Rattle.amf_packet.specs.Packet.{Message, Packet, SpelledPacket}
use Rattle.amf_packet.specs.SpelledBodies.{IsBodySpelledAlike, IsSpelledMessage, IsSpelledAs, HasFitUris}
use Rattle.amf_service.specs.Registry.{Entry}
use Rattle.amf_answer_plan.specs.declared.message_answer.MessageAnswer.{MessageAnswer}
use Rattle.amf_packet.specs.Alike.{MessagesMatch}
use Rattle.amf_gateway.specs.Answered.{HasRoom, AnswersBack, SaysMessages, SaysPacket}
use Rattle.amf_answer_plan.specs.Says.{AnswersMessage, Says}
use Rattle.amf_answer_plan.specs.Did.{Drawn, Ran, Stopped}
use Rattle.amf_answer_plan.specs.Packets.{null_uri, answer_to, suffix, message_back, messages_back, packet_back, answers_to, is_long}
use Rattle.amf_answer_plan.specs.Plan.{Plan, gives, ◌>>=◌}
use Rattle.amf_answer_plan.specs.Replies.{Answer}
use Rattle.amf_answer_plan.proofs.Doing.{HandsNone, HandsBoth, ran_then, ran_nothing, stopped_first, stopped_then, stopped_between}

-- the message that was made is the spelling of the one that is said
pub back_matches : (response : List ℕ) (x : MessageAnswer) (y : Answer) (m : SpelledMessage) → AnswersMessage x y → m.target ≡ response ++ suffix x.well → m.response ≡ null_uri → m.body ≡ x.body → AnswersBack (message_back response y) m
back_matches response x y m is target null body = record {
  target = ap (λ (w : Bool). response ++ suffix w) (sym is.well) ∙ sym target;
  response = sym null;
  body = subst (λ z. IsBodySpelledAlike y.body z) (sym body) is.body;
}

zip_push : {X Y : Type 0} (R : X → Y → Type 0) (xs : List X) (ys : List Y) (x : X) (y : Y) → AllZip R xs ys → R x y → AllZip R (xs ++ x ∷ []) (ys ++ y ∷ [])
zip_push R [] [] x y m n = (n, tt)
zip_push R [] (z ∷ ys) x y m n = absurd m
zip_push R (z ∷ xs) [] x y m n = absurd m
zip_push R (z ∷ xs) (w ∷ ys) x y m n = (m.0, zip_push R xs ys x y m.1 n)

all_push : {X : Type 0} (P : X → Type 0) (xs : List X) (x : X) → AllByRecursion P xs → P x → AllByRecursion P (xs ++ x ∷ [])
all_push P [] x h p = (p, tt)
all_push P (y ∷ xs) x h p = (h.0, all_push P xs x h.1 p)

-- some first messages were answered, and these are still to come
pub record AnsweredSo {O : Type 0} (handed : O → O → Drawn → Type 0) (services : List Entry) (start now : O) (all rest : List Message) (back : List SpelledMessage) : Type 0 where
  pub done : List Message
  pub match : AllZip AnswersBack done back
  pub goes_on : (c : O) (ys : List Message) → Ran handed (messages_back services rest) now c ys → Ran handed (messages_back services all) start c (done ++ ys)
  pub stops : (c : O) → Stopped handed (messages_back services rest) now c → Stopped handed (messages_back services all) start c
  pub uris : AllByRecursion HasFitUris back
  pub count : length back + length rest ≡ length all

module _ {O : Type 0} (handed : O → O → Drawn → Type 0) (none : HandsNone handed) (both : HandsBoth handed) (services : List Entry) where
  -- what follows the answer to a message
  abbrev pub then_rest : Message → List Message → Answer → Plan (List Message)
  then_rest m ms y = ◌>>=◌ (messages_back services ms) (λ back. gives (message_back m.response y ∷ back))

  message_then : (m : Message) (ms : List Message) (a b c : O) (x : Answer) (ys : List Message) → Ran handed (answer_to services m) a b x → Ran handed (messages_back services ms) b c ys → Ran handed (messages_back services (m ∷ ms)) a c (message_back m.response x ∷ ys)
  message_then m ms a b c x ys r s =
      ran_then handed both (answer_to services m) (then_rest m ms) a b c x (message_back m.response x ∷ ys) r
      (ran_then handed both (messages_back services ms) (λ back. gives (message_back m.response x ∷ back)) b c c ys (message_back m.response x ∷ ys) s
      (ran_nothing handed none (gives (message_back m.response x ∷ ys)) c (message_back m.response x ∷ ys) (refl, refl)))

  pub answered_none : (start : O) (all : List Message) (back : List SpelledMessage) → back ≡ [] → AnsweredSo handed services start start all all back
  answered_none start all back e = subst (λ (z : List SpelledMessage). AnsweredSo handed services start start all all z) (sym e) (record { done = []; match = tt; goes_on = λ c ys r. r; stops = λ c s. s; uris = tt; count = omega arith })

  answered_one : (start now next : O) (all rest : List Message) (back : List SpelledMessage) (m : Message) (x : MessageAnswer) (y : SpelledMessage) → AnsweredSo handed services start now all (m ∷ rest) back → (s : Says handed (answer_to services m) now next x) → AnswersBack (message_back m.response s.answer) y → HasFitUris y → AnsweredSo handed services start next all rest (back ++ y ∷ [])
  answered_one start now next all rest back m x y so s same fits = record {
    done = so.done ++ message_back m.response s.answer ∷ [];
    match = zip_push AnswersBack so.done back (message_back m.response s.answer) y so.match same;
    goes_on = λ c ys r.
        subst (λ z. Ran handed (messages_back services all) start c z) (sym (append_assoc so.done (message_back m.response s.answer ∷ []) ys))
        (so.goes_on c (message_back m.response s.answer ∷ ys) (message_then m rest now next c s.answer ys s.ran r));
    stops = λ c t. so.stops c (stopped_then handed both (answer_to services m) (then_rest m rest) now next c s.answer s.ran (stopped_first handed (messages_back services rest) (λ back. gives (message_back m.response s.answer ∷ back)) next c t));
    uris = all_push HasFitUris back y so.uris fits;
    count = omega (arith, so.count, length-append back (y ∷ []));
  }

  pub answered_more : (start now next : O) (all left rest : List Message) (back after : List SpelledMessage) (m : Message) (x : MessageAnswer) (y : SpelledMessage) → left ≡ m ∷ rest → after ≡ back ++ y ∷ [] → AnsweredSo handed services start now all left back → (s : Says handed (answer_to services m) now next x) → AnswersBack (message_back m.response s.answer) y → HasFitUris y → AnsweredSo handed services start next all rest after
  answered_more start now next all left rest back after m x y e f so s same fits =
      subst (λ (z : List SpelledMessage). AnsweredSo handed services start next all rest z) (sym f)
      (answered_one start now next all rest back m x y (subst (λ (z : List Message). AnsweredSo handed services start now all z back) e so) s same fits)

  -- a message was begun, and no more
  pub stopped_in : (start now next : O) (all left rest : List Message) (back : List SpelledMessage) (m : Message) → left ≡ m ∷ rest → AnsweredSo handed services start now all left back → Stopped handed (answer_to services m) now next → Stopped handed (messages_back services all) start next
  stopped_in start now next all left rest back m e so s =
      let at = subst (λ (z : List Message). AnsweredSo handed services start now all z back) e so in
      at.stops next (stopped_first handed (answer_to services m) (then_rest m rest) now next s)

  -- a message was answered, and no more
  pub stopped_behind : (start now next : O) (all left rest : List Message) (back : List SpelledMessage) (m : Message) (x : MessageAnswer) → left ≡ m ∷ rest → AnsweredSo handed services start now all left back → Says handed (answer_to services m) now next x → Stopped handed (messages_back services all) start next
  stopped_behind start now next all left rest back m x e so s =
      let at = subst (λ (z : List Message). AnsweredSo handed services start now all z back) e so in
      at.stops next (stopped_between handed none both (answer_to services m) (then_rest m rest) now next s.answer s.ran)

  pub answered_all : (start now : O) (all left : List Message) (back : List SpelledMessage) → left ≡ [] → AnsweredSo handed services start now all left back → SaysMessages handed (messages_back services all) start now back
  answered_all start now all left back e there =
      let so : AnsweredSo handed services start now all [] back = subst (λ (z : List Message). AnsweredSo handed services start now all z back) e there in
      record {
        messages = so.done;
        match = so.match;
        ran = subst (λ z. Ran handed (messages_back services all) start now z) (append-nil so.done) (so.goes_on now [] (ran_nothing handed none (gives []) now [] (refl, refl)));
      }

-- the next message is taken
pub next_one : (ms : List KeptMessage) (k : ℕ) (m : KeptMessage) → k < length ms → m ≡ get_or ms k m → drop k ms ≡ m ∷ drop (suc k) ms
next_one [] k m l e = absurd (omega (arith, l))
next_one (x ∷ ms) zero m l e = ap (λ z. z ∷ ms) (sym e)
next_one (x ∷ ms) (suc k) m l e = next_one ms k m (omega (arith, l)) e

pub next_told : (ms : List KeptMessage) (k : ℕ) (m : KeptMessage) → k < length ms → m ≡ get_or ms k m → map message_of (drop k ms) ≡ message_of m ∷ map message_of (drop (k + 1) ms)
next_told ms k m l e = ap (λ xs. map message_of xs) (next_one ms k m l e) ∙ ap (λ n. message_of m ∷ map message_of (drop n ms)) (sym (add-one k))

pub none_told : (ms : List KeptMessage) (k : ℕ) → length ms ≤ k → map message_of (drop k ms) ≡ []
none_told [] zero l = refl
none_told [] (suc k) l = refl
none_told (x ∷ ms) zero l = absurd (omega (arith, l))
none_told (x ∷ ms) (suc k) l = none_told ms k (omega (arith, l))

-- messages of which these are the very spellings
alike_all : (ms : List Message) (ks : List SpelledMessage) → AllZip AnswersBack ms ks → (same : List Message) × AllZip MessagesMatch ms same × AllZip IsSpelledMessage same ks
alike_all [] [] z = ([], tt, tt)
alike_all [] (k ∷ ks) z = absurd z
alike_all (m ∷ ms) [] z = absurd z
alike_all (m ∷ ms) (k ∷ ks) z =
    let rest = alike_all ms ks z.1 in
    let b = z.0.body in
    (record { target = m.target; response = m.response; body = b.0 } ∷ rest.0, (record { target = refl; response = refl; body = b.1 }, rest.1), (record { target = z.0.target; response = z.0.response; body = b.2 }, rest.2))

-- the packet of these messages
pub packet_said : {O : Type 0} (handed : O → O → Drawn → Type 0) → HandsNone handed → HandsBoth handed → (services : List Entry) (p : KeptPacket) (a b : O) (ms : List KeptMessage) (back written : List SpelledMessage) (bytes : List ℕ) → ms ≡ p.messages → written ≡ back →
    SaysMessages handed (messages_back services (map message_of ms)) a b back → ((q : Packet) → IsSpelledAs q p.version written → SpelledPacket canonical q bytes) → SaysPacket handed (answers_to services (packet_of p)) a b bytes
packet_said handed none both services p a b ms back written bytes e f told spells =
    let s : SaysMessages handed (messages_back services (map message_of p.messages)) a b written = subst (λ (ks : List SpelledMessage). SaysMessages handed (messages_back services (map message_of p.messages)) a b ks) (sym f) (subst (λ (z : List KeptMessage). SaysMessages handed (messages_back services (map message_of z)) a b back) e told) in
    let same = alike_all s.messages written s.match in
    let q : Packet = packet_back p.version same.0 in
    record {
      packet = packet_back p.version s.messages;
      packed = (q, record { version = refl; headers = tt; messages = same.1 }, spells q (record { version = refl; no_headers = refl; messages = same.2 }));
      ran = ran_then handed both (messages_back services (map message_of p.messages)) (λ ms. gives (packet_back p.version ms)) a b b s.messages (packet_back p.version s.messages) s.ran
          (ran_nothing handed none (gives (packet_back p.version s.messages)) b (packet_back p.version s.messages) (refl, refl));
    }

pub packet_stopped : {O : Type 0} (handed : O → O → Drawn → Type 0) (services : List Entry) (p : KeptPacket) (a b : O) (ms : List KeptMessage) → ms ≡ p.messages → Stopped handed (messages_back services (map message_of ms)) a b → Stopped handed (answers_to services (packet_of p)) a b
packet_stopped handed services p a b ms e s =
    stopped_first handed (messages_back services (map message_of p.messages)) (λ xs. gives (packet_back p.version xs)) a b
    (subst (λ (z : List KeptMessage). Stopped handed (messages_back services (map message_of z)) a b) e s)

-- the messages were answered, and their packet was not made
pub packet_between : {O : Type 0} (handed : O → O → Drawn → Type 0) → HandsNone handed → HandsBoth handed → (services : List Entry) (p : KeptPacket) (a b : O) (ms : List KeptMessage) (back : List SpelledMessage) → ms ≡ p.messages → SaysMessages handed (messages_back services (map message_of ms)) a b back → Stopped handed (answers_to services (packet_of p)) a b
packet_between handed none both services p a b ms back e told =
    let s : SaysMessages handed (messages_back services (map message_of p.messages)) a b back = subst (λ (z : List KeptMessage). SaysMessages handed (messages_back services (map message_of z)) a b back) e told in
    stopped_between handed none both (messages_back services (map message_of p.messages)) (λ xs. gives (packet_back p.version xs)) a b s.messages s.ran

-- A suffix fits behind a response URI.

suffix_short : (well : Bool) → length (suffix well) ≡ 9
suffix_short true = refl
suffix_short false = refl

suffix_text : (well : Bool) → IsText (suffix well)
suffix_text true = (is_text-is (codes "/onResult")).0 refl
suffix_text false = (is_text-is (codes "/onStatus")).0 refl

concat_append : (us vs : List (List ℕ)) → concat (us ++ vs) ≡ concat us ++ concat vs
concat_append [] vs = refl
concat_append (u ∷ us) vs = ap (λ (x : List ℕ). u ++ x) (concat_append us vs) ∙ sym (append_assoc u (concat us) (concat vs))

text_append : (x y : List ℕ) → IsText x → IsText y → IsText (x ++ y)
text_append x y (us, a, e) (vs, b, f) = (us ++ vs, all_append IsUnit us vs a b, ap (λ z. z ++ y) e ∙ ap (λ z. concat us ++ z) f ∙ sym (concat_append us vs))

-- the URIs of a message that answers one fit
pub back_fits : (response : KeptMessage) (x : MessageAnswer) (m : SpelledMessage) → HasRoom response → m.target ≡ response.response ++ suffix x.well → m.response ≡ null_uri → HasFitUris m
back_fits response x m room target null =
    let short : length m.target < 2 ^ 16 = omega (arith, ap length target, length-append response.response (suffix x.well), suffix_short x.well, room.short) in
    let short_response : length m.response < 2 ^ 16 = omega (arith, ap length null) in
    ((subst IsText (sym target) (text_append response.response (suffix x.well) room.text (suffix_text x.well)), short), ((subst IsText (sym null) ((is_text-is null_uri).0 refl), short_response), tt))

-- Response URIs that leave room for a suffix.

pub any_told : (ms : List KeptMessage) → list_any (λ m. is_long (message_of m)) ms ≡ list_any is_long (map message_of ms)
any_told [] = refl
any_told (m ∷ ms) = ap (λ b. is_long (message_of m) || b) (any_told ms)

pub short_uris : (ms : List KeptMessage) → list_any is_long (map message_of ms) ≡ false → AllByRecursion (λ m. IsText m.response) ms → AllByRecursion HasRoom ms
short_uris [] e t = tt
short_uris (m ∷ ms) e t = go (is_long (message_of m)) refl e (λ f. short_uris ms f t.1)
  where
    go : (b : Bool) → is_long (message_of m) ≡ b → (b || list_any is_long (map message_of ms)) ≡ false → (list_any is_long (map message_of ms) ≡ false → AllByRecursion HasRoom ms) → AllByRecursion HasRoom (m ∷ ms)
    go true i f rest = absurd cc
    go false i f rest = (record { text = t.0; short = let short = ltb-false 65526 (length m.response) i in omega (arith, short) }, rest f)

-- What holds of each message holds of one.
pub at_item : {X : Type 0} (Q : X → Type 0) (xs : List X) (k : ℕ) (x : X) → AllByRecursion Q xs → k < length xs → x ≡ get_or xs k x → Q x
at_item Q [] k x h l e = absurd (omega (arith, l))
at_item Q (y ∷ xs) zero x h l e = subst Q (sym e) h.0
at_item Q (y ∷ xs) (suc k) x h l e = at_item Q xs k x h.1 (omega (arith, l)) e
