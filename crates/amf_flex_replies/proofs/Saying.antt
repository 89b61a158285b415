-- What a Flex request is answered, one plan after another.
use Rattle.std.proofs.Common.{◌≡◌, ◌∙◌, ℕ, List, [], refl, sym, ap, subst, inl, inr, Option, Bool, true, false, decimal}
use Rattle.std.specs.Prelude.{if◌then◌else◌}
use Rattle.amf_broker.specs.declared.call.Call.{Call}
use Rattle.amf_broker.specs.declared.reply.Reply.{Reply as Replied}
use Rattle.amf_broker.specs.History.{Entry as Event}
use Rattle.amf_graph.specs.Graph.{Graph}
use Rattle.flex_msgs.specs.Asked.{Told}
use Rattle.flex_msgs.specs.declared.reply.Reply.{Reply}
use Rattle.amf_answer_plan.specs.declared.message_answer.MessageAnswer.{MessageAnswer}
use Rattle.amf_broker.specs.declared.reply.Reply.TheVariants.{Client, Subscribed}
use Rattle.amf_answer_plan.specs.Commands.{ask, acknowledged, say_subscribed, say_connected, is_new, connect, ping}
use Rattle.amf_answer_plan.specs.Kept.{connect_in}
use Rattle.amf_answer_plan.specs.Did.{Drawn, moment_taken, word_taken, entry_taken, no_answer, both_taken, Ran, Stopped}
use Rattle.amf_answer_plan.specs.Says.{Tells, Says}
use Rattle.amf_answer_plan.specs.Plan.{Plan, whole, ◌>>=◌, moment, spelling_of}
use Rattle.amf_answer_plan.specs.Replies.{Answer, Context, context_of, with_client, reply_with, fresh, acknowledge_null}
use Rattle.amf_answer_plan.specs.Runs.{nothing, gave, Finds, IsSpelling}
use Rattle.amf_answer_plan.specs.Serving.{none_left}
use Rattle.amf_answer_plan.proofs.Doing.{HandsNone, HandsBoth, ran_then, stopped_then, stopped_first, ran_nothing, same_step}

-- What follows what was done.

pub says_told : {O X : Type 0} (handed : O → O → Drawn → Type 0) → HandsNone handed → HandsBoth handed → (p : Plan X) (f : X → Plan Answer) (a b : O) (x : X) (t : MessageAnswer) → Ran handed p a b x → Tells (f x) t → Says handed (◌>>=◌ p f) a b t
says_told handed none hands p f a b x t r told = record {
  answer = told.answer;
  is = told.is;
  ran = ran_then handed hands p f a b b x told.answer r (ran_nothing handed none (f x) b told.answer told.runs);
}

pub says_then : {O X : Type 0} (handed : O → O → Drawn → Type 0) → HandsBoth handed → (p : Plan X) (f : X → Plan Answer) (a b c : O) (x : X) (t : MessageAnswer) → Ran handed p a b x → Says handed (f x) b c t → Says handed (◌>>=◌ p f) a c t
says_then handed hands p f a b c x t r s = record { answer = s.answer; is = s.is; ran = ran_then handed hands p f a b c x s.answer r s.ran }

-- A fresh reply: two words and a moment.

abbrev taken_fresh : ℕ → ℕ → ℕ → Drawn
taken_fresh high low m = both_taken (both_taken (word_taken high) (word_taken low)) (moment_taken m)

handed_fresh : {O : Type 0} (handed : O → O → Drawn → Type 0) → HandsBoth handed → (a b c d : O) (high low m : ℕ) → handed a b (word_taken high) → handed b c (word_taken low) → handed c d (moment_taken m) → handed a d (taken_fresh high low m)
handed_fresh handed hands a b c d high low m h l t = hands a c d (both_taken (word_taken high) (word_taken low)) (moment_taken m) (hands a b c (word_taken high) (word_taken low) h l) t

pub fresh_ran : {O : Type 0} (handed : O → O → Drawn → Type 0) → HandsBoth handed → (k : Context) (client : List ℕ) (a b c d : O) (high low m : ℕ) → handed a b (word_taken high) → handed b c (word_taken low) → handed c d (moment_taken m) →
    (r : Reply) → r ≡ reply_with k client high low m → Ran handed (fresh k client) a d r
fresh_ran handed hands k client a b c d high low m h l t r e = record {
  took = taken_fresh high low m;
  was_handed = handed_fresh handed hands a b c d high low m h l t;
  answered = refl;
  runs = (refl, ap (λ (z : Reply). gave z none_left) e);
}

pub fresh_stopped : {O : Type 0} (handed : O → O → Drawn → Type 0) → HandsBoth handed → (k : Context) (client : List ℕ) (a b c d : O) (high low m : ℕ) → handed a b (word_taken high) → handed b c (word_taken low) → handed c d (moment_taken m) → Stopped handed (fresh k client) a d
fresh_stopped handed hands k client a b c d high low m h l t = record {
  took = taken_fresh high low m;
  was_handed = handed_fresh handed hands a b c d high low m h l t;
  stands = inr (inr (inr (record { at = tt; none = refl; no_more = refl })));
}

-- A call, with its moment before it.

abbrev taken_call : ℕ → Event → Drawn
taken_call m e = both_taken (moment_taken m) (entry_taken e)

pub asked_ran : {O : Type 0} (handed : O → O → Drawn → Type 0) → HandsBoth handed → (a b c : O) (m : ℕ) (call : Call) (e : Event) (r : Replied) → handed a b (moment_taken m) → handed b c (entry_taken e) → e.moment ≡ m → e.call ≡ call → e.answer.reply ≡ r → Ran handed (ask call) a c r
asked_ran handed hands a b c m call e r first second same_moment same_call same_reply = record {
  took = taken_call m e;
  was_handed = hands a b c (moment_taken m) (entry_taken e) first second;
  answered = refl;
  runs = (nothing, (refl, ap (λ (z : Replied). gave z none_left) (sym same_reply)), same_step e.moment m e.call call same_moment same_call);
}

pub asked_stopped : {O : Type 0} (handed : O → O → Drawn → Type 0) → HandsBoth handed → (a b c : O) (m : ℕ) (call : Call) → handed a b (moment_taken m) → handed b c no_answer → Stopped handed (ask call) a c
asked_stopped handed hands a b c m call first second = record {
  took = both_taken (moment_taken m) no_answer;
  was_handed = hands a b c (moment_taken m) no_answer first second;
  stands = inr (inl (record { at = tt; none = refl; no_more = refl }));
}

-- A spelling.

pub spelled_says : {O : Type 0} (handed : O → O → Drawn → Type 0) (g : Graph) (found : Option (List ℕ)) (f : Option (List ℕ) → Plan Answer) (a b : O) (x : MessageAnswer) → Finds (IsSpelling whole g) found → Says handed (f found) a b x → Says handed (◌>>=◌ (spelling_of whole g) f) a b x
spelled_says handed g found f a b x finds s = record {
  answer = s.answer;
  is = s.is;
  ran = record { took = s.ran.took; was_handed = s.ran.was_handed; answered = s.ran.answered; runs = (found, finds, s.ran.runs) };
}

pub spelled_stopped : {O : Type 0} (handed : O → O → Drawn → Type 0) (g : Graph) (found : Option (List ℕ)) (f : Option (List ℕ) → Plan Answer) (a b : O) → Finds (IsSpelling whole g) found → Stopped handed (f found) a b → Stopped handed (◌>>=◌ (spelling_of whole g) f) a b
spelled_stopped handed g found f a b finds s = record { took = s.took; was_handed = s.was_handed; stands = inr (found, finds, s.stands) }

-- What follows a call.

pub made_says : {O : Type 0} (handed : O → O → Drawn → Type 0) → HandsBoth handed → (asks : Call → Plan Replied) (call made : Call) (f : Replied → Plan Answer) (p : Plan Answer) (a b c : O) (r : Replied) (x : MessageAnswer) → made ≡ call → p ≡ f r → Ran handed (asks made) a b r → Says handed p b c x → Says handed (◌>>=◌ (asks call) f) a c x
made_says handed hands asks call made f p a b c r x e same ran says =
    says_then handed hands (asks call) f a b c r x (subst (λ (z : Call). Ran handed (asks z) a b r) e ran) (subst (λ (z : Plan Answer). Says handed z b c x) same says)

pub made_ended : {O : Type 0} (handed : O → O → Drawn → Type 0) → HandsBoth handed → (asks : Call → Plan Replied) (call made : Call) (f : Replied → Plan Answer) (p : Plan Answer) (a b c : O) (r : Replied) → made ≡ call → p ≡ f r → Ran handed (asks made) a b r → Stopped handed p b c → Stopped handed (◌>>=◌ (asks call) f) a c
made_ended handed hands asks call made f p a b c r e same ran s =
    stopped_then handed hands (asks call) f a b c r (subst (λ (z : Call). Ran handed (asks z) a b r) e ran) (subst (λ (z : Plan Answer). Stopped handed z b c) same s)

pub made_first : {O : Type 0} (handed : O → O → Drawn → Type 0) (asks : Call → Plan Replied) (call made : Call) (f : Replied → Plan Answer) (a b : O) → made ≡ call → Stopped handed (asks made) a b → Stopped handed (◌>>=◌ (asks call) f) a b
made_first handed asks call made f a b e s = stopped_first handed (asks call) f a b (subst (λ (z : Call). Stopped handed (asks z) a b) e s)

pub asked_says : {O : Type 0} (handed : O → O → Drawn → Type 0) → HandsBoth handed → (call made : Call) (f : Replied → Plan Answer) (p : Plan Answer) (a b c : O) (r : Replied) (x : MessageAnswer) → made ≡ call → p ≡ f r → Ran handed (ask made) a b r → Says handed p b c x → Says handed (◌>>=◌ (ask call) f) a c x
asked_says handed hands = made_says handed hands ask

pub asked_ended : {O : Type 0} (handed : O → O → Drawn → Type 0) → HandsBoth handed → (call made : Call) (f : Replied → Plan Answer) (p : Plan Answer) (a b c : O) (r : Replied) → made ≡ call → p ≡ f r → Ran handed (ask made) a b r → Stopped handed p b c → Stopped handed (◌>>=◌ (ask call) f) a c
asked_ended handed hands = made_ended handed hands ask

pub asked_first : {O : Type 0} (handed : O → O → Drawn → Type 0) (call made : Call) (f : Replied → Plan Answer) (a b : O) → made ≡ call → Stopped handed (ask made) a b → Stopped handed (◌>>=◌ (ask call) f) a b
asked_first handed = made_first handed ask

-- Replies of which nothing else is said.

pub other_subscribed : (k : Context) (r : Replied) → ((id : ℕ) → r ≡ Subscribed id → ⊥) → acknowledged k [] r ≡ say_subscribed k r
other_subscribed k (Subscribed id) never = absurd (never id refl)
other_subscribed k r never = refl

pub other_connected : (k : Context) (r : Replied) → ((id : ℕ) → r ≡ Client id → ⊥) → acknowledged k [] r ≡ say_connected k r
other_connected k (Client id) never = absurd (never id refl)
other_connected k r never = refl

pub said_subscribed : (k : Context) (r : Replied) (id : ℕ) (x : List ℕ) → r ≡ Subscribed id → x ≡ decimal id → acknowledge_null k x ≡ say_subscribed k r
said_subscribed k r id x e n = ap (λ (y : List ℕ). acknowledge_null k y) n ∙ sym (ap (λ (z : Replied). say_subscribed k z) e)

pub said_connected : (k later : Context) (r : Replied) (id : ℕ) (client empty : List ℕ) → r ≡ Client id → later ≡ with_client client k → client ≡ decimal id → empty ≡ [] → acknowledge_null later empty ≡ say_connected k r
said_connected k later r id client empty e l n none =
    ap (λ (z : Context). acknowledge_null z empty) (l ∙ ap (λ (y : List ℕ). with_client y k) n) ∙ (ap (λ (y : List ℕ). acknowledge_null (with_client (decimal id) k) y) none ∙ sym (ap (λ (z : Replied). say_connected k z) e))

-- Pings.

pub ping_new : (t : Told) (k : Context) → k ≡ context_of t → is_new t.ds_id ≡ true → connect_in k ≡ ping t
ping_new t k e h = ap connect_in e ∙ sym (ap (λ (b : Bool). if b then connect t else acknowledge_null (context_of t) []) h)

pub ping_old : (t : Told) (k : Context) (x : List ℕ) → k ≡ context_of t → x ≡ [] → is_new t.ds_id ≡ false → acknowledge_null k x ≡ ping t
ping_old t k x e n h = ap (λ (z : Context). acknowledge_null z x) e ∙ (ap (λ (y : List ℕ). acknowledge_null (context_of t) y) n ∙ sym (ap (λ (b : Bool). if b then connect t else acknowledge_null (context_of t) []) h))
