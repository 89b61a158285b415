-- The invalidates of a batch, one after another.
use Rattle.std.proofs.Common.{◌≡◌, ◌∙◌, ℕ, ◌+◌, ◌<◌, ◌≤◌, List, [], ◌∷◌, ◌++◌, length, map, drop, get_or, refl, sym, ap, subst, append_assoc, append-nil}
use Rattle.std.specs.Prelude.{decimal}
use Rattle.std.proofs.lemmas.List.{drop_more, drop_all, map_push}
use Rattle.amf_graph.specs.Graph.{Graph}
use Rattle.amf_broker.specs.declared.reply.Delivery.{Delivery}
use Rattle.flex_msgs.specs.declared.reply.Reply.{Reply}
use Rattle.flex_msgs.specs.Answers.{invalidate_graph}
use Rattle.amf_answer_plan.specs.declared.message_answer.MessageAnswer.{MessageAnswer}
use Rattle.amf_answer_plan.specs.Batches.{about_poll, invalidates, sync, batch}
use Rattle.amf_flex_replies.specs.Batching.{say_sync}
use Rattle.amf_answer_plan.specs.Did.{Drawn, Ran, Stopped}
use Rattle.amf_answer_plan.specs.Says.{Says, Tells}
use Rattle.amf_answer_plan.specs.Plan.{Plan, gives, ◌>>=◌}
use Rattle.amf_answer_plan.specs.Replies.{Context, Answer, fresh, acknowledge_null}
use Rattle.amf_answer_plan.proofs.Doing.{HandsNone, HandsBoth, ran_then, ran_nothing, stopped_then, stopped_first, stopped_between}
use Rattle.amf_flex_replies.proofs.Saying.{says_then, says_told}

-- so far came these, and what the rest of the plan comes to makes what the whole comes to
pub record Ahead {O : Type 0} (handed : O → O → Drawn → Type 0) (whole rest : Plan (List Graph)) (start now : O) (front : List Graph) : Type 0 where
  pub all : (c : O) (gs : List Graph) → Ran handed rest now c gs → Ran handed whole start c (front ++ gs)
  pub part : (c : O) → Stopped handed rest now c → Stopped handed whole start c

pub ahead_none : {O : Type 0} (handed : O → O → Drawn → Type 0) (p : Plan (List Graph)) (a : O) → Ahead handed p p a a []
ahead_none handed p a = record { all = λ c gs r. r; part = λ c s. s }

module _ {O : Type 0} (handed : O → O → Drawn → Type 0) (none : HandsNone handed) (both : HandsBoth handed) where
  -- one invalidate more
  abbrev then_more : Context → List ℕ → Reply → Plan (List Graph)
  then_more k ended r = do
    gs ← invalidates k ended
    gives (invalidate_graph r ∷ gs)

  more_ran : (k : Context) (ended : List ℕ) (r : Reply) (a c : O) (gs : List Graph) → Ran handed (invalidates k ended) a c gs → Ran handed (then_more k ended r) a c (invalidate_graph r ∷ gs)
  more_ran k ended r a c gs ran = ran_then handed both (invalidates k ended) (λ hs. gives (invalidate_graph r ∷ hs)) a c c gs (invalidate_graph r ∷ gs) ran (ran_nothing handed none (gives (invalidate_graph r ∷ gs)) c (invalidate_graph r ∷ gs) (refl, refl))

  more_stopped : (k : Context) (ended : List ℕ) (r : Reply) (a c : O) → Stopped handed (invalidates k ended) a c → Stopped handed (then_more k ended r) a c
  more_stopped k ended r a c s = stopped_first handed (invalidates k ended) (λ hs. gives (invalidate_graph r ∷ hs)) a c s

  module _ (whole : Plan (List Graph)) (k : Context) (sub : ℕ) (ended : List ℕ) (start now : O) (front : List Graph) (ahead : Ahead handed whole (invalidates k (sub ∷ ended)) start now front) where
    pub ahead_more : (next : O) (r : Reply) → Ran handed (fresh (about_poll k) (decimal sub)) now next r → Ahead handed whole (invalidates k ended) start next (front ++ invalidate_graph r ∷ [])
    ahead_more next r ran = record {
      all = λ c gs later. subst (λ (hs : List Graph). Ran handed whole start c hs) (sym (append_assoc front (invalidate_graph r ∷ []) gs)) (ahead.all c (invalidate_graph r ∷ gs) (ran_then handed both (fresh (about_poll k) (decimal sub)) (then_more k ended) now next c r (invalidate_graph r ∷ gs) ran (more_ran k ended r next c gs later)));
      part = λ c later. ahead.part c (stopped_then handed both (fresh (about_poll k) (decimal sub)) (then_more k ended) now next c r ran (more_stopped k ended r next c later));
    }

    -- the next one is not made
    pub ahead_stopped : (c : O) → Stopped handed (fresh (about_poll k) (decimal sub)) now c → Stopped handed whole start c
    ahead_stopped c s = ahead.part c (stopped_first handed (fresh (about_poll k) (decimal sub)) (then_more k ended) now c s)

    -- it is made, and nothing behind it
    pub ahead_between : (c : O) (r : Reply) → Ran handed (fresh (about_poll k) (decimal sub)) now c r → Stopped handed whole start c
    ahead_between c r ran = ahead.part c (stopped_between handed none both (fresh (about_poll k) (decimal sub)) (then_more k ended) now c r ran)

  -- The loop over the subscriptions that ended, by the place of the next one.

  module _ (k : Context) (ended : List ℕ) (i : ℕ) (start now : O) (rs : List Reply) (ahead : Ahead handed (invalidates k ended) (invalidates k (drop i ended)) start now (map invalidate_graph rs)) where
    pub loop_end : length ended ≤ i → Ran handed (invalidates k ended) start now (map invalidate_graph rs)
    loop_end l =
        let last : Ahead handed (invalidates k ended) (invalidates k []) start now (map invalidate_graph rs) = subst (λ (xs : List ℕ). Ahead handed (invalidates k ended) (invalidates k xs) start now (map invalidate_graph rs)) (drop_all i ended l) ahead in
        subst (λ (hs : List Graph). Ran handed (invalidates k ended) start now hs) (append-nil (map invalidate_graph rs)) (last.all now [] (ran_nothing handed none (invalidates k []) now [] (refl, refl)))

    module _ (about : Context) (is : about ≡ about_poll k) (l : i < length ended) (sub : ℕ) (there : sub ≡ get_or ended i sub) where
      one : Ahead handed (invalidates k ended) (invalidates k (sub ∷ drop (i + 1) ended)) start now (map invalidate_graph rs)
      one = subst (λ (xs : List ℕ). Ahead handed (invalidates k ended) (invalidates k xs) start now (map invalidate_graph rs)) (drop_more ended i sub l ∙ ap (λ (n : ℕ). n ∷ drop (i + 1) ended) (sym there)) ahead

      pub loop_more : (next : O) (r : Reply) (new : List Reply) → Ran handed (fresh about (decimal sub)) now next r → new ≡ rs ++ r ∷ [] → Ahead handed (invalidates k ended) (invalidates k (drop (i + 1) ended)) start next (map invalidate_graph new)
      loop_more next r new ran e =
          subst (λ (hs : List Graph). Ahead handed (invalidates k ended) (invalidates k (drop (i + 1) ended)) start next hs) (sym (ap (map invalidate_graph) e ∙ map_push invalidate_graph rs r))
          (ahead_more (invalidates k ended) k sub (drop (i + 1) ended) start now (map invalidate_graph rs) one next r (subst (λ (c : Context). Ran handed (fresh c (decimal sub)) now next r) is ran))

      pub loop_stopped : (c : O) → Stopped handed (fresh about (decimal sub)) now c → Stopped handed (invalidates k ended) start c
      loop_stopped c s = ahead_stopped (invalidates k ended) k sub (drop (i + 1) ended) start now (map invalidate_graph rs) one c (subst (λ (x : Context). Stopped handed (fresh x (decimal sub)) now c) is s)

      pub loop_between : (c : O) (r : Reply) → Ran handed (fresh about (decimal sub)) now c r → Stopped handed (invalidates k ended) start c
      loop_between c r ran = ahead_between (invalidates k ended) k sub (drop (i + 1) ended) start now (map invalidate_graph rs) one c r (subst (λ (x : Context). Ran handed (fresh x (decimal sub)) now c r) is ran)

  -- The sync: its words and moment, the invalidates, and then what is said.

  abbrev then_end : Context → List Delivery → List ℕ → Reply → Plan Answer
  then_end k ds ended r = do
    ends ← invalidates k ended
    say_sync r ds ends

  module _ (k : Context) (ds : List Delivery) (ended : List ℕ) (a b : O) (r : Reply) (ran : Ran handed (fresh k []) a b r) where
    pub sync_says : (c : O) (ends : List Graph) (x : MessageAnswer) → Ran handed (invalidates k ended) b c ends → Tells (say_sync r ds ends) x → Says handed (sync k ds ended) a c x
    sync_says c ends x made told = says_then handed both (fresh k []) (then_end k ds ended) a b c r x ran (says_told handed none both (invalidates k ended) (say_sync r ds) b c ends x made told)

    pub sync_stopped : (c : O) → Stopped handed (invalidates k ended) b c → Stopped handed (sync k ds ended) a c
    sync_stopped c s = stopped_then handed both (fresh k []) (then_end k ds ended) a b c r ran (stopped_first handed (invalidates k ended) (say_sync r ds) b c s)

    pub sync_between : (c : O) (ends : List Graph) → Ran handed (invalidates k ended) b c ends → Stopped handed (sync k ds ended) a c
    sync_between c ends made = stopped_then handed both (fresh k []) (then_end k ds ended) a b c r ran (stopped_between handed none both (invalidates k ended) (say_sync r ds) b c ends made)

  pub sync_first : (k : Context) (ds : List Delivery) (ended : List ℕ) (a b : O) → Stopped handed (fresh k []) a b → Stopped handed (sync k ds ended) a b
  sync_first k ds ended a b s = stopped_first handed (fresh k []) (then_end k ds ended) a b s

-- a batch with something in it is answered by a sync
pub some_batch : (k : Context) (ds : List Delivery) (ended : List ℕ) → ((ds ≡ []) × (ended ≡ []) → ⊥) → sync k ds ended ≡ batch k ds ended
some_batch k [] [] never = absurd (never (refl, refl))
some_batch k [] (sub ∷ ended) never = refl
some_batch k (d ∷ ds) ended never = refl

-- and one with nothing in it by an acknowledge
pub none_batch : (k : Context) (client : List ℕ) (ds : List Delivery) (ended : List ℕ) → client ≡ [] → ds ≡ [] → ended ≡ [] → acknowledge_null k client ≡ batch k ds ended
none_batch k client ds ended e f h = ap (acknowledge_null k) e ∙ ap (λ (z : List Delivery). batch k z []) (sym f) ∙ ap (λ (z : List ℕ). batch k ds z) (sym h)

pub sync_batch : (k : Context) (ds es : List Delivery) (ended ends : List ℕ) → ds ≡ es → ended ≡ ends → ((ds ≡ []) × (ended ≡ []) → ⊥) → sync k ds ended ≡ batch k es ends
sync_batch k ds es ended ends e f never = some_batch k ds ended never ∙ ap (λ (z : List Delivery). batch k z ended) e ∙ ap (λ (z : List ℕ). batch k es z) f
