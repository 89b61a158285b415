-- The messages of deliveries, read one after another.
use Rattle.std.proofs.Common.{◌≡◌, ◌∙◌, ℕ, ◌+◌, ◌*◌, ◌<◌, ◌≤◌, Bool, true, false, List, [], ◌∷◌, ◌++◌, length, drop, get_or, Option, Some, None, refl, sym, ap, subst, arith}
use Rattle.std.specs.Prelude.{decimal, ◌&&◌}
use Rattle.std.proofs.lemmas.List.{drop_more, drop_all}
use Rattle.amf_graph.specs.Arena.{Arena}
use Rattle.amf_graph.specs.Building.{no_arena}
use Rattle.amf_graph.specs.Graph.{Graph}
use Rattle.amf_graph.specs.Isomorphic.{Isomorphic}
use Rattle.amf_graph.specs.Rooted.{RootedArena, content}
use Rattle.amf_broker.specs.declared.reply.Delivery.{Delivery}
use Rattle.flex_msgs.specs.declared.reply.Reply.{Reply}
use Rattle.flex_msgs.specs.Answers.{delivered_graph, sync_graph}
use Rattle.flex_msgs.specs.Built.{HasRoomFor}
use Rattle.amf_flex_replies.specs.declared.sync_messages.Batch.{Batch}
use Rattle.amf_answer_plan.specs.declared.message_answer.MessageAnswer.{MessageAnswer}
use Rattle.amf_answer_plan.specs.Batches.{in_front, delivered, deliveries, synced}
use Rattle.amf_flex_replies.specs.Batching.{Adds, AddsDelivery, GrewWithin, HoldsAll, Reads, ReadsAll, IsSync, say_sync}
use Rattle.amf_answer_plan.specs.Causes.{no_form}
use Rattle.amf_answer_plan.specs.Says.{AnswersMessage, Tells}
use Rattle.amf_answer_plan.specs.Plan.{gives}
use Rattle.amf_answer_plan.specs.Replies.{answered, failed}
use Rattle.amf_answer_plan.specs.Runs.{IsStored, Finds, nothing, gave}
use Rattle.amf_answer_plan.specs.Serving.{none_left}
use Rattle.amf_answer_plan.proofs.Composed.{runs_then}

and_true : (b : Bool) → b ≡ b && true
and_true true = refl
and_true false = refl

and_false : (b : Bool) → false ≡ b && false
and_false true = refl
and_false false = refl

-- these, and then what the others give; or nothing where one of these is no stored message
abbrev pub together : Bool → List Graph → Option (List Graph) → Option (List Graph)
together false gs more = None
together true [] more = more
together true (g ∷ gs) more = in_front (Some g) (together true gs more)

front_none : (more : Option (List Graph)) → in_front None more ≡ None
front_none None = refl
front_none (Some gs) = refl

together_none : (all : Bool) (gs : List Graph) → together all gs None ≡ None
together_none false gs = refl
together_none true [] = refl
together_none true (g ∷ gs) = ap (in_front (Some g)) (together_none true gs)

together_more : (all : Bool) (gs : List Graph) (g : Graph) (more : Option (List Graph)) → together all gs (in_front (Some g) more) ≡ together all (gs ++ g ∷ []) more
together_more false gs g more = refl
together_more true [] g more = refl
together_more true (h ∷ gs) g more = ap (in_front (Some h)) (together_more true gs g more)

together_all : (gs : List Graph) → together true gs (Some []) ≡ Some gs
together_all [] = refl
together_all (g ∷ gs) = ap (in_front (Some g)) (together_all gs)

-- one delivery and then others
reads_one : (d : Delivery) (later : List Delivery) (x : Option Graph) (more : Option (List Graph)) → Finds (λ h. IsStored h d.message) x → Reads later more → Reads (d ∷ later) (in_front (delivered d.sub x) more)
reads_one d later x more found r = (x, found, runs_then (deliveries later) (λ gs. gives (in_front (delivered d.sub x) gs)) none_left none_left nothing nothing more (gave (in_front (delivered d.sub x) more) none_left) r (refl, refl))

-- some first deliveries were read: what the later ones give makes what all of them give
pub record ReadSo (ds later : List Delivery) (all : Bool) (gs : List Graph) : Type 0 where
  pub so : (more : Option (List Graph)) → Reads later more → Reads ds (together all gs more)

pub read_none : (ds : List Delivery) → ReadSo ds ds true []
read_none ds = record { so = λ more r. r }

pub read_stored : (ds later : List Delivery) (all : Bool) (gs : List Graph) (d : Delivery) (g : Graph) → IsStored g d.message → ReadSo ds (d ∷ later) all gs → ReadSo ds later all (gs ++ delivered_graph (decimal d.sub) g ∷ [])
read_stored ds later all gs d g s r = record {
  so = λ more q. subst (Reads ds) (together_more all gs (delivered_graph (decimal d.sub) g) more) (r.so (in_front (delivered d.sub (Some g)) more) (reads_one d later (Some g) more s q));
}

pub read_lost : (ds later : List Delivery) (all : Bool) (gs hs : List Graph) (d : Delivery) → ((h : Graph) → IsStored h d.message → ⊥) → ReadSo ds (d ∷ later) all gs → ReadSo ds later false hs
read_lost ds later all gs hs d never r = record {
  so = λ more q. subst (Reads ds) (ap (together all gs) (front_none more) ∙ together_none all gs) (r.so (in_front None more) (reads_one d later None more never q));
}

pub read_end : (ds : List Delivery) (all : Bool) (gs : List Graph) → ReadSo ds [] all gs → Reads ds (together all gs (Some []))
read_end ds all gs r = r.so (Some []) (refl, refl)

-- The loop over the deliveries.

pub record AddedSo (ds later : List Delivery) (all : Bool) (b : Batch) (n : ℕ) : Type 0 where
  pub graphs : List Graph
  pub read : ReadSo ds later all graphs
  pub holds : HoldsAll b graphs
  pub texts : length b.builder.texts ≤ 65600 * n
  pub traits : length b.builder.traits ≤ 32800 * n
  pub nodes : length b.builder.nodes ≤ 32800 * n
  pub count : length b.values.items ≤ n
  pub within : n ≤ length ds

pub added_none : (ds : List Delivery) (b : Batch) → HoldsAll b [] → b.builder ≡ no_arena → b.values.items ≡ [] → AddedSo ds ds true b 0
added_none ds b h e f = record {
  graphs = [];
  read = read_none ds;
  holds = h;
  texts = omega (arith, ap (λ (z : Arena). length z.texts) e);
  traits = omega (arith, ap (λ (z : Arena). length z.traits) e);
  nodes = omega (arith, ap (λ (z : Arena). length z.nodes) e);
  count = omega (arith, ap length f);
  within = omega arith;
}

-- what is known of the graphs after a delivery more
abbrev ReadOne : List Delivery → List Delivery → Bool → Batch → Type 0
ReadOne ds later all b = (gs : List Graph) × ReadSo ds later all gs × HoldsAll b gs

read_one : (ds later : List Delivery) (all : Bool) (gs : List Graph) (d : Delivery) (stored : Bool) (b c : Batch) → ReadSo ds (d ∷ later) all gs → HoldsAll b gs → AddsDelivery d stored b c → ReadOne ds later (all && stored) c
read_one ds later all gs d true b c r h a =
    let same : all ≡ all && true = and_true all in
    (gs ++ delivered_graph (decimal d.sub) a.0 ∷ [], subst (λ (z : Bool). ReadSo ds later z (gs ++ delivered_graph (decimal d.sub) a.0 ∷ [])) same (read_stored ds later all gs d a.0 a.1 r), a.2 gs h)
read_one ds later all gs d false b c r h a =
    let same : false ≡ all && false = and_false all in
    (gs, subst (λ (z : Bool). ReadSo ds later z gs) same (read_lost ds later all gs gs d a.0 r), subst (λ (z : Batch). HoldsAll z gs) (sym a.1) h)

pub added_more : (ds : List Delivery) (i : ℕ) (all stored : Bool) (d : Delivery) (b c : Batch) → i < length ds → d ≡ get_or ds i d → AddedSo ds (drop i ds) all b i → AddsDelivery d stored b c → GrewWithin b.builder c.builder 65600 32800 32800 → length c.values.items ≤ length b.values.items + 1 → AddedSo ds (drop (i + 1) ds) (all && stored) c (i + 1)
added_more ds i all stored d b c l e so a grew count =
    let split : drop i ds ≡ d ∷ drop (i + 1) ds = drop_more ds i d l ∙ ap (λ (z : Delivery). z ∷ drop (i + 1) ds) (sym e) in
    let one = read_one ds (drop (i + 1) ds) all so.graphs d stored b c (subst (λ (z : List Delivery). ReadSo ds z all so.graphs) split so.read) so.holds a in
    record {
      graphs = one.0;
      read = one.1;
      holds = one.2;
      texts = omega (arith, so.texts, grew.texts);
      traits = omega (arith, so.traits, grew.traits);
      nodes = omega (arith, so.nodes, grew.nodes);
      count = omega (arith, so.count, count);
      within = omega (arith, l);
    }

-- all of them
added_end : (ds : List Delivery) (i : ℕ) (all : Bool) (b : Batch) → length ds ≤ i → AddedSo ds (drop i ds) all b i → (gs : List Graph) × Reads ds (together all gs (Some [])) × HoldsAll b gs
added_end ds i all b l so =
    let none : drop i ds ≡ [] = drop_all i ds l in
    (so.graphs, read_end ds all so.graphs (subst (λ (z : List Delivery). ReadSo ds z all so.graphs) none so.read), so.holds)

pub added_all : (ds : List Delivery) (i : ℕ) (all : Bool) (b : Batch) → all ≡ true → length ds ≤ i → AddedSo ds (drop i ds) all b i → ReadsAll ds (Some b)
added_all ds i all b e l so =
    let end = added_end ds i true b l (subst (λ (z : Bool). AddedSo ds (drop i ds) z b i) e so) in
    (end.0, subst (Reads ds) (together_all end.0) end.1, end.2)

pub added_lost : (ds : List Delivery) (i : ℕ) (all : Bool) (b : Batch) → all ≡ false → length ds ≤ i → AddedSo ds (drop i ds) all b i → ReadsAll ds None
added_lost ds i all b e l so = (added_end ds i false b l (subst (λ (z : Bool). AddedSo ds (drop i ds) z b i) e so)).1

pub added_room : (ds later : List Delivery) (all : Bool) (b : Batch) (i : ℕ) → length ds ≤ 128 → AddedSo ds later all b i → HasRoomFor b.builder 289 34 35
added_room ds later all b i few so = record { texts = omega (arith, few, so.within, so.texts); traits = omega (arith, few, so.within, so.traits); nodes = omega (arith, few, so.within, so.nodes) }

pub added_count : (ds later : List Delivery) (all : Bool) (b : Batch) (i : ℕ) → length ds ≤ 128 → AddedSo ds later all b i → length b.values.items ≤ 128
added_count ds later all b i few so = omega (arith, few, so.within, so.count)

-- The sync that was made, or why there is none.

pub sync_some : (r : Reply) (ds : List Delivery) (ends : List Graph) (b c : Batch) (g : RootedArena) → ReadsAll ds (Some b) → Adds b c ends → ((gs : List Graph) → HoldsAll c gs → Isomorphic (sync_graph r gs) (content g)) → IsSync r ds ends (Some g)
sync_some r ds ends b c g (gs, reads, holds) adds made = (gs, reads, made (gs ++ ends) (adds gs holds))

pub say_some : (r : Reply) (ds : List Delivery) (ends : List Graph) (g : RootedArena) (a : MessageAnswer) → IsSync r ds ends (Some g) → ((h : Graph) → Isomorphic h (content g) → Tells (answered r h) a) → Tells (say_sync r ds ends) a
say_some r ds ends g a (gs, reads, same) told =
    let t = told (sync_graph r (gs ++ ends)) same in
    record { answer = t.answer; is = t.is; runs = runs_then (deliveries ds) (λ hs. synced r hs ends) none_left none_left nothing nothing (Some gs) (gave t.answer none_left) reads t.runs }

pub say_none : (r : Reply) (ds : List Delivery) (ends : List Graph) (a : MessageAnswer) → IsSync r ds ends None → AnswersMessage a (failed r no_form) → Tells (say_sync r ds ends) a
say_none r ds ends a reads is =
    record { answer = failed r no_form; is = is; runs = runs_then (deliveries ds) (λ hs. synced r hs ends) none_left none_left nothing nothing None (gave (failed r no_form) none_left) reads (refl, refl) }
