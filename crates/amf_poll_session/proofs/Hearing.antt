-- What is heard of a graph.
use Rattle.std.proofs.Common.{◌≡◌, ◌∙◌, ℕ, true, false, ◌&&◌, List, [], Option, Some, None, refl, sym, ap, subst}
use Rattle.std.specs.declared.vec.Vec.{Vec}
use Rattle.std.specs.declared.alloc.Global.{Global}
use Rattle.amf_graph.specs.declared.value.Value.{Value as Stored}
use Rattle.amf_graph.specs.Graph.{Graph}
use Rattle.amf_graph.specs.Rooted.{RootedArena, content}
use Rattle.flex_msgs.specs.Classes.{body_name}
use Rattle.amf_poll_session.specs.declared.kind.MessageKind.{MessageKind}
use Rattle.amf_poll_session.specs.declared.kind.MessageKind.TheVariants.{Acknowledge, Sync, Invalidate, Async, Foreign}
use Rattle.amf_poll_session.specs.declared.reply.Heard.{Heard}
use Rattle.amf_poll_session.specs.declared.request.Request.{Request}
use Rattle.amf_poll_session.specs.Requests.{message_id}
use Rattle.amf_poll_session.specs.Replies.{Item, member_at, seen_of, is_text, is_reply, are_items, has_id, bodies_in}
use Rattle.amf_poll_session.specs.Sessions.{Turn, bad, reply, or_empty}
use Rattle.amf_poll_session.specs.Steps.{bodies_at, Bodies, Delivers, Hears, told_id, told_correlation}
use Rattle.amf_poll_session.proofs.Replies.{not_told, not_answered, not_named, all_told}

module _ (g : RootedArena) where
  abbrev kind : MessageKind
  kind = (seen_of (content g)).kind

  abbrev items : Option (List (Item Graph))
  items = (seen_of (content g)).items

  pub acknowledged : (v : Vec Stored Global) → kind ≡ Acknowledge → v.items ≡ [] → Delivers g (Some v)
  acknowledged v is none = (
    ap (λ (k : MessageKind). is_reply k && are_items k items) is,
    ap (λ (k : MessageKind). bodies_in k items) is ∙ ap (bodies_at g) (sym none),
  )

  pub synced : (found : Option (Vec Stored Global)) → kind ≡ Sync → Bodies g (member_at (content g) body_name (content g).root) found → Delivers g found
  synced None is b = ap (λ (k : MessageKind). is_reply k && are_items k items) is ∙ b
  synced (Some v) is b = (ap (λ (k : MessageKind). is_reply k && are_items k items) is ∙ b.0, ap (λ (k : MessageKind). bodies_in k items) is ∙ b.1)

  other_by : (k : MessageKind) (xs : Option (List (Item Graph))) → (k ≡ Acknowledge → ⊥) → (k ≡ Sync → ⊥) → (is_reply k && are_items k xs) ≡ false
  other_by Acknowledge xs a s = absurd (a refl)
  other_by Sync xs a s = absurd (s refl)
  other_by Invalidate xs a s = refl
  other_by Async xs a s = refl
  other_by Foreign xs a s = refl

  pub other_kind : (kind ≡ Acknowledge → ⊥) → (kind ≡ Sync → ⊥) → Delivers g None
  other_kind a s = other_by kind items a s

  pub none_of : (found : Option (Vec Stored Global)) → ((v : Vec Stored Global) → found ≡ Some v → ⊥) → Delivers g found → Delivers g None
  none_of None other d = d
  none_of (Some v) other d = absurd (other v refl)

  pub some_of : (found : Option (Vec Stored Global)) (v : Vec Stored Global) → found ≡ Some v → Delivers g found → Delivers g (Some v)
  some_of found v e d = subst (Delivers g) e d

  module _ (r : Request) where
    abbrev said : Turn Graph
    said = reply (or_empty (told_id (content g))) (bodies_in kind items)

    pub no_text : is_text (message_id r) (told_correlation (content g)) ≡ false → Hears g r None
    no_text e = not_told _ _ _ said (bad 6) e

    pub no_answer : is_text (message_id r) (told_correlation (content g)) ≡ true → Delivers g None → Hears g r None
    no_answer e d = not_answered _ _ _ said (bad 6) e d

    pub no_id : (v : Vec Stored Global) → is_text (message_id r) (told_correlation (content g)) ≡ true → Delivers g (Some v) → has_id r (told_id (content g)) ≡ false → Hears g r None
    no_id v e d f = not_named _ _ _ said (bad 6) e d.0 f

    pub all_heard : (h : Heard) → is_text (message_id r) (told_correlation (content g)) ≡ true → Delivers g (Some h.bodies) → has_id r (told_id (content g)) ≡ true → h.ds_id ≡ or_empty (told_id (content g)) → Hears g r (Some h)
    all_heard h e d f id =
        all_told _ _ _ said (bad 6) e d.0 f
        ∙ ap (λ (x : List ℕ). reply x (bodies_in kind items)) (sym id)
        ∙ ap (λ (bs : List Graph). reply h.ds_id bs) d.1
