-- Messages that nobody waits for go, and so do lines that nobody needs. A device of proofs.
use Rattle.std.specs.Prelude.{◌≡◌, ℕ, Bool, true, not, ◌==◌, ◌&&◌, ◌||◌, nat_le, List, length, filter}
use Rattle.std.specs.List.{list_all, list_any}
use Rattle.amf_broker.specs.declared.topic.Topic.{Topic}
use Rattle.amf_broker.specs.Machine.{is_same_topic}
use Rattle.amf_broker.specs.Delivery.{Message}
use Rattle.amf_broker.specs.Lines.{Span, is_covered, is_reached_by}
use Rattle.amf_broker.specs.Members.{Line}

-- no live subscription of the topic has its place before this number
abbrev pub is_first : Topic → ℕ → List Span → Bool
is_first topic first us = list_all (λ u. not (is_reached_by topic u) || nat_le first u.start) us

-- a subscription of the topic that has ended has its place
abbrev pub is_debt : Topic → Span → Bool
is_debt topic u = not u.live && is_same_topic u.topic topic

-- the message waits for a subscription of the topic that has ended
abbrev pub is_owed : Topic → Message → Span → Bool
is_owed topic m u = is_debt topic u && is_covered u.start u.stop m

abbrev pub is_needed : Topic → ℕ → List Span → Message → Bool
is_needed topic first us m = nat_le first m.number || list_any (is_owed topic m) us

-- a line without messages that nobody waits for
pub record IsTrimmed (us : List Span) (old new : Line) : Type 0 where
  pub first : ℕ
  pub is : is_first old.topic first us ≡ true
  pub line : new ≡ record old { posts = filter (is_needed old.topic first us) old.posts }

-- a subscription has its place in it
abbrev pub is_wanted : List Span → Line → Bool
is_wanted us l = list_any (λ u. is_same_topic u.topic l.topic) us

-- someone listens to it, or has a place in it
abbrev pub is_kept : List Span → Line → Bool
is_kept us l = not (length l.members == 0) || is_wanted us l
