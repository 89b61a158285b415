-- Each row computes.
use Rattle.std.proofs.Common.{refl}
use Rattle.amf_poll_session.proofs.laws.worked_sessions.Goals as goal

pub returns : goal.returns
returns c = record {
  hi_end = refl;
  hi_written = refl;
  hi_dials = refl;
  hi_links = refl;
  three_end = refl;
  three_dials = refl;
  three_written = refl;
  last_dial = refl;
  last_bad = refl;
  anew = refl;
  no_ping = refl;
  no_first_dial = refl;
  no_subscribe = refl;
  at_once = refl;
  is_fault = refl;
  disconnects = refl;
  pinged = refl;
  subscribed = refl;
  polls = refl;
  disconnected = refl;
  ponged = refl;
  no_id = refl;
  number_id = refl;
  no_id_later = refl;
  other_id = refl;
  batched = refl;
  other_operation = refl;
  no_items = refl;
  named_items = refl;
  other_item = refl;
  leaf_item = refl;
  delivery_alone = refl;
}
