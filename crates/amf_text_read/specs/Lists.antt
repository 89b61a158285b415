-- The lists that goals hold, as the code has them.
use Rattle.std.specs.Prelude.{◌≡◌, true, false, []}
use Rattle.json.specs.Token.{Token, key, string}
use Rattle.amf_text.specs.Told.{stands_in}
use Rattle.amf_text_read.specs.Names.{no_names}
use Rattle.amf_text_read.specs.Goals.{Held}
use Rattle.amf_text_read.specs.Nesting.{nested, mapped, labels_of}
use Rattle.amf_text_read.specs.declared.goal.Goal.{Goal}
use Rattle.amf_text_read.specs.declared.goal.Goal.TheVariants as goal
use Rattle.amf_text_read.specs.declared.held.Lists.{Lists}

abbrev pub held_of : Lists → Held
held_of a = record {
  labels = mapped labels_of (nested a.labels.at a.labels.outer.items);
  names = nested a.names.at a.names.outer.items;
  lasts = mapped (λ v. v.items) (nested a.lasts.at a.lasts.outer.items);
}

abbrev pub no_lists : Held
no_lists = record {
  labels = record { at = []; outer = [] };
  names = record { at = no_names; outer = [] };
  lasts = record { at = []; outer = [] };
}

-- the labels and names by which a goal is met
abbrev pub MayTake : Held → Goal → Token → Type 0
MayTake h goal.RowKeys (key k) = stands_in h.labels.at k ≡ false
MayTake h goal.Left (key k) = stands_in h.names.at.left k ≡ true
MayTake h goal.MoreNames (string s) = stands_in h.names.at.told s ≡ false
MayTake h _ _ = Unit {0}
