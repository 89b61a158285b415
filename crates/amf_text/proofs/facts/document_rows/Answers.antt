-- The worked documents hold.
use Rattle.std.proofs.Common.{[], ◌∷◌, false, refl}
use Rattle.std.specs.Prelude.{codes, pos}
use Rattle.amf_graph.specs.Graph.{integer}
use Rattle.std.specs.Fmt.{digits}
use Rattle.json.specs.Print.{escape_byte, print_from}
use Rattle.json.specs.Layout.{pretty_from}
use Rattle.json.specs.Tree.{json_tokens}
use Rattle.amf_text.specs.Scalars.{hex_byte, told_text, told_pattern, told_double}
use Rattle.amf_text.specs.Told.{Way, told_body, told}
use Rattle.amf_text.specs.Texts.{value_json}
use Rattle.amf_text.specs.WorkedVerdicts.{one, circle}
use Rattle.amf_text.proofs.ExactDigits.{digits_exist}
use Rattle.amf_text.proofs.Tables.{same_tokens, leaf_order, leaf_table, circle_order, circle_table}
use Rattle.amf_text.proofs.facts.document_rows.Goals as goal

abbrev by_one : Way
by_one = record { order = []; table = []; digits = digits_exist.0; bare = false }

abbrev by_circle : Way
by_circle = record { order = 0 ∷ []; table = 0 ∷ []; digits = digits_exist.0; bare = false }

pub returns : goal.returns
unfolding digits escape_byte print_from pretty_from hex_byte told_text told_pattern told_double told_body told
returns c = record {
  number_told = record {
    digits = digits_exist.0;
    are_digits = digits_exist.1;
    told = value_json (codes "amf3") by_one one;
    is_told = record { way = by_one; is_way = record { is_order = leaf_order one (integer (pos 1)) refl; is_table = leaf_table one (integer (pos 1)) refl; same_digits = refl; same_bare = refl }; is_json = refl };
    is_text = (json_tokens (value_json (codes "amf3") by_one one), same_tokens (json_tokens (value_json (codes "amf3") by_one one)), refl);
  };
  circle_told = record {
    digits = digits_exist.0;
    are_digits = digits_exist.1;
    told = value_json (codes "amf3") by_circle circle;
    is_told = record { way = by_circle; is_way = record { is_order = circle_order; is_table = circle_table; same_digits = refl; same_bare = refl }; is_json = refl };
    is_text = (json_tokens (value_json (codes "amf3") by_circle circle), same_tokens (json_tokens (value_json (codes "amf3") by_circle circle)), refl);
  };
}
