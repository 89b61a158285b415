-- The worked verdicts hold.
use Rattle.std.proofs.Common.{◌≢◌, lit≤, true, [], ◌∷◌, refl, inl}
use Rattle.std.specs.Prelude.{pos, codes}
use Rattle.std.specs.Char.{encode_utf8}
use Rattle.std.specs.Str.{chars, is_utf8}
use Rattle.std.specs.Str.Lossy.{utf8_valid_len}
use Rattle.json.specs.Lex.{lex, punctuate}
use Rattle.json.specs.Text.{content, code_unit, short_escape}
use Rattle.json.specs.Token.{begin_object, end_object, key, string, number, boolean, bad}
use Rattle.json.specs.Word.{word, after_number}
use Rattle.json.specs.Json.{no_items, no_members, item, member}
use Rattle.json.specs.Json as json
use Rattle.amf_graph.specs.Graph.{integer, array}
use Rattle.amf_text.specs.Tags.{tag_of}
use Rattle.amf_text.specs.Documents.{value3}
use Rattle.amf_text.specs.Meant.{said, called, body, no_trees, tree, no_named, named, meant}
use Rattle.amf_text.specs.Asks.{step, node_key, value_key, vector_tag, class_key, begun_key, fault_at, table_or, value, close}
use Rattle.amf_text.specs.Scan.{places, mode_after, scan_from}
use Rattle.amf_text.specs.Refused.{IsTextRefused, at_token, at_colon, unfinished, cut, no_token, behind, behind_end}
use Rattle.amf_text.specs.Refused as verdict
use Rattle.amf_text.proofs.facts.verdict_rows.Goals as goal

no_bad : boolean true ≢ bad
no_bad e = cc

pub returns : goal.returns
unfolding encode_utf8 chars is_utf8 utf8_valid_len lex punctuate content code_unit short_escape word after_number tag_of meant step node_key value_key vector_tag class_key begun_key fault_at places mode_after scan_from
returns c = record {
  number_accepted = record {
    within = lit≤ tt;
    means = (
      value3 (record { table = no_named; root = said (integer (pos 1)) }),
      (
        json.object (member (codes "amf") (json.string (codes "amf3")) (member (codes "root") (json.number (codes "1")) no_members)),
        record { utf8 = (codes "{\"amf\":\"amf3\",\"root\":1}", (refl, refl)); same = refl },
        refl,
      ),
      refl,
    );
  };
  circle_accepted = record {
    within = lit≤ tt;
    means = (
      value3 (record { table = named (codes "0") (body array no_named (tree (called (codes "0")) no_trees)) no_named; root = called (codes "0") }),
      (
        json.object (member (codes "amf") (json.string (codes "amf3"))
            (member (codes "nodes") (json.object (member (codes "0") (json.array (item (json.object (member (codes "$node") (json.string (codes "0")) no_members)) no_items)) no_members))
            (member (codes "root") (json.object (member (codes "$node") (json.string (codes "0")) no_members)) no_members))),
        record { utf8 = (codes "{\"amf\":\"amf3\",\"nodes\":{\"0\":[{\"$node\":\"0\"}]},\"root\":{\"$node\":\"0\"}}\n", (refl, refl)); same = refl },
        refl,
      ),
      refl,
    );
  };
  other_key = verdict.within (lit≤ tt) (at_token ((0, begin_object) ∷ (1, key (codes "amf")) ∷ (7, string (codes "amf3")) ∷ []) ((21, number (codes "1")) ∷ (22, end_object) ∷ []) 14 (key (codes "rood"))
      (table_or (codes "root") ∷ value ∷ close ∷ []) (record { tokens = refl; asked_for = refl; wrong = refl }) (λ l. let h = l.last in cc));
  cut_key = verdict.within (lit≤ tt) (at_colon ((0, begin_object) ∷ (1, key (codes "amf")) ∷ (7, string (codes "amf3")) ∷ []) [] 14 (string (codes "root"))
      (table_or (codes "root") ∷ value ∷ close ∷ []) (record { tokens = refl; asked_for = refl; wrong = refl }) (record { last = refl; at_end = refl; name = codes "root"; is_string = refl; as_key = refl }));
  cut_between = verdict.within (lit≤ tt) (unfinished (table_or (codes "root")) (value ∷ close ∷ []) refl tt);
  broken_between = verdict.within (lit≤ tt) (unfinished (table_or (codes "root")) (value ∷ close ∷ []) refl tt);
  cut_word = verdict.within (lit≤ tt) (cut 21 value (close ∷ []) refl refl (codes "e", boolean true, [], (codes "true", (refl, refl)), refl, no_bad));
  other_word = verdict.within (lit≤ tt) (no_token 21 value (close ∷ []) refl refl);
  comma_behind = verdict.within (lit≤ tt) (behind 23 refl (inl refl));
  broken_behind = verdict.within (lit≤ tt) (behind_end refl refl refl);
  no_label = verdict.within (lit≤ tt) (verdict.no_label (value3 (record { table = no_named; root = called (codes "2") })) 0 30 (
    json.object (member (codes "amf") (json.string (codes "amf3")) (member (codes "root") (json.object (member (codes "$node") (json.string (codes "2")) no_members)) no_members)),
    record { utf8 = (codes "{\"amf\":\"amf3\",\"root\":{\"$node\":\"2\"}}", (refl, refl)); same = refl },
    refl,
  ) refl refl);
}
