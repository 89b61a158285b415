-- The worked facts of kinds hold.
use Rattle.amf_graph.proofs.FitRows as rows
use Rattle.amf_graph.proofs.facts.fit_rows.Goals as goal

pub returns : goal.returns
returns c = record {
  sealed_value_missing = rows.sealed_value_missing;
  member_of_no_dynamic_class = rows.member_of_no_dynamic_class;
  nothing_wrapped = rows.nothing_wrapped;
  two_wrapped = rows.two_wrapped;
  no_byte = rows.no_byte;
  no_uint = rows.no_uint;
  no_pattern = rows.no_pattern;
  named_value = rows.named_value;
  key_alone = rows.key_alone;
}
