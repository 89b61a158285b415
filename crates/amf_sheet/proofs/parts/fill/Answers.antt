use Rattle.std.proofs.Common.{◌≡◌, ap, ◌∙◌}
use Rattle.amf_graph.specs.Arena.{StoredNode}
use Rattle.amf_graph.specs.Building.{changed}
use Rattle.amf_sheet.specs.Filling.{more_names, more_values}
use Rattle.amf_sheet.proofs.Putting.{there_still}
use Rattle.amf_sheet.proofs.Taking.{named_names}
use Rattle.amf_sheet.proofs.Giving.{names_room, names_within, named_is, values_names, items_room, items_within, entries_room, entries_pairs, entries_within, valued_is, fits_then, told_then}
use Rattle.amf_sheet.proofs.parts.fill.Goals as goal
use Rattle.amf_sheet.proofs.parts.fill.Goals.{in-Dictionary+in_ok-put_entries-in-Dictionary, in_default+in_ok-put_items-in_default}

pub put_names-requires-clause-opened : goal.put_names-requires-clause-opened
put_names-requires-clause-opened c = ap (λ (n : StoredNode). n.is_open) c.requires.begun

pub put_names-requires-clause-room : goal.put_names-requires-clause-room
put_names-requires-clause-room c = names_room c.args.builder.now c.args.node.0 c.args.shape c.args.names.now c.args.values.now c.requires.begun c.requires.sound

pub put_names-requires-clause-names : goal.put_names-requires-clause-names
put_names-requires-clause-names c = named_names c.args.builder.now c.args.names.now c.requires.sound.names

pub put_names-requires-clause-within : goal.put_names-requires-clause-within
put_names-requires-clause-within c = names_within c.args.builder.now c.args.node.0 c.args.shape c.args.names.now c.args.values.now c.requires.begun c.requires.within

pub put_entries-requires-clause-there : goal.put_entries-requires-clause-there
put_entries-requires-clause-there c = there_still (more_names c.args.names.now) c.args.node.0 c.args.builder.now c.put_names.new.builder c.in_ok-put_names.ensures c.requires.there

pub put_entries-requires-clause-opened : goal.put_entries-requires-clause-opened
put_entries-requires-clause-opened c =
    ap (λ (n : StoredNode). n.is_open) (named_is c.args.builder.now c.put_names.new.builder c.args.node.0 c.args.shape c.args.names.now c.requires.there c.requires.begun c.in_ok-put_names.ensures)

pub put_entries-requires-clause-room : goal.put_entries-requires-clause-room
put_entries-requires-clause-room c =
    entries_room c.args.builder.now c.put_names.new.builder c.args.node.0 c.args.shape c.args.names.now c.in-Dictionary.field-0 c.requires.there c.requires.begun c.in_ok-put_names.ensures c.in-Dictionary.is

pub put_entries-requires-clause-names : goal.put_entries-requires-clause-names
put_entries-requires-clause-names c = values_names c.args.builder.now c.put_names.new.builder c.args.node.0 c.args.names.now c.args.values.now c.in_ok-put_names.ensures c.requires.sound.values

pub put_entries-requires-clause-pairs : goal.put_entries-requires-clause-pairs
put_entries-requires-clause-pairs c = entries_pairs c.args.builder.now c.args.shape c.args.names.now c.args.values.now c.in-Dictionary.field-0 c.in-Dictionary.is c.requires.sound

pub put_entries-requires-clause-within : goal.put_entries-requires-clause-within
put_entries-requires-clause-within c =
    entries_within c.args.builder.now c.put_names.new.builder c.args.node.0 c.args.shape c.args.names.now c.args.values.now c.requires.there c.requires.begun c.in_ok-put_names.ensures c.requires.within

pub put_items-requires : goal.put_items-requires
put_items-requires c =
    let a = c.args.builder.now in
    let b = c.put_names.new.builder in
    let i = c.args.node.0 in
    let s = c.args.shape in
    let ps = c.args.names.now in
    let vs = c.args.values.now in
    let e = c.in_ok-put_names.ensures in
    record {
      there = there_still (more_names ps) i a b e c.requires.there;
      opened = ap (λ (n : StoredNode). n.is_open) (named_is a b i s ps c.requires.there c.requires.begun e);
      room = items_room a b i s ps vs c.requires.there c.requires.begun e c.in_default.not-Dictionary c.requires.sound;
      names = values_names a b i ps vs e c.requires.sound.values;
      within = items_within a b i s ps vs c.requires.there c.requires.begun e c.in_default.not-Dictionary c.requires.within;
    }

pub close_node-requires-clause-there : goal.close_node-requires-clause-there
close_node-requires-clause-there c =
    let l = there_still (more_names c.args.names.now) c.args.node.0 c.args.builder.now c.put_names.new.builder c.in_ok-put_names.ensures c.requires.there in
    let valued : c.match-shape.builder ≡ changed (more_values c.args.values.now) c.args.node.0 c.put_names.new.builder =
    elim c.match-shape.branch [ in-Dictionary+in_ok-put_entries-in-Dictionary w ↦ w.builder-is ∙ w.in_ok-put_entries-in-Dictionary.ensures | in_default+in_ok-put_items-in_default w ↦ w.builder-is ∙ w.in_ok-put_items-in_default.ensures ]
    in
    there_still (more_values c.args.values.now) c.args.node.0 c.put_names.new.builder c.match-shape.builder valued l

pub close_node-requires-clause-opened : goal.close_node-requires-clause-opened
close_node-requires-clause-opened c =
    let l = there_still (more_names c.args.names.now) c.args.node.0 c.args.builder.now c.put_names.new.builder c.in_ok-put_names.ensures c.requires.there in
    let valued : c.match-shape.builder ≡ changed (more_values c.args.values.now) c.args.node.0 c.put_names.new.builder =
    elim c.match-shape.branch [ in-Dictionary+in_ok-put_entries-in-Dictionary w ↦ w.builder-is ∙ w.in_ok-put_entries-in-Dictionary.ensures | in_default+in_ok-put_items-in_default w ↦ w.builder-is ∙ w.in_ok-put_items-in_default.ensures ]
    in
    ap (λ (n : StoredNode). n.is_open)
    (valued_is c.args.builder.now c.put_names.new.builder c.match-shape.builder c.args.node.0 c.args.shape c.args.names.now c.args.values.now c.requires.there l c.requires.begun c.in_ok-put_names.ensures valued)

pub close_node-requires-clause-fits : goal.close_node-requires-clause-fits
close_node-requires-clause-fits c =
    let l = there_still (more_names c.args.names.now) c.args.node.0 c.args.builder.now c.put_names.new.builder c.in_ok-put_names.ensures c.requires.there in
    let valued : c.match-shape.builder ≡ changed (more_values c.args.values.now) c.args.node.0 c.put_names.new.builder =
    elim c.match-shape.branch [ in-Dictionary+in_ok-put_entries-in-Dictionary w ↦ w.builder-is ∙ w.in_ok-put_entries-in-Dictionary.ensures | in_default+in_ok-put_items-in_default w ↦ w.builder-is ∙ w.in_ok-put_items-in_default.ensures ]
    in
    fits_then c.args.builder.now c.put_names.new.builder c.match-shape.builder c.args.node.0 c.args.shape c.args.names.now c.args.values.now c.requires.there l c.requires.begun c.in_ok-put_names.ensures valued c.requires.sound

pub returns : goal.returns
returns c =
    let valued : c.match-shape.builder ≡ changed (more_values c.args.values.now) c.args.node.0 c.put_names.new.builder =
    elim c.match-shape.branch [ in-Dictionary+in_ok-put_entries-in-Dictionary w ↦ w.builder-is ∙ w.in_ok-put_entries-in-Dictionary.ensures | in_default+in_ok-put_items-in_default w ↦ w.builder-is ∙ w.in_ok-put_items-in_default.ensures ]
    in
    c.close_node.ensures
    ∙ told_then c.args.builder.now c.put_names.new.builder c.match-shape.builder c.args.node.0 c.args.shape c.args.names.now c.args.values.now c.requires.there c.requires.begun c.in_ok-put_names.ensures valued
