use Rattle.std.proofs.Common.{◌≡◌, ◌+◌, ◌*◌, ◌++◌, ◌∷◌, [], ap, sym, ◌∙◌, subst, map, length, arith, ℕ, List}
use Rattle.std.specs.Int.{to_be_bytes, w64}
use Rattle.std.proofs.lemmas.List.{length-map}
use Rattle.std.proofs.lemmas.Result.{on_ok_weaker}
use Rattle.amf_graph.specs.Arena.{StoredNode, value_content, text_at}
use Rattle.amf_graph.specs.Bounds.{NodeWithin}
use Rattle.amf_graph.specs.Graph.{Node}
use Rattle.amf_graph.specs.Rooted.{content}
use Rattle.amf_graph.specs.Views.{flat, Shows}
use Rattle.amf_graph.specs.Building.{stored_at}
use Rattle.amf3_spelling.specs.Tables.{external}
use Rattle.amf3_spelling.specs.ByteSpelling.{step, value, number, flag, raw, word, unused, traits, values_then, signed_bytes, four_bytes, eight_bytes}
use Rattle.amf_iso.specs.Contents.{values_of}
use Rattle.amf3_write.specs.declared.unwritten.Unwritten.TheVariants.{One, Values, Entries}
use Rattle.amf3_write.specs.Contents.{node_segments}
use Rattle.amf3_write.specs.Unwritten.{segments_left}
use Rattle.amf3_write.specs.Writes.{WritesSteps, Leads}
use Rattle.amf3_write.proofs.Leading.{leads_then, leads_to, leads_step, leads_steps}
use Rattle.amf3_write.proofs.Runs.{segments_pushed, turns_pushed, flat_length}
use Rattle.amf3_write.proofs.WroteNodes.{shown, node_within}
use Rattle.amf3_write.proofs.output.Output.open.Goals as goal

pub returns-in-XmlDocument : goal.returns-in-XmlDocument
returns-in-XmlDocument c =
    let g = content c.args.graph.now in
    let a = c.args.graph.now.arena in
    let old = segments_left a c.args.waiting.now.items in
    let o = c.args.self.now in
    let n = c.counted.new.self in
    let r = c.counted.result in
    let ok = c.counted.ensures.ok in
    let s = subst (λ w. Shows c.args.graph.now.arena (stored_at c.args.graph.now.arena c.args.node.0) w) c.in-XmlDocument.is c.requires.shown in
    record {
      leads = on_ok_weaker r (λ h. subst (λ (x : Node). Leads g (node_segments x ++ old) old o n) (sym (shown a c.args.graph.now.root c.args.node.0 _ s.1))
          (subst (λ (x : List ℕ). Leads g (step (number (2 * length x + 1)) ∷ step (raw x) ∷ old) old o n) s.2
          (leads_steps g (step (number (2 * length c.in-XmlDocument.text.now + 1)) ∷ step (raw c.in-XmlDocument.text.now) ∷ []) old o n h))) ok;
      runs = on_ok_weaker r (λ _. c.requires.runs) ok;
      turns = on_ok_weaker r (λ _. omega arith) ok;
      keeps = c.counted.ensures.keeps;
      order = c.requires.order;
      ready = on_ok_weaker r (λ _. rw (c.counted.ensures.tables, c.counted.ensures.known) c.requires.ready) ok;
    }

pub returns-in-Xml : goal.returns-in-Xml
returns-in-Xml c =
    let g = content c.args.graph.now in
    let a = c.args.graph.now.arena in
    let old = segments_left a c.args.waiting.now.items in
    let o = c.args.self.now in
    let n = c.counted-in-Xml.new.self in
    let r = c.counted-in-Xml.result in
    let ok = c.counted-in-Xml.ensures.ok in
    let s = subst (λ w. Shows c.args.graph.now.arena (stored_at c.args.graph.now.arena c.args.node.0) w) c.in-Xml.is c.requires.shown in
    record {
      leads = on_ok_weaker r (λ h. subst (λ (x : Node). Leads g (node_segments x ++ old) old o n) (sym (shown a c.args.graph.now.root c.args.node.0 _ s.1))
          (subst (λ (x : List ℕ). Leads g (step (number (2 * length x + 1)) ∷ step (raw x) ∷ old) old o n) s.2
          (leads_steps g (step (number (2 * length c.in-Xml.text.now + 1)) ∷ step (raw c.in-Xml.text.now) ∷ []) old o n h))) ok;
      runs = on_ok_weaker r (λ _. c.requires.runs) ok;
      turns = on_ok_weaker r (λ _. omega arith) ok;
      keeps = c.counted-in-Xml.ensures.keeps;
      order = c.requires.order;
      ready = on_ok_weaker r (λ _. rw (c.counted-in-Xml.ensures.tables, c.counted-in-Xml.ensures.known) c.requires.ready) ok;
    }

pub returns-in-Bytes : goal.returns-in-Bytes
returns-in-Bytes c =
    let g = content c.args.graph.now in
    let a = c.args.graph.now.arena in
    let old = segments_left a c.args.waiting.now.items in
    let o = c.args.self.now in
    let n = c.counted-in-Bytes.new.self in
    let r = c.counted-in-Bytes.result in
    let ok = c.counted-in-Bytes.ensures.ok in
    let s = subst (λ w. Shows c.args.graph.now.arena (stored_at c.args.graph.now.arena c.args.node.0) w) c.in-Bytes.is c.requires.shown in
    record {
      leads = on_ok_weaker r (λ h. subst (λ (x : Node). Leads g (node_segments x ++ old) old o n) (sym (shown a c.args.graph.now.root c.args.node.0 _ s))
          (leads_steps g (step (number (2 * length c.in-Bytes.bytes.now + 1)) ∷ step (raw c.in-Bytes.bytes.now) ∷ []) old o n h)) ok;
      runs = on_ok_weaker r (λ _. c.requires.runs) ok;
      turns = on_ok_weaker r (λ _. omega arith) ok;
      keeps = c.counted-in-Bytes.ensures.keeps;
      order = c.requires.order;
      ready = on_ok_weaker r (λ _. rw (c.counted-in-Bytes.ensures.tables, c.counted-in-Bytes.ensures.known) c.requires.ready) ok;
    }

pub returns-in-Date : goal.returns-in-Date
returns-in-Date c =
    let g = content c.args.graph.now in
    let a = c.args.graph.now.arena in
    let old = segments_left a c.args.waiting.now.items in
    let o = c.args.self.now in
    let n = c.date.new.self in
    let r = c.date.result in
    let ok = c.date.ensures.ok in
    let s = subst (λ w. Shows c.args.graph.now.arena (stored_at c.args.graph.now.arena c.args.node.0) w) c.in-Date.is c.requires.shown in
    record {
      leads = on_ok_weaker r (λ h. subst (λ (x : Node). Leads g (node_segments x ++ old) old o n) (sym (shown a c.args.graph.now.root c.args.node.0 _ s))
          (leads_steps g (step unused ∷ step (raw (to_be_bytes w64 c.in-Date.milliseconds.0)) ∷ []) old o n h)) ok;
      runs = on_ok_weaker r (λ _. c.requires.runs) ok;
      turns = on_ok_weaker r (λ _. omega arith) ok;
      keeps = c.date.ensures.keeps;
      order = c.requires.order;
      ready = on_ok_weaker r (λ _. rw (c.date.ensures.tables, c.date.ensures.known) c.requires.ready) ok;
    }

pub returns-in-Ints : goal.returns-in-Ints
returns-in-Ints c =
    let g = content c.args.graph.now in
    let a = c.args.graph.now.arena in
    let old = segments_left a c.args.waiting.now.items in
    let o = c.args.self.now in
    let n = c.ints.new.self in
    let r = c.ints.result in
    let ok = c.ints.ensures.ok in
    let s = subst (λ w. Shows c.args.graph.now.arena (stored_at c.args.graph.now.arena c.args.node.0) w) c.in-Ints.is c.requires.shown in
    record {
      leads = on_ok_weaker r (λ h. subst (λ (x : Node). Leads g (node_segments x ++ old) old o n) (sym (shown a c.args.graph.now.root c.args.node.0 _ s))
          (leads_steps g (step (number (2 * length c.in-Ints.items.now + 1)) ∷ step (flag c.in-Ints.fixed) ∷ step (raw (signed_bytes c.in-Ints.items.now)) ∷ []) old o n h)) ok;
      runs = on_ok_weaker r (λ _. c.requires.runs) ok;
      turns = on_ok_weaker r (λ _. omega arith) ok;
      keeps = c.ints.ensures.keeps;
      order = c.requires.order;
      ready = on_ok_weaker r (λ _. rw (c.ints.ensures.tables, c.ints.ensures.known) c.requires.ready) ok;
    }

pub returns-in-Uints : goal.returns-in-Uints
returns-in-Uints c =
    let g = content c.args.graph.now in
    let a = c.args.graph.now.arena in
    let old = segments_left a c.args.waiting.now.items in
    let o = c.args.self.now in
    let n = c.uints.new.self in
    let r = c.uints.result in
    let ok = c.uints.ensures.ok in
    let s = subst (λ w. Shows c.args.graph.now.arena (stored_at c.args.graph.now.arena c.args.node.0) w) c.in-Uints.is c.requires.shown in
    record {
      leads = on_ok_weaker r (λ h. subst (λ (x : Node). Leads g (node_segments x ++ old) old o n) (sym (shown a c.args.graph.now.root c.args.node.0 _ s))
          (leads_steps g (step (number (2 * length c.in-Uints.items.now + 1)) ∷ step (flag c.in-Uints.fixed) ∷ step (raw (four_bytes c.in-Uints.items.now)) ∷ []) old o n h)) ok;
      runs = on_ok_weaker r (λ _. c.requires.runs) ok;
      turns = on_ok_weaker r (λ _. omega arith) ok;
      keeps = c.uints.ensures.keeps;
      order = c.requires.order;
      ready = on_ok_weaker r (λ _. rw (c.uints.ensures.tables, c.uints.ensures.known) c.requires.ready) ok;
    }

pub returns-in-Doubles : goal.returns-in-Doubles
returns-in-Doubles c =
    let g = content c.args.graph.now in
    let a = c.args.graph.now.arena in
    let old = segments_left a c.args.waiting.now.items in
    let o = c.args.self.now in
    let n = c.doubles.new.self in
    let r = c.doubles.result in
    let ok = c.doubles.ensures.ok in
    let s = subst (λ w. Shows c.args.graph.now.arena (stored_at c.args.graph.now.arena c.args.node.0) w) c.in-Doubles.is c.requires.shown in
    record {
      leads = on_ok_weaker r (λ h. subst (λ (x : Node). Leads g (node_segments x ++ old) old o n) (sym (shown a c.args.graph.now.root c.args.node.0 _ s))
          (leads_steps g (step (number (2 * length (map (λ p. p.0) c.in-Doubles.items.now) + 1)) ∷ step (flag c.in-Doubles.fixed) ∷ step (raw (eight_bytes (map (λ p. p.0) c.in-Doubles.items.now))) ∷ []) old o n h)) ok;
      runs = on_ok_weaker r (λ _. c.requires.runs) ok;
      turns = on_ok_weaker r (λ _. omega arith) ok;
      keeps = c.doubles.ensures.keeps;
      order = c.requires.order;
      ready = on_ok_weaker r (λ _. rw (c.doubles.ensures.tables, c.doubles.ensures.known) c.requires.ready) ok;
    }

pub returns-in_ok-push-in-Wrapper-clause-leads : goal.returns-in_ok-push-in-Wrapper-clause-leads
returns-in_ok-push-in-Wrapper-clause-leads c =
    let g = content c.args.graph.now in
    let a = c.args.graph.now.arena in
    let old = segments_left a c.args.waiting.now.items in
    let now = segments_left a c.push.new.self.items in
    let v = value (value_content a c.in-Wrapper.value) in
    let x = traits (external c.in-Wrapper.class) in
    subst (λ (z : Node). Leads g (node_segments z ++ old) now c.args.self.now c.wrapper.new.self) (sym (shown a c.args.graph.now.root c.args.node.0 _ (subst (λ w. Shows c.args.graph.now.arena (stored_at c.args.graph.now.arena c.args.node.0) w) c.in-Wrapper.is c.requires.shown)))
    (leads_to g (step x ∷ v ∷ old) (v ∷ old) now c.args.self.now c.wrapper.new.self (sym (segments_pushed a c.args.waiting.now.items c.push.new.self.items (One c.in-Wrapper.value) c.in_ok-push-in-Wrapper.ensures.items))
    (leads_step g x (v ∷ old) c.args.self.now c.wrapper.new.self c.in_ok-wrapper-in-Wrapper.ensures.ok))

pub returns-in_ok-push-in-Wrapper-clause-turns : goal.returns-in_ok-push-in-Wrapper-clause-turns
returns-in_ok-push-in-Wrapper-clause-turns c = omega (arith, turns_pushed c.args.waiting.now.items c.push.new.self.items (One c.in-Wrapper.value) c.in_ok-push-in-Wrapper.ensures.items)

pub returns-in_ok-push-in-Values-clause-leads : goal.returns-in_ok-push-in-Values-clause-leads
returns-in_ok-push-in-Values-clause-leads c =
    let g = content c.args.graph.now in
    let a = c.args.graph.now.arena in
    let old = segments_left a c.args.waiting.now.items in
    let now = segments_left a c.push-in-Values.new.self.items in
    let o = c.args.self.now in
    let m = c.vector.new.self in
    let n = c.text_of.new.self in
    let vs = values_of a c.in-Values.items.now in
    let x = word (text_at a c.in-Values.of.0) in
    let head = step (number (2 * length vs + 1)) ∷ step (flag c.in-Values.fixed) ∷ [] in
    let count = sym (length-map c.in-Values.items.now (value_content a)) in
    subst (λ (z : Node). Leads g (node_segments z ++ old) now o n) (sym (shown a c.args.graph.now.root c.args.node.0 _ (subst (λ w. Shows c.args.graph.now.arena (stored_at c.args.graph.now.arena c.args.node.0) w) c.in-Values.is c.requires.shown)))
    (leads_to g (head ++ step x ∷ (values_then vs [] ++ old)) (values_then vs [] ++ old) now o n (sym (segments_pushed a c.args.waiting.now.items c.push-in-Values.new.self.items (Values c.in-Values.items) c.in_ok-push-in-Values.ensures.items))
    (leads_then g (head ++ step x ∷ (values_then vs [] ++ old)) (step x ∷ (values_then vs [] ++ old)) (values_then vs [] ++ old) o m n
    (leads_steps g head (step x ∷ (values_then vs [] ++ old)) o m (subst (λ k. WritesSteps (step (number (2 * k + 1)) ∷ step (flag c.in-Values.fixed) ∷ []) o m) count c.in_ok-vector-in-Values.ensures.ok))
    (leads_step g x (values_then vs [] ++ old) m n c.in_ok-text_of-in-Values.ensures.ok)))

pub returns-in_ok-push-in-Values-clause-turns : goal.returns-in_ok-push-in-Values-clause-turns
returns-in_ok-push-in-Values-clause-turns c =
    let w = subst (λ (n : StoredNode). NodeWithin n) (subst (λ w. Shows c.args.graph.now.arena (stored_at c.args.graph.now.arena c.args.node.0) w) c.in-Values.is c.requires.shown) (node_within c.args.graph.now.arena c.args.node.0 c.is_finished.ensures.bounds c.requires.there) in
    omega (arith, w.together, turns_pushed c.args.waiting.now.items c.push-in-Values.new.self.items (Values c.in-Values.items) c.in_ok-push-in-Values.ensures.items)

pub vector-requires-in-Dictionary : goal.vector-requires-in-Dictionary
vector-requires-in-Dictionary c =
    let w = subst (λ (n : StoredNode). NodeWithin n) (subst (λ w. Shows c.args.graph.now.arena (stored_at c.args.graph.now.arena c.args.node.0) w) c.in-Dictionary.is c.requires.shown) (node_within c.args.graph.now.arena c.args.node.0 c.is_finished.ensures.bounds c.requires.there) in
    omega (arith, w.together, flat_length c.in-Dictionary.entries.now)

pub returns-in_ok-push-in-Dictionary-clause-leads : goal.returns-in_ok-push-in-Dictionary-clause-leads
returns-in_ok-push-in-Dictionary-clause-leads c =
    let g = content c.args.graph.now in
    let a = c.args.graph.now.arena in
    let old = segments_left a c.args.waiting.now.items in
    let now = segments_left a c.push-in-Dictionary.new.self.items in
    let o = c.args.self.now in
    let m = c.vector-in-Dictionary.new.self in
    let es = c.in-Dictionary.entries.now in
    let vs = values_of a (flat es) in
    let head = step (number (length vs + 1)) ∷ step (flag c.in-Dictionary.weak) ∷ [] in
    let count : 2 * length es + 1 ≡ length vs + 1 = ap (λ k. k + 1) (sym (length-map (flat es) (value_content a) ∙ flat_length es)) in
    subst (λ (z : Node). Leads g (node_segments z ++ old) now o m) (sym (shown a c.args.graph.now.root c.args.node.0 _ (subst (λ w. Shows c.args.graph.now.arena (stored_at c.args.graph.now.arena c.args.node.0) w) c.in-Dictionary.is c.requires.shown)))
    (leads_to g (head ++ (values_then vs [] ++ old)) (values_then vs [] ++ old) now o m (sym (segments_pushed a c.args.waiting.now.items c.push-in-Dictionary.new.self.items (Entries c.in-Dictionary.entries) c.in_ok-push-in-Dictionary.ensures.items))
    (leads_steps g head (values_then vs [] ++ old) o m (subst (λ k. WritesSteps (step (number k) ∷ step (flag c.in-Dictionary.weak) ∷ []) o m) count c.in_ok-vector-in-Dictionary.ensures.ok)))

pub returns-in_ok-push-in-Dictionary-clause-turns : goal.returns-in_ok-push-in-Dictionary-clause-turns
returns-in_ok-push-in-Dictionary-clause-turns c =
    let w = subst (λ (n : StoredNode). NodeWithin n) (subst (λ w. Shows c.args.graph.now.arena (stored_at c.args.graph.now.arena c.args.node.0) w) c.in-Dictionary.is c.requires.shown) (node_within c.args.graph.now.arena c.args.node.0 c.is_finished.ensures.bounds c.requires.there) in
    omega (arith, w.together, flat_length c.in-Dictionary.entries.now, turns_pushed c.args.waiting.now.items c.push-in-Dictionary.new.self.items (Entries c.in-Dictionary.entries) c.in_ok-push-in-Dictionary.ensures.items)

pub returns-in_ok-push-in-Wrapper-clause-ready : goal.returns-in_ok-push-in-Wrapper-clause-ready
returns-in_ok-push-in-Wrapper-clause-ready c = c.wrapper.ensures.ready c.args.graph.now.arena c.requires.ready

pub returns-in-Array-clause-leads : goal.returns-in-Array-clause-leads
returns-in-Array-clause-leads c =
    let g = content c.args.graph.now in
    let a = c.args.graph.now.arena in
    let old = segments_left a c.args.waiting.now.items in
    let now = segments_left a c.array.new.waiting.items in
    let s = subst (λ w. Shows c.args.graph.now.arena (stored_at c.args.graph.now.arena c.args.node.0) w) c.in-Array.is c.requires.shown in
    on_ok_weaker c.array.result (λ h. subst (λ (x : Node). Leads g (node_segments x ++ old) now c.args.self.now c.array.new.self) (sym (shown a c.args.graph.now.root c.args.node.0 _ s)) h) c.array.ensures.leads

pub returns-in-Object-clause-leads : goal.returns-in-Object-clause-leads
returns-in-Object-clause-leads c =
    let g = content c.args.graph.now in
    let a = c.args.graph.now.arena in
    let old = segments_left a c.args.waiting.now.items in
    let now = segments_left a c.object.new.waiting.items in
    let s = subst (λ w. Shows c.args.graph.now.arena (stored_at c.args.graph.now.arena c.args.node.0) w) c.in-Object.is c.requires.shown in
    on_ok_weaker c.object.result (λ h. subst (λ (x : Node). Leads g (node_segments x ++ old) now c.args.self.now c.object.new.self) (sym (shown a c.args.graph.now.root c.args.node.0 _ s)) h) c.object.ensures.leads
