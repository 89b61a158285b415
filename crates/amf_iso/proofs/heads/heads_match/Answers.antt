-- Heads of one kind, by content.
use Rattle.std.proofs.Common.{◌≡◌, true, false, map, sym, ap, ◌∙◌}
use Rattle.amf_graph.specs.Graph as graph
use Rattle.amf_graph.specs.Arena.{text_at}
use Rattle.amf_iso.proofs.Held.{view_is}
use Rattle.amf_iso.proofs.HeadFacts.{head_shown, same_head, same_bool, text_decides, ints_decide, patterns_decide}
use Rattle.amf_graph.specs.declared.views.NodeView.TheVariants as view
use Rattle.amf_iso.proofs.SeenKinds.{same_kind}
use Rattle.amf_iso.proofs.heads.heads_match.Goals as goal

pub returns-in-XmlDocument-XmlDocument-clause-same : goal.returns-in-XmlDocument-XmlDocument-clause-same
returns-in-XmlDocument-XmlDocument-clause-same c =
    let a = c.args.graphs.now.left.now.arena in
    let b = c.args.graphs.now.right.now.arena in
    let root = c.args.graphs.now.left.now.root in
    let stem = c.args.graphs.now.right.now.root in
    let i = c.args.i.0 in
    let j = c.args.j.0 in
    let w = view_is a i _ _ c.in-XmlDocument-XmlDocument.is-0 c.requires.left_view in
    let v = view_is b j _ _ c.in-XmlDocument-XmlDocument.is-1 c.requires.right_view in
    same_head (λ x. graph.xml_document x) (λ x y e. cc) c.eq.result c.in-XmlDocument-XmlDocument.x.now c.in-XmlDocument-XmlDocument.y.now _ _ (head_shown a root i _ w.1 ∙ ap (λ x. graph.xml_document x) (sym w.2)) (head_shown b stem j _ v.1 ∙ ap (λ x. graph.xml_document x) (sym v.2)) (text_decides c.eq.result c.in-XmlDocument-XmlDocument.x.now c.in-XmlDocument-XmlDocument.y.now c.eq.ensures)

pub returns-in-Xml-Xml-clause-same : goal.returns-in-Xml-Xml-clause-same
returns-in-Xml-Xml-clause-same c =
    let a = c.args.graphs.now.left.now.arena in
    let b = c.args.graphs.now.right.now.arena in
    let root = c.args.graphs.now.left.now.root in
    let stem = c.args.graphs.now.right.now.root in
    let i = c.args.i.0 in
    let j = c.args.j.0 in
    let w = view_is a i _ _ c.in-Xml-Xml.is-0 c.requires.left_view in
    let v = view_is b j _ _ c.in-Xml-Xml.is-1 c.requires.right_view in
    same_head (λ x. graph.xml x) (λ x y e. cc) c.eq-in-Xml-Xml.result c.in-Xml-Xml.x.now c.in-Xml-Xml.y.now _ _ (head_shown a root i _ w.1 ∙ ap (λ x. graph.xml x) (sym w.2)) (head_shown b stem j _ v.1 ∙ ap (λ x. graph.xml x) (sym v.2)) (text_decides c.eq-in-Xml-Xml.result c.in-Xml-Xml.x.now c.in-Xml-Xml.y.now c.eq-in-Xml-Xml.ensures)

pub returns-in-Bytes-Bytes-clause-same : goal.returns-in-Bytes-Bytes-clause-same
returns-in-Bytes-Bytes-clause-same c =
    let a = c.args.graphs.now.left.now.arena in
    let b = c.args.graphs.now.right.now.arena in
    let root = c.args.graphs.now.left.now.root in
    let stem = c.args.graphs.now.right.now.root in
    let i = c.args.i.0 in
    let j = c.args.j.0 in
    same_head (λ x. graph.bytes x) (λ x y e. cc) c.eq-in-Bytes-Bytes.result c.in-Bytes-Bytes.x.now c.in-Bytes-Bytes.y.now _ _ (head_shown a root i _ (view_is a i _ _ c.in-Bytes-Bytes.is-0 c.requires.left_view)) (head_shown b stem j _ (view_is b j _ _ c.in-Bytes-Bytes.is-1 c.requires.right_view)) (text_decides c.eq-in-Bytes-Bytes.result c.in-Bytes-Bytes.x.now c.in-Bytes-Bytes.y.now c.eq-in-Bytes-Bytes.ensures)

pub returns-then-x-y-clause-same : goal.returns-then-x-y-clause-same
returns-then-x-y-clause-same c =
    let a = c.args.graphs.now.left.now.arena in
    let b = c.args.graphs.now.right.now.arena in
    let root = c.args.graphs.now.left.now.root in
    let stem = c.args.graphs.now.right.now.root in
    let i = c.args.i.0 in
    let j = c.args.j.0 in
    let flag = same_bool c.in-Ints-Ints.x c.in-Ints-Ints.y c.if-x-y.true in
    same_head (λ x. graph.ints c.in-Ints-Ints.y x) (λ x y e. cc) c.eq-then-x-y.result c.in-Ints-Ints.ns.now c.in-Ints-Ints.ms.now _ _ (head_shown a root i _ (view_is a i _ _ c.in-Ints-Ints.is-0 c.requires.left_view) ∙ ap (λ f. graph.ints f c.in-Ints-Ints.ns.now) flag) (head_shown b stem j _ (view_is b j _ _ c.in-Ints-Ints.is-1 c.requires.right_view)) (ints_decide c.eq-then-x-y.result c.in-Ints-Ints.ns.now c.in-Ints-Ints.ms.now c.eq-then-x-y.ensures)

pub returns-then-x-y-2-clause-same : goal.returns-then-x-y-2-clause-same
returns-then-x-y-2-clause-same c =
    let a = c.args.graphs.now.left.now.arena in
    let b = c.args.graphs.now.right.now.arena in
    let root = c.args.graphs.now.left.now.root in
    let stem = c.args.graphs.now.right.now.root in
    let i = c.args.i.0 in
    let j = c.args.j.0 in
    let flag = same_bool c.in-Uints-Uints.x c.in-Uints-Uints.y c.if-x-y-2.true in
    same_head (λ x. graph.uints c.in-Uints-Uints.y x) (λ x y e. cc) c.eq-then-x-y-2.result c.in-Uints-Uints.ns.now c.in-Uints-Uints.ms.now _ _ (head_shown a root i _ (view_is a i _ _ c.in-Uints-Uints.is-0 c.requires.left_view) ∙ ap (λ f. graph.uints f c.in-Uints-Uints.ns.now) flag) (head_shown b stem j _ (view_is b j _ _ c.in-Uints-Uints.is-1 c.requires.right_view)) (text_decides c.eq-then-x-y-2.result c.in-Uints-Uints.ns.now c.in-Uints-Uints.ms.now c.eq-then-x-y-2.ensures)

pub returns-then-x-y-3-clause-same : goal.returns-then-x-y-3-clause-same
returns-then-x-y-3-clause-same c =
    let a = c.args.graphs.now.left.now.arena in
    let b = c.args.graphs.now.right.now.arena in
    let root = c.args.graphs.now.left.now.root in
    let stem = c.args.graphs.now.right.now.root in
    let i = c.args.i.0 in
    let j = c.args.j.0 in
    let flag = same_bool c.in-Doubles-Doubles.x c.in-Doubles-Doubles.y c.if-x-y-3.true in
    same_head (λ x. graph.doubles c.in-Doubles-Doubles.y x) (λ x y e. cc) c.eq-then-x-y-3.result (map (λ p. p.0) c.in-Doubles-Doubles.ns.now) (map (λ p. p.0) c.in-Doubles-Doubles.ms.now) _ _ (head_shown a root i _ (view_is a i _ _ c.in-Doubles-Doubles.is-0 c.requires.left_view) ∙ ap (λ f. graph.doubles f (map (λ p. p.0) c.in-Doubles-Doubles.ns.now)) flag) (head_shown b stem j _ (view_is b j _ _ c.in-Doubles-Doubles.is-1 c.requires.right_view)) (patterns_decide c.eq-then-x-y-3.result c.in-Doubles-Doubles.ns.now c.in-Doubles-Doubles.ms.now c.eq-then-x-y-3.ensures)

pub returns-then-x-y-4-clause-same : goal.returns-then-x-y-4-clause-same
returns-then-x-y-4-clause-same c =
    let a = c.args.graphs.now.left.now.arena in
    let b = c.args.graphs.now.right.now.arena in
    let root = c.args.graphs.now.left.now.root in
    let stem = c.args.graphs.now.right.now.root in
    let i = c.args.i.0 in
    let j = c.args.j.0 in
    let flag = same_bool c.in-Values-Values.x c.in-Values-Values.y c.if-x-y-4.true in
    let x = text_at a c.in-Values-Values.t.0 in
    let y = text_at b c.in-Values-Values.u.0 in
    same_head (λ z. graph.values c.in-Values-Values.y z) (λ x y e. cc) c.are_equal.result x y _ _ (head_shown a root i _ (view_is a i _ _ c.in-Values-Values.is-0 c.requires.left_view) ∙ ap (λ f. graph.values f x) flag) (head_shown b stem j _ (view_is b j _ _ c.in-Values-Values.is-1 c.requires.right_view)) c.are_equal.ensures.equal

pub returns-in_default : goal.returns-in_default
returns-in_default c =
    let l = c.args.graphs.now.left.now in
    let r = c.args.graphs.now.right.now in
    record {
      known = c.requires.known;
      same = (λ t. absurd (let no : false ≡ true = t in cc), λ h. let t = same_kind l.arena r.arena l.root r.root c.args.i.0 c.args.j.0 (view.XmlDocument c.in_default.field-0-0) c.args.right (view_is l.arena c.args.i.0 _ _ c.in_default.is-0 c.requires.left_view) c.requires.right_view h in absurd (c.in_default.not-XmlDocument-1 t.0 t.1));
    }

pub returns-in_default-2 : goal.returns-in_default-2
returns-in_default-2 c =
    let l = c.args.graphs.now.left.now in
    let r = c.args.graphs.now.right.now in
    record {
      known = c.requires.known;
      same = (λ t. absurd (let no : false ≡ true = t in cc), λ h. let t = same_kind l.arena r.arena l.root r.root c.args.i.0 c.args.j.0 (view.Xml c.in_default.field-0-0) c.args.right (view_is l.arena c.args.i.0 _ _ c.in_default.is-0 c.requires.left_view) c.requires.right_view h in absurd (c.in_default.not-Xml-1 t.0 t.1));
    }

pub returns-in_default-3 : goal.returns-in_default-3
returns-in_default-3 c =
    let l = c.args.graphs.now.left.now in
    let r = c.args.graphs.now.right.now in
    record {
      known = c.requires.known;
      same = (λ t. absurd (let no : false ≡ true = t in cc), λ h. let t = same_kind l.arena r.arena l.root r.root c.args.i.0 c.args.j.0 (view.Date c.in_default.field-0-0) c.args.right (view_is l.arena c.args.i.0 _ _ c.in_default.is-0 c.requires.left_view) c.requires.right_view h in absurd (c.in_default.not-Date-1 t.0 t.1));
    }

pub returns-in_default-4 : goal.returns-in_default-4
returns-in_default-4 c =
    let l = c.args.graphs.now.left.now in
    let r = c.args.graphs.now.right.now in
    record {
      known = c.requires.known;
      same = (λ t. absurd (let no : false ≡ true = t in cc), λ h. let t = same_kind l.arena r.arena l.root r.root c.args.i.0 c.args.j.0 (view.Bytes c.in_default.field-0-0) c.args.right (view_is l.arena c.args.i.0 _ _ c.in_default.is-0 c.requires.left_view) c.requires.right_view h in absurd (c.in_default.not-Bytes-1 t.0 t.1));
    }

pub returns-in_default-5 : goal.returns-in_default-5
returns-in_default-5 c =
    let l = c.args.graphs.now.left.now in
    let r = c.args.graphs.now.right.now in
    record {
      known = c.requires.known;
      same = (λ t. absurd (let no : false ≡ true = t in cc), λ h. let t = same_kind l.arena r.arena l.root r.root c.args.i.0 c.args.j.0 (view.Ints c.in_default.field-0-0 c.in_default.field-1-0) c.args.right (view_is l.arena c.args.i.0 _ _ c.in_default.is-0 c.requires.left_view) c.requires.right_view h in absurd (c.in_default.not-Ints-1 t.0 t.1 t.2));
    }

pub returns-in_default-6 : goal.returns-in_default-6
returns-in_default-6 c =
    let l = c.args.graphs.now.left.now in
    let r = c.args.graphs.now.right.now in
    record {
      known = c.requires.known;
      same = (λ t. absurd (let no : false ≡ true = t in cc), λ h. let t = same_kind l.arena r.arena l.root r.root c.args.i.0 c.args.j.0 (view.Uints c.in_default.field-0-0 c.in_default.field-1-0) c.args.right (view_is l.arena c.args.i.0 _ _ c.in_default.is-0 c.requires.left_view) c.requires.right_view h in absurd (c.in_default.not-Uints-1 t.0 t.1 t.2));
    }

pub returns-in_default-7 : goal.returns-in_default-7
returns-in_default-7 c =
    let l = c.args.graphs.now.left.now in
    let r = c.args.graphs.now.right.now in
    record {
      known = c.requires.known;
      same = (λ t. absurd (let no : false ≡ true = t in cc), λ h. let t = same_kind l.arena r.arena l.root r.root c.args.i.0 c.args.j.0 (view.Doubles c.in_default.field-0-0 c.in_default.field-1-0) c.args.right (view_is l.arena c.args.i.0 _ _ c.in_default.is-0 c.requires.left_view) c.requires.right_view h in absurd (c.in_default.not-Doubles-1 t.0 t.1 t.2));
    }

pub returns-in_default-8 : goal.returns-in_default-8
returns-in_default-8 c =
    let l = c.args.graphs.now.left.now in
    let r = c.args.graphs.now.right.now in
    record {
      known = c.requires.known;
      same = (λ t. absurd (let no : false ≡ true = t in cc), λ h. let t = same_kind l.arena r.arena l.root r.root c.args.i.0 c.args.j.0 (view.Array c.in_default.field-0-0 c.in_default.field-1-0) c.args.right (view_is l.arena c.args.i.0 _ _ c.in_default.is-0 c.requires.left_view) c.requires.right_view h in absurd (c.in_default.not-Array-1 t.0 t.1 t.2));
    }

pub returns-in_default-9 : goal.returns-in_default-9
returns-in_default-9 c =
    let l = c.args.graphs.now.left.now in
    let r = c.args.graphs.now.right.now in
    record {
      known = c.requires.known;
      same = (λ t. absurd (let no : false ≡ true = t in cc), λ h. let t = same_kind l.arena r.arena l.root r.root c.args.i.0 c.args.j.0 (view.Object c.in_default.field-0-0 c.in_default.field-1-0 c.in_default.field-2-0) c.args.right (view_is l.arena c.args.i.0 _ _ c.in_default.is-0 c.requires.left_view) c.requires.right_view h in absurd (c.in_default.not-Object-1 t.0 t.1 t.2 t.3));
    }

pub returns-in_default-10 : goal.returns-in_default-10
returns-in_default-10 c =
    let l = c.args.graphs.now.left.now in
    let r = c.args.graphs.now.right.now in
    record {
      known = c.requires.known;
      same = (λ t. absurd (let no : false ≡ true = t in cc), λ h. let t = same_kind l.arena r.arena l.root r.root c.args.i.0 c.args.j.0 (view.Wrapper c.in_default.field-0-0 c.in_default.field-1-0) c.args.right (view_is l.arena c.args.i.0 _ _ c.in_default.is-0 c.requires.left_view) c.requires.right_view h in absurd (c.in_default.not-Wrapper-1 t.0 t.1 t.2));
    }

pub returns-in_default-11 : goal.returns-in_default-11
returns-in_default-11 c =
    let l = c.args.graphs.now.left.now in
    let r = c.args.graphs.now.right.now in
    record {
      known = c.requires.known;
      same = (λ t. absurd (let no : false ≡ true = t in cc), λ h. let t = same_kind l.arena r.arena l.root r.root c.args.i.0 c.args.j.0 (view.Values c.in_default.field-0-0 c.in_default.field-1-0 c.in_default.field-2-0) c.args.right (view_is l.arena c.args.i.0 _ _ c.in_default.is-0 c.requires.left_view) c.requires.right_view h in absurd (c.in_default.not-Values-1 t.0 t.1 t.2 t.3));
    }

pub returns-in_default-12 : goal.returns-in_default-12
returns-in_default-12 c =
    let l = c.args.graphs.now.left.now in
    let r = c.args.graphs.now.right.now in
    record {
      known = c.requires.known;
      same = (λ t. absurd (let no : false ≡ true = t in cc), λ h. let t = same_kind l.arena r.arena l.root r.root c.args.i.0 c.args.j.0 (view.Dictionary c.in_default.field-0-0 c.in_default.field-1-0) c.args.right (view_is l.arena c.args.i.0 _ _ c.in_default.is-0 c.requires.left_view) c.requires.right_view h in absurd (c.in_default.not-Dictionary-1 t.0 t.1 t.2));
    }
